use Rattle.std.proofs.Common.{◌∷◌, sym, ap, subst, ◌∙◌}
use Rattle.std.specs.Io.KnownBytes.{prepend_known}
use Rattle.sb_checkpoint.specs.Ahead.{AllReadOrNoneOfTheSource, name_behind}
use Rattle.sb_checkpoint.proofs.LinesAhead.{name_behind_same}
use Rattle.sb_checkpoint.specs.LaterRows.{Hands, HandsFromFirst}
use Rattle.sb_checkpoint.proofs.Handing.{hands_sorted}
use Rattle.sb_engines.specs.alone.RunEnds.{SharedInputCause}
use Rattle.sb_run.proofs.Through.{sorted_ends_through}
use Rattle.sb_run.proofs.OpenEnds.{head_same, tail_same}
use Rattle.sb_run.proofs.PartEnds.{none_mapped, without_taps_at}
use Rattle.sb_run.proofs.cut.rest.run_rest.Goals as goal

pub returns-clause-ends : goal.returns-clause-ends
returns-clause-ends g c =
    let S = g.S.Source in
    let R = g.R.RowOut in
    let p = c.run-end.new.input in
    let same = c.into_source-source.ensures.source in
    let names = c.run-end.ensures.name ∙ (λ i. name_behind (S.left ((c.new-resumed.ensures i).begun.now)) ((c.new-resumed.ensures i).source.ghost_name ∷ S.name ((c.new-resumed.ensures i).source.now))) in
    let (begun, named) = name_behind_same _ _ _ _ names in
    let back = c.input-1.given.1 (sym (ap (λ x. x.ghost_name) same ∙ head_same _ _ _ _ named)) in (
      p.lines,
      subst (λ l. AllReadOrNoneOfTheSource p.lines l (S.left c.input-1.given.0)) begun (subst (λ x. AllReadOrNoneOfTheSource p.lines (S.left p.begun.now) (S.left x)) (sym back) c.into_source-source.ensures.read),
      without_taps_at _ _ _ (prepend_known p.lines (S.left c.input-1.given.0)) _ _ _ _ _ _ _ _ _ (prepend_known p.lines (S.left p.source.now)) (none_mapped _ _ c.new-taps.ensures.items)
          (λ i. prepend_known ((c.new-resumed.ensures i).lines) (S.left ((c.new-resumed.ensures i).source.now)))
          (ap (λ x. prepend_known p.lines (S.left x.now)) (sym same) ∙ ap (λ x. prepend_known p.lines (S.left x)) (sym back)) c.run-end.result
          (sorted_ends_through (HandsFromFirst R.after) (HandsFromFirst R.part) (Hands R.after) (Hands R.part) c.args.out.now c.run-end.new.out c.args.out.now c.run-end.new.out
          (λ l first h. hands_sorted R.after _ _ first.0 l first.1 first.2 h) (λ l first h. hands_sorted R.part _ _ first.0 l first.1 first.2 h) _ _ _ _ _ _ _ _ c.run-end.result c.run-end.ensures.ends),
    )

pub returns-clause-input : goal.returns-clause-input
returns-clause-input g c =
    let S = g.S.Source in
    let p = c.run-end.new.input in
    let same = c.into_source-source.ensures.source in
    let names = c.run-end.ensures.name ∙ (λ i. name_behind (S.left ((c.new-resumed.ensures i).begun.now)) ((c.new-resumed.ensures i).source.ghost_name ∷ S.name ((c.new-resumed.ensures i).source.now))) in
    let (begun, named) = name_behind_same _ _ _ _ names in
    let back = c.input-1.given.1 (sym (ap (λ x. x.ghost_name) same ∙ head_same _ _ _ _ named)) in
    subst (λ n. SharedInputCause n (S.faults c.input-1.given.0) c.run-end.result) (λ i. S.faults ((c.new-resumed.ensures i).source.now))
    (subst (λ n. SharedInputCause (S.faults c.new-resumed.result.source.now) n c.run-end.result) (ap (λ x. S.faults x.now) (sym same) ∙ ap (λ x. S.faults x) (sym back)) c.run-end.ensures.input)

pub returns-clause-name : goal.returns-clause-name
returns-clause-name g c =
    let S = g.S.Source in
    let same = c.into_source-source.ensures.source in
    let names = c.run-end.ensures.name ∙ (λ i. name_behind (S.left ((c.new-resumed.ensures i).begun.now)) ((c.new-resumed.ensures i).source.ghost_name ∷ S.name ((c.new-resumed.ensures i).source.now))) in
    let (begun, named) = name_behind_same _ _ _ _ names in
    let back = c.input-1.given.1 (sym (ap (λ x. x.ghost_name) same ∙ head_same _ _ _ _ named)) in
    ap (λ x. S.name x) back ∙ ap (λ x. S.name x.now) same ∙ tail_same _ _ _ _ named

pub returns-clause-end : goal.returns-clause-end
returns-clause-end g c = λ done.
    let S = g.S.Source in
    let same = c.into_source-source.ensures.source in
    let names = c.run-end.ensures.name ∙ (λ i. name_behind (S.left ((c.new-resumed.ensures i).begun.now)) ((c.new-resumed.ensures i).source.ghost_name ∷ S.name ((c.new-resumed.ensures i).source.now))) in
    let (begun, named) = name_behind_same _ _ _ _ names in
    let back = c.input-1.given.1 (sym (ap (λ x. x.ghost_name) same ∙ head_same _ _ _ _ named)) in
    subst (λ x. S.has_ended x) (sym back) (subst (λ x. S.has_ended x.now) (sym same) (c.run-end.ensures.end done))
