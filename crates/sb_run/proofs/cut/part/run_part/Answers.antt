use Rattle.std.proofs.Common.{◌∷◌, not, ◌&&◌, sym, ap, subst, ◌∙◌}
use Rattle.std.specs.Io.KnownBytes.{IsAtEnd}
use Rattle.sb_run.specs.CutEnds.{IsCutEnd}
use Rattle.sb_run.proofs.CutCauses.{done_is_whole, whole_at_end, whole_has_ended}
use Rattle.sb_run.proofs.OpenEnds.{second_same}
use Rattle.sb_run.proofs.PartEnds.{end_of_part_at, none_mapped, part_ends_at, part_output}
use Rattle.sb_run.proofs.cut.part.run_part.Goals as goal

pub of-requires : goal.of-requires
of-requires g c =
    end_of_part_at _ _ _ _ _ _ _ _ _ _ _ _ (none_mapped _ _ c.new-taps.ensures.items) c.run-end.result c.run-end.ensures.end c.run-end.ensures.ends

pub returns-clause-ends : goal.returns-clause-ends
returns-clause-ends g c =
    let S = g.S.Source in
    let p = c.run-end.new.input in
    let s = c.into_source-source.result in
    let same = c.into_source-source.ensures.source in
    let at = c.into_source-source.ensures.at in
    let names = c.run-end.ensures.name ∙ (λ i. S.faults ((c.new-part.ensures i).begun.now) ∷ (c.new-part.ensures i).source.ghost_name ∷ S.name ((c.new-part.ensures i).source.now)) in
    let named = second_same _ _ _ _ _ _ names in
    let back = c.input-1.given.1 (sym (ap (λ x. x.ghost_name) same ∙ named)) in
    let whole = p.ended && not p.has_failed in
    let of = subst (λ w. IsCutEnd w c.run-end.result c.of.result) c.is_whole-is_whole.ensures c.of.ensures in
    part_ends_at _ _ (S.left c.args.input.now) (S.left c.input-1.given.0) _ _ _ _ _ _ _ _ (S.left c.new-part.result.source.now) (S.left p.source.now)
    (λ i. S.left ((c.new-part.ensures i).source.now)) (ap (λ x. S.left x.now) (sym same) ∙ ap S.left (sym back)) whole
    (λ w. subst (λ x. IsAtEnd (S.left x)) (sym back) (whole_at_end (S.left s.now) (S.faults p.begun.now) (S.faults s.now) p.ended p.has_failed at.cut w)) c.run-end.result c.of.result of c.run-end.ensures.ends

pub returns-clause-output : goal.returns-clause-output
returns-clause-output g c = part_output _ _ c.is_whole-is_whole.result c.run-end.result c.of.result c.of.ensures c.run-end.ensures.output

pub returns-clause-end : goal.returns-clause-end
returns-clause-end g c = λ done.
    let S = g.S.Source in
    let p = c.run-end.new.input in
    let same = c.into_source-source.ensures.source in
    let names = c.run-end.ensures.name ∙ (λ i. S.faults ((c.new-part.ensures i).begun.now) ∷ (c.new-part.ensures i).source.ghost_name ∷ S.name ((c.new-part.ensures i).source.now)) in
    let back = c.input-1.given.1 (sym (ap (λ x. x.ghost_name) same ∙ second_same _ _ _ _ _ _ names)) in
    let of = subst (λ w. IsCutEnd w c.run-end.result c.of.result) c.is_whole-is_whole.ensures c.of.ensures in
    let whole = done_is_whole (p.ended && not p.has_failed) c.run-end.result c.of.result of done in
    subst (λ x. S.has_ended x) (sym back) (c.into_source-source.ensures.end (whole_has_ended p.ended p.has_failed whole))
