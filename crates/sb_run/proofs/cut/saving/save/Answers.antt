use Rattle.std.proofs.Common.{◌∷◌, not, ◌&&◌, sym, ap, subst, ◌∙◌}
use Rattle.sb_run.specs.FirstParts.{open_end}
use Rattle.sb_run.specs.Saves.{Gathers, GathersNone, Saves, SavesNone, cut_stop}
use Rattle.sb_run.proofs.CutCauses.{end_is_whole, whole_has_ended}
use Rattle.sb_run.proofs.OpenEnds.{second_same}
use Rattle.sb_run.proofs.SavedParts.{saved, saved_none}
use Rattle.sb_run.proofs.cut.saving.save.Goals as goal

pub returns-in-Ok-clause-saves : goal.returns-in-Ok-clause-saves
returns-in-Ok-clause-saves g c =
    let S = g.S.Source in
    let plan = c.args.plan.now in
    let p = c.gather-gathered.new.source in
    let s = c.into_source-source.result in
    let same = c.into_source-source.ensures.source in
    let names = c.in-Ok.ensures.name ∙ (λ i. S.faults ((c.new-part.ensures i).begun.now) ∷ (c.new-part.ensures i).source.ghost_name ∷ S.name ((c.new-part.ensures i).source.now)) in
    let named = second_same _ _ _ _ _ _ names in
    let back = c.input-1.given.1 (sym (ap (λ x. x.ghost_name) same ∙ named)) in
    let dropped = c.args.dropped.now.items in
    let dropped' = c.gather-gathered.new.dropped.items in
    let kept = c.in-Ok.field-0.keeper in
    let stop = c.in-Ok.field-0.stop in
    let gathered = subst (λ l. Gathers plan (open_end l) (open_end (S.left s.now)) kept stop dropped dropped') (λ i. S.left ((c.new-part.ensures i).source.now))
    (subst (λ l. Gathers plan (open_end (S.left c.new-part.result.source.now)) (open_end l) kept stop dropped dropped') (ap (λ x. S.left x.now) (sym same)) c.in-Ok.ensures.gathers) in
    let is = saved plan (S.left c.args.input.now) (S.left s.now) (S.faults p.begun.now) (S.faults s.now) p.again p.ended p.has_failed c.into_source-source.ensures.at dropped dropped'
    kept stop c.into_checkpoint.result gathered c.in-Ok.ensures.end (λ pl items is. c.into_checkpoint.ensures pl items is) in
    let stop_is = c.stop_by.ensures ∙ ap (λ w. cut_stop w stop) c.is_whole-is_whole.ensures in
    subst (λ l. Saves plan (S.left c.args.input.now) l c.into_checkpoint.result c.stop_by.result dropped dropped') (ap S.left (sym back))
    (subst (λ x. Saves plan (S.left c.args.input.now) (S.left s.now) c.into_checkpoint.result x dropped dropped') (sym stop_is) is)

pub returns-in-Ok-clause-end : goal.returns-in-Ok-clause-end
returns-in-Ok-clause-end g c = λ done.
    let S = g.S.Source in
    let p = c.gather-gathered.new.source in
    let same = c.into_source-source.ensures.source in
    let names = c.in-Ok.ensures.name ∙ (λ i. S.faults ((c.new-part.ensures i).begun.now) ∷ (c.new-part.ensures i).source.ghost_name ∷ S.name ((c.new-part.ensures i).source.now)) in
    let back = c.input-1.given.1 (sym (ap (λ x. x.ghost_name) same ∙ second_same _ _ _ _ _ _ names)) in
    let stop_is = c.stop_by.ensures ∙ ap (λ w. cut_stop w c.in-Ok.field-0.stop) c.is_whole-is_whole.ensures in
    let whole = end_is_whole (p.ended && not p.has_failed) c.in-Ok.field-0.stop c.in-Ok.ensures.end (sym stop_is ∙ done) in
    subst (λ x. S.has_ended x) (sym back) (c.into_source-source.ensures.end (whole_has_ended p.ended p.has_failed whole))

pub returns-in-Err-clause-none : goal.returns-in-Err-clause-none
returns-in-Err-clause-none g c =
    let S = g.S.Source in
    let plan = c.args.plan.now in
    let p = c.gather-gathered.new.source in
    let s = c.into_source-source.result in
    let same = c.into_source-source.ensures.source in
    let names = c.in-Err.ensures.name ∙ (λ i. S.faults ((c.new-part.ensures i).begun.now) ∷ (c.new-part.ensures i).source.ghost_name ∷ S.name ((c.new-part.ensures i).source.now)) in
    let named = second_same _ _ _ _ _ _ names in
    let back = c.input-1.given.1 (sym (ap (λ x. x.ghost_name) same ∙ named)) in
    let dropped = c.args.dropped.now.items in
    let dropped' = c.gather-gathered.new.dropped.items in
    let gathered = subst (λ l. GathersNone plan (open_end l) (open_end (S.left s.now)) dropped dropped') (λ i. S.left ((c.new-part.ensures i).source.now))
    (subst (λ l. GathersNone plan (open_end (S.left c.new-part.result.source.now)) (open_end l) dropped dropped') (ap (λ x. S.left x.now) (sym same)) c.in-Err.ensures.none) in
    let is = saved_none plan (S.left c.args.input.now) (S.left s.now) (S.faults p.begun.now) (S.faults s.now) p.again p.ended p.has_failed c.into_source-source.ensures.at dropped dropped' gathered in
    subst (λ l. SavesNone plan (S.left c.args.input.now) l dropped dropped') (ap S.left (sym back)) is
