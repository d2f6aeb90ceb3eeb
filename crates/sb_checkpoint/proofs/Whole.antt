-- A run that is cut and goes on, over lines.
use Rattle.std.proofs.Common.{◌≡◌, ℕ, List, ◌++◌, sym, ap, subst, ◌∙◌}
use Rattle.sb_pipeline.specs.records.declared.item.Item.{Item}
use Rattle.sb_pipeline.specs.Shapes.{streams_of}
use Rattle.sb_checkpoint.specs.Checkpoints.{resumed_items}
use Rattle.sb_checkpoint.specs.Laws.{accepted_in, accepted_behind, resumed_lines, Resumes, CutRunsGiveTheWhole}
use Rattle.sb_checkpoint.proofs.Runs.{runs-resume, accepted-parts}
use Rattle.sb_checkpoint.proofs.ReadAgain.{resumed-accepted}

pub cut-runs : CutRunsGiveTheWhole
cut-runs plan free first rest none =
    subst (λ w. Resumes plan items w (accepted_in plan (again ++ rest))) (sym (accepted-parts (streams_of plan) plan.late plan.keys first rest none))
    (subst (λ r. Resumes plan items (accepted_behind plan items rest) r) (sym resumed) (runs-resume plan free items rest))
  where
    items : List Item
    items = (accepted_in plan first).items

    again : List (List ℕ)
    again = resumed_lines plan first

    resumed : accepted_in plan (again ++ rest) ≡ accepted_behind plan (resumed_items plan items) rest
    resumed =
        accepted-parts (streams_of plan) plan.late plan.keys again rest (ap (λ a. a.refused) (resumed-accepted plan first))
        ∙ ap (λ a. accepted_behind plan a.items rest) (resumed-accepted plan first)
