use Rattle.std.proofs.Common.{ℕ, ◌++◌, arith, cond, map}
use Rattle.std.proofs.lemmas.List.Sums.{sum_by-append}
use Rattle.sb_windowed.proofs.records.Sums.{sum_by-map}
use Rattle.sb_pipeline.specs.declared.transform.Down.{Down}
use Rattle.sb_pipeline.specs.declared.transform.Step.{Step}
use Rattle.sb_pipeline.specs.Shapes.{if_any, is_same_place}
use Rattle.sb_pipeline.proofs.validity.feeds.Goals as goal

pub returns : goal.returns
returns c =
    let one : Down → ℕ = λ d. cond (is_same_place c.args.place d) 1 0 in
    let down : Step → Down = λ s. s.down in
    omega (
      arith,
      sum_by-map one down c.args.steps.now,
      sum_by-append one (map down c.args.steps.now) (if_any c.args.source_a ++ if_any c.args.source_b),
      sum_by-append one (if_any c.args.source_a) (if_any c.args.source_b),
    )
