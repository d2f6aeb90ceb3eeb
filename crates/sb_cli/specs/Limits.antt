-- The limits of the program as numbers.
use Rattle.std.specs.Prelude.{◌≡◌}
use Rattle.sb_answer_runs.specs.answers.declared.limits.TheConstants.{MAX_CHECKPOINT_BYTES, WORK_WINDOW}

-- the most bytes of a checkpoint, and the windows that `work` sums
pub record Limits : Type 0 where
  pub checkpoint : MAX_CHECKPOINT_BYTES ≡ 268435456
  pub window : WORK_WINDOW ≡ 10
