-- What the accepted lines of an input have said.
use Rattle.std.specs.Prelude.{ℕ}
use Rattle.sb_record.specs.declared.item.Streams.{Streams}
use Rattle.sb_record.specs.declared.key.Keys.{Keys}
use Rattle.sb_record.specs.declared.intake.LatePolicy.{LatePolicy}

-- the streams that the pipeline uses, the last watermark of each stream, 0 before the first, the number of lines, what
-- becomes of late records, and what the keys are
pub record Progress : Type 0 where
  pub streams : Streams
  pub mark_a : ℕ
  pub mark_b : ℕ
  pub lines : ℕ
  pub late : LatePolicy
  pub keys : Keys
