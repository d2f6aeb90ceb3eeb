-- Readers, writers and files of std, with what was refused of them.
use Rattle.std.specs.Prelude.{ℕ, List}
use Rattle.sb_outside.specs.Folders.{Load}
use Rattle.sb_outside.specs.Sinks.{SinkState}

pub record CountedReader (R : Type 0) : Type 0 where
  pub reader : R
  pub faults : ℕ

-- a sink whose writer failed to flush refuses from then on
pub record CountedWriter (W : Type 0) : Type 0 where
  pub writer : W
  pub state : SinkState

pub record CountedFiles (R : Type 0) : Type 0 where
  pub files : R
  pub failed : List Load
