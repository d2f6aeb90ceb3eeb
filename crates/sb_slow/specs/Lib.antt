pub mod Gathered
pub mod Sendings
pub mod SessionEnds
pub mod Taken
pub use Rattle.sb_base.specs as base
