pub mod Aggregates
pub mod Sessions
pub mod Joins
pub mod Laws
pub use Rattle.sb_window.specs.records
pub use Rattle.sb_window.specs as window
pub use Rattle.sb_window.proofs.Rows as RowLemmas
