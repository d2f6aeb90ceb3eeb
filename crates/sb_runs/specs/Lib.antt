pub mod Runs
pub mod Placed
pub mod Merged
pub mod Merges
pub use Rattle.sb_window.specs.records
pub use Rattle.sb_window.specs as window
pub use Rattle.sb_window.proofs.Rows as RowLemmas
pub use Rattle.sb_window.proofs.Marks as MarkLemmas
