pub mod Fixed
pub mod Sides
pub mod PartValues
pub mod KeptValues
pub mod KeptRows
pub mod KeptLaws
pub use Rattle.sb_runs.proofs.records
pub use Rattle.sb_runs.proofs.window
