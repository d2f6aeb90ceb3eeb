pub mod Kept
pub mod Entries
pub mod Orderless
pub use Rattle.sb_runs.specs.records
pub use Rattle.sb_runs.specs.window
