pub mod Orderless
pub mod Partials
pub mod Held
pub mod Groups
pub mod Numbers
pub use Rattle.sb_runs.specs.records
pub use Rattle.sb_runs.specs.window
pub use Rattle.sb_runs.specs.RowLemmas
