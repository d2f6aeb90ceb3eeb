pub mod Found
pub mod Merging
pub mod Splitting
pub mod FoundIn
pub mod Shifting
pub mod Doubling
pub mod PaneEnds
pub mod Placed
pub mod Spreading
pub mod RunRows
pub use Rattle.sb_window.proofs.records
pub use Rattle.sb_window.proofs as window
