pub mod Sums
pub mod Orderless
pub mod AggregateTimes
pub mod SessionEnds
pub mod SessionLaws
pub mod SessionRows
pub mod PairOrder
pub mod Pairs
pub mod JoinTimes
pub use Rattle.sb_window.proofs.records
pub use Rattle.sb_window.proofs as window
