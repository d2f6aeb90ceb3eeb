pub mod Statuses
pub mod Keeping
pub mod Reads
pub mod DiaryReads
pub mod Batches
pub mod Notes
pub mod Outcomes
pub use Rattle.sb_plan.specs as plan
