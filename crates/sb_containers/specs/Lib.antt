pub mod Choices
pub mod Lanes
pub mod Marks
pub mod LaneOrder
pub use Rattle.sb_base.specs as base
