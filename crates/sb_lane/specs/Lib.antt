pub mod Placed
pub mod Links
pub mod Changes
pub mod Slots
pub mod Unfinished
pub mod Finding
pub mod Taking
pub mod LaneView
pub mod LaneChanges
pub mod KeptMarks
pub mod Looks
pub mod Arriving
pub mod Laws
pub use Rattle.sb_containers.specs as containers
