pub mod Changes
pub mod Coming
pub mod Keeping
pub mod LinkChanges
pub mod Looking
pub mod Marking
pub use Rattle.sb_diary.specs as diary
pub use Rattle.sb_work.specs.base
pub use Rattle.sb_work.specs as work
pub use Rattle.sb_lane.specs as lane
