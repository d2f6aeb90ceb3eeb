pub mod Pipelines
pub mod Courses
pub mod CheckpointFiles
pub mod RecordFiles
pub mod Told
pub mod Summaries
pub mod Answers
pub mod Offered
pub mod Faults
pub mod Telling
pub mod RunSteps
pub mod RestSteps
pub mod FileSteps
pub use Rattle.sb_alone.specs.outside
pub use Rattle.sb_alone.specs.diary
pub use Rattle.sb_alone.specs.emit
pub use Rattle.sb_live.specs as live
pub use Rattle.sb_alone.specs.base
pub use Rattle.sb_alone.specs.hand
pub use Rattle.sb_alone.specs.one_feed
pub use Rattle.sb_alone.specs as alone
pub use Rattle.sb_words.specs as words
pub use Rattle.sb_generator.specs as generator
pub use Rattle.sb_checkpoint.specs as checkpoint
pub use Rattle.sb_told.specs as told
