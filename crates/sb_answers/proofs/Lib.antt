pub mod Answering
pub mod Wanting
pub mod Blaming
pub mod ReadingOn
pub mod Tellings
pub mod CheckpointLoads
pub mod FileLoads
pub mod Sessions
pub mod DoneHands
pub mod RunAnswers
pub mod RunFaults
pub use Rattle.sb_alone.proofs.outside
pub use Rattle.sb_live.proofs as live_table
pub use Rattle.sb_alone.proofs.base
pub use Rattle.sb_alone.proofs as alone
pub use Rattle.sb_generator.proofs as generator
pub use Rattle.sb_checkpoint.proofs as checkpoint
pub use Rattle.sb_told.proofs as told
