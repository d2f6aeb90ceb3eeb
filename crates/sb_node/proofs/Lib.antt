pub mod PlacedFirst
pub mod Parts
pub mod Staying
pub use Rattle.sb_session.proofs as session
pub use Rattle.sb_diary.proofs as diary
pub use Rattle.sb_sink.proofs as sink
pub use Rattle.sb_work.proofs.base
pub use Rattle.sb_work.proofs as work
pub use Rattle.sb_lane.proofs as lane
