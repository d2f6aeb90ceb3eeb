pub mod FedMore
pub mod PassesHeld
pub mod Returned
pub use Rattle.sb_alone.proofs as alone
pub use Rattle.sb_alone.proofs.feeds
pub use Rattle.sb_worker.proofs as worker
