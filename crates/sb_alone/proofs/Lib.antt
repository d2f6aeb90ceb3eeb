pub mod AtTheEnd
pub mod Behind
pub mod Coming
pub mod Ended
pub mod Flowing
pub mod Settings
pub mod Settling
pub mod Sharing
pub mod SoFar
pub mod Standing
pub mod Starting
pub use Rattle.sb_feeds.proofs as feeds
pub use Rattle.sb_feeds.proofs.outside
pub use Rattle.sb_feeds.proofs.base
