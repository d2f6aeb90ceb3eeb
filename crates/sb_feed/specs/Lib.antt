pub mod Calls
pub mod Due
pub mod Feeds
pub mod FedByItems
pub mod GiveCauses
pub mod Given
pub mod Gives
pub mod InputFeeds
pub mod Reads
pub mod Takes
pub mod TapLists
pub use Rattle.sb_outside.specs as outside
pub use Rattle.sb_emit.specs as emit
pub use Rattle.sb_base.specs as base
