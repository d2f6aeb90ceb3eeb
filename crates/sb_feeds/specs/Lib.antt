pub mod Fed
pub mod Files
pub mod Ends
pub mod InputFed
pub mod InputEnds
pub mod InputSends
pub mod RowsFed
pub mod RowsEnds
pub mod RowsSends
pub mod RowsLaws
pub mod Laws
pub use Rattle.sb_feed.specs.outside
pub use Rattle.sb_feed.specs.emit
pub use Rattle.sb_feed.specs.base
pub use Rattle.sb_feed.specs as one_feed
