pub mod Ending
pub mod Rested
pub mod RunEnds
pub mod SettingLaws
pub use Rattle.sb_feeds.specs as feeds
pub use Rattle.sb_feeds.specs.outside
pub use Rattle.sb_feeds.specs.emit
pub use Rattle.sb_feeds.specs.base
pub use Rattle.sb_feeds.specs.one_feed
pub use Rattle.sb_hand.specs.diary
pub use Rattle.sb_hand.specs.tally
pub use Rattle.sb_hand.specs.node
pub use Rattle.sb_hand.specs as hand
