pub mod Laws
pub mod InputPops
pub mod InputPrints
pub mod Pops
pub mod FilesFed
pub mod FilesRead
pub mod FilesEnding
pub mod TwoEnds
pub mod FirstParts
pub mod Saves
pub mod CutEnds
pub use Rattle.sb_checkpoint.specs as checkpoint
pub use Rattle.sb_engines.specs as engines
pub use Rattle.sb_engines.specs.alone
pub use Rattle.sb_engines.specs.feeds.outside
pub use Rattle.sb_engines.specs.worker.diary
pub use Rattle.sb_engines.specs.feeds.emit
pub use Rattle.sb_engines.specs.feeds.base
pub use Rattle.sb_engines.specs.worker.tally
pub use Rattle.sb_engines.specs.worker.node
pub use Rattle.sb_engines.specs.worker.hand
pub use Rattle.sb_engines.specs.feeds.one_feed
