pub mod Feeders
pub mod EngineLaws
pub use Rattle.sb_alone.specs as alone
pub use Rattle.sb_alone.specs.feeds
pub use Rattle.sb_worker.specs as worker
