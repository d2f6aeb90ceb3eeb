pub mod Processing
pub mod Receipts
pub use Rattle.sb_base.specs as base
pub use Rattle.sb_aggregate.specs as aggregate
pub use Rattle.sb_join.specs as join
