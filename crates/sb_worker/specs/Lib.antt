pub mod Entries
pub mod Helping
pub mod Steps
pub use Rattle.sb_cascade.specs.diary
pub use Rattle.sb_cascade.specs.turn
pub use Rattle.sb_cascade.specs.core
pub use Rattle.sb_cascade.specs.lane
pub use Rattle.sb_cascade.specs.tally
pub use Rattle.sb_cascade.specs.node
pub use Rattle.sb_cascade.specs.hand
pub use Rattle.sb_cascade.specs as cascade
