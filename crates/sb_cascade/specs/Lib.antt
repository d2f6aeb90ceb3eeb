pub mod Bringing
pub mod Calls
pub mod Closings
pub mod Ends
pub mod Lives
pub mod Shelving
pub mod Told
pub mod Working
pub use Rattle.sb_shared.specs as shared
pub use Rattle.sb_shared.specs.turn
pub use Rattle.sb_hand.specs.diary
pub use Rattle.sb_hand.specs.base
pub use Rattle.sb_hand.specs.work
pub use Rattle.sb_hand.specs.core
pub use Rattle.sb_hand.specs.lane
pub use Rattle.sb_hand.specs.tally
pub use Rattle.sb_hand.specs.node
pub use Rattle.sb_hand.specs as hand
