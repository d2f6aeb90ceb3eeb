pub mod Calm
pub mod ClosingMarks
pub mod LaneEvents
pub mod LinkLists
pub mod OpenBelow
pub mod SettingsStay
pub mod ShowsKept
pub mod Single
pub mod Steps
pub mod Unsealed
pub use Rattle.sb_node.proofs.session
pub use Rattle.sb_node.proofs.diary
pub use Rattle.sb_node.proofs.sink
pub use Rattle.sb_node.proofs.base
pub use Rattle.sb_node.proofs.work
pub use Rattle.sb_tally.proofs.core
pub use Rattle.sb_node.proofs.lane
pub use Rattle.sb_node.proofs as node
pub use Rattle.sb_tally.proofs as tally
