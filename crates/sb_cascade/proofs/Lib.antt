pub mod leavings
pub mod lives
pub use Rattle.sb_shared.proofs as shared
pub use Rattle.sb_shared.proofs.turn
pub use Rattle.sb_hand.proofs.session
pub use Rattle.sb_hand.proofs.diary
pub use Rattle.sb_hand.proofs.sink
pub use Rattle.sb_hand.proofs.base
pub use Rattle.sb_hand.proofs.work
pub use Rattle.sb_hand.proofs.core
pub use Rattle.sb_hand.proofs.lane
pub use Rattle.sb_hand.proofs.tally
pub use Rattle.sb_hand.proofs as hand
