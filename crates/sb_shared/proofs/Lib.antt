pub mod entered
pub mod links
pub mod diaries
pub mod feeds
pub mod leavings
pub mod lives
pub use Rattle.sb_turn.proofs as turn
