pub mod Pushed
pub mod Times
pub mod Steps
pub mod Pairs
pub mod Walking
pub mod BySession
pub mod TakingOut
pub use Rattle.sb_base.proofs as base
