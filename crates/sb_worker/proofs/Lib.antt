pub mod Claims
pub mod Counting
pub mod Crossing
pub mod Doing
pub mod Gaining
pub mod Leaving
pub mod Looping
pub use Rattle.sb_cascade.proofs.diary
pub use Rattle.sb_cascade.proofs.core
pub use Rattle.sb_cascade.proofs.tally
pub use Rattle.sb_cascade.proofs.hand
pub use Rattle.sb_cascade.proofs as cascade
