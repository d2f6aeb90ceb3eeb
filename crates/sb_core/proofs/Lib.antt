pub mod windows
pub mod places
pub mod times
pub mod exact
pub mod lawful
pub mod sound
pub mod parts
pub mod ends
pub use Rattle.sb_containers.proofs.base
pub use Rattle.sb_containers.proofs as containers
