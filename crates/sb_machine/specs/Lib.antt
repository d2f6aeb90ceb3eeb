pub mod Places
pub mod Steps
pub mod Beginnings
pub use Rattle.sb_core.specs as core
pub use Rattle.sb_slow.specs as slow
