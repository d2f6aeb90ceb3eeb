pub mod Steps
pub mod Times
pub mod Feeding
pub use Rattle.sb_windowed.proofs.records
pub use Rattle.sb_windowed.proofs.window
pub use Rattle.sb_pardo.proofs as pardo
pub use Rattle.sb_windowed.proofs as windowed
