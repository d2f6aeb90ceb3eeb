pub mod Writing
pub mod Batches
pub mod Places
pub mod OfferedTaps
pub mod Apart
pub use Rattle.sb_record.proofs as records
