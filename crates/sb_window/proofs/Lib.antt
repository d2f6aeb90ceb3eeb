pub mod Multiples
pub mod Rows
pub mod Gathering
pub mod Closing
pub mod Marks
pub use Rattle.sb_record.proofs as records
