pub mod Stops
pub mod FirstLines
pub mod FileSoFar
pub mod InputValues
pub mod SentSoFar
pub mod RowsSent
pub mod RowsPrinted
pub use Rattle.sb_feed.proofs.outside
pub use Rattle.sb_feed.proofs.base
pub use Rattle.sb_feed.proofs as one_feed
