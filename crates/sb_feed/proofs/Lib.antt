pub mod OfferedRows
pub mod GiveLaws
pub mod ReadSteps
pub mod FrontTakes
pub mod LaterItems
pub mod ReadSoFar
pub mod ItemSteps
pub mod FirstRows
pub mod RowsApart
pub mod GivesInTurn
pub mod ItemTakes
pub mod RowsSoFar
pub mod InputEnds
pub mod CommentsInFront
pub mod FedSoFar
pub use Rattle.sb_outside.proofs as outside
pub use Rattle.sb_base.proofs as base
