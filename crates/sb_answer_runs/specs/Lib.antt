pub mod AuditSteps
pub mod WorkSteps
pub mod Watches
pub mod CutSteps
pub use Rattle.sb_run.specs as run
pub use Rattle.sb_answers.specs as answers
