pub mod AuditAnswers
pub mod WorkRuns
pub mod WatchAnswers
pub mod Shown
pub mod CutAnswers
pub mod CutFaults
pub mod CutThrough
pub mod RestAnswers
pub mod RestEnds
pub mod FilesAnswers
pub mod FilesFaults
pub mod FilesThrough
pub mod FeedsAnswers
pub mod SaveAnswers
pub use Rattle.sb_run.proofs as runs
pub use Rattle.sb_answers.proofs as answers
