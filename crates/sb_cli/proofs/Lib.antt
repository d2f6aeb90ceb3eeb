pub mod Offering
pub mod CutLaws
pub mod RestLaws
pub use Rattle.sb_answer_runs.proofs.answers.live_table
pub use Rattle.sb_answer_runs.proofs.answers.base
pub use Rattle.sb_answer_runs.proofs.answers.generator
