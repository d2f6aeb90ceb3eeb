pub use Rattle.sb_pipeline.proofs.records
pub use Rattle.sb_pipeline.proofs.window
pub use Rattle.sb_pipeline.proofs.pardo
pub use Rattle.sb_pipeline.proofs.windowed
pub use Rattle.sb_pipeline.proofs as pipeline
pub use Rattle.sb_bundle.proofs as bundle
