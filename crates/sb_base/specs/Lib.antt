pub mod Inputs
pub use Rattle.sb_pipeline.specs.records
pub use Rattle.sb_pipeline.specs.window
pub use Rattle.sb_pipeline.specs.pardo
pub use Rattle.sb_pipeline.specs.windowed
pub use Rattle.sb_pipeline.specs as pipeline
pub use Rattle.sb_bundle.specs as bundle
pub use Rattle.sb_pipeline.specs.window.EarlierLemmas
pub use Rattle.sb_pipeline.specs.window.ElementLemmas
pub use Rattle.sb_pipeline.specs.window.NumberLemmas
pub use Rattle.sb_pipeline.specs.window.OnLaneLemmas
pub use Rattle.sb_pipeline.specs.window.SortingLemmas
pub use Rattle.sb_pipeline.specs.window.SumLemmas
pub use Rattle.sb_pipeline.specs.RowLemmas
pub use Rattle.sb_pipeline.specs.KeepingLemmas
pub use Rattle.sb_pipeline.specs.OrderlessLemmas
pub use Rattle.sb_pipeline.specs.SessionRowLemmas
pub use Rattle.sb_pipeline.specs.AggregateTimeLemmas
pub use Rattle.sb_pipeline.specs.PairLemmas
pub use Rattle.sb_pipeline.specs.JoinTimeLemmas
pub use Rattle.sb_pipeline.proofs.Feeding as FeedingLemmas
pub use Rattle.sb_pipeline.proofs.Steps as StepLemmas
