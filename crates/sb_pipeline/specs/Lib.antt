pub mod Operators
pub mod Shapes
pub mod Plans
pub mod Flow
pub mod Results
pub mod Laws
pub use Rattle.sb_windowed.specs.records
pub use Rattle.sb_windowed.specs.window
pub use Rattle.sb_pardo.specs as pardo
pub use Rattle.sb_windowed.specs as windowed
pub use Rattle.sb_windowed.specs.RowLemmas
pub use Rattle.sb_pardo.proofs.Keeping as KeepingLemmas
pub use Rattle.sb_windowed.proofs.Orderless as OrderlessLemmas
pub use Rattle.sb_windowed.proofs.SessionRows as SessionRowLemmas
pub use Rattle.sb_windowed.proofs.AggregateTimes as AggregateTimeLemmas
pub use Rattle.sb_windowed.proofs.Pairs as PairLemmas
pub use Rattle.sb_windowed.proofs.JoinTimes as JoinTimeLemmas
