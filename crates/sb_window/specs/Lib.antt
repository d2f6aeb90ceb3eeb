pub mod Spacing
pub mod Progressions
pub mod Windows
pub mod Aggregations
pub mod Gatherings
pub mod Reorderings
pub mod Groupings
pub mod Laws
pub use Rattle.sb_record.specs as records
pub use Rattle.sb_record.proofs.Different as DifferentLemmas
pub use Rattle.sb_record.proofs.Distinct as DistinctLemmas
pub use Rattle.sb_record.proofs.Earlier as EarlierLemmas
pub use Rattle.sb_record.proofs.Elements as ElementLemmas
pub use Rattle.sb_record.proofs.Firsts as FirstLemmas
pub use Rattle.sb_record.proofs.KeyOrder as KeyOrderLemmas
pub use Rattle.sb_record.proofs.Numbers as NumberLemmas
pub use Rattle.sb_record.proofs.OnLanes as OnLaneLemmas
pub use Rattle.sb_record.proofs.Sorting as SortingLemmas
pub use Rattle.sb_record.proofs.Sums as SumLemmas
