pub mod InputCrossing
pub mod InputPrinted
pub mod PoppedSoFar
pub mod Through
pub mod Tied
pub mod FileItems
pub mod FilesCrossing
pub mod FilesEnded
pub mod FilesOpened
pub mod FilesSoFar
pub mod InletPops
pub mod MergedItems
pub mod TakenItems
pub mod OpenEnds
pub mod GatheredItems
pub mod CutCauses
pub mod SavedParts
pub mod PartEnds
pub use Rattle.sb_checkpoint.proofs as checkpoint
pub use Rattle.sb_engines.proofs as engines
pub use Rattle.sb_engines.proofs.alone
pub use Rattle.sb_engines.proofs.feeds.outside
pub use Rattle.sb_engines.proofs.worker.diary
pub use Rattle.sb_engines.proofs.feeds.base
pub use Rattle.sb_engines.proofs.feeds.one_feed
