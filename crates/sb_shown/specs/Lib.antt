pub mod Linking
pub mod Searching
pub mod Sets
pub mod Showing
pub use Rattle.sb_node.specs.diary
pub use Rattle.sb_node.specs.base
pub use Rattle.sb_node.specs.work
pub use Rattle.sb_tally.specs.core
pub use Rattle.sb_node.specs.lane
pub use Rattle.sb_tally.specs as tally
pub use Rattle.sb_node.specs as node
pub use Rattle.sb_tally.specs.AnyOrder
pub use Rattle.sb_tally.proofs.Orders as TallyOrders
