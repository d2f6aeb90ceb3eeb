pub mod Doings
pub mod Found
pub mod Laws
pub mod Leavings
pub mod Linked
pub mod LinkedPassing
pub mod Passing
pub mod SharedNodes
pub mod Shown
pub mod Views
pub use Rattle.sb_turn.specs as turn
