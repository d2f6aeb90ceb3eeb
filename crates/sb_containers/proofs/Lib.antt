pub mod Fitting
pub mod Lists
pub mod LaneLaws
pub mod InEpoch
pub mod Placing
pub mod Begun
pub mod Stays
pub mod Ordered
pub mod Arriving
pub mod Sealing
pub mod Taking
pub mod Ending
pub use Rattle.sb_base.proofs as base
