pub mod Moments
pub mod Closings
pub mod Bounds
pub mod Events
pub mod LaneSteps
pub mod MomentSteps
pub mod Finding
pub mod Exactness
pub mod Holdings
pub mod Soundness
pub mod Laws
pub mod Parts
pub mod OneLane
pub mod NewRows
pub mod Rest
pub use Rattle.sb_containers.specs.base
pub use Rattle.sb_containers.specs as containers
