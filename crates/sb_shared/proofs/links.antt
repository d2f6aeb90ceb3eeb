-- Nodes and passes stay linked to the containers below.
pub mod LanesBelow
pub mod SetLanes
pub mod MovedLanes
pub mod LaneTurns
pub mod LinkMoves
pub mod LinkedMoments
pub mod LinkedOnce
pub mod LinkedAfter
pub mod LinkedSteps
pub mod LinkedLeavings
pub mod LinksOwed
pub mod LinksKept
pub mod LeftLanes
pub mod UnsealedBelow
