-- A leaving keeps the rule, and is the one event that it is said to be.
pub mod Acts
pub mod ActsOfParts
pub mod ActsOfBeginnings
pub mod Acting
pub mod FreshEvents
pub mod HeldEvents
pub mod ClosingsTold
pub mod RowsLeft
pub mod LaterRows
pub mod Leaving
