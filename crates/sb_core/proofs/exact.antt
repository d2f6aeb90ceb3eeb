-- What each node gives stays the same.
pub mod Nodes
pub mod Gives
pub mod Flow
pub mod TakeExact
pub mod FinishExact
pub mod BeginExact
pub mod MoveExact
pub mod EventExact
pub mod Exactly
pub mod AfterExact
