-- The lines that nodes owe, and what their logs make of them.
pub mod Promises
pub mod Rooms
pub mod LinesGrow
pub mod Replaying
