-- The rows of a moment, and what holds with no work left.
pub mod LawfulRows
pub mod SoundRows
pub mod AtRest
pub mod NoneLeft
