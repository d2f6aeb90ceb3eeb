-- What the core asks of windows and sessions, and that each kind of grouping has it.
pub mod WindowOperators
pub mod Groupings
pub mod WindowsAt
pub mod OpenWindows
