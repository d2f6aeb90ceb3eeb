-- An event does to a moment what it does to the part of its node.
pub mod ByParts
pub mod MadeSteps
pub mod PartsLaw
pub mod OneLaneLaw
pub mod NewRowsLaw
