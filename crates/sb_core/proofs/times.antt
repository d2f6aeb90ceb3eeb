-- Nothing comes late.
pub mod TimeBounds
pub mod WithinBound
pub mod Timely
pub mod LawfulTimely
pub mod InTime
