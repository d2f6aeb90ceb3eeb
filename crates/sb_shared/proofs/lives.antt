-- Claims, the shelf, and what only leavings change.
pub mod Claims
pub mod Shelving
pub mod OnlyLeavings
pub mod HeldOnce
