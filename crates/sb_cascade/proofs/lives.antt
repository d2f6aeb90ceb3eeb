-- A cascade from its hand to its end.
pub mod Opening
pub mod Sharing
pub mod Shutting
pub mod GivingBack
