-- Each event keeps a moment lawful.
pub mod HeldStill
pub mod Changed
pub mod Frame
pub mod ArriveLawful
pub mod DeliverLawful
pub mod SealLawful
pub mod TakeLawful
pub mod BeginLawful
pub mod EndLawful
