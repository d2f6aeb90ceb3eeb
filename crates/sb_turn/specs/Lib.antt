pub mod Facts
pub mod Held
pub mod Laws
pub mod Owed
pub mod Passes
pub mod Reasons
pub mod Turning
