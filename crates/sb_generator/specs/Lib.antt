pub mod Generated
pub mod Rests
pub mod Laws
