pub mod Clapped
pub mod Readings
