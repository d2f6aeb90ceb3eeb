pub mod Crossing
pub mod Earlier
pub mod Ends
pub mod Rises
pub mod Named
