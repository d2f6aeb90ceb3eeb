pub mod Rows
pub mod Taking
pub mod Completing
pub mod Entering
pub mod Building
