pub mod Numbers
pub mod Settings
pub mod Naming
pub mod Given
pub mod Sizes
pub mod Commands
