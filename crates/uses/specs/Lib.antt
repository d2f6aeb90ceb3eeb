pub mod LargeSums
pub mod Sums
pub mod EndToEnd
pub mod LiveTable
