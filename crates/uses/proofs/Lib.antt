pub mod LargeSums
pub mod Sums
pub mod LiveTable
