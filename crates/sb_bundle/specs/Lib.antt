pub mod Cutting
pub mod Cuts
pub mod Bundles
pub mod Calls
pub mod Laws
