pub mod LaterText
pub mod TextLines
pub mod GeneratedLines
pub mod Acceptance
