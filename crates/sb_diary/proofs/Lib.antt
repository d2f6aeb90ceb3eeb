pub mod Telling
pub mod Worked
pub mod LegalLines
pub mod Recounts
pub mod Nodes
pub mod Spelling
pub mod LinesTold
pub mod TextLines
