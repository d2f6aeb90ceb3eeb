pub mod Tables
pub mod Keeping
pub mod TableRows
pub mod TableEntries
