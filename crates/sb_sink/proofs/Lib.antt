pub mod Runs
pub mod SinkLaws
