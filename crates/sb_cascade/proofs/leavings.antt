-- What a leaving leaves behind, for the calls.
pub mod ToldWorks
pub mod ToldFeeds
pub mod Handing
pub mod LeftTurns
