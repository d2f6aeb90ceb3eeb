pub mod Texts
pub mod Options
pub mod Words
pub mod Laws
