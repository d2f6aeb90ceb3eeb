-- What code finds in lanes and among what is held, in the words of the definitions.
pub mod InPlace
pub mod Carried
