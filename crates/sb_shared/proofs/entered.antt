-- What a pass finds in the node that it enters, and what the calls there need.
pub mod Found
pub mod FoundLanes
pub mod HeldHere
pub mod LinkHere
pub mod OrderHere
pub mod PlacesHere
pub mod Begins
pub mod Begun
pub mod Taken
pub mod WorkNumbers
pub mod Lookups
