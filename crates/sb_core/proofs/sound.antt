-- Each event keeps a moment sound.
pub mod Orderly
pub mod HeldLists
pub mod TidyLanes
pub mod TidyFrame
pub mod PutTidy
pub mod PutSound
pub mod SealSound
pub mod BeginSound
pub mod EndSound
pub mod AfterSound
pub mod FirstMoment
pub mod AnyOrder
