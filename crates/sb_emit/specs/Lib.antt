pub mod Outputs
pub mod Printed
pub mod TextLaws
pub mod LentLaws
pub mod Taps
pub mod Offers
pub mod OfferSteps
pub mod TapKinds
pub mod Summaries
pub mod SumLaws
pub use Rattle.sb_record.specs as records
pub use Rattle.sb_outside.specs as outside
