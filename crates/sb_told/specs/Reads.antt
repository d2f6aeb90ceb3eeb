-- What reading an input gives.
use Rattle.std.specs.Prelude.{◌≡◌, ℕ, List, Option, Result, Ok, Err}
use Rattle.sb_feed.specs.base.records.Streams.{low_watermark}
use Rattle.sb_told.specs.declared.input.Input.{Input}
use Rattle.sb_told.specs.Keeping.{AreKept}
use Rattle.sb_feed.specs.base.pipeline.Shapes.{Shape, streams_of}
use Rattle.sb_feed.specs.Given.{Given, items_of, stop_at}

-- what is kept of the items that were accepted, their low watermark, and where reading stopped
pub record IsInputOf
    {left left' : Option (List ℕ)} (plan : Shape) (given : Given left left') (input : Input) : Type 0 where
  pub kept : AreKept input.kept (items_of plan given)
  pub low : input.low ≡ low_watermark (streams_of plan) (items_of plan given)
  pub stop : input.stop ≡ stop_at plan given

-- all of an input up to where reading stops, or some of it where memory was wanting
abbrev pub ReadsAll : {E : Type 0} → Shape → Option (List ℕ) → Option (List ℕ) → Result Input E → Type 0
ReadsAll plan left left' (Ok input) = (given : Given left left') × IsInputOf plan given input
ReadsAll plan left left' (Err e) = Given left left'
