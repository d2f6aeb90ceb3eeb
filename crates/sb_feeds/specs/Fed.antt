-- What a record file feeds.
use Rattle.std.specs.Prelude.{◌≡◌, ◌==◌, ℕ, Bool, true, false, List, [], ◌∷◌, ◌++◌, length, flat_map}
use Rattle.std.specs.Prelude.{Option, Some, None}
use Rattle.std.specs.List.{list_any}
use Rattle.sb_feed.specs.base.records.declared.intake.Refusal.{Refusal}
use Rattle.sb_feed.specs.base.records.declared.intake.Stop.{Stop}
use Rattle.sb_feed.specs.base.records.declared.intake.Stop.TheVariants.{End, Refused, Fault}
use Rattle.sb_feed.specs.base.records.declared.item.Item.{Item}
use Rattle.sb_feed.specs.base.records.declared.item.Item.TheVariants as item
use Rattle.sb_feed.specs.base.records.Inputs.{Accepted, accepted}
use Rattle.sb_feed.specs.base.records.Intake.{first_progress}
use Rattle.sb_feed.specs.base.records.Progress.{Progress}
use Rattle.sb_feed.specs.outside.Lines.{lines}
use Rattle.sb_feeds.specs.declared.fed.FeedStop.{FeedStop}
use Rattle.sb_feeds.specs.declared.fed.FeedStop.TheVariants as feed_stop
use Rattle.sb_feeds.specs.declared.fed.Fed.{Fed}
use Rattle.sb_feeds.specs.declared.fed.Fed.TheVariants as fed

-- whether a value is a stop
abbrev pub is_stop : Fed → Bool
is_stop (fed.Item i) = false
is_stop (fed.Stop s) = true

-- whether a stop is among the values
abbrev pub has_stop : List Fed → Bool
has_stop values = list_any is_stop values

-- whether exactly one stop is among the values, the last
abbrev pub ends_with_stop : List Fed → Bool
ends_with_stop [] = false
ends_with_stop (fed.Item i ∷ values) = ends_with_stop values
ends_with_stop (fed.Stop s ∷ values) = length values == 0

-- what an item feeds: itself, but nothing for a comment
abbrev pub values_of_item : Item → List Fed
values_of_item item.Skip = []
values_of_item (item.Rec s r) = fed.Item (item.Rec s r) ∷ []
values_of_item (item.Mark s t) = fed.Item (item.Mark s t) ∷ []
values_of_item (item.Late n t m) = fed.Item (item.Late n t m) ∷ []

-- why a file stops: at its end, where no line is refused
abbrev pub stop_from : Option Refusal → FeedStop
stop_from None = feed_stop.End
stop_from (Some refusal) = feed_stop.Refused refusal

-- the refusal where reading stopped at a refused line
abbrev pub refusal_at : Stop → Option Refusal
refusal_at (Refused refusal) = Some refusal
refusal_at End = None
refusal_at Fault = None

-- what is fed of accepted lines: their items in order, and then one stop
abbrev pub values_of_accepted : Accepted → List Fed
values_of_accepted a = flat_map values_of_item a.items ++ fed.Stop (stop_from a.refused) ∷ []

-- nothing was accepted yet, so that the next line is the first
abbrev pub IsNew : Progress → Type 0
IsNew p = p ≡ first_progress p.streams 0 p.late p.keys

-- what the bytes of a file feed, where the intake says which streams, late records and keys are accepted
abbrev pub values_of_file : Progress → List ℕ → List Fed
values_of_file p bytes = values_of_accepted (accepted p.streams p.late p.keys (lines true bytes))
