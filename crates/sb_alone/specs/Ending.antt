-- How a run ends, by where feeding stopped.
use Rattle.std.specs.Prelude.{Result, Ok, Err}
use Rattle.sb_feeds.specs.base.records.declared.intake.Stop.{Stop}
use Rattle.sb_feeds.specs.base.records.declared.intake.Stop.TheVariants as at
use Rattle.sb_hand.specs.Hands.{HandView}
use Rattle.sb_feeds.specs.one_feed.declared.give.GiveStop.{GiveStop}
use Rattle.sb_feeds.specs.one_feed.declared.give.GiveStop.TheVariants as stop
use Rattle.sb_alone.specs.declared.run_end.RunEnd.{RunEnd}
use Rattle.sb_alone.specs.declared.run_end.RunEnd.TheVariants.{Done, Refused, Input, Output, Tap, Memory}

-- by why it stopped early
abbrev pub early_by : GiveStop → RunEnd
early_by stop.Output = Output
early_by (stop.Tap place) = Tap place
early_by stop.Memory = Memory

-- at the end of the input the hand comes back
abbrev pub end_by : HandView → Result Stop GiveStop → RunEnd
end_by hand (Ok at.End) = Done hand
end_by hand (Ok (at.Refused refusal)) = Refused refusal
end_by hand (Ok at.Fault) = Input
end_by hand (Err why) = early_by why
