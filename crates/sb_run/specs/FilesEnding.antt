-- How a run over two record files ends, by why the reading of the files stopped.
use Rattle.sb_engines.specs.worker.hand.Hands.{HandView}
use Rattle.sb_engines.specs.feeds.one_feed.declared.give.GiveStop.{GiveStop}
use Rattle.sb_engines.specs.feeds.one_feed.declared.give.GiveStop.TheVariants as stop
use Rattle.sb_run.specs.declared.files.inlets.FilesStop.{FilesStop}
use Rattle.sb_run.specs.declared.files.inlets.FilesStop.TheVariants as at
use Rattle.sb_engines.specs.alone.declared.two_end.TwoEnd.{TwoEnd}
use Rattle.sb_engines.specs.alone.declared.two_end.TwoEnd.TheVariants.{Done, Refused, Output, Tap, Memory}

-- by why it stopped early
abbrev pub early_by : GiveStop → TwoEnd
early_by stop.Output = Output
early_by (stop.Tap place) = Tap place
early_by stop.Memory = Memory

-- at the end of both files the hand comes back
abbrev pub end_by : HandView → FilesStop → TwoEnd
end_by hand at.End = Done hand
end_by hand (at.Refused stream refusal) = Refused stream refusal
