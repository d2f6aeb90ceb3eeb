use Rattle.sb_answers.specs.Telling.{event_line}
use Rattle.sb_told.proofs.Printing.{Printing}
use Rattle.sb_answers.proofs.diaries.write_events.Given as goal

abbrev pub invariant-events : goal.invariant-events
invariant-events g l = Printing event_line (g.N.Sink.taken l.initial.notes) (g.N.Sink.taken l.notes) l.batch l.events l.event-index (g.N.Sink.sink_state l.initial.notes) (g.N.Sink.sink_state l.notes)
