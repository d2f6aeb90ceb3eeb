use Rattle.sb_told.specs.Statuses.{late_line}
use Rattle.sb_told.proofs.Printing.{Printing}
use Rattle.sb_told.proofs.output.write_dropped.Given as goal

abbrev pub invariant-dropped : goal.invariant-dropped
invariant-dropped g l = Printing (late_line l.file) (g.N.Sink.taken l.initial.notes) (g.N.Sink.taken l.notes) l.batch l.dropped l.late-index (g.N.Sink.sink_state l.initial.notes) (g.N.Sink.sink_state l.notes)
