use Rattle.sb_feed.specs.base.records.Rows.{row_text}
use Rattle.sb_told.proofs.Printing.{Printing}
use Rattle.sb_told.proofs.output.write_text.Given as goal

abbrev pub invariant-rows : goal.invariant-rows
invariant-rows g l = Printing row_text (g.K.Sink.taken l.initial.out) (g.K.Sink.taken l.out) l.batch l.rows l.row-index (g.K.Sink.sink_state l.initial.out) (g.K.Sink.sink_state l.out)
