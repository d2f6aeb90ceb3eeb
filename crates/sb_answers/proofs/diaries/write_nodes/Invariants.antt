use Rattle.sb_alone.specs.hand.Showing.{diaries_of}
use Rattle.sb_answers.proofs.Tellings.{Telling}
use Rattle.sb_answers.proofs.diaries.write_nodes.Given as goal

abbrev pub invariant-nodes : goal.invariant-nodes
invariant-nodes g l =
    Telling l.hand.plan (diaries_of l.hand.nodes) (g.N.Sink.taken l.initial.notes) (g.N.Sink.taken l.notes) l.node (g.N.Sink.sink_state l.initial.notes) (g.N.Sink.sink_state l.notes)
