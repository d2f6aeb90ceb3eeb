use Rattle.std.proofs.Common.{rules}
use Rattle.std.proofs.lemmas.Result.{on_ok_weaker}
use Rattle.sb_node.proofs.Parts.{AddsPart, StaysMade, carried, aggregate-adds, aggregate-stands, session-adds, join-adds, sink-adds}
use Rattle.sb_node.proofs.Staying.{aggregate-stays}
use Rattle.sb_node.proofs.kept.Kept.absorb.Goals as goal
use Rattle.sb_node.proofs.kept.Kept.absorb.Goals.{in-Aggregate-Agg, in-Session-Rows, in-Join-Join, in-Sink-Rows, in_default+in-Agg+in-More-1, in_default+in-Agg+in-Start-1, in_default+in-Join+in-More-1, in_default+in-Join+in-Start-1, in_default+in-Rows-1}

pub returns-clause-made : goal.returns-clause-made
returns-clause-made c =
    elim c.match-self.branch [
      | in-Aggregate-Agg w ↦ (let a = w.in-Aggregate-Agg in let b = w.absorb in carried StaysMade a.is-0 a.is-1 w.self-is w.result-is (on_ok_weaker b.result (aggregate-stays a.kept b.new.self) b.ensures.fits))
      | in-Session-Rows w ↦ (search rules)
      | in-Join-Join w ↦ (search rules)
      | in-Sink-Rows w ↦ (search rules)
      | in_default+in-Agg+in-More-1 w ↦ (search rules)
      | in_default+in-Agg+in-Start-1 w ↦ (search rules)
      | in_default+in-Join+in-More-1 w ↦ (search rules)
      | in_default+in-Join+in-Start-1 w ↦ (search rules)
      | in_default+in-Rows-1 w ↦ (search rules)
    ]

pub returns-clause-adds : goal.returns-clause-adds
returns-clause-adds c =
    elim c.match-self.branch [
      | in-Aggregate-Agg w ↦ (let a = w.in-Aggregate-Agg in let b = w.absorb in carried AddsPart a.is-0 a.is-1 w.self-is w.result-is (on_ok_weaker b.result (aggregate-adds a.kept b.new.self a.part) b.ensures.adds))
      | in-Session-Rows w ↦ (let a = w.in-Session-Rows in let b = w.absorb-in-Session-Rows in carried AddsPart a.is-0 a.is-1 w.self-is w.result-is (on_ok_weaker b.result (session-adds a.kept b.new.self a.rows) b.ensures.adds))
      | in-Join-Join w ↦ (let a = w.in-Join-Join in let b = w.absorb-in-Join-Join in carried AddsPart a.is-0 a.is-1 w.self-is w.result-is (on_ok_weaker b.result (join-adds a.kept b.new.self a.part) b.ensures.adds))
      | in-Sink-Rows w ↦ (let a = w.in-Sink-Rows in let b = w.absorb-in-Sink-Rows in carried AddsPart a.is-0 a.is-1 w.self-is w.result-is (on_ok_weaker b.result (sink-adds a.kept b.new.self a.rows) b.ensures.adds))
      | in_default+in-Agg+in-More-1 w ↦ (search rules)
      | in_default+in-Agg+in-Start-1 w ↦ (search rules)
      | in_default+in-Join+in-More-1 w ↦ (search rules)
      | in_default+in-Join+in-Start-1 w ↦ (search rules)
      | in_default+in-Rows-1 w ↦ (search rules)
    ]

pub absorb-requires-clause-from : goal.absorb-requires-clause-from
absorb-requires-clause-from c = (let a = c.in-Aggregate-Agg in aggregate-stands a.kept a.part a.is-0 a.is-1 c.requires.takes)
