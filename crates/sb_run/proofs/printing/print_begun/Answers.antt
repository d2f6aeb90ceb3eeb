use Rattle.sb_engines.proofs.feeds.one_feed.GivesInTurn.{AddsUp}
use Rattle.sb_engines.specs.feeds.RowsEnds.{rows_received}
use Rattle.sb_run.proofs.InputPrinted.{prints_none}
use Rattle.sb_run.proofs.printing.print_begun.Goals as goal

pub returns-then-not-has_begun-clause-prints : goal.returns-then-not-has_begun-clause-prints
returns-then-not-has_begun-clause-prints g c =
    let laws = g.met.R.RowOut g.world.𝓛 g.world.𝓜 g.world.𝓡 ((λ s x. x), (λ x. x), (λ x. x), λ x. x) in
    let adds_up : AddsUp g.R.RowOut.after g.R.RowOut.part = record { after_none = laws.after_none; after_more = laws.after_more; part_later = laws.part_later; part_of_all = laws.part_of_all } in
    prints_none g.R.RowOut.after g.R.RowOut.part adds_up c.args.out.now _ (rows_received c.args.inward.now) c.requires.nothing
