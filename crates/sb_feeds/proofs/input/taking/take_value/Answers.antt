use Rattle.sb_feed.proofs.GivesInTurn.{AddsUp, gives_none}
use Rattle.sb_feeds.proofs.input.taking.take_value.Goals as goal

pub returns-in-Begin-clause-gives : goal.returns-in-Begin-clause-gives
returns-in-Begin-clause-gives g c = λ f rows stand may.
    let laws = g.met.R.RowOut g.world.𝓛 g.world.𝓜 g.world.𝓡 ((λ s x. x), (λ x. x), (λ x. x), λ x. x) in
    let adds_up : AddsUp g.R.RowOut.after g.R.RowOut.part = record { after_none = laws.after_none; after_more = laws.after_more; part_later = laws.part_later; part_of_all = laws.part_of_all } in
    rw c.in-Begin.is (gives_none g.R.RowOut.after g.R.RowOut.part adds_up (g.E.Engine.stands c.args.engine.now f) c.args.out.now _ rows stand)

pub returns-in-Stop-clause-gives : goal.returns-in-Stop-clause-gives
returns-in-Stop-clause-gives g c = λ f rows stand may.
    let laws = g.met.R.RowOut g.world.𝓛 g.world.𝓜 g.world.𝓡 ((λ s x. x), (λ x. x), (λ x. x), λ x. x) in
    let adds_up : AddsUp g.R.RowOut.after g.R.RowOut.part = record { after_none = laws.after_none; after_more = laws.after_more; part_later = laws.part_later; part_of_all = laws.part_of_all } in
    rw c.in-Stop.is (gives_none g.R.RowOut.after g.R.RowOut.part adds_up (g.E.Engine.stands c.args.engine.now f) c.args.out.now _ rows stand)

pub returns-in-NoMemory-clause-gives : goal.returns-in-NoMemory-clause-gives
returns-in-NoMemory-clause-gives g c = λ f rows stand may.
    let laws = g.met.R.RowOut g.world.𝓛 g.world.𝓜 g.world.𝓡 ((λ s x. x), (λ x. x), (λ x. x), λ x. x) in
    let adds_up : AddsUp g.R.RowOut.after g.R.RowOut.part = record { after_none = laws.after_none; after_more = laws.after_more; part_later = laws.part_later; part_of_all = laws.part_of_all } in
    rw c.in-NoMemory.is (gives_none g.R.RowOut.after g.R.RowOut.part adds_up (g.E.Engine.stands c.args.engine.now f) c.args.out.now _ rows stand)
