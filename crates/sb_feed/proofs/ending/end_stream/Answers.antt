use Rattle.std.proofs.Common.{sym, ap, ◌∙◌}
use Rattle.sb_feed.proofs.GivesInTurn.{AddsUp}
use Rattle.sb_feed.proofs.InputEnds.{unused_ends, used_ends}
use Rattle.sb_base.specs.pipeline.Shapes.{streams_of}
use Rattle.sb_base.specs.records.Streams.{uses}
use Rattle.sb_feed.proofs.ending.end_stream.Goals as goal

pub returns-then-not-uses-clause-takes : goal.returns-then-not-uses-clause-takes
returns-then-not-uses-clause-takes g c =
    let laws = g.met.R.RowOut g.world.𝓛 g.world.𝓜 g.world.𝓡 ((λ s x. x), (λ x. x), (λ x. x), λ x. x) in
    let adds_up : AddsUp g.R.RowOut.after g.R.RowOut.part = record { after_none = laws.after_none; after_more = laws.after_more; part_later = laws.part_later; part_of_all = laws.part_of_all } in
    unused_ends g.R.RowOut.after g.R.RowOut.part adds_up (g.E.Engine.stands c.args.engine.now) (g.E.Engine.plan c.args.engine.now) (g.E.Engine.size c.args.engine.now) c.args.cutters.now
    c.args.stream c.args.out.now _ (sym (ap (λ u. uses u c.args.stream) (c.streams-streams.ensures.value ∙ ap streams_of c.plan.ensures)) ∙ sym c.uses.ensures ∙ c.if-not-uses.true)

pub returns-clause-takes : goal.returns-clause-takes
returns-clause-takes g c =
    let laws = g.met.R.RowOut g.world.𝓛 g.world.𝓜 g.world.𝓡 ((λ s x. x), (λ x. x), (λ x. x), λ x. x) in
    let adds_up : AddsUp g.R.RowOut.after g.R.RowOut.part = record { after_none = laws.after_none; after_more = laws.after_more; part_later = laws.part_later; part_of_all = laws.part_of_all } in
    used_ends g.R.RowOut.after g.R.RowOut.part adds_up (g.E.Engine.stands c.args.engine.now) (g.E.Engine.plan c.args.engine.now) (g.E.Engine.size c.args.engine.now) c.args.cutters.now
    (g.E.Engine.stands c.take_mark.new.engine) c.take_mark.new.cutters c.args.stream c.args.out.now c.take_mark.new.out _ _ c.take_mark.result
    (sym (ap (λ u. uses u c.args.stream) (c.streams-streams.ensures.value ∙ ap streams_of c.plan.ensures)) ∙ sym c.uses.ensures ∙ c.if-not-uses.false) c.take_mark.ensures.takes
