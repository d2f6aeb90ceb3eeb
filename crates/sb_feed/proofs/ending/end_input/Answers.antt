use Rattle.std.proofs.Common.{refl, ◌∙◌}
use Rattle.sb_feed.proofs.GivesInTurn.{AddsUp}
use Rattle.sb_feed.proofs.InputEnds.{both_end, first_fails, may_end_first, may_end_then, none_ends}
use Rattle.sb_feed.proofs.RowsSoFar.{so_far_by}
use Rattle.sb_feed.proofs.ending.end_input.Goals as goal

pub end_stream-requires-in-Ok-clause-may : goal.end_stream-requires-in-Ok-clause-may
end_stream-requires-in-Ok-clause-may g c κs within =
    let laws = g.met.R.RowOut g.world.𝓛 g.world.𝓜 g.world.𝓡 ((λ s x. x), (λ x. x), (λ x. x), λ x. x) in
    let adds_up : AddsUp g.R.RowOut.after g.R.RowOut.part = record { after_none = laws.after_none; after_more = laws.after_more; part_later = laws.part_later; part_of_all = laws.part_of_all } in
    let (items, f, rows, may) = c.requires.may in
    let t = c.in-Ok.ensures.takes items f rows (may_end_first g.R.RowOut.after g.R.RowOut.part adds_up (g.E.Engine.stands c.args.engine.now) (g.E.Engine.plan c.args.engine.now) (g.E.Engine.size c.args.engine.now) c.args.cutters.now items f rows may) in
    (_, t.f, _, may_end_then g.R.RowOut.after g.R.RowOut.part adds_up (g.E.Engine.stands c.args.engine.now) (g.E.Engine.plan c.args.engine.now) (g.E.Engine.size c.args.engine.now) c.args.cutters.now (g.E.Engine.stands c.end_stream.new.engine) (g.E.Engine.size c.end_stream.new.engine) c.end_stream.new.cutters c.args.out.now c.end_stream.new.out _ _ items f rows (g.met.E.Engine.same_size _ _ c.in-Ok.ensures.same) may t)

pub returns-in-Ok-clause-takes : goal.returns-in-Ok-clause-takes
returns-in-Ok-clause-takes g c =
    let laws = g.met.R.RowOut g.world.𝓛 g.world.𝓜 g.world.𝓡 ((λ s x. x), (λ x. x), (λ x. x), λ x. x) in
    let adds_up : AddsUp g.R.RowOut.after g.R.RowOut.part = record { after_none = laws.after_none; after_more = laws.after_more; part_later = laws.part_later; part_of_all = laws.part_of_all } in
    rw c.in-End.is (both_end g.R.RowOut.after g.R.RowOut.part adds_up (g.E.Engine.stands c.args.engine.now) (g.E.Engine.plan c.args.engine.now) (g.E.Engine.size c.args.engine.now) c.args.cutters.now
    (g.E.Engine.stands c.end_stream.new.engine) (g.E.Engine.stands c.end_stream-in-Ok.new.engine) (g.E.Engine.plan c.end_stream.new.engine) (g.E.Engine.size c.end_stream.new.engine) c.end_stream.new.cutters c.end_stream-in-Ok.new.cutters c.args.out.now c.end_stream.new.out c.end_stream-in-Ok.new.out _ _ _ c.end_stream-in-Ok.result
    (g.met.E.Engine.same_plan _ _ c.in-Ok.ensures.same) (g.met.E.Engine.same_size _ _ c.in-Ok.ensures.same) c.in-Ok.ensures.takes c.end_stream-in-Ok.ensures.takes
    (so_far_by _ _ (g.E.Engine.stands c.end_stream.new.engine) (g.met.E.Engine.same_plan _ _ c.in-Ok.ensures.same) (g.met.E.Engine.so_far c.end_stream.new.engine))
    (so_far_by _ _ (g.E.Engine.stands c.end_stream-in-Ok.new.engine) (g.met.E.Engine.same_plan _ _ c.end_stream-in-Ok.ensures.same ∙ g.met.E.Engine.same_plan _ _ c.in-Ok.ensures.same) (g.met.E.Engine.so_far c.end_stream-in-Ok.new.engine)))

pub returns-in-Err-clause-takes : goal.returns-in-Err-clause-takes
returns-in-Err-clause-takes g c =
    let laws = g.met.R.RowOut g.world.𝓛 g.world.𝓜 g.world.𝓡 ((λ s x. x), (λ x. x), (λ x. x), λ x. x) in
    let adds_up : AddsUp g.R.RowOut.after g.R.RowOut.part = record { after_none = laws.after_none; after_more = laws.after_more; part_later = laws.part_later; part_of_all = laws.part_of_all } in
    rw c.in-End.is (first_fails g.R.RowOut.after g.R.RowOut.part adds_up (g.E.Engine.stands c.args.engine.now) (g.E.Engine.plan c.args.engine.now) (g.E.Engine.size c.args.engine.now) c.args.cutters.now c.args.out.now c.end_stream.new.out _ _ c.in-Err.why c.in-Err.ensures.takes)

pub returns-in-Refused-clause-takes : goal.returns-in-Refused-clause-takes
returns-in-Refused-clause-takes g c =
    let laws = g.met.R.RowOut g.world.𝓛 g.world.𝓜 g.world.𝓡 ((λ s x. x), (λ x. x), (λ x. x), λ x. x) in
    let adds_up : AddsUp g.R.RowOut.after g.R.RowOut.part = record { after_none = laws.after_none; after_more = laws.after_more; part_later = laws.part_later; part_of_all = laws.part_of_all } in
    none_ends g.R.RowOut.after g.R.RowOut.part adds_up (g.E.Engine.stands c.args.engine.now) (g.E.Engine.plan c.args.engine.now) (g.E.Engine.size c.args.engine.now) c.args.cutters.now c.args.stop c.args.out.now _ (rw c.in-Refused.is refl)

pub returns-in-Fault-clause-takes : goal.returns-in-Fault-clause-takes
returns-in-Fault-clause-takes g c =
    let laws = g.met.R.RowOut g.world.𝓛 g.world.𝓜 g.world.𝓡 ((λ s x. x), (λ x. x), (λ x. x), λ x. x) in
    let adds_up : AddsUp g.R.RowOut.after g.R.RowOut.part = record { after_none = laws.after_none; after_more = laws.after_more; part_later = laws.part_later; part_of_all = laws.part_of_all } in
    none_ends g.R.RowOut.after g.R.RowOut.part adds_up (g.E.Engine.stands c.args.engine.now) (g.E.Engine.plan c.args.engine.now) (g.E.Engine.size c.args.engine.now) c.args.cutters.now c.args.stop c.args.out.now _ (rw c.in-Fault.is refl)
