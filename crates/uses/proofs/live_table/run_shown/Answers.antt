use denote.Param.Send.{sendable}
use Rattle.sb_cli.proofs.live_table.Crossing.{LiveRows-send}
use Rattle.std.proofs.Common.{ap, sym, ◌∙◌}
use Rattle.std.proofs.lemmas.Option.{same_Some}
use Rattle.sb_cli.specs.live.Showings.{Showing, ShownRows}
use Rattle.uses.proofs.LiveTable.{tells_last}
use Rattle.uses.proofs.live_table.run_shown.Goals as goal

pub returns-in-Done-clause-told : goal.returns-in-Done-clause-told
returns-in-Done-clause-told g c = λ done.
    tells_last c.args.plan c.args.key _ _ c.new-rows.result c.run-end.new.out _ _ _ _ c.into_out-out.result c.last-last.result
    (ap (λ (s : ShownRows). s.out.changes) c.new-rows.ensures
    ∙ ap (λ (s : Showing). s.changes) (same_Some _ _ (sym c.unwrap.ensures ∙ c.take.ensures.value ∙ c.requires.table)))
    c.in-Done.ensures.ends.0 c.into_out-out.ensures c.last-last.ensures

pub run-end-requires-send-R : goal.run-end-requires-send-R
run-end-requires-send-R g c κs within = (search (sendable, LiveRows-send, c.type_bounds.send-R.owned, c.type_bounds.send-R.leaving) depth 60)
