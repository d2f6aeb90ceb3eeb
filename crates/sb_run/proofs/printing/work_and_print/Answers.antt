use Rattle.std.proofs.Common.{ap, subst, ◌∙◌}
use mathlib.Core.List.{IsPrefix}
use Rattle.sb_engines.specs.worker.cascade.Calls.{plan_of}
use Rattle.sb_engines.proofs.feeds.one_feed.GivesInTurn.{AddsUp}
use Rattle.sb_engines.proofs.feeds.one_feed.GiveLaws.{cause_of_none}
use Rattle.sb_engines.specs.feeds.RowsEnds.{rows_received, rows_sent}
use Rattle.sb_engines.specs.EngineLaws.{still_here}
use Rattle.sb_engines.specs.Feeders.{HasFed}
use Rattle.sb_run.proofs.InputPrinted.{input_printed, printed_cause, printed_ended, printed_source}
use Rattle.sb_run.proofs.Tied.{feeds_none}
use Rattle.sb_run.proofs.printing.work_and_print.Goals as goal

-- there was no memory for the ring
pub returns-in_default-clause-feeds : goal.returns-in_default-clause-feeds
returns-in_default-clause-feeds g c =
    let laws = g.met.R.RowOut g.world.𝓛 g.world.𝓜 g.world.𝓡 ((λ s x. x), (λ x. x), (λ x. x), λ x. x) in
    let adds_up : AddsUp g.R.RowOut.after g.R.RowOut.part = record { after_none = laws.after_none; after_more = laws.after_more; part_later = laws.part_later; part_of_all = laws.part_of_all } in
    feeds_none g.R.RowOut.after g.R.RowOut.part adds_up (plan_of c.args.common.now.cascade.now) (g.S.Source.left c.args.input.now) c.args.out.now _ c.args.dropped.now.items

pub returns-in_default-clause-same : goal.returns-in_default-clause-same
returns-in_default-clause-same g c = still_here c.args.common.now.cascade.now c.args.passes.now.feeder c.requires.begins.fed.ready

pub returns-in_default-clause-cause : goal.returns-in_default-clause-cause
returns-in_default-clause-cause g c = cause_of_none (g.R.RowOut.row_state c.args.out.now) _ (λ e. cc e)

-- the caller's thread printed what the feeder sent
pub returns-clause-feeds : goal.returns-clause-feeds
returns-clause-feeds g c =
    let laws = g.met.R.RowOut g.world.𝓛 g.world.𝓜 g.world.𝓡 ((λ s x. x), (λ x. x), (λ x. x), λ x. x) in
    let adds_up : AddsUp g.R.RowOut.after g.R.RowOut.part = record { after_none = laws.after_none; after_more = laws.after_more; part_later = laws.part_later; part_of_all = laws.part_of_all } in
    let beside = c.work_beside_printer-has_begun.ensures in
    let nothing = ap rows_sent c.new-sender.ensures ∙ c.in-Ok.ensures.nothing_sent in
    let tied = subst (λ x. IsPrefix (rows_received c.work_beside_printer-has_begun.new.printer.inward) (rows_sent x)) c.into_out.ensures c.tie.ensures in
    rw c.end_with.ensures
    (input_printed g.R.RowOut.after g.R.RowOut.part adds_up (plan_of c.args.common.now.cascade.now) c.args.common.now.size (g.S.Source.left c.args.input.now) (g.S.Source.left c.work_beside_printer-has_begun.new.input)
    (HasFed c.args.common.now.cascade.now c.work_beside_printer-has_begun.new.passes.feeder) (λ f rows h. h.so_far) c.args.dropped.now.items c.work_beside_printer-has_begun.new.dropped.items c.new-sender.result.out c.work_beside_printer-has_begun.new.sender.out nothing
    (rows_received c.work_beside_printer-has_begun.new.printer.inward) tied c.args.out.now c.work_beside_printer-has_begun.new.out _ _ c.work_beside_printer-has_begun.result.0.2 c.work_beside_printer-has_begun.result.1.1 beside.feeds beside.prints)

pub returns-clause-source : goal.returns-clause-source
returns-clause-source g c =
    rw c.end_with.ensures
    (printed_source (g.S.Source.faults c.args.input.now) (g.S.Source.faults c.work_beside_printer-has_begun.new.input) c.work_beside_printer-has_begun.result.0.2 c.work_beside_printer-has_begun.result.1.1 c.work_beside_printer-has_begun.ensures.source)

pub returns-clause-end : goal.returns-clause-end
returns-clause-end g c =
    rw c.end_with.ensures
    (printed_ended (g.S.Source.has_ended c.work_beside_printer-has_begun.new.input) c.work_beside_printer-has_begun.result.0.2 c.work_beside_printer-has_begun.result.1.1 c.work_beside_printer-has_begun.ensures.end)

pub returns-clause-cause : goal.returns-clause-cause
returns-clause-cause g c =
    rw c.end_with.ensures
    (printed_cause (g.R.RowOut.row_state c.args.out.now) (g.R.RowOut.row_state c.work_beside_printer-has_begun.new.out) c.work_beside_printer-has_begun.result.0.2 c.work_beside_printer-has_begun.result.1.1 c.work_beside_printer-has_begun.ensures.cause)
