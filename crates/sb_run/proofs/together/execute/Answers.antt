use Rattle.std.proofs.Common.{[], true}
use Rattle.sb_engines.proofs.feeds.one_feed.GivesInTurn.{AddsUp}
use Rattle.sb_engines.proofs.Returned.{output-early, shared-done, shared-early, shared-early_cause, shared-stopped, shared-wanting}
use Rattle.sb_engines.proofs.alone.Starting.{ends_none}
use Rattle.sb_run.proofs.together.execute.Goals as goal

pub returns-in-Err-clause-ends : goal.returns-in-Err-clause-ends
returns-in-Err-clause-ends g c =
    let laws = g.met.R.RowOut g.world.𝓛 g.world.𝓜 g.world.𝓡 ((λ s x. x), (λ x. x), (λ x. x), λ x. x) in
    ends_none c.args.plan c.args.sizes (g.S.Source.left c.args.input.now) g.R.RowOut.after g.R.RowOut.part laws.after_none laws.part_of_all c.args.out.now [] c.args.dropped.now.items

pub returns-then-not-clear-clause-ends : goal.returns-then-not-clear-clause-ends
returns-then-not-clear-clause-ends g c =
    let laws = g.met.R.RowOut g.world.𝓛 g.world.𝓜 g.world.𝓡 ((λ s x. x), (λ x. x), (λ x. x), λ x. x) in
    let adds_up : AddsUp g.R.RowOut.after g.R.RowOut.part = record { after_none = laws.after_none; after_more = laws.after_more; part_later = laws.part_later; part_of_all = laws.part_of_all } in
    let b = c.in-Ok.begun in
    shared-wanting g.R.RowOut.after g.R.RowOut.part adds_up c.args.plan c.args.sizes b.cascade c.work_and_print-clear.new.passes.feeder c.in-Ok.ensures.setting (g.S.Source.left c.args.input.now) (g.S.Source.left c.work_and_print-clear.new.input) c.args.out.now c.work_and_print-clear.new.out _ _ c.args.dropped.now.items c.work_and_print-clear.new.dropped.items
    c.work_and_print-clear.result.1 c.work_and_print-clear.ensures.feeds

pub returns-in-Err-fed-clause-ends : goal.returns-in-Err-fed-clause-ends
returns-in-Err-fed-clause-ends g c =
    let laws = g.met.R.RowOut g.world.𝓛 g.world.𝓜 g.world.𝓡 ((λ s x. x), (λ x. x), (λ x. x), λ x. x) in
    let adds_up : AddsUp g.R.RowOut.after g.R.RowOut.part = record { after_none = laws.after_none; after_more = laws.after_more; part_later = laws.part_later; part_of_all = laws.part_of_all } in
    let b = c.in-Ok.begun in
    rw c.early_end.ensures
    (shared-early g.R.RowOut.after g.R.RowOut.part adds_up c.args.plan c.args.sizes b.cascade c.work_and_print-clear.new.passes.feeder c.in-Ok.ensures.setting (g.S.Source.left c.args.input.now) (g.S.Source.left c.work_and_print-clear.new.input) c.args.out.now c.work_and_print-clear.new.out _ _ c.args.dropped.now.items c.work_and_print-clear.new.dropped.items
    (record { plan = c.args.plan; bundle = 0; pending = 0; nodes = []; tray = []; spent = true }) c.in-Err-fed.why (rw c.in-Err-fed.is at c.work_and_print-clear.ensures.feeds))

pub returns-in-Err-fed-clause-input : goal.returns-in-Err-fed-clause-input
returns-in-Err-fed-clause-input g c = rw c.early_end.ensures (shared-early_cause _ _ c.in-Err-fed.why (rw c.in-Err-fed.is at c.work_and_print-clear.ensures.source))

pub returns-in-Err-fed-clause-output : goal.returns-in-Err-fed-clause-output
returns-in-Err-fed-clause-output g c = rw c.early_end.ensures (output-early c.args.plan _ _ c.in-Err-fed.why (rw c.in-Err-fed.is at c.work_and_print-clear.ensures.cause))

pub returns-in-Ok-come_back-clause-ends : goal.returns-in-Ok-come_back-clause-ends
returns-in-Ok-come_back-clause-ends g c =
    let laws = g.met.R.RowOut g.world.𝓛 g.world.𝓜 g.world.𝓡 ((λ s x. x), (λ x. x), (λ x. x), λ x. x) in
    let adds_up : AddsUp g.R.RowOut.after g.R.RowOut.part = record { after_none = laws.after_none; after_more = laws.after_more; part_later = laws.part_later; part_of_all = laws.part_of_all } in
    let b = c.in-Ok.begun in
    rw c.end_of.ensures
    (shared-done g.R.RowOut.after g.R.RowOut.part adds_up c.args.plan c.args.sizes b.cascade c.work_and_print-clear.new.passes.feeder c.in-Ok.ensures.setting (g.S.Source.left c.args.input.now) (g.S.Source.left c.work_and_print-clear.new.input) c.args.out.now c.work_and_print-clear.new.out _ _ c.args.dropped.now.items c.work_and_print-clear.new.dropped.items
    c.in-Ok-come_back.hand c.come_back.new.out _ c.in-Ok-fed.stop (rw c.in-Ok-fed.is at c.work_and_print-clear.ensures.feeds) c.in-Ok-come_back.ensures.comes)

pub returns-clause-ends : goal.returns-clause-ends
returns-clause-ends g c =
    let laws = g.met.R.RowOut g.world.𝓛 g.world.𝓜 g.world.𝓡 ((λ s x. x), (λ x. x), (λ x. x), λ x. x) in
    let adds_up : AddsUp g.R.RowOut.after g.R.RowOut.part = record { after_none = laws.after_none; after_more = laws.after_more; part_later = laws.part_later; part_of_all = laws.part_of_all } in
    let b = c.in-Ok.begun in
    rw c.early_end-in-Err-come_back.ensures
    (shared-stopped g.R.RowOut.after g.R.RowOut.part adds_up c.args.plan c.args.sizes b.cascade c.work_and_print-clear.new.passes.feeder c.in-Ok.ensures.setting (g.S.Source.left c.args.input.now) (g.S.Source.left c.work_and_print-clear.new.input) c.args.out.now c.work_and_print-clear.new.out _ _ c.args.dropped.now.items c.work_and_print-clear.new.dropped.items
    (record { plan = c.args.plan; bundle = 0; pending = 0; nodes = []; tray = []; spent = true }) c.come_back.new.out _ c.in-Ok-fed.stop c.in-Err-come_back.why (rw c.in-Ok-fed.is at c.work_and_print-clear.ensures.feeds) c.in-Err-come_back.ensures.comes)
