use Rattle.std.proofs.Common.{◌≤◌, ℕ, List, [], Ok, length}
use Rattle.sb_engines.specs.worker.cascade.Calls.{plan_of, setting_of}
use Rattle.sb_engines.proofs.feeds.one_feed.GiveLaws.{cause_then}
use Rattle.sb_engines.proofs.feeds.one_feed.GivesInTurn.{AddsUp}
use Rattle.sb_engines.specs.feeds.declared.limits.TheConstants.{MAX_FILE_LENGTH}
use Rattle.sb_engines.specs.Feeders.{HasFed}
use Rattle.sb_engines.specs.feeds.base.Inputs.{by_stream}
use Rattle.sb_run.specs.Pops.{values_of}
use Rattle.sb_run.proofs.FilesEnded.{something_fed, two_done, two_early, two_end_cause, two_memory, two_none, two_stopped}
use Rattle.sb_run.proofs.FilesOpened.{files_read, of_each}
use Rattle.sb_run.proofs.files.executing.execute_two.Goals as goal

pub returns-in_default-clause-ends : goal.returns-in_default-clause-ends
returns-in_default-clause-ends g c =
    let laws = g.met.R.RowOut g.world.𝓛 g.world.𝓜 g.world.𝓡 ((λ s x. x), (λ x. x), (λ x. x), λ x. x) in
    let adds_up : AddsUp g.R.RowOut.after g.R.RowOut.part = record { after_none = laws.after_none; after_more = laws.after_more; part_later = laws.part_later; part_of_all = laws.part_of_all } in
    two_none g.R.RowOut.after g.R.RowOut.part adds_up c.args.plan c.args.sizes (by_stream c.args.files.a.items c.args.files.b.items) c.args.out.now [] (by_stream c.args.dropped.now.a.items c.args.dropped.now.b.items)

pub returns-in_default-begin-clause-ends : goal.returns-in_default-begin-clause-ends
returns-in_default-begin-clause-ends g c =
    let laws = g.met.R.RowOut g.world.𝓛 g.world.𝓜 g.world.𝓡 ((λ s x. x), (λ x. x), (λ x. x), λ x. x) in
    let adds_up : AddsUp g.R.RowOut.after g.R.RowOut.part = record { after_none = laws.after_none; after_more = laws.after_more; part_later = laws.part_later; part_of_all = laws.part_of_all } in
    two_none g.R.RowOut.after g.R.RowOut.part adds_up c.args.plan c.args.sizes (by_stream c.args.files.a.items c.args.files.b.items) c.args.out.now [] (by_stream c.args.dropped.now.a.items c.args.dropped.now.b.items)

pub returns-then-not-clear-clause-ends : goal.returns-then-not-clear-clause-ends
returns-then-not-clear-clause-ends g c =
    let laws = g.met.R.RowOut g.world.𝓛 g.world.𝓜 g.world.𝓡 ((λ s x. x), (λ x. x), (λ x. x), λ x. x) in
    let adds_up : AddsUp g.R.RowOut.after g.R.RowOut.part = record { after_none = laws.after_none; after_more = laws.after_more; part_later = laws.part_later; part_of_all = laws.part_of_all } in
    let short = of_each (λ (l : List ℕ). length l ≤ MAX_FILE_LENGTH) c.args.files.a.items c.args.files.b.items c.requires.short_a c.requires.short_b in
    let read = files_read c.args.plan c.streams-streams.result c.late-late.result c.keys-keys.result c.streams-streams.ensures.value c.late-late.ensures c.keys-keys.ensures c.args.files.a.items c.args.files.b.items
    c.in-Ok.files c.in-Ok.inlets c.work-clear.new.ends.inlets c.in-Some.done c.in-Ok.ensures (rw c.in-Some.is at c.work-clear.ensures.read) c.tie_both.ensures.first_a c.tie_both.ensures.first_b in
    two_memory g.R.RowOut.after g.R.RowOut.part adds_up c.args.plan c.args.sizes c.in-Ok-begin.begun.cascade c.work-clear.new.passes.feeder c.in-Ok-begin.ensures.setting (by_stream c.args.files.a.items c.args.files.b.items) short
    (values_of c.work-clear.new.ends.inlets) read c.args.out.now c.work-clear.new.out _ _ (by_stream c.args.dropped.now.a.items c.args.dropped.now.b.items) (by_stream c.work-clear.new.dropped.a.items c.work-clear.new.dropped.b.items)
    c.work-clear.result.1 c.work-clear.ensures.feeds

pub returns-in-Err-clause-ends : goal.returns-in-Err-clause-ends
returns-in-Err-clause-ends g c =
    let laws = g.met.R.RowOut g.world.𝓛 g.world.𝓜 g.world.𝓡 ((λ s x. x), (λ x. x), (λ x. x), λ x. x) in
    let adds_up : AddsUp g.R.RowOut.after g.R.RowOut.part = record { after_none = laws.after_none; after_more = laws.after_more; part_later = laws.part_later; part_of_all = laws.part_of_all } in
    let short = of_each (λ (l : List ℕ). length l ≤ MAX_FILE_LENGTH) c.args.files.a.items c.args.files.b.items c.requires.short_a c.requires.short_b in
    let read = files_read c.args.plan c.streams-streams.result c.late-late.result c.keys-keys.result c.streams-streams.ensures.value c.late-late.ensures c.keys-keys.ensures c.args.files.a.items c.args.files.b.items
    c.in-Ok.files c.in-Ok.inlets c.work-clear.new.ends.inlets c.in-Some.done c.in-Ok.ensures (rw c.in-Some.is at c.work-clear.ensures.read) c.tie_both.ensures.first_a c.tie_both.ensures.first_b in
    rw c.early_end.ensures
    (two_early g.R.RowOut.after g.R.RowOut.part adds_up c.args.plan c.args.sizes c.in-Ok-begin.begun.cascade c.work-clear.new.passes.feeder c.in-Ok-begin.ensures.setting (by_stream c.args.files.a.items c.args.files.b.items) short
    (values_of c.work-clear.new.ends.inlets) read c.args.out.now c.work-clear.new.out _ _ (by_stream c.args.dropped.now.a.items c.args.dropped.now.b.items) (by_stream c.work-clear.new.dropped.a.items c.work-clear.new.dropped.b.items)
    c.in-Err.why (rw c.in-Err.is at c.work-clear.ensures.feeds))

pub come_back-requires-clause-feeder : goal.come_back-requires-clause-feeder
come_back-requires-clause-feeder g c κs within =
    let cascade = c.in-Ok-begin.begun.cascade in
    something_fed g.R.RowOut.after (plan_of cascade) (setting_of cascade).bundle (values_of c.work-clear.new.ends.inlets) (HasFed cascade c.work-clear.new.passes.feeder) c.args.out.now c.work-clear.new.out _ _
    (by_stream c.args.dropped.now.a.items c.args.dropped.now.b.items) (by_stream c.work-clear.new.dropped.a.items c.work-clear.new.dropped.b.items)
    c.in-Ok-fed.stop (rw c.in-Ok-fed.is at c.work-clear.ensures.feeds)

pub returns-in-Ok-come_back-clause-output : goal.returns-in-Ok-come_back-clause-output
returns-in-Ok-come_back-clause-output g c =
    let hand = c.in-Ok-come_back.hand in
    rw c.end_of.ensures
    (two_end_cause _ _ hand c.in-Ok-fed.stop hand (cause_then _ _ _ c.in-Ok-fed.stop (Ok hand) (rw c.in-Ok-fed.is at c.work-clear.ensures.cause) c.in-Ok-come_back.ensures.cause))

pub returns-in-Ok-come_back-clause-ends : goal.returns-in-Ok-come_back-clause-ends
returns-in-Ok-come_back-clause-ends g c =
    let laws = g.met.R.RowOut g.world.𝓛 g.world.𝓜 g.world.𝓡 ((λ s x. x), (λ x. x), (λ x. x), λ x. x) in
    let adds_up : AddsUp g.R.RowOut.after g.R.RowOut.part = record { after_none = laws.after_none; after_more = laws.after_more; part_later = laws.part_later; part_of_all = laws.part_of_all } in
    let short = of_each (λ (l : List ℕ). length l ≤ MAX_FILE_LENGTH) c.args.files.a.items c.args.files.b.items c.requires.short_a c.requires.short_b in
    let read = files_read c.args.plan c.streams-streams.result c.late-late.result c.keys-keys.result c.streams-streams.ensures.value c.late-late.ensures c.keys-keys.ensures c.args.files.a.items c.args.files.b.items
    c.in-Ok.files c.in-Ok.inlets c.work-clear.new.ends.inlets c.in-Some.done c.in-Ok.ensures (rw c.in-Some.is at c.work-clear.ensures.read) c.tie_both.ensures.first_a c.tie_both.ensures.first_b in
    rw c.end_of.ensures
    (two_done g.R.RowOut.after g.R.RowOut.part adds_up c.args.plan c.args.sizes c.in-Ok-begin.begun.cascade c.work-clear.new.passes.feeder c.in-Ok-begin.ensures.setting (by_stream c.args.files.a.items c.args.files.b.items) short
    (values_of c.work-clear.new.ends.inlets) read c.args.out.now c.work-clear.new.out _ _ (by_stream c.args.dropped.now.a.items c.args.dropped.now.b.items) (by_stream c.work-clear.new.dropped.a.items c.work-clear.new.dropped.b.items)
    c.come_back.new.out _ c.in-Ok-fed.stop (rw c.in-Ok-fed.is at c.work-clear.ensures.feeds) c.in-Ok-come_back.hand c.in-Ok-come_back.ensures.comes)

pub returns-clause-ends : goal.returns-clause-ends
returns-clause-ends g c =
    let laws = g.met.R.RowOut g.world.𝓛 g.world.𝓜 g.world.𝓡 ((λ s x. x), (λ x. x), (λ x. x), λ x. x) in
    let adds_up : AddsUp g.R.RowOut.after g.R.RowOut.part = record { after_none = laws.after_none; after_more = laws.after_more; part_later = laws.part_later; part_of_all = laws.part_of_all } in
    let short = of_each (λ (l : List ℕ). length l ≤ MAX_FILE_LENGTH) c.args.files.a.items c.args.files.b.items c.requires.short_a c.requires.short_b in
    let read = files_read c.args.plan c.streams-streams.result c.late-late.result c.keys-keys.result c.streams-streams.ensures.value c.late-late.ensures c.keys-keys.ensures c.args.files.a.items c.args.files.b.items
    c.in-Ok.files c.in-Ok.inlets c.work-clear.new.ends.inlets c.in-Some.done c.in-Ok.ensures (rw c.in-Some.is at c.work-clear.ensures.read) c.tie_both.ensures.first_a c.tie_both.ensures.first_b in
    rw c.early_end-in-Err-come_back.ensures
    (two_stopped g.R.RowOut.after g.R.RowOut.part adds_up c.args.plan c.args.sizes c.in-Ok-begin.begun.cascade c.work-clear.new.passes.feeder c.in-Ok-begin.ensures.setting (by_stream c.args.files.a.items c.args.files.b.items) short
    (values_of c.work-clear.new.ends.inlets) read c.args.out.now c.work-clear.new.out _ _ (by_stream c.args.dropped.now.a.items c.args.dropped.now.b.items) (by_stream c.work-clear.new.dropped.a.items c.work-clear.new.dropped.b.items)
    c.come_back.new.out _ c.in-Ok-fed.stop (rw c.in-Ok-fed.is at c.work-clear.ensures.feeds) c.in-Err-come_back.why c.in-Err-come_back.ensures.comes)
