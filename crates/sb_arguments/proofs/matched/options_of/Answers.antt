use Rattle.std.proofs.Common.{Some}
use Rattle.std.proofs.lemmas.Option.{same_Some}
use Rattle.sb_arguments.proofs.matched.options_of.Goals as goal

pub returns-in_err-workers : goal.returns-in_err-workers
returns-in_err-workers c options are = absurd (cc (c.in_err-workers.ensures options.workers are.in_range.some_worker are.in_range.workers are.workers))

pub returns-in_err-bundle : goal.returns-in_err-bundle
returns-in_err-bundle c options are = absurd (cc (c.in_err-bundle.ensures options.bundle are.in_range.some_record are.in_range.bundle are.bundle))

pub returns-in_err-pending : goal.returns-in_err-pending
returns-in_err-pending c options are = absurd (cc (c.in_err-pending.ensures options.pending are.in_range.some_bundle are.in_range.pending are.pending))

pub returns : goal.returns
returns c options are =
    let workers = same_Some c.in_ok-workers.workers options.workers (c.in_ok-workers.ensures options.workers are.in_range.some_worker are.in_range.workers are.workers) in
    let bundle = same_Some c.in_ok-bundle.bundle options.bundle (c.in_ok-bundle.ensures options.bundle are.in_range.some_record are.in_range.bundle are.bundle) in
    let pending = same_Some c.in_ok-pending.pending options.pending (c.in_ok-pending.ensures options.pending are.in_range.some_bundle are.in_range.pending are.pending) in
    let diary = c.is_given.ensures options.diary are.diary in
    let taps = c.is_given-2.ensures options.taps are.taps in
    λ i. Some (record { workers = workers i; bundle = bundle i; pending = pending i; diary = diary i; taps = taps i })
