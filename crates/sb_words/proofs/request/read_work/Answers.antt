use Rattle.std.proofs.Common.{refl}
use Rattle.sb_words.proofs.Commands.{is_work, no_answer, no_work}
use Rattle.sb_words.proofs.request.read_work.Goals as goal

pub returns-in_err-options-clause-exact : goal.returns-in_err-options-clause-exact
returns-in_err-options-clause-exact c =
    no_answer _ c.from_residual-in_err-options.ensures _ (no_work c.args.argument.now _ c.in_err-options.ensures.exact)

pub returns-clause-exact : goal.returns-clause-exact
returns-clause-exact c =
    let is = (c.in_ok-records.ensures c.in_ok-records.records).0 refl in
    is_work c.args.argument.now _ c.in_ok-records.records (is.0, is.1) (rw (← c.as_bytes.ensures.value) is.2) c.in_ok-options.options c.in_ok-options.ensures.exact

pub returns-clause-valid : goal.returns-clause-valid
returns-clause-valid c =
    let is = (c.in_ok-records.ensures c.in_ok-records.records).0 refl in
    ((is.0, is.1), c.in_ok-options.ensures.valid.0, c.in_ok-options.ensures.valid.1)
