use Rattle.std.proofs.Common.{◌≤◌, ◌∙◌, length, subst, sym, rules}
use Rattle.sb_plan.specs.Answers.{AnswersTests}
use Rattle.sb_plan.proofs.OfKinds.{looked_up-valid}
use Rattle.sb_plan.proofs.Files.{lookup-read, lookup-unfound}
use Rattle.toml.specs.View.{table_view}
use Rattle.sb_plan.proofs.table.lookup_at.Goals as goal

pub returns-clause-exact : goal.returns-clause-exact
returns-clause-exact g c = λ files told.
    let read = c.in_ok-bytes.ensures.bytes files told in
    let name = c.in_ok-name.name.now in
    let some : 1 ≤ length name = search rules in
    subst (λ wanted. AnswersTests c.lookup_in.result wanted)
    (sym (lookup-read files c.args.keys (table_view c.args.table.now) name read.0 c.deref.result.now c.in_ok-name.ensures some read.1 (c.deref.ensures.value ∙ read.2)))
    c.lookup_in.ensures.exact

pub returns-clause-valid : goal.returns-clause-valid
returns-clause-valid g c = looked_up-valid c.args.keys c.deref.result.now c.lookup_in.result c.lookup_in.ensures.exact

pub returns-clause-alone : goal.returns-clause-alone
returns-clause-alone g c = λ wants.
    let name = c.in_ok-name.name.now in
    let some : 1 ≤ length name = search rules in
    absurd (wants (lookup-unfound c.args.keys (table_view c.args.table.now) name c.in_ok-name.ensures some))

pub returns-in_err-bytes-clause-unblamed : goal.returns-in_err-bytes-clause-unblamed
returns-in_err-bytes-clause-unblamed g c = λ wants.
    let name = c.in_ok-name.name.now in
    let some : 1 ≤ length name = search rules in
    absurd (wants (lookup-unfound c.args.keys (table_view c.args.table.now) name c.in_ok-name.ensures some))
