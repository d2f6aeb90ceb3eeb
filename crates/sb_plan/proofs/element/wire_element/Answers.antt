use Rattle.std.proofs.Common.{◌≡◌, ◌∙◌, Some, Err, ap, refl, subst, sym}
use Rattle.toml.specs.Data.{Data, Members, as_table}
use Rattle.toml.specs.View.{table_view, view}
use Rattle.sb_outside.specs.Folders.{Files}
use Rattle.sb_plan.specs.Answers.{ChangesTo}
use Rattle.sb_plan.specs.Entries.{entry_at}
use Rattle.sb_plan.specs.Failures.Failure.{NoFile}
use Rattle.sb_plan.specs.PlanFiles.{with_element}
use Rattle.sb_plan.specs.Wants.{no_files}
use Rattle.sb_plan.specs.declared.wiring.Wiring.{Wiring}
use Rattle.sb_plan.proofs.Elements.{with_element-entry}
use Rattle.sb_plan.proofs.element.wire_element.Goals as goal

pub returns-in-Ok-clause-exact : goal.returns-in-Ok-clause-exact
returns-in-Ok-clause-exact g c = λ files told.
    let table = table_view c.in-Some.table.now in
    let entry = ap (λ parts. entry_at files c.args.wiring.now.keys parts table) (sym c.as_slice.ensures) ∙ c.in-Ok.ensures.exact files told in
    subst (λ wanted. ChangesTo c.connect.result wanted c.connect.new.wiring)
    (sym (with_element-entry files c.args.wiring.now (view c.args.value.now) table c.in-Ok.entry (sym c.in-Some.ensures) entry)) c.connect.ensures.exact

-- a table whose file is not there
absent : (files : Files) (wiring : Wiring) (value : Data) (table : Members) → as_table value ≡ Some table → entry_at files wiring.keys wiring.parts table ≡ Err NoFile
    → with_element files wiring value ≡ Err NoFile
unfolding with_element
absent files wiring value table is none = rw is (rw none refl)

pub returns-in-Ok-clause-alone : goal.returns-in-Ok-clause-alone
returns-in-Ok-clause-alone g c = λ wants.
    let table = table_view c.in-Some.table.now in
    let value = view c.args.value.now in
    let wiring = c.args.wiring.now in
    let at = ap (λ parts. entry_at no_files wiring.keys parts table) (sym c.as_slice.ensures) in
    let entry = at ∙ c.in-Ok.ensures.alone (λ none. wants (absent no_files wiring value table (sym c.in-Some.ensures) (at ∙ none))) in
    subst (λ wanted. ChangesTo c.connect.result wanted c.connect.new.wiring)
    (sym (with_element-entry no_files wiring value table c.in-Ok.entry (sym c.in-Some.ensures) entry)) c.connect.ensures.exact
