-- The elements of the array of transforms, one after another.
use Rattle.std.proofs.Common.{◌≡◌, ◌≤◌, ◌+◌, ℕ, arith, drop, List, [], ◌∷◌, length, Some, Ok, Err, refl}
use Rattle.toml.specs.Data.{Data, Items, Members, item, as_table}
use Rattle.sb_outside.specs.Folders.{Files}
use Rattle.sb_plan.specs.declared.fault.PlanCause.{PlanCause}
use Rattle.sb_plan.specs.declared.wiring.Wiring.{Wiring}
use Rattle.sb_plan.specs.declared.entry.Entry.{Entry}
use Rattle.sb_plan.specs.Failures.{by_text}
use Rattle.sb_plan.specs.Failures.Failure.{Fails}
use Rattle.sb_plan.specs.Entries.{entry_at}
use Rattle.sb_plan.specs.Wiring.{with_transform}
use Rattle.std.proofs.lemmas.List.{drop_all}
use Rattle.toml.specs.View.{items_view}
use Rattle.toml.specs.declared.value.Value.{Value}
use Rattle.sb_plan.specs.PlanFiles.{with_element, fault_at, item_count, with_elements_from}

-- one element more
pub takes_passed : (files : Files) (place : ℕ) (old new : Wiring) (value : Data) (rest : Items) → with_element files old value ≡ Ok new
    → with_elements_from files place old (item value rest) ≡ with_elements_from files (place + 1) new rest
unfolding with_elements_from
takes_passed files place old new value rest h = rw h refl

pub takes_refused : (files : Files) (place : ℕ) (old : Wiring) (value : Data) (rest : Items) (cause : PlanCause) → with_element files old value ≡ Err (Fails cause)
    → with_elements_from files place old (item value rest) ≡ Err (Fails (fault_at place cause))
unfolding with_elements_from
takes_refused files place old value rest cause h = rw h refl

pub with_element-entry : (files : Files) (wiring : Wiring) (value : Data) (table : Members) (entry : Entry) → as_table value ≡ Some table → entry_at files wiring.keys wiring.parts table ≡ Ok entry
    → with_element files wiring value ≡ by_text (with_transform entry wiring)
unfolding with_element
with_element-entry files wiring value table entry is h = rw is (rw h refl)

pub with_elements_from-past : (files : Files) (place : ℕ) (wiring : Wiring) (vs : List Value) (i : ℕ) → length vs ≤ i → with_elements_from files place wiring (items_view (drop i vs)) ≡ Ok wiring
unfolding with_elements_from
with_elements_from-past files place wiring vs i past = rw (drop_all i vs past)

pub item_count_view : (vs : List Value) → item_count (items_view vs) ≡ length vs
item_count_view [] = refl
item_count_view (v ∷ vs) = rw (item_count_view vs) (omega arith)
