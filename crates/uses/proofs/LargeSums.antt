-- A filter and a sum, one after the other.
use Rattle.std.proofs.Common.{◌≡◌, ◌≤◌, ◌<◌, ℕ, ℤ, Bool, true, false, cond, List, [], ◌∷◌, ◌++◌, All, slice_get, Some, None, zero, suc, refl, sym, ap, subst, ◌∙◌, arith, rules, lit≤, lit<}
use Rattle.std.specs.List.{filter, flat_map}
use Rattle.std.proofs.lemmas.Option.{same_Some}
use Rattle.std.proofs.lemmas.List.Elements.{All-from_recursion, recursion_from_All}
use Rattle.sb_cli.specs.base.records.declared.item.Item.{Item}
use Rattle.sb_cli.specs.base.records.declared.item.Stream.{Stream}
use Rattle.sb_cli.specs.base.records.declared.item.Stream.TheVariants.{A}
use Rattle.sb_cli.specs.base.records.declared.item.TheConstants.{END_MARK, MAX_TIME}
use Rattle.sb_cli.specs.base.records.declared.key.Keys.TheVariants.{Numbers}
use Rattle.sb_cli.specs.base.records.Lines.{IsItemInRange}
use Rattle.sb_cli.specs.base.records.Records.{before, sorted_records}
use Rattle.sb_cli.specs.base.records.Streams.{records_of}
use Rattle.sb_cli.proofs.base.records.InputLemmas.{records-in_range}
use Rattle.sb_cli.specs.base.window.Aggregations.{sum_rows}
use Rattle.sb_cli.specs.base.window.declared.windows.TheConstants.{MAX_SIZE}
use Rattle.sb_cli.specs.base.window.Spacing.{AreWindows, fixed_windows}
use Rattle.sb_cli.specs.base.pardo.declared.operation.Field.TheVariants.{Value}
use Rattle.sb_cli.specs.base.pardo.declared.operation.Test.TheVariants.{AtLeast}
use Rattle.sb_cli.specs.base.pardo.declared.operation.Op.TheVariants.{Filter}
use Rattle.sb_cli.specs.base.pardo.Outputs.{outputs_of}
use Rattle.sb_cli.specs.base.pipeline.declared.transform.Step.{Step}
use Rattle.sb_cli.specs.base.pipeline.Plans.{IsPlace, IsPlan, IsValidKind}
use Rattle.sb_cli.specs.base.pipeline.Results.{all_rows}
use Rattle.sb_cli.specs.base.pipeline.Shapes.{feeds, shape_of}
use Rattle.sb_cli.proofs.base.records.OnLanes.{all_records-on_lane}
use Rattle.uses.specs.LargeSums.{large_sums_steps, large_sums_plan, large_sums}

-- each transform sends to a later node
further : (least : ℤ) (size k : ℕ) (s : Step) → slice_get (large_sums_steps least size) k ≡ Some s → k < s.down.node
further least size zero s is = subst (λ (t : Step). 0 < t.down.node) (same_Some _ s is) (lit< tt)
further least size (suc zero) s is = subst (λ (t : Step). 1 < t.down.node) (same_Some _ s is) (lit< tt)
further least size (suc (suc k)) s is = cc

-- each of the three lanes is fed once
fed_once : (least : ℤ) (size node lane : ℕ) → IsPlace (large_sums_steps least size) (record { node = node; lane = lane })
    → feeds (large_sums_plan least size) (record { node = node; lane = lane }) ≡ 1
fed_once least size zero zero is = refl
fed_once least size (suc zero) zero is = refl
fed_once least size (suc (suc zero)) zero is = refl
fed_once least size (suc (suc (suc node))) lane is = absurd (omega (arith, is.0))
fed_once least size zero (suc lane) is = absurd (omega (arith, is.1))
fed_once least size (suc zero) (suc lane) is = absurd (omega (arith, is.1))
fed_once least size (suc (suc zero)) (suc lane) is = absurd (omega (arith, is.1))

-- no rule of plans is broken
is_plan : (least : ℤ) (size : ℕ) → AreWindows (fixed_windows size) → IsPlan (large_sums_plan least size)
is_plan least size valid =
    let steps = large_sums_steps least size in
    record {
      some = lit≤ tt;
      most = lit≤ tt;
      kinds = All-from_recursion (λ s. IsValidKind s.kind) steps (tt, ((tt, valid), tt));
      joins = lit≤ tt;
      windows = lit≤ tt;
      further = further least size;
      places = All-from_recursion (λ s. IsPlace steps s.down) steps ((lit≤ tt, lit< tt), ((lit≤ tt, lit< tt), tt));
      source_a = (lit≤ tt, lit< tt);
      source_b = tt;
      fed_once = λ place. fed_once least size place.node place.lane;
    }

-- the sizes that there are windows of
are_windows : (size : ℕ) → 1 ≤ size → size ≤ MAX_SIZE → AreWindows (fixed_windows size)
are_windows size some most = search rules

pub steps_are_plan : (least : ℤ) (size : ℕ) (steps : List Step) → 1 ≤ size → size ≤ MAX_SIZE → steps ≡ large_sums_steps least size
    → IsPlan (shape_of steps (Some (record { node = 0; lane = 0 })) None)
steps_are_plan least size steps some most are =
    subst (λ (l : List Step). IsPlan (shape_of l (Some (record { node = 0; lane = 0 })) None)) (sym are) (is_plan least size (are_windows size some most))

-- what a filter gives is a list with some elements left out
passed : {X : Type 0} (test : X → Bool) (xs : List X) → flat_map (λ x. cond (test x) (x ∷ []) []) xs ≡ filter test xs
passed test [] = refl
passed test (x ∷ xs) =
    elim (test x) as (λ b. cond b (x ∷ []) [] ++ flat_map (λ x. cond (test x) (x ∷ []) []) xs ≡ cond b (x ∷ filter test xs) (filter test xs))
    [ true ↦ ap (λ l. x ∷ l) (passed test xs) | false ↦ passed test xs ]

-- the rows of the plan are the sums of the large values
pub rows_are_sums : (least : ℤ) (size : ℕ) (items : List Item) → all_rows (large_sums_plan least size) (λ s. records_of s items) ≡ large_sums least size items
rows_are_sums least size items =
    let kept = flat_map (outputs_of (Filter Value AtLeast least)) in
    ap (λ l. sorted_records (before END_MARK l)) (all_records-on_lane 0 _
    ∙ ap (sum_rows (fixed_windows size)) (all_records-on_lane 0 _ ∙ ap kept (all_records-on_lane 0 (records_of A items)) ∙ passed _ (records_of A items)))

-- records of items in range are in time
pub in_time : (s : Stream) (items : List Item) → All (IsItemInRange Numbers) items → All (λ r. r.time ≤ MAX_TIME) (records_of s items)
in_time s items range = All-from_recursion (λ r. r.time ≤ MAX_TIME) (records_of s items) (records-in_range Numbers s items (recursion_from_All (IsItemInRange Numbers) items range))
