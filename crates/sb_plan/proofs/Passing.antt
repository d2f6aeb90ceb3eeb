-- What passes the tests is a plan.
use Rattle.std.proofs.Common.{◌≡◌, ◌≤◌, ◌+◌, ◌∙◌, ℕ, List, length, Option, Some, None, Result, Ok, Err, refl, sym, ap, subst, arith}
use Rattle.std.specs.Prelude.{is_some, nat_lt, ◌==◌}
use Rattle.std.specs.List.{list_any}
use Rattle.std.proofs.lemmas.Bool.{ltb-false}
use Rattle.std.proofs.lemmas.Bool.Decides.{nat_tests}
use Rattle.toml.specs.Data.{Items, no_items, item, Members, as_array, as_str, as_table}
use Rattle.sb_pipeline.specs.records.declared.intake.LatePolicy.{LatePolicy}
use Rattle.sb_pipeline.specs.records.declared.intake.LatePolicy.TheVariants.{Refuse}
use Rattle.sb_pipeline.specs.records.declared.key.Keys.{Keys}
use Rattle.sb_pipeline.specs.records.declared.key.Keys.TheVariants.{Numbers}
use Rattle.sb_outside.specs.Folders.{Files}
use Rattle.sb_pipeline.specs.pardo.TableFiles.{or_fault}
use Rattle.sb_pipeline.specs.declared.transform.TheConstants.{MAX_TRANSFORMS}
use Rattle.sb_pipeline.specs.Plans.{IsPlan, has_windows}
use Rattle.sb_pipeline.specs.Shapes.{Shape}
use Rattle.sb_plan.specs.declared.entry.Entry.{Entry}
use Rattle.sb_plan.specs.declared.fault.PlanCause.{PlanCause}
use Rattle.sb_plan.specs.declared.fault.PlanCause.TheVariants as cause
use Rattle.sb_plan.specs.declared.fault.PlanFault.{PlanFault}
use Rattle.sb_plan.specs.declared.fault.PlanKey.TheVariants as key
use Rattle.sb_plan.specs.declared.wiring.Part.{Part}
use Rattle.sb_plan.specs.declared.wiring.Wiring.{Wiring}
use Rattle.sb_plan.specs.declared.words.KindName.{KindName}
use Rattle.sb_plan.specs.declared.words.KindName.TheVariants as kind
use Rattle.sb_plan.specs.declared.TheConstants.{MAX_PLAN_BYTES}
use Rattle.sb_plan.specs.Failures.{Failure, by_text}
use Rattle.sb_plan.specs.Failures.Failure.{Fails, NoFile}
use Rattle.sb_plan.specs.Keys.{typed_at, word_or}
use Rattle.sb_plan.specs.Words.{keys_named, late_named}
use Rattle.sb_plan.specs.Kinds.{transform_at}
use Rattle.sb_plan.specs.Entries.{all_keys, entry_at, is_key_of, kind_at, name_at, right_at}
use Rattle.sb_plan.specs.Wiring.{with_transform}
use Rattle.sb_plan.specs.Soundness.{IsOfKind, IsSound, IsValidEntry, names_join}
use Rattle.sb_plan.specs.PlanFiles.{at_place, document_of, with_element, fault_at, finished_plan, first_unused, is_document_key, item_count, plan_of, shape_of, transforms_of, first_wiring, used_by, with_elements_from}
use Rattle.sb_plan.proofs.Naming.{kind_at-named}
use Rattle.sb_plan.proofs.OfKinds.{transform-valid}
use Rattle.sb_plan.proofs.Passed.{of_text, passed, passed_if, passed_text, passed_unless}
use Rattle.sb_plan.proofs.Joined.{connected_sound}
use Rattle.sb_plan.proofs.Finishing.{is_plan}

-- the tests after a place's pass where all do
passed_place : {A B : Type 0} (place : ℕ) (r : Result A (Failure PlanCause)) (f : A → Result B (Failure PlanFault)) (b : B) → at_place place r f ≡ Ok b → (a : A) × (r ≡ Ok a) × (f a ≡ Ok b)
passed_place place (Ok a) f b h = (a, refl, h)
passed_place place (Err (Fails c)) f b h = cc
passed_place place (Err NoFile) f b h = cc

-- a right input is there just for a join
right-valid : (name : KindName) (table : Members) (right : Option (List ℕ)) → right_at name table ≡ Ok right → is_some right ≡ names_join name
unfolding right_at
right-valid kind.Join table right h =
    let input = passed (typed_at as_str key.With table) _ right h in
    let same : Some input.0 ≡ right = cc in
    ap is_some (sym same)
right-valid kind.Filter table right h = let same : None ≡ right = cc in ap is_some (sym same)
right-valid kind.Map table right h = let same : None ≡ right = cc in ap is_some (sym same)
right-valid kind.Expand table right h = let same : None ≡ right = cc in ap is_some (sym same)
right-valid kind.Lookup table right h = let same : None ≡ right = cc in ap is_some (sym same)
right-valid (kind.Group agg) table right h = let same : None ≡ right = cc in ap is_some (sym same)
right-valid kind.Top table right h = let same : None ≡ right = cc in ap is_some (sym same)
right-valid kind.Session table right h = let same : None ≡ right = cc in ap is_some (sym same)

entry-valid : (files : Files) (keys : Keys) (parts : List Part) (table : Members) (entry : Entry) → entry_at files keys parts table ≡ Ok entry → IsValidEntry entry
unfolding entry_at
entry-valid files keys parts table entry h =
    let name = passed_text (name_at parts table) _ entry h in
    let kind_name = passed_text (kind_at table) _ entry name.2 in
    let known = passed_if (all_keys (is_key_of kind_name.0) table) (Fails cause.UnknownField) _ entry kind_name.2 in
    let left = passed_text (typed_at as_str key.From table) _ entry known.1 in
    let transform = passed (transform_at files keys kind_name.0 table) _ entry left.2 in
    let right = passed_text (right_at kind_name.0 table) _ entry transform.2 in
    let of_kind : IsOfKind kind_name.0 transform.0 = transform-valid files keys kind_name.0 table transform.0 (kind_at-named table kind_name.0 kind_name.1) transform.1 in
    let same : record { name = name.0; kind = transform.0; left = left.0; right = right.0 } ≡ entry = cc in
    subst IsValidEntry same (of_kind.0, right-valid kind_name.0 table right.0 right.1 ∙ sym of_kind.1)

-- the wiring of elements that pass is sound
wired_sound : (files : Files) (place : ℕ) (w u : Wiring) (items : Items) → IsSound w → with_elements_from files place w items ≡ Ok u → IsSound u × (length u.parts ≡ length w.parts + item_count items)
unfolding with_elements_from with_element
wired_sound files place w u no_items is h =
    let same : w ≡ u = cc in
    subst (λ x. IsSound x × (length x.parts ≡ length w.parts + 0)) same (is, omega arith)
wired_sound files place w u (item value rest) is h =
    let more = passed_place place (with_element files w value) _ u h in
    let table = passed_text (or_fault (cause.WrongType key.Transform) (as_table value)) _ more.0 more.1 in
    let entry = passed (entry_at files w.keys w.parts table.0) _ more.0 table.2 in
    let one = connected_sound entry.0 w more.0 (of_text (with_transform entry.0 w) more.0 entry.2) (entry-valid files w.keys w.parts table.0 entry.0 entry.1) is in
    let all = wired_sound files (place + 1) more.0 u rest one.0 more.2 in
    (all.0, omega (arith, all.1, one.1))

unwired_sound : (late : LatePolicy) (keys : Keys) → IsSound (first_wiring late keys)
unwired_sound late keys = record {
  kinds = λ k p at. cc;
  joins = omega arith;
  downs = λ k p d at goes_to. cc;
  source_a = λ d e. cc;
  source_b = λ d e. cc;
  fed_once = λ d lane. absurd (omega (arith, lane));
  none_beyond = λ d past. refl;
}

-- the plan of the elements
elements_plan : (files : Files) (late : LatePolicy) (keys : Keys) (items : Items) (plan : Shape) → transforms_of files late keys items ≡ Ok plan → IsPlan plan
unfolding transforms_of finished_plan
elements_plan files late keys items plan h =
    let some = passed_unless (item_count items == 0) (Fails (fault_at 0 (cause.OutOfRange key.Transform))) _ plan h in
    let most = passed_unless (nat_lt MAX_TRANSFORMS (item_count items)) (Fails (fault_at 0 cause.TooMany)) _ plan some.1 in
    let wired = passed (with_elements_from files 1 (first_wiring late keys) items) _ plan most.1 in
    let sound = wired_sound files 1 (first_wiring late keys) wired.0 items (unwired_sound late keys) wired.1 in
    let one : 1 ≤ item_count items = let e = some.0 in grind (arith, nat_tests) in
    let twelve : item_count items ≤ MAX_TRANSFORMS = ltb-false MAX_TRANSFORMS (item_count items) most.0 in
    by_used wired.0 sound.0 (omega (arith, sound.1, one)) (omega (arith, sound.1, twelve)) (first_unused wired.0.parts) refl (of_text (finished_plan wired.0) plan wired.2)
  where
    by_used : (w : Wiring) → IsSound w → 1 ≤ length w.parts → length w.parts ≤ MAX_TRANSFORMS → (o : Option ℕ) → first_unused w.parts ≡ o → used_by o w ≡ Ok plan → IsPlan plan
    by_used w is one twelve (Some k) e g = cc
    by_used w is one twelve None e g =
        let windows = passed_if (list_any (λ part. has_windows part.kind) w.parts) (fault_at 0 cause.NoWindow) (Ok (shape_of w)) plan g in
        let same : shape_of w ≡ plan = let is_ok = windows.1 in cc in
        subst IsPlan same (is_plan w one twelve is e windows.0)

-- the plan of a text
pub text_plan : (files : Files) (text : List ℕ) (plan : Shape) → plan_of files text ≡ Ok plan → IsPlan plan
unfolding plan_of
text_plan files text plan h =
    let short = passed_unless (nat_lt MAX_PLAN_BYTES (length text)) (Fails (fault_at 0 cause.TooLong)) _ plan h in
    let document = passed_place 0 (by_text (or_fault cause.NotToml (document_of text))) _ plan short.1 in
    let known = passed_if (all_keys is_document_key document.0) (Fails (fault_at 0 cause.UnknownField)) _ plan document.2 in
    let late = passed_place 0 (by_text (word_or Refuse late_named key.Late document.0)) _ plan known.1 in
    let keys = passed_place 0 (by_text (word_or Numbers keys_named key.Keys document.0)) _ plan late.2 in
    let items = passed_place 0 (by_text (typed_at as_array key.Transform document.0)) _ plan keys.2 in
    elements_plan files late.0 keys.0 items.0 plan items.2
