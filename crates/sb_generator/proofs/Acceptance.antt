-- What is accepted of the generated lines, and of the first of them.
use Rattle.std.proofs.Common.{◌≡◌, ◌==◌, ℕ, zero, suc, ◌+◌, ◌*◌, ◌/◌, ◌%◌, ◌<◌, ◌≤◌, ◌++◌, List, [], ◌∷◌, length, Bool, Option, Some, None, Result, Ok, Err, refl, sym, ap, ◌∙◌, arith, inl, inr, append-nil, append_assoc, length-append, map, true, false, ◌≢◌}
use Rattle.std.specs.List.{flat_map, range_with_len}
use Rattle.std.proofs.lemmas.Bool.{cases_Bool, eqb-true, eqb-false, le-ltb, lt-leb}
use Rattle.std.proofs.lemmas.List.Folds.{flat_map-map}
use Rattle.sb_outside.specs.Lines.{lines}
use Rattle.sb_record.specs.declared.item.Item.{Item}
use Rattle.sb_record.specs.declared.item.Item.TheVariants.{Rec, Mark}
use Rattle.sb_record.specs.declared.item.Stream.TheVariants.{A}
use Rattle.sb_record.specs.declared.item.Streams.{Streams}
use Rattle.sb_record.specs.declared.key.Keys.{Keys}
use Rattle.sb_record.specs.declared.key.Keys.TheVariants.{Numbers}
use Rattle.sb_record.specs.declared.intake.LatePolicy.{LatePolicy}
use Rattle.sb_record.specs.declared.intake.LatePolicy.TheVariants.{Refuse}
use Rattle.sb_record.specs.declared.intake.Refusal.{Refusal}
use Rattle.sb_record.specs.declared.intake.TheConstants.{MAX_LINES}
use Rattle.sb_record.specs.Progress.{Progress}
use Rattle.sb_record.specs.Intake.{answer_to, timely, after}
use Rattle.sb_record.specs.declared.intake.Stop.TheVariants.{Refused}
use Rattle.sb_record.specs.Inputs.{Accepted, progress_of, accepted_if, accepted_after, stop_of}
use Rattle.sb_record.specs.Reading.{item_of}
use Rattle.sb_record.specs.Streams.{last_watermark}
use Rattle.sb_record.proofs.InputLemmas.{progress-more}
use Rattle.sb_generator.specs.declared.pattern.TheConstants.{MAX_RECORDS}
use Rattle.sb_generator.specs.Generated.{record_at, items_at, line_of, generated_items, generated_text}
use Rattle.sb_generator.specs.Laws.{only_a, accepted_of, GeneratedTextIsAccepted}
use Rattle.sb_generator.proofs.GeneratedLines.{record_line, mark_line, record_read, mark_read, all_whole}
use Rattle.sb_generator.proofs.TextLines.{ended_line, lines_of_text, first_lines}

-- what these items have said
abbrev said : List Item → Progress
said items = progress_of only_a Refuse Numbers items

-- what is accepted of lines behind these items
abbrev pub accepted_behind : List Item → List (List ℕ) → Accepted
accepted_behind items lines = accepted_after only_a Refuse Numbers items lines

-- if no line is refused, then none of the first ones is
pub none_before : (streams : Streams) (late : LatePolicy) (keys : Keys) (xs ys : List (List ℕ)) (items : List Item)
    → (accepted_after streams late keys items (xs ++ ys)).refused ≡ None → (accepted_after streams late keys items xs).refused ≡ None
none_before streams late keys [] ys items h = refl
none_before streams late keys (x ∷ xs) ys items h =
    by_result (answer_to (progress_of streams late keys items) x) (λ more. none_before streams late keys xs ys more) h
  where
    by_result : (r : Result Item Refusal)
        → ((more : List Item) → (accepted_after streams late keys more (xs ++ ys)).refused ≡ None → (accepted_after streams late keys more xs).refused ≡ None)
        → (accepted_if r items (λ more. accepted_after streams late keys more (xs ++ ys))).refused ≡ None
        → (accepted_if r items (λ more. accepted_after streams late keys more xs)).refused ≡ None
    by_result (Ok i) on e = on (items ++ i ∷ []) e
    by_result (Err refusal) on e = cc e

one_accepted : (items : List Item) (line : List ℕ) (lines : List (List ℕ)) (item : Item) → answer_to (said items) line ≡ Ok item
    → accepted_behind items (line ∷ lines) ≡ accepted_behind (items ++ item ∷ []) lines
one_accepted items line lines item h = ap (λ r. accepted_if r items (λ more. accepted_behind more lines)) h

tested_passes : (items : List Item) (line : List ℕ) (item : Item) → length items < MAX_LINES → length line ≤ 128
    → item_of Numbers line ≡ Some item → timely (said items) (length items + 1) item ≡ Ok item → answer_to (said items) line ≡ Ok item
tested_passes items line item few short read in_time = rw (lt-leb 4294967295 (length items) few, le-ltb 128 (length line) short, read) in_time

mark_more : (items : List Item) (i : Item) → last_watermark A (items ++ i ∷ []) ≡ (after i (said items)).mark_a
mark_more items i = ap (λ (p : Progress). p.mark_a) (progress-more only_a Refuse Numbers items i)

-- a record that is not below the last watermark is accepted
record_passes : (i : ℕ) (items : List Item) → i < MAX_RECORDS → last_watermark A items ≤ (record_at i).time → length items < MAX_LINES
    → answer_to (said items) (line_of (Rec A (record_at i))) ≡ Ok (Rec A (record_at i))
record_passes i items less mark few =
    tested_passes items (line_of (Rec A (record_at i))) (Rec A (record_at i)) few (record_line i less).short (record_read i less)
    (rw (le-ltb (record_at i).time (last_watermark A items) mark) refl)

mark_passes : (i : ℕ) (items : List Item) → i < MAX_RECORDS → last_watermark A items ≤ i + 1 → length items < MAX_LINES
    → answer_to (said items) (line_of (Mark A (i + 1))) ≡ Ok (Mark A (i + 1))
mark_passes i items less mark few =
    tested_passes items (line_of (Mark A (i + 1))) (Mark A (i + 1)) few (mark_line i less).short (mark_read i less)
    (rw (le-ltb (i + 1) (last_watermark A items) mark) refl)

-- the items before record i: their last watermark is the last multiple of 8, and each record has at most one
pub record AreBefore (i : ℕ) (items : List Item) : Type 0 where
  pub mark : last_watermark A items ≡ 8 * (i / 8)
  pub few : length items ≤ 2 * i

none_yet : AreBefore 0 []
none_yet = record { mark = omega arith; few = omega arith }

-- the lines of the records from number i on are accepted behind the items before
pub all_accepted : (k i : ℕ) (items : List Item) → i + k ≤ MAX_RECORDS → AreBefore i items
    → accepted_behind items (map line_of (flat_map items_at (range_with_len i k)))
    ≡ record { items = items ++ flat_map items_at (range_with_len i k); refused = None }
all_accepted zero i items fits before = λ j. record { items = sym (append-nil items) j; refused = None }
all_accepted (suc k) i items fits before =
    let less : i < MAX_RECORDS = omega (arith, fits) in
    let few : length items < MAX_LINES = omega (arith, before.few, less) in
    let item = Rec A (record_at i) in
    let taken = items ++ item ∷ [] in
    let rest = flat_map items_at (range_with_len (i + 1) k) in
    let passes = record_passes i items less (omega (arith, before.mark)) few in
    let same : last_watermark A taken ≡ 8 * (i / 8) = mark_more items item ∙ before.mark in
    let size : length taken ≡ length items + 1 = length-append items (item ∷ []) in
    elim (cases_Bool (i % 8 == 7)) [
      | inl last ↦
          let at : i % 8 ≡ 7 = eqb-true (i % 8) 7 last in
          let mark = Mark A (i + 1) in
          let both = taken ++ mark ∷ [] in
          let two = one_accepted taken (line_of mark) (map line_of rest) mark (mark_passes i taken less (omega (arith, same)) (omega (arith, size, before.few, less))) in
          let multiple : i + 1 ≡ 8 * ((i + 1) / 8) = omega (arith, at) in
          let next : AreBefore (i + 1) both = record {
            mark = mark_more taken mark ∙ multiple;
            few = omega (arith, size, length-append taken (mark ∷ []), before.few);
          }
          in
          let joined : both ++ rest ≡ items ++ item ∷ mark ∷ rest = append_assoc taken (mark ∷ []) rest ∙ append_assoc items (item ∷ []) (mark ∷ rest) in
          rw last (one_accepted items (line_of item) (line_of mark ∷ map line_of rest) item passes ∙ two ∙ all_accepted k (i + 1) both (omega (arith, fits)) next ∙ (λ j. record { items = joined j; refused = None }))
      | inr other ↦
          let not_last : i % 8 ≢ 7 = eqb-false (i % 8) 7 other in
          let next : AreBefore (i + 1) taken = record {
            mark = same ∙ omega (arith, not_last);
            few = omega (arith, size, before.few);
          }
          in
          rw other (one_accepted items (line_of item) (map line_of rest) item passes ∙ all_accepted k (i + 1) taken (omega (arith, fits)) next ∙ (λ j. record { items = append_assoc items (item ∷ []) rest j; refused = None }))
    ]

-- the text as the lines of its items
text_by_lines : (n : ℕ) → generated_text n ≡ flat_map ended_line (map line_of (generated_items n))
text_by_lines n = sym (flat_map-map ended_line line_of (generated_items n))

-- where no line is refused, reading stops at none
stops_at_none : (ended : Bool) (refused : Option Refusal) → refused ≡ None → (refusal : Refusal) → stop_of ended refused ≡ Refused refusal → ⊥
stops_at_none true None e refusal h = cc
stops_at_none false None e refusal h = cc
stops_at_none ended (Some r) e refusal h = cc

pub text_accepted : GeneratedTextIsAccepted
text_accepted n None bytes ended few e at_end = absurd e
text_accepted n (Some later) bytes true few e at_end =
    let is_all : bytes ≡ generated_text n = sym (e ∙ ap (λ l. bytes ++ l) (at_end refl) ∙ append-nil bytes) in
    let ls = map line_of (generated_items n) in
    let are : lines true bytes ≡ ls = ap (lines true) (is_all ∙ text_by_lines n) ∙ lines_of_text true ls (all_whole n 0 (omega (arith, few))) in
    let all = ap (accepted_behind []) are ∙ all_accepted n 0 [] (omega (arith, few)) none_yet in
    record {
      no_refusal = stops_at_none true (accepted_of true bytes).refused (ap (λ (a : Accepted). a.refused) all);
      stop = λ _. ap (λ (a : Accepted). stop_of true a.refused) all;
      items = λ _. ap (λ (a : Accepted). a.items) all;
    }
text_accepted n (Some later) bytes false few e at_end =
    let ls = map line_of (generated_items n) in
    let begin = first_lines ls bytes later (all_whole n 0 (omega (arith, few))) (sym (text_by_lines n) ∙ e) in
    let all = ap (accepted_behind []) (sym begin.1) ∙ all_accepted n 0 [] (omega (arith, few)) none_yet in
    let none = none_before only_a Refuse Numbers (lines false bytes) begin.0 [] (ap (λ (a : Accepted). a.refused) all) in
    record {
      no_refusal = stops_at_none false (accepted_of false bytes).refused none;
      stop = λ end. cc;
      items = λ end. cc;
    }
