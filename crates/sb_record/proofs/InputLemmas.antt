-- What one accepted line more says, and the range of what is accepted.
use Rattle.std.proofs.Common.{◌≡◌, ℕ, ◌+◌, ◌≤◌, min, Bool, true, false, cond, List, [], ◌∷◌, ◌++◌, length, Some, None, Option, Result, Ok, Err, refl, sym, ap, subst, ◌∙◌, arith, inl, inr, append-nil, length-append}
use Rattle.std.specs.List.{flat_map, AllByRecursion}
use Rattle.std.specs.Prelude.{nat_le, nat_lt}
use Rattle.std.proofs.lemmas.Bool.{cases_Bool, ltb-true}
use Rattle.std.proofs.lemmas.List.Concat.{flat_map-append}
use Rattle.sb_record.specs.declared.item.TheConstants.{MAX_TIME}
use Rattle.sb_record.specs.declared.item.Stream.{Stream}
use Rattle.sb_record.specs.declared.item.Stream.TheVariants.{A, B}
use Rattle.sb_record.specs.declared.item.Streams.{Streams}
use Rattle.sb_record.specs.declared.item.Item.{Item}
use Rattle.sb_record.specs.declared.item.Item.TheVariants.{Rec, Mark, Skip, Late}
use Rattle.sb_record.specs.declared.item.Record.{Record}
use Rattle.sb_record.specs.declared.key.Keys.{Keys}
use Rattle.sb_record.specs.declared.intake.LatePolicy.{LatePolicy}
use Rattle.sb_record.specs.declared.intake.LatePolicy.TheVariants.{Refuse, Drop}
use Rattle.sb_record.specs.declared.intake.Refusal.{Refusal}
use Rattle.sb_record.specs.Progress.{Progress}
use Rattle.sb_record.specs.Intake.{answer_to, timely, timely_if, when_late, after, mark_of, IsItemOf}
use Rattle.sb_record.specs.Inputs.{progress_of, accepted_if, accepted_after, accepted}
use Rattle.sb_record.specs.Lines.{IsTextOf, IsItemInRange}
use Rattle.sb_record.specs.Reading.{item_of}
use Rattle.sb_record.specs.Streams.{uses, last_or, last_watermark, watermark_in, record_in, records_of, least_of, low_watermark}
use Rattle.sb_record.proofs.Elements.{All-join, All-flat_map}
use Rattle.sb_record.proofs.Grammar.{item_some}

last_or-append : (n : ℕ) (xs ys : List ℕ) → last_or n (xs ++ ys) ≡ last_or (last_or n xs) ys
last_or-append n [] ys = refl
last_or-append n (x ∷ xs) ys = last_or-append x xs ys

last_watermark-more : (s : Stream) (items : List Item) (i : Item) → last_watermark s (items ++ i ∷ []) ≡ last_or (last_watermark s items) (watermark_in s i)
last_watermark-more s items i =
    ap (last_or 0) (flat_map-append (watermark_in s) items (i ∷ []) ∙ ap (λ l. flat_map (watermark_in s) items ++ l) (append-nil (watermark_in s i)))
    ∙ last_or-append 0 (flat_map (watermark_in s) items) (watermark_in s i)

-- the progress with one item more is that after the item
pub progress-more : (streams : Streams) (late : LatePolicy) (keys : Keys) (items : List Item) (i : Item)
    → progress_of streams late keys (items ++ i ∷ []) ≡ after i (progress_of streams late keys items)
progress-more streams late keys items i =
    (λ j. record { streams = streams; mark_a = last_watermark-more A items i j; mark_b = last_watermark-more B items i j; lines = length-append items (i ∷ []) j; late = late; keys = keys })
    ∙ said i
  where
    said : (i : Item)
        → ◌≡◌ {A = Progress} (record { streams = streams; mark_a = last_or (last_watermark A items) (watermark_in A i); mark_b = last_or (last_watermark B items) (watermark_in B i); lines = length items + 1; late = late; keys = keys })
        (after i (progress_of streams late keys items))
    said (Rec A r) = refl
    said (Rec B r) = refl
    said (Mark A t) = refl
    said (Mark B t) = refl
    said Skip = refl
    said (Late n t m) = refl

-- ---- what is accepted is what its line says
pub late_ok : (late : LatePolicy) (n t m : ℕ) (i : Item) → when_late late n t m ≡ Ok i → Late n t m ≡ i
late_ok Refuse n t m i h = cc
late_ok Drop n t m i h = cc

record_ok : (p : Progress) (line : List ℕ) (s : Stream) (r : Record) (i : Item) → IsTextOf p.keys (Rec s r) line → timely p (p.lines + 1) (Rec s r) ≡ Ok i → IsItemOf p i line
record_ok p line s r i text h = elim (cases_Bool (uses p.streams s)) [
  | inl used ↦ elim (cases_Bool (nat_lt r.time (mark_of p s))) [
    | inl below ↦
        subst (λ j. IsItemOf p j line) (late_ok p.late (p.lines + 1) r.time (mark_of p s) i (rw (used, below) at h))
        (record { stream = s; late = r; text = text; number = refl; time = refl; mark = refl; above = ltb-true _ _ below })
    | inr in_time ↦ let e : Rec s r ≡ i = cc (rw (used, in_time) at h) in subst (λ j. IsItemOf p j line) e text
  ]
  | inr other ↦ cc (rw other at h)
]

mark_ok : (p : Progress) (n : ℕ) (s : Stream) (t : ℕ) (i : Item) → timely p n (Mark s t) ≡ Ok i → Mark s t ≡ i
mark_ok p n s t i h = elim (cases_Bool (uses p.streams s)) [
  | inl used ↦ elim (cases_Bool (nat_lt t (mark_of p s))) [
    | inl back ↦ cc (rw (used, back) at h)
    | inr in_time ↦ cc (rw (used, in_time) at h)
  ]
  | inr other ↦ cc (rw other at h)
]

pub timely_ok : (p : Progress) (line : List ℕ) (item i : Item) → IsTextOf p.keys item line → timely p (p.lines + 1) item ≡ Ok i → IsItemOf p i line
timely_ok p line (Rec s r) i text h = record_ok p line s r i text h
timely_ok p line (Mark s t) i text h = subst (λ j. IsItemOf p j line) (mark_ok p (p.lines + 1) s t i h) text
timely_ok p line Skip i text h = let e : Skip ≡ i = cc in subst (λ j. IsItemOf p j line) e text
timely_ok p line (Late n t m) i text h = absurd text

timely_if_ok : (p : Progress) (line : List ℕ) (o : Option Item) (i : Item) → item_of p.keys line ≡ o → timely_if p (p.lines + 1) o ≡ Ok i → IsItemOf p i line
timely_if_ok p line None i read h = cc
timely_if_ok p line (Some item) i read h = timely_ok p line item i (item_some p.keys line item read) h

pub tested_ok : (p : Progress) (line : List ℕ) (i : Item) → answer_to p line ≡ Ok i → IsItemOf p i line
tested_ok p line i h = elim (cases_Bool (nat_le 4294967295 p.lines)) [
  | inl many ↦ cc (rw many at h)
  | inr few ↦ elim (cases_Bool (nat_lt 128 (length line))) [
    | inl long ↦ cc (rw (few, long) at h)
    | inr short ↦ timely_if_ok p line (item_of p.keys line) i refl (rw (few, short) at h)
  ]
]

-- an item is in range where a line is a text of it
pub text_in_range : (keys : Keys) (i : Item) (line : List ℕ) → IsTextOf keys i line → IsItemInRange keys i
text_in_range keys (Rec s r) line h = h.0
text_in_range keys (Mark s t) line h = h.0
text_in_range keys Skip line h = tt
text_in_range keys (Late n t m) line h = absurd h

item_in_range : (p : Progress) (i : Item) (line : List ℕ) → IsItemOf p i line → IsItemInRange p.keys i
item_in_range p (Rec s r) line h = text_in_range p.keys (Rec s r) line h
item_in_range p (Mark s t) line h = text_in_range p.keys (Mark s t) line h
item_in_range p Skip line h = tt
item_in_range p (Late n t m) line h = subst (λ u. u ≤ MAX_TIME) (sym h.time) h.text.0.time

accepted_after-in_range : (streams : Streams) (late : LatePolicy) (keys : Keys) (lines : List (List ℕ)) (items : List Item)
    → AllByRecursion (IsItemInRange keys) items → AllByRecursion (IsItemInRange keys) (accepted_after streams late keys items lines).items
accepted_after-in_range streams late keys [] items all = all
accepted_after-in_range streams late keys (line ∷ lines) items all =
    by_result (answer_to (progress_of streams late keys items) line) refl (λ more. accepted_after-in_range streams late keys lines more)
  where
    by_result : (r : Result Item Refusal) → answer_to (progress_of streams late keys items) line ≡ r
        → ((more : List Item) → AllByRecursion (IsItemInRange keys) more → AllByRecursion (IsItemInRange keys) (accepted_after streams late keys more lines).items)
        → AllByRecursion (IsItemInRange keys) (accepted_if r items (λ more. accepted_after streams late keys more lines)).items
    by_result (Ok i) e on = on (items ++ i ∷ []) (All-join (IsItemInRange keys) items (i ∷ []) all (item_in_range (progress_of streams late keys items) i line (tested_ok _ line i e), tt))
    by_result (Err refusal) e on = all

-- the items of lines are in range
pub accepted-in_range : (streams : Streams) (late : LatePolicy) (keys : Keys) (lines : List (List ℕ))
    → AllByRecursion (IsItemInRange keys) (accepted streams late keys lines).items
accepted-in_range streams late keys lines = accepted_after-in_range streams late keys lines [] tt

pub records-in_range : (keys : Keys) (s : Stream) (items : List Item) → AllByRecursion (IsItemInRange keys) items → AllByRecursion (λ r. r.time ≤ MAX_TIME) (records_of s items)
records-in_range keys s items all = All-flat_map (IsItemInRange keys) (λ r. r.time ≤ MAX_TIME) (record_in s) (one s) items all
  where
    one : (s : Stream) (i : Item) → IsItemInRange keys i → AllByRecursion (λ r. r.time ≤ MAX_TIME) (record_in s i)
    one A (Rec A r) h = (h.time, tt)
    one A (Rec B r) h = tt
    one A (Mark t m) h = tt
    one A Skip h = tt
    one A (Late n t m) h = tt
    one B (Rec B r) h = (h.time, tt)
    one B (Rec A r) h = tt
    one B (Mark t m) h = tt
    one B Skip h = tt
    one B (Late n t m) h = tt

last_or-within : (n most : ℕ) (xs : List ℕ) → n ≤ most → AllByRecursion (λ x. x ≤ most) xs → last_or n xs ≤ most
last_or-within n most [] le all = le
last_or-within n most (x ∷ xs) le all = last_or-within x most xs all.0 all.1

last_watermark-in_range : (keys : Keys) (s : Stream) (items : List Item) → AllByRecursion (IsItemInRange keys) items → last_watermark s items ≤ MAX_TIME
last_watermark-in_range keys s items all =
    last_or-within 0 MAX_TIME (flat_map (watermark_in s) items) (omega arith) (All-flat_map (IsItemInRange keys) (λ t. t ≤ MAX_TIME) (watermark_in s) (one s) items all)
  where
    one : (s : Stream) (i : Item) → IsItemInRange keys i → AllByRecursion (λ t. t ≤ MAX_TIME) (watermark_in s i)
    one A (Mark A t) h = (h, tt)
    one A (Mark B t) h = tt
    one A (Rec t r) h = tt
    one A Skip h = tt
    one A (Late n t m) h = tt
    one B (Mark B t) h = (h, tt)
    one B (Mark A t) h = tt
    one B (Rec t r) h = tt
    one B Skip h = tt
    one B (Late n t m) h = tt

least_of-within : (streams : Streams) (a b most : ℕ) → a ≤ most → b ≤ most → least_of streams a b ≤ most
least_of-within streams a b most ha hb = by_case streams.a streams.b
  where
    by_case : (x y : Bool) → cond x (cond y (min a b) a) (cond y b 0) ≤ most
    by_case true true = omega arith
    by_case true false = ha
    by_case false true = hb
    by_case false false = omega arith

-- the low watermark of items in range
pub low_watermark-in_range : (keys : Keys) (streams : Streams) (items : List Item) → AllByRecursion (IsItemInRange keys) items → low_watermark streams items ≤ MAX_TIME
low_watermark-in_range keys streams items all =
    least_of-within streams (last_watermark A items) (last_watermark B items) MAX_TIME (last_watermark-in_range keys A items all) (last_watermark-in_range keys B items all)
