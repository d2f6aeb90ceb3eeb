-- What the tests of a line say of its item, and of all later ones.
use Rattle.std.proofs.Common.{◌≡◌, ℕ, ◌+◌, ◌≤◌, List, [], ◌∷◌, ◌++◌, length, Some, None, Option, Result, Ok, Err, refl, sym, ap, subst, ◌∙◌, arith, inl, inr, append-nil, append_assoc}
use Rattle.std.specs.List.{AllByRecursion}
use Rattle.std.specs.Prelude.{nat_le, nat_lt}
use Rattle.std.proofs.lemmas.Bool.{cases_Bool}
use Rattle.std.proofs.lemmas.Bool.Decides.{nat_tests}
use Rattle.sb_base.specs.records.declared.item.TheConstants.{MAX_TIME, END_MARK}
use Rattle.sb_base.specs.records.declared.item.Record.{Record}
use Rattle.sb_base.specs.records.declared.item.Stream.{Stream}
use Rattle.sb_base.specs.records.declared.item.Stream.TheVariants.{A, B}
use Rattle.sb_base.specs.records.declared.item.Item.{Item}
use Rattle.sb_base.specs.records.declared.item.Item.TheVariants.{Rec, Mark, Skip, Late}
use Rattle.sb_base.specs.records.declared.intake.LatePolicy.{LatePolicy}
use Rattle.sb_base.specs.records.declared.intake.LatePolicy.TheVariants as late
use Rattle.sb_base.specs.records.declared.intake.Refusal.{Refusal}
use Rattle.sb_base.specs.records.Progress.{Progress}
use Rattle.sb_base.specs.records.Intake.{answer_to, timely, timely_if, when_late, after, mark_of}
use Rattle.sb_base.specs.records.Inputs.{Accepted, progress_of, accepted_if, accepted_after, accepted}
use Rattle.sb_base.specs.records.Lines.{IsItemInRange}
use Rattle.sb_base.specs.records.Reading.{item_of}
use Rattle.sb_base.specs.records.Streams.{uses, last_watermark, record_in, records_of}
use Rattle.sb_base.proofs.records.Elements.{All-join, every}
use Rattle.sb_base.proofs.records.Grammar.{item_some}
use Rattle.sb_base.proofs.records.InputLemmas.{progress-more, text_in_range}
use Rattle.sb_base.specs.pipeline.Shapes.{Shape, streams_of}
use Rattle.sb_feed.specs.FedByItems.{IsTimely}
use Rattle.sb_feed.specs.Feeds.{IsFrom}

-- what a plan accepts of lines, from the first on and after some items, and what these items have said
abbrev pub starting : Shape → List (List ℕ) → Accepted
starting plan lines = accepted (streams_of plan) plan.late plan.keys lines

abbrev pub following : Shape → List Item → List (List ℕ) → Accepted
following plan items lines = accepted_after (streams_of plan) plan.late plan.keys items lines

abbrev pub said_by : Shape → List Item → Progress
said_by plan items = progress_of (streams_of plan) plan.late plan.keys items

-- ---- an accepted item is in time
mark_is : (plan : Shape) (items : List Item) (s : Stream) → mark_of (said_by plan items) s ≡ last_watermark s items
mark_is plan items A = refl
mark_is plan items B = refl

-- a late record, refused or dropped
late_is_timely : (plan : Shape) (items : List Item) (policy : LatePolicy) (n t m : ℕ) (i : Item) → when_late policy n t m ≡ Ok i → IsTimely (streams_of plan) items i
late_is_timely plan items late.Refuse n t m i h = absurd (cc h)
late_is_timely plan items late.Drop n t m i h = let same : Late n t m ≡ i = cc h in subst (IsTimely (streams_of plan) items) same tt

record_is_timely : (plan : Shape) (items : List Item) (n : ℕ) (s : Stream) (r : Record) (i : Item) → r.time ≤ MAX_TIME → timely (said_by plan items) n (Rec s r) ≡ Ok i → IsTimely (streams_of plan) items i
record_is_timely plan items n s r i range h = elim (cases_Bool (uses (streams_of plan) s)) [
  | inl used ↦ elim (cases_Bool (nat_lt r.time (mark_of (said_by plan items) s))) [
    | inl below ↦ late_is_timely plan items plan.late n r.time (mark_of (said_by plan items) s) i (rw (used, below) at h)
    | inr in_time ↦
        let e : ◌≡◌ {A = Result Item Refusal} (Ok (Rec s r)) (Ok i) = rw (used, in_time) at h in
        let same : Rec s r ≡ i = cc e in
        let low : last_watermark s items ≤ r.time = subst (λ m. m ≤ r.time) (mark_is plan items s) (grind (arith, nat_tests, in_time)) in
        subst (IsTimely (streams_of plan) items) same (used, (low, range))
  ]
  | inr other ↦ absurd (cc (rw other at h))
]

mark_is_timely : (plan : Shape) (items : List Item) (n : ℕ) (s : Stream) (t : ℕ) (i : Item) → t ≤ MAX_TIME → timely (said_by plan items) n (Mark s t) ≡ Ok i → IsTimely (streams_of plan) items i
mark_is_timely plan items n s t i range h = elim (cases_Bool (uses (streams_of plan) s)) [
  | inl used ↦ elim (cases_Bool (nat_lt t (mark_of (said_by plan items) s))) [
    | inl back ↦ absurd (cc (rw (used, back) at h))
    | inr in_time ↦
        let e : ◌≡◌ {A = Result Item Refusal} (Ok (Mark s t)) (Ok i) = rw (used, in_time) at h in
        let same : Mark s t ≡ i = cc e in
        let low : last_watermark s items ≤ t = subst (λ m. m ≤ t) (mark_is plan items s) (grind (arith, nat_tests, in_time)) in
        let high : t ≤ END_MARK = omega (arith, range) in
        subst (IsTimely (streams_of plan) items) same (used, low, high)
  ]
  | inr other ↦ absurd (cc (rw other at h))
]

is_timely : (plan : Shape) (items : List Item) (n : ℕ) (item i : Item) → IsItemInRange plan.keys item → timely (said_by plan items) n item ≡ Ok i → IsTimely (streams_of plan) items i
is_timely plan items n (Rec s r) i range h = record_is_timely plan items n s r i range.time h
is_timely plan items n (Mark s t) i range h = mark_is_timely plan items n s t i range h
is_timely plan items n Skip i range h = let same : Skip ≡ i = cc h in subst (IsTimely (streams_of plan) items) same tt
is_timely plan items n (Late l t m) i range h = let same : Late l t m ≡ i = cc h in subst (IsTimely (streams_of plan) items) same tt

read_is_timely : (plan : Shape) (items : List Item) (n : ℕ) (line : List ℕ) (o : Option Item) (i : Item) → item_of plan.keys line ≡ o → timely_if (said_by plan items) n o ≡ Ok i → IsTimely (streams_of plan) items i
read_is_timely plan items n line None i o h = absurd (cc h)
read_is_timely plan items n line (Some item) i o h = is_timely plan items n item i (text_in_range plan.keys item line (item_some plan.keys line item o)) h

pub tested_is_timely : (plan : Shape) (items : List Item) (line : List ℕ) (i : Item) → answer_to (said_by plan items) line ≡ Ok i → IsTimely (streams_of plan) items i
tested_is_timely plan items line i h = elim (cases_Bool (nat_le 4294967295 (length items))) [
  | inl many ↦ absurd (cc (rw many at h))
  | inr few ↦ elim (cases_Bool (nat_lt 128 (length line))) [
    | inl long ↦ absurd (cc (rw (few, long) at h))
    | inr short ↦ read_is_timely plan items (length items + 1) line (item_of plan.keys line) i refl (rw (few, short) at h)
  ]
]

-- ---- items go on
-- the list goes on, and no later record is below a watermark of before
pub record GoesOnTo (items all : List Item) : Type 0 where
  pub later : List Item
  pub are : all ≡ items ++ later
  pub timely : (s : Stream) → AllByRecursion (IsFrom (last_watermark s items)) (records_of s later)

pub from_later : (a b : ℕ) (l : List Record) → a ≤ b → AllByRecursion (IsFrom b) l → AllByRecursion (IsFrom a) l
from_later a b l le all = every (λ r h. let x = h.0 in (omega (arith, le, x), h.1)) l all

-- the last watermark is what the progress says
pub mark_then : (plan : Shape) (items : List Item) (i : Item) (s : Stream) → last_watermark s (items ++ i ∷ []) ≡ mark_of (after i (said_by plan items)) s
mark_then plan items i s = sym (mark_is plan (items ++ i ∷ []) s) ∙ ap (λ p. mark_of p s) (progress-more (streams_of plan) plan.late plan.keys items i)

-- an item in time lowers no watermark
pub mark_rises : (plan : Shape) (items : List Item) (i : Item) (s : Stream) → IsTimely (streams_of plan) items i → last_watermark s items ≤ last_watermark s (items ++ i ∷ [])
mark_rises plan items i s h = subst (λ m. last_watermark s items ≤ m) (sym (mark_then plan items i s)) (rises s i h)
  where
    same : (m : ℕ) → m ≤ m
    same m = omega arith

    rises : (s : Stream) (i : Item) → IsTimely (streams_of plan) items i → last_watermark s items ≤ mark_of (after i (said_by plan items)) s
    rises A (Rec t r) h = same (last_watermark A items)
    rises B (Rec t r) h = same (last_watermark B items)
    rises A (Mark A t) h = h.1
    rises A (Mark B t) h = same (last_watermark A items)
    rises B (Mark A t) h = same (last_watermark B items)
    rises B (Mark B t) h = h.1
    rises A Skip h = same (last_watermark A items)
    rises B Skip h = same (last_watermark B items)
    rises A (Late n t m) h = same (last_watermark A items)
    rises B (Late n t m) h = same (last_watermark B items)

-- no watermark comes to lie above the last of all
pub mark_within : (plan : Shape) (items : List Item) (i : Item) → IsTimely (streams_of plan) items i → ((s : Stream) → last_watermark s items ≤ END_MARK) → (s : Stream) → last_watermark s (items ++ i ∷ []) ≤ END_MARK
mark_within plan items i h marks s = subst (λ m. m ≤ END_MARK) (sym (mark_then plan items i s)) (within s i h)
  where
    within : (s : Stream) (i : Item) → IsTimely (streams_of plan) items i → mark_of (after i (said_by plan items)) s ≤ END_MARK
    within A (Rec t r) h = marks A
    within B (Rec t r) h = marks B
    within A (Mark A t) h = h.2
    within A (Mark B t) h = marks A
    within B (Mark A t) h = marks B
    within B (Mark B t) h = h.2
    within A Skip h = marks A
    within B Skip h = marks B
    within A (Late n t m) h = marks A
    within B (Late n t m) h = marks B

one_from : (plan : Shape) (items : List Item) (i : Item) (s : Stream) → IsTimely (streams_of plan) items i → AllByRecursion (IsFrom (last_watermark s items)) (record_in s i)
one_from plan items (Rec A r) A h = (h.1, tt)
one_from plan items (Rec B r) B h = (h.1, tt)
one_from plan items (Rec A r) B h = tt
one_from plan items (Rec B r) A h = tt
one_from plan items (Mark t m) A h = tt
one_from plan items (Mark t m) B h = tt
one_from plan items Skip A h = tt
one_from plan items Skip B h = tt
one_from plan items (Late n t m) A h = tt
one_from plan items (Late n t m) B h = tt

-- one item more before the others
pub goes_on_behind : (plan : Shape) (items : List Item) (i : Item) (all : List Item) → IsTimely (streams_of plan) items i → GoesOnTo (items ++ i ∷ []) all → GoesOnTo items all
goes_on_behind plan items i all h g = record {
  later = i ∷ g.later;
  are = g.are ∙ append_assoc items (i ∷ []) g.later;
  timely = λ s. All-join (IsFrom (last_watermark s items)) (record_in s i) (records_of s g.later) (one_from plan items i s h) (from_later (last_watermark s items) (last_watermark s (items ++ i ∷ [])) (records_of s g.later) (mark_rises plan items i s h) (g.timely s));
}

pub no_more : (items : List Item) → GoesOnTo items items
no_more items = record { later = []; are = sym (append-nil items); timely = no_records }
  where
    no_records : (s : Stream) → AllByRecursion (IsFrom (last_watermark s items)) (records_of s [])
    no_records A = tt
    no_records B = tt

-- what has no record may follow
pub goes_on_without : (items more : List Item) → ((s : Stream) → records_of s more ≡ []) → GoesOnTo items (items ++ more)
goes_on_without items more none = record { later = more; are = refl; timely = λ s. subst (AllByRecursion (IsFrom (last_watermark s items))) (sym (none s)) tt }

pub accepted_goes_on : (plan : Shape) (lines : List (List ℕ)) (items : List Item) → GoesOnTo items (following plan items lines).items
accepted_goes_on plan [] items = no_more items
accepted_goes_on plan (line ∷ lines) items = by_result (answer_to (said_by plan items) line) refl (λ more. accepted_goes_on plan lines more)
  where
    by_result : (r : Result Item Refusal) → answer_to (said_by plan items) line ≡ r → ((more : List Item) → GoesOnTo more (following plan more lines).items)
        → GoesOnTo items (accepted_if r items (λ more. following plan more lines)).items
    by_result (Ok i) e on = goes_on_behind plan items i (following plan (items ++ i ∷ []) lines).items (tested_is_timely plan items line i e) (on (items ++ i ∷ []))
    by_result (Err refusal) e on = no_more items
