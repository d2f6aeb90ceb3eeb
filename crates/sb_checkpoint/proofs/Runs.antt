-- A resumed run accepts, refuses and marks as the whole run does.
use Rattle.std.proofs.Common.{◌≡◌, ◌≤◌, ℕ, zero, suc, ◌+◌, ◌-◌, min, Bool, true, false, cond, eqb, List, [], ◌∷◌, ◌++◌, length, Option, Some, None, Result, Ok, Err, refl, sym, ap, subst, ◌∙◌, arith, inl, inr, append-nil, length-append}
use Rattle.std.specs.Prelude.{nat_lt, nat_le, replicate}
use Rattle.std.specs.List.{filter, flat_map, AllByRecursion}
use Rattle.std.proofs.lemmas.Bool.{cases_Bool, eqb-true}
use Rattle.std.proofs.lemmas.Bool.Decides.{nat_tests}
use Rattle.std.proofs.lemmas.List.Elements.{All-from_recursion}
use Rattle.std.proofs.lemmas.List.Concat.{flat_map-append}
use Rattle.sb_pipeline.specs.records.declared.item.Item.{Item}
use Rattle.sb_pipeline.specs.records.declared.item.Item.TheVariants.{Rec, Mark, Skip, Late}
use Rattle.sb_pipeline.specs.records.declared.item.Stream.{Stream}
use Rattle.sb_pipeline.specs.records.declared.item.Stream.TheVariants.{A, B}
use Rattle.sb_pipeline.specs.records.declared.item.Streams.{Streams}
use Rattle.sb_pipeline.specs.records.declared.intake.LatePolicy.{LatePolicy}
use Rattle.sb_pipeline.specs.records.declared.intake.LatePolicy.TheVariants.{Refuse, Drop}
use Rattle.sb_pipeline.specs.records.declared.intake.Refusal.{Refusal}
use Rattle.sb_pipeline.specs.records.declared.key.Keys.{Keys}
use Rattle.sb_pipeline.specs.records.Records.{at_least}
use Rattle.sb_pipeline.specs.records.Progress.{Progress}
use Rattle.sb_pipeline.specs.records.Intake.{answer_to, timely, timely_if, when_late, after, mark_of, low}
use Rattle.sb_pipeline.specs.records.Inputs.{Accepted, progress_of, accepted_if, accepted_after}
use Rattle.sb_pipeline.specs.records.Reading.{item_of}
use Rattle.sb_pipeline.specs.records.Streams.{uses, last_or, last_watermark, watermark_in, records_of, record_in, dropped_in, dropped_of, least_of}
use Rattle.sb_pipeline.proofs.records.InputLemmas.{progress-more}
use Rattle.sb_pipeline.proofs.records.Elements.{All-join}
use Rattle.sb_pipeline.specs.Results.{rows_below}
use Rattle.sb_pipeline.specs.Shapes.{Shape, streams_of}
use Rattle.sb_checkpoint.specs.Reach.{reach, is_within}
use Rattle.sb_checkpoint.specs.Checkpoints.{is_kept, low_of, kept_of, mark_item, mark_items, saved_items, resumed_items, streams_in}
use Rattle.sb_checkpoint.specs.Laws.{GivesTheRest, progress_in, accepted_behind, ResumedRunsGiveTheRest, InputsAreAcceptedInParts}
use Rattle.sb_checkpoint.proofs.Resuming.{last_marks, resumed-rest}

pub join-assoc : {X : Type 0} (xs ys zs : List X) → (xs ++ ys) ++ zs ≡ xs ++ (ys ++ zs)
join-assoc [] ys zs = refl
join-assoc (x ∷ xs) ys zs = ap (λ l. x ∷ l) (join-assoc xs ys zs)

-- ---- the watermarks that a resumed run begins with
watermarks-kept : (s : Stream) (n w : ℕ) (items : List Item) → flat_map (watermark_in s) (filter (is_kept n w) items) ≡ []
watermarks-kept A n w [] = refl
watermarks-kept B n w [] = refl
watermarks-kept A n w (Rec t r ∷ items) =
    elim (is_within n w r.time) as (λ c. flat_map (watermark_in A) (cond c (Rec t r ∷ filter (is_kept n w) items) (filter (is_kept n w) items)) ≡ []) [ true ↦ watermarks-kept A n w items | false ↦ watermarks-kept A n w items ]
watermarks-kept B n w (Rec t r ∷ items) =
    elim (is_within n w r.time) as (λ c. flat_map (watermark_in B) (cond c (Rec t r ∷ filter (is_kept n w) items) (filter (is_kept n w) items)) ≡ []) [ true ↦ watermarks-kept B n w items | false ↦ watermarks-kept B n w items ]
watermarks-kept s n w (Mark t m ∷ items) = watermarks-kept s n w items
watermarks-kept s n w (Skip ∷ items) = watermarks-kept s n w items
watermarks-kept s n w (Late l t m ∷ items) = watermarks-kept s n w items

watermarks-skips : (s : Stream) (n : ℕ) → flat_map (watermark_in s) (replicate n Skip) ≡ []
watermarks-skips A zero = refl
watermarks-skips B zero = refl
watermarks-skips A (suc n) = watermarks-skips A n
watermarks-skips B (suc n) = watermarks-skips B n

abbrev pub if_some : ℕ → List ℕ
if_some t = cond (eqb t 0) [] (t ∷ [])

watermarks-own : (s : Stream) (t : ℕ) → flat_map (watermark_in s) (mark_item s t) ≡ if_some t
watermarks-own s t = elim (eqb t 0) as (λ c. flat_map (watermark_in s) (cond c [] (Mark s t ∷ [])) ≡ cond c [] (t ∷ [])) [ true ↦ refl | false ↦ by_stream s ]
  where
    by_stream : (s : Stream) → flat_map (watermark_in s) (Mark s t ∷ []) ≡ t ∷ []
    by_stream A = refl
    by_stream B = refl

abbrev other : Stream → Stream
other A = B
other B = A

watermarks-other : (s : Stream) (t : ℕ) → flat_map (watermark_in s) (mark_item (other s) t) ≡ []
watermarks-other s t = elim (eqb t 0) as (λ c. flat_map (watermark_in s) (cond c [] (Mark (other s) t ∷ [])) ≡ []) [ true ↦ refl | false ↦ by_stream s ]
  where
    by_stream : (s : Stream) → flat_map (watermark_in s) (Mark (other s) t ∷ []) ≡ []
    by_stream A = refl
    by_stream B = refl

pub last-if_some : (t : ℕ) → last_or 0 (if_some t) ≡ t
last-if_some t = by_case (eqb t 0) refl
  where
    by_case : (b : Bool) → eqb t 0 ≡ b → last_or 0 (cond b [] (t ∷ [])) ≡ t
    by_case true e = sym (eqb-true t 0 e)
    by_case false e = refl

pub marks-a : (a b : ℕ) → flat_map (watermark_in A) (mark_items a b) ≡ if_some a
marks-a a b = flat_map-append (watermark_in A) (mark_item A a) (mark_item B b) ∙ (λ i. watermarks-own A a i ++ watermarks-other A b i) ∙ append-nil _

pub marks-b : (a b : ℕ) → flat_map (watermark_in B) (mark_items a b) ≡ if_some b
marks-b a b = flat_map-append (watermark_in B) (mark_item A a) (mark_item B b) ∙ (λ i. watermarks-other B a i ++ watermarks-own B b i)

watermarks-marks : (s : Stream) (items : List Item) → flat_map (watermark_in s) (last_marks items) ≡ if_some (last_watermark s items)
watermarks-marks A items = marks-a (last_watermark A items) (last_watermark B items)
watermarks-marks B items = marks-b (last_watermark A items) (last_watermark B items)

pub last_watermark-resumed : (plan : Shape) (s : Stream) (items : List Item) → last_watermark s (resumed_items plan items) ≡ last_watermark s items
last_watermark-resumed plan s items = ap (last_or 0) all ∙ last-if_some (last_watermark s items)
  where
    saved : flat_map (watermark_in s) (saved_items plan items) ≡ if_some (last_watermark s items)
    saved =
        flat_map-append (watermark_in s) (kept_of plan items) (last_marks items)
        ∙ (λ i. watermarks-kept s (reach plan) (low_of plan items) items i ++ watermarks-marks s items i)

    all : flat_map (watermark_in s) (resumed_items plan items) ≡ if_some (last_watermark s items)
    all =
        flat_map-append (watermark_in s) (replicate (length items - length (saved_items plan items)) Skip) (saved_items plan items)
        ∙ (λ i. watermarks-skips s (length items - length (saved_items plan items)) i ++ saved i)

-- ---- the number of lines
pub length-skips : (n : ℕ) → length (replicate n Skip) ≡ n
length-skips zero = refl
length-skips (suc n) = ap suc (length-skips n)

length-mark : (s : Stream) (l : List ℕ) → length (mark_item s (last_or 0 l)) ≤ length l
length-mark s [] = omega arith
length-mark s (x ∷ l) = elim (eqb (last_or x l) 0) as (λ c. length (cond c [] (Mark s (last_or x l) ∷ [])) ≤ suc (length l)) [ true ↦ omega arith | false ↦ omega arith ]

abbrev marks_in : Stream → List Item → List ℕ
marks_in s items = flat_map (watermark_in s) items

length-parts : (n w : ℕ) (items : List Item) → length (filter (is_kept n w) items) + (length (marks_in A items) + length (marks_in B items)) ≤ length items
length-parts n w [] = omega arith
length-parts n w (Rec t r ∷ items) =
    elim (is_within n w r.time) as (λ c. length (cond c (Rec t r ∷ filter (is_kept n w) items) (filter (is_kept n w) items)) + (length (marks_in A items) + length (marks_in B items)) ≤ suc (length items)) [
      | true ↦ omega (arith, length-parts n w items)
      | false ↦ omega (arith, length-parts n w items)
    ]
length-parts n w (Mark A t ∷ items) = omega (arith, length-parts n w items)
length-parts n w (Mark B t ∷ items) = omega (arith, length-parts n w items)
length-parts n w (Skip ∷ items) = omega (arith, length-parts n w items)
length-parts n w (Late l t m ∷ items) = omega (arith, length-parts n w items)

pub length_saved : (plan : Shape) (items : List Item) → length (saved_items plan items) ≤ length items
length_saved plan items =
    omega (
      arith,
      length-append (kept_of plan items) (last_marks items),
      length-append (mark_item A (last_watermark A items)) (mark_item B (last_watermark B items)),
      length-mark A (marks_in A items),
      length-mark B (marks_in B items),
      length-parts (reach plan) (low_of plan items) items,
    )

pub length-resumed : (plan : Shape) (items : List Item) → length (resumed_items plan items) ≡ length items
length-resumed plan items =
    omega (arith, length-append (replicate (length items - length (saved_items plan items)) Skip) (saved_items plan items), length-skips (length items - length (saved_items plan items)), length_saved plan items)

pub progress-resumed : (plan : Shape) (items : List Item) → progress_in plan items ≡ progress_in plan (resumed_items plan items)
progress-resumed plan items =
    λ i. record {
      streams = streams_of plan;
      mark_a = sym (last_watermark-resumed plan A items) i;
      mark_b = sym (last_watermark-resumed plan B items) i;
      lines = sym (length-resumed plan items) i;
      late = plan.late;
      keys = plan.keys;
    }

-- ---- what is dropped
dropped-append : (xs ys : List Item) → dropped_of (xs ++ ys) ≡ dropped_of xs ++ dropped_of ys
dropped-append xs ys = flat_map-append dropped_in xs ys

dropped-kept : (n w : ℕ) (items : List Item) → dropped_of (filter (is_kept n w) items) ≡ []
dropped-kept n w [] = refl
dropped-kept n w (Rec s r ∷ items) =
    elim (is_within n w r.time) as (λ c. dropped_of (cond c (Rec s r ∷ filter (is_kept n w) items) (filter (is_kept n w) items)) ≡ []) [ true ↦ dropped-kept n w items | false ↦ dropped-kept n w items ]
dropped-kept n w (Mark s t ∷ items) = dropped-kept n w items
dropped-kept n w (Skip ∷ items) = dropped-kept n w items
dropped-kept n w (Late l t m ∷ items) = dropped-kept n w items

dropped-mark : (s : Stream) (t : ℕ) → dropped_of (mark_item s t) ≡ []
dropped-mark s t = elim (eqb t 0) as (λ c. dropped_of (cond c [] (Mark s t ∷ [])) ≡ []) [ true ↦ refl | false ↦ refl ]

dropped-skips : (n : ℕ) → dropped_of (replicate n Skip) ≡ []
dropped-skips zero = refl
dropped-skips (suc n) = dropped-skips n

pub dropped-resumed : (plan : Shape) (items : List Item) → dropped_of (resumed_items plan items) ≡ []
dropped-resumed plan items =
    dropped-append (replicate (length items - length (saved_items plan items)) Skip) (saved_items plan items)
    ∙ (λ i. dropped-skips (length items - length (saved_items plan items)) i ++ saved i)
  where
    marks : dropped_of (last_marks items) ≡ []
    marks =
        dropped-append (mark_item A (last_watermark A items)) (mark_item B (last_watermark B items))
        ∙ (λ i. dropped-mark A (last_watermark A items) i ++ dropped-mark B (last_watermark B items) i)

    saved : dropped_of (saved_items plan items) ≡ []
    saved = dropped-append (kept_of plan items) (last_marks items) ∙ (λ i. dropped-kept (reach plan) (low_of plan items) items i ++ marks i)

-- ---- what an accepted line says
abbrev pub IsInTime : Progress → Item → Type 0
IsInTime p (Rec s r) = (uses p.streams s ≡ true) × (mark_of p s ≤ r.time)
IsInTime p (Mark s t) = (uses p.streams s ≡ true) × (mark_of p s ≤ t)
IsInTime p Skip = Unit {0}
IsInTime p (Late n t m) = Unit {0}

late-in_time : (p : Progress) (late : LatePolicy) (n t m : ℕ) (i : Item) → when_late late n t m ≡ Ok i → IsInTime p i
late-in_time p Refuse n t m i h = cc
late-in_time p Drop n t m i h = let e : Late n t m ≡ i = cc in subst (IsInTime p) e tt

timely-in_time : (p : Progress) (n : ℕ) (item i : Item) → timely p n item ≡ Ok i → IsInTime p i
timely-in_time p n (Rec s r) i h = elim (cases_Bool (uses p.streams s)) [
  | inl used ↦ elim (cases_Bool (nat_lt r.time (mark_of p s))) [
    | inl late ↦ late-in_time p p.late n r.time (mark_of p s) i (rw (used, late) at h)
    | inr in_time ↦ let e : Rec s r ≡ i = cc (rw (used, in_time) at h) in subst (IsInTime p) e (used, grind (arith, nat_tests))
  ]
  | inr not_used ↦ cc (rw not_used at h)
]
timely-in_time p n (Mark s t) i h = elim (cases_Bool (uses p.streams s)) [
  | inl used ↦ elim (cases_Bool (nat_lt t (mark_of p s))) [
    | inl back ↦ cc (rw (used, back) at h)
    | inr in_time ↦ let e : Mark s t ≡ i = cc (rw (used, in_time) at h) in subst (IsInTime p) e (used, grind (arith, nat_tests))
  ]
  | inr not_used ↦ cc (rw not_used at h)
]
timely-in_time p n Skip i h = let e : Skip ≡ i = cc in subst (IsInTime p) e tt
timely-in_time p n (Late l t m) i h = let e : Late l t m ≡ i = cc in subst (IsInTime p) e tt

timely_if-in_time : (p : Progress) (n : ℕ) (o : Option Item) (i : Item) → timely_if p n o ≡ Ok i → IsInTime p i
timely_if-in_time p n None i h = cc
timely_if-in_time p n (Some item) i h = timely-in_time p n item i h

pub tested-in_time : (p : Progress) (line : List ℕ) (i : Item) → answer_to p line ≡ Ok i → IsInTime p i
tested-in_time p line i h = elim (cases_Bool (nat_le 4294967295 p.lines)) [
  | inl many ↦ cc (rw many at h)
  | inr few ↦ elim (cases_Bool (nat_lt 128 (length line))) [
    | inl long ↦ cc (rw (few, long) at h)
    | inr short ↦ timely_if-in_time p (p.lines + 1) (item_of p.keys line) i (rw (few, short) at h)
  ]
]

low-under : (p : Progress) (s : Stream) → uses p.streams s ≡ true → low p ≤ mark_of p s
low-under p A used = by_case p.streams.a p.streams.b used
  where
    by_case : (x y : Bool) → x ≡ true → cond x (cond y (min p.mark_a p.mark_b) p.mark_a) (cond y p.mark_b 0) ≤ p.mark_a
    by_case true true h = omega arith
    by_case true false h = omega arith
    by_case false y h = cc
low-under p B used = by_case p.streams.a p.streams.b used
  where
    by_case : (x y : Bool) → y ≡ true → cond x (cond y (min p.mark_a p.mark_b) p.mark_a) (cond y p.mark_b 0) ≤ p.mark_b
    by_case true true h = omega arith
    by_case false true h = omega arith
    by_case x false h = cc

pub least-rises : (streams : Streams) (a b c d : ℕ) → a ≤ c → b ≤ d → least_of streams a b ≤ least_of streams c d
least-rises streams a b c d h k = by_case streams.a streams.b
  where
    by_case : (x y : Bool) → cond x (cond y (min a b) a) (cond y b 0) ≤ cond x (cond y (min c d) c) (cond y d 0)
    by_case true true = omega arith
    by_case true false = h
    by_case false true = k
    by_case false false = omega arith

low-rises : (p : Progress) (i : Item) → IsInTime p i → low p ≤ low (after i p)
low-rises p (Rec s r) h = omega arith
low-rises p (Mark A t) h = least-rises p.streams p.mark_a p.mark_b t p.mark_b h.1 (omega arith)
low-rises p (Mark B t) h = least-rises p.streams p.mark_a p.mark_b p.mark_a t (omega arith) h.1
low-rises p Skip h = omega arith
low-rises p (Late n t m) h = omega arith

-- the records of an item that is accepted are not below the low watermark
records-late : (v : ℕ) (p : Progress) (s : Stream) (i : Item) → v ≤ low p → IsInTime p i → AllByRecursion (λ r. v ≤ r.time) (record_in s i)
records-late v p A (Rec A r) le h = (omega (arith, le, low-under p A h.0, h.1), tt)
records-late v p B (Rec B r) le h = (omega (arith, le, low-under p B h.0, h.1), tt)
records-late v p A (Rec B r) le h = tt
records-late v p B (Rec A r) le h = tt
records-late v p A (Mark t m) le h = tt
records-late v p B (Mark t m) le h = tt
records-late v p A Skip le h = tt
records-late v p B Skip le h = tt
records-late v p A (Late n t m) le h = tt
records-late v p B (Late n t m) le h = tt

-- ---- lines that follow
record Follows (streams : Streams) (late : LatePolicy) (keys : Keys) (v : ℕ) (xs ys : List Item) (whole resumed : Accepted) : Type 0 where
  more : List Item
  left : whole.items ≡ xs ++ more
  right : resumed.items ≡ ys ++ more
  refused : whole.refused ≡ resumed.refused
  marks : progress_of streams late keys whole.items ≡ progress_of streams late keys resumed.items
  rises : v ≤ low (progress_of streams late keys whole.items)
  above : (s : Stream) → AllByRecursion (λ r. v ≤ r.time) (records_of s more)

follows : (streams : Streams) (late : LatePolicy) (keys : Keys) (v : ℕ) (lines : List (List ℕ)) (xs ys : List Item) → progress_of streams late keys xs ≡ progress_of streams late keys ys → v ≤ low (progress_of streams late keys xs)
    → Follows streams late keys v xs ys (accepted_after streams late keys xs lines) (accepted_after streams late keys ys lines)
follows streams late keys v [] xs ys same le =
    record { more = []; left = sym (append-nil xs); right = sym (append-nil ys); refused = refl; marks = same; rises = le; above = λ s. none s }
  where
    none : (s : Stream) → AllByRecursion (λ r. v ≤ r.time) (records_of s [])
    none A = tt
    none B = tt
follows streams late keys v (line ∷ lines) xs ys same le =
    by_result (answer_to (progress_of streams late keys xs) line) (answer_to (progress_of streams late keys ys) line) refl (ap (λ p. answer_to p line) same) (λ i. follows streams late keys v lines (xs ++ i ∷ []) (ys ++ i ∷ []))
  where
    by_result : (r q : Result Item Refusal) → answer_to (progress_of streams late keys xs) line ≡ r → r ≡ q
        → ((i : Item) → progress_of streams late keys (xs ++ i ∷ []) ≡ progress_of streams late keys (ys ++ i ∷ []) → v ≤ low (progress_of streams late keys (xs ++ i ∷ []))
        → Follows streams late keys v (xs ++ i ∷ []) (ys ++ i ∷ []) (accepted_after streams late keys (xs ++ i ∷ []) lines) (accepted_after streams late keys (ys ++ i ∷ []) lines))
        → Follows streams late keys v xs ys (accepted_if r xs (λ more. accepted_after streams late keys more lines)) (accepted_if q ys (λ more. accepted_after streams late keys more lines))
    by_result (Ok i) (Ok j) e q on = subst (λ j. Follows streams late keys v xs ys (accepted_after streams late keys (xs ++ i ∷ []) lines) (accepted_after streams late keys (ys ++ j ∷ []) lines)) is next
      where
        is : i ≡ j
        is = cc

        timely : IsInTime (progress_of streams late keys xs) i
        timely = tested-in_time (progress_of streams late keys xs) line i e

        rest : Follows streams late keys v (xs ++ i ∷ []) (ys ++ i ∷ []) (accepted_after streams late keys (xs ++ i ∷ []) lines) (accepted_after streams late keys (ys ++ i ∷ []) lines)
        rest =
            on i (progress-more streams late keys xs i ∙ ap (after i) same ∙ sym (progress-more streams late keys ys i))
            (subst (λ p. v ≤ low p) (sym (progress-more streams late keys xs i)) (omega (arith, le, low-rises (progress_of streams late keys xs) i timely)))

        next : Follows streams late keys v xs ys (accepted_after streams late keys (xs ++ i ∷ []) lines) (accepted_after streams late keys (ys ++ i ∷ []) lines)
        next = record {
          more = i ∷ rest.more;
          left = rest.left ∙ join-assoc xs (i ∷ []) rest.more;
          right = rest.right ∙ join-assoc ys (i ∷ []) rest.more;
          refused = rest.refused;
          marks = rest.marks;
          rises = rest.rises;
          above = λ s. All-join (λ r. v ≤ r.time) (record_in s i) (records_of s rest.more) (records-late v (progress_of streams late keys xs) s i le timely) (rest.above s);
        }
    by_result (Err x) (Err y) e q on =
        let is : x ≡ y = cc in
        record { more = []; left = sym (append-nil xs); right = sym (append-nil ys); refused = ap Some is; marks = same; rises = le; above = λ s. none s }
      where
        none : (s : Stream) → AllByRecursion (λ r. v ≤ r.time) (records_of s [])
        none A = tt
        none B = tt
    by_result (Ok i) (Err y) e q on = cc
    by_result (Err x) (Ok j) e q on = cc

-- ---- the laws
pub runs-resume : ResumedRunsGiveTheRest
runs-resume plan free items lines = record { refused = f.refused; marks = f.marks; dropped = dropped; later = f.rises; rows = rows }
  where
    whole : Accepted
    whole = accepted_behind plan items lines

    resumed : Accepted
    resumed = accepted_behind plan (resumed_items plan items) lines

    f : Follows (streams_of plan) plan.late plan.keys (low_of plan items) items (resumed_items plan items) whole resumed
    f = follows (streams_of plan) plan.late plan.keys (low_of plan items) lines items (resumed_items plan items) (progress-resumed plan items) (omega arith)

    dropped : dropped_of whole.items ≡ dropped_of items ++ dropped_of resumed.items
    dropped =
        ap dropped_of f.left
        ∙ dropped-append items f.more
        ∙ ap (λ l. dropped_of items ++ l) (sym (ap dropped_of f.right ∙ dropped-append (resumed_items plan items) f.more ∙ ap (λ l. l ++ dropped_of f.more) (dropped-resumed plan items)))

    rows : (w : ℕ) → low_of plan items ≤ w → GivesTheRest plan w items whole.items resumed.items
    rows w le =
        ap (λ l. rows_below w plan (streams_in l)) f.left
        ∙ resumed-rest plan free w items f.more le (λ s. All-from_recursion (λ r. low_of plan items ≤ r.time) (records_of s f.more) (f.above s))
        ∙ ap (λ l. rows_below (low_of plan items) plan (streams_in items) ++ at_least (low_of plan items) (rows_below w plan (streams_in l))) (sym f.right)

pub accepted-parts : InputsAreAcceptedInParts
accepted-parts streams late keys first rest none = from [] first none
  where
    from : (items : List Item) (first : List (List ℕ)) → (accepted_after streams late keys items first).refused ≡ None → accepted_after streams late keys items (first ++ rest) ≡ accepted_after streams late keys (accepted_after streams late keys items first).items rest
    from items [] none = refl
    from items (line ∷ first) none = by_result (answer_to (progress_of streams late keys items) line) none (λ i. from (items ++ i ∷ []) first)
      where
        by_result : (r : Result Item Refusal) → (accepted_if r items (λ more. accepted_after streams late keys more first)).refused ≡ None
            → ((i : Item) → (accepted_after streams late keys (items ++ i ∷ []) first).refused ≡ None → accepted_after streams late keys (items ++ i ∷ []) (first ++ rest) ≡ accepted_after streams late keys (accepted_after streams late keys (items ++ i ∷ []) first).items rest)
            → accepted_if r items (λ more. accepted_after streams late keys more (first ++ rest)) ≡ accepted_after streams late keys (accepted_if r items (λ more. accepted_after streams late keys more first)).items rest
        by_result (Ok i) none on = on i none
        by_result (Err x) none on = cc

pub last_watermark-saved : (plan : Shape) (s : Stream) (items : List Item) → last_watermark s (saved_items plan items) ≡ last_watermark s items
last_watermark-saved plan s items =
    ap (last_or 0) (flat_map-append (watermark_in s) (kept_of plan items) (last_marks items)
    ∙ (λ i. watermarks-kept s (reach plan) (low_of plan items) items i ++ watermarks-marks s items i))
    ∙ last-if_some (last_watermark s items)
