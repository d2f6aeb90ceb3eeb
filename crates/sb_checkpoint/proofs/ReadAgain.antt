-- The lines of what a checkpoint keeps are accepted.
use Rattle.std.proofs.Common.{◌≡◌, ◌≤◌, ◌<◌, ℕ, zero, suc, ◌+◌, ◌-◌, Bool, true, false, cond, eqb, List, [], ◌∷◌, ◌++◌, map, length, None, Result, Ok, Err, refl, sym, ap, subst, ◌∙◌, arith, inl, inr, append-nil, length-append}
use Rattle.std.specs.Prelude.{nat_lt, nat_le, replicate}
use Rattle.std.specs.List.{filter, flat_map, AllByRecursion}
use Rattle.std.proofs.lemmas.Bool.{cases_Bool}
use Rattle.std.proofs.lemmas.Bool.Decides.{nat_tests}
use Rattle.sb_pipeline.specs.records.declared.item.TheConstants.{MAX_TIME}
use Rattle.sb_pipeline.specs.records.declared.item.Item.{Item}
use Rattle.sb_pipeline.specs.records.declared.item.Item.TheVariants.{Rec, Mark, Skip, Late}
use Rattle.sb_pipeline.specs.records.declared.item.Stream.{Stream}
use Rattle.sb_pipeline.specs.records.declared.item.Stream.TheVariants.{A, B}
use Rattle.sb_pipeline.specs.records.declared.item.Streams.{Streams}
use Rattle.sb_pipeline.specs.records.declared.intake.LatePolicy.{LatePolicy}
use Rattle.sb_pipeline.specs.records.declared.intake.Refusal.{Refusal}
use Rattle.sb_pipeline.specs.records.declared.key.Keys.{Keys}
use Rattle.sb_pipeline.specs.records.Progress.{Progress}
use Rattle.sb_pipeline.specs.records.Lines.{IsTextOf, IsInRange, record_text, mark_text}
use Rattle.sb_pipeline.specs.records.Intake.{answer_to, timely, timely_if, after, mark_of, IsItemOf}
use Rattle.sb_pipeline.specs.records.Inputs.{progress_of, accepted_if, accepted_after}
use Rattle.sb_pipeline.specs.records.Reading.{item_of}
use Rattle.sb_pipeline.specs.records.Streams.{uses, last_or, watermark_in, last_watermark}
use Rattle.sb_pipeline.proofs.records.InputLemmas.{progress-more, tested_ok}
use Rattle.sb_pipeline.proofs.records.Grammar.{item_reads}
use Rattle.sb_pipeline.proofs.records.Elements.{All-join, All-passed, All-flat_map}
use Rattle.sb_pipeline.specs.Shapes.{Shape, streams_of}
use Rattle.sb_checkpoint.specs.Reach.{reach, is_within}
use Rattle.sb_checkpoint.specs.Texts.{item_text}
use Rattle.sb_checkpoint.specs.Checkpoints.{is_kept, low_of, kept_of, mark_item, mark_items, saved_items, resumed_items}
use Rattle.sb_checkpoint.specs.Laws.{accepted_in, ResumedLinesAreAccepted}
use Rattle.sb_checkpoint.proofs.Resuming.{last_marks}
use Rattle.sb_checkpoint.proofs.Runs.{join-assoc, IsInTime, tested-in_time, length-resumed}

-- what a line alone has to pass
abbrev pub IsFit : Streams → Keys → Item → Type 0
IsFit streams keys (Rec s r) = (uses streams s ≡ true) × IsInRange keys r × (length (record_text s r) ≤ 128)
IsFit streams keys (Mark s t) = (uses streams s ≡ true) × (t ≤ MAX_TIME) × (length (mark_text s t) ≤ 128)
IsFit streams keys Skip = Unit {0}
IsFit streams keys (Late n t m) = ⊥

-- the same, or a late record that was dropped
abbrev pub IsSound : Streams → Keys → Item → Type 0
IsSound streams keys (Rec s r) = IsFit streams keys (Rec s r)
IsSound streams keys (Mark s t) = IsFit streams keys (Mark s t)
IsSound streams keys Skip = Unit {0}
IsSound streams keys (Late n t m) = Unit {0}

kept-fit : (streams : Streams) (keys : Keys) (n w : ℕ) (i : Item) → IsSound streams keys i → is_kept n w i ≡ true → IsFit streams keys i
kept-fit streams keys n w (Rec s r) h k = h
kept-fit streams keys n w (Mark s t) h k = h
kept-fit streams keys n w Skip h k = tt
kept-fit streams keys n w (Late l t m) h k = cc

tested-short : (p : Progress) (line : List ℕ) (i : Item) → answer_to p line ≡ Ok i → (length line ≤ 128) × (p.lines < 4294967295)
tested-short p line i h = elim (cases_Bool (nat_le 4294967295 p.lines)) [
  | inl many ↦ cc (rw many at h)
  | inr few ↦ elim (cases_Bool (nat_lt 128 (length line))) [
    | inl long ↦ cc (rw (few, long) at h)
    | inr short ↦ (grind (arith, nat_tests), grind (arith, nat_tests))
  ]
]

sound : (p : Progress) (line : List ℕ) (i : Item) → IsItemOf p i line → IsInTime p i → length line ≤ 128 → IsSound p.streams p.keys i
sound p line (Rec s r) text time short = (time.0, text.0, subst (λ l. length l ≤ 128) text.1 short)
sound p line (Mark s t) text time short = (time.0, text.0, subst (λ l. length l ≤ 128) text.1 short)
sound p line Skip text time short = tt
sound p line (Late n t m) text time short = tt

pub accepted-sound : (streams : Streams) (late : LatePolicy) (keys : Keys) (lines : List (List ℕ)) (items : List Item) → AllByRecursion (IsSound streams keys) items → length items ≤ 4294967295
    → AllByRecursion (IsSound streams keys) (accepted_after streams late keys items lines).items × (length (accepted_after streams late keys items lines).items ≤ 4294967295)
accepted-sound streams late keys [] items all few = (all, few)
accepted-sound streams late keys (line ∷ lines) items all few = by_result (answer_to (progress_of streams late keys items) line) refl (λ i. accepted-sound streams late keys lines (items ++ i ∷ []))
  where
    by_result : (r : Result Item Refusal) → answer_to (progress_of streams late keys items) line ≡ r
        → ((i : Item) → AllByRecursion (IsSound streams keys) (items ++ i ∷ []) → length (items ++ i ∷ []) ≤ 4294967295
        → AllByRecursion (IsSound streams keys) (accepted_after streams late keys (items ++ i ∷ []) lines).items × (length (accepted_after streams late keys (items ++ i ∷ []) lines).items ≤ 4294967295))
        → AllByRecursion (IsSound streams keys) (accepted_if r items (λ more. accepted_after streams late keys more lines)).items × (length (accepted_if r items (λ more. accepted_after streams late keys more lines)).items ≤ 4294967295)
    by_result (Ok i) e on =
        let short = tested-short (progress_of streams late keys items) line i e in
        on i
        (All-join (IsSound streams keys) items (i ∷ []) all (sound (progress_of streams late keys items) line i (tested_ok _ line i e) (tested-in_time _ line i e) short.0, tt))
        (omega (arith, short.1, length-append items (i ∷ [])))
    by_result (Err x) e on = (all, few)

-- ---- a line that is read again
pub text-of : (streams : Streams) (keys : Keys) (i : Item) → IsFit streams keys i → IsTextOf keys i (item_text i)
text-of streams keys (Rec s r) h = (h.1, refl)
text-of streams keys (Mark s t) h = (h.1, refl)
text-of streams keys Skip h = ([], refl)
text-of streams keys (Late n t m) h = absurd h

pub text-short : (streams : Streams) (keys : Keys) (i : Item) → IsFit streams keys i → length (item_text i) ≤ 128
text-short streams keys (Rec s r) h = h.2
text-short streams keys (Mark s t) h = h.2
text-short streams keys Skip h = omega arith
text-short streams keys (Late n t m) h = absurd h

second : {X : Type 0} (b c : Bool) (x y z : X) → b ≡ true → c ≡ false → cond b (cond c x y) z ≡ y
second true false x y z e f = refl
second true true x y z e f = cc
second false c x y z e f = cc

third : {X : Type 0} (b c : Bool) (x y z : X) → b ≡ false → c ≡ false → cond b x (cond c y z) ≡ z
third false false x y z e f = refl
third false true x y z e f = cc
third true c x y z e f = cc

timely-passes : (p : Progress) (n : ℕ) (i : Item) → IsInTime p i → timely p n i ≡ Ok i
timely-passes p n (Rec s r) h = let low : nat_lt r.time (mark_of p s) ≡ false = grind (arith, nat_tests, h.1) in second (uses p.streams s) (nat_lt r.time (mark_of p s)) _ (Ok (Rec s r)) _ h.0 low
timely-passes p n (Mark s t) h = let low : nat_lt t (mark_of p s) ≡ false = grind (arith, nat_tests, h.1) in second (uses p.streams s) (nat_lt t (mark_of p s)) _ (Ok (Mark s t)) _ h.0 low
timely-passes p n Skip h = refl
timely-passes p n (Late l t m) h = refl

tested-passes : (p : Progress) (i : Item) → IsFit p.streams p.keys i → IsInTime p i → p.lines < 4294967295 → answer_to p (item_text i) ≡ Ok i
tested-passes p i h k few =
    let many : nat_le 4294967295 p.lines ≡ false = grind (arith, nat_tests) in
    let long : nat_lt 128 (length (item_text i)) ≡ false = let s = text-short p.streams p.keys i h in grind (arith, nat_tests) in
    third (nat_le 4294967295 p.lines) (nat_lt 128 (length (item_text i))) _ _ (timely_if p (p.lines + 1) (item_of p.keys (item_text i))) many long
    ∙ (ap (timely_if p (p.lines + 1)) (item_reads p.keys i (item_text i) (text-of p.streams p.keys i h)) ∙ timely-passes p (p.lines + 1) i k)

abbrev pub AreTimely : Progress → List Item → Type 0
AreTimely p [] = Unit {0}
AreTimely p (u ∷ us) = IsInTime p u × AreTimely (after u p) us

pub takes : (streams : Streams) (late : LatePolicy) (keys : Keys) (us base : List Item) → AllByRecursion (IsFit streams keys) us → AreTimely (progress_of streams late keys base) us → length base + length us ≤ 4294967295
    → accepted_after streams late keys base (map item_text us) ≡ record { items = base ++ us; refused = None }
takes streams late keys [] base all timely few = ap (λ l. record { items = l; refused = None }) (sym (append-nil base))
takes streams late keys (u ∷ us) base all timely few =
    ap (λ r. accepted_if r base (λ more. accepted_after streams late keys more (map item_text us))) (tested-passes (progress_of streams late keys base) u all.0 timely.0 (omega (arith, few)))
    ∙ takes streams late keys us (base ++ u ∷ []) all.1 (subst (λ p. AreTimely p us) (sym (progress-more streams late keys base u)) timely.1) (omega (arith, few, length-append base (u ∷ [])))
    ∙ ap (λ l. record { items = l; refused = None }) (join-assoc base (u ∷ []) us)

-- ---- the lines of a checkpoint
-- how many lines stand before them says nothing of whether items are in time
timely-behind : (n : ℕ) (p : Progress) (us : List Item) → AreTimely p us → AreTimely (record p { lines = n }) us
timely-behind n p [] h = tt
timely-behind n p (Rec A r ∷ us) h = (h.0, timely-behind (n + 1) (after (Rec A r) p) us h.1)
timely-behind n p (Rec B r ∷ us) h = (h.0, timely-behind (n + 1) (after (Rec B r) p) us h.1)
timely-behind n p (Mark A t ∷ us) h = (h.0, timely-behind (n + 1) (after (Mark A t) p) us h.1)
timely-behind n p (Mark B t ∷ us) h = (h.0, timely-behind (n + 1) (after (Mark B t) p) us h.1)
timely-behind n p (Skip ∷ us) h = (tt, timely-behind (n + 1) (after Skip p) us h.1)
timely-behind n p (Late l t m ∷ us) h = (tt, timely-behind (n + 1) (after (Late l t m) p) us h.1)

-- so they may stand behind comments
pub skips-before : (n : ℕ) (p : Progress) (us : List Item) → AreTimely p us → AreTimely p (replicate n Skip ++ us)
skips-before zero p us h = h
skips-before (suc n) p us h = (tt, skips-before n (after Skip p) us (timely-behind (p.lines + 1) p us h))

-- records of kept items, before the first watermark
kept-timely : (p : Progress) (n w : ℕ) (items rest : List Item) → p.mark_a ≡ 0 → p.mark_b ≡ 0 → AllByRecursion (IsSound p.streams p.keys) items
    → ((q : Progress) → q.streams ≡ p.streams → q.mark_a ≡ 0 → q.mark_b ≡ 0 → AreTimely q rest) → AreTimely p (filter (is_kept n w) items ++ rest)
kept-timely p n w [] rest a b all on = on p refl a b
kept-timely p n w (Rec s r ∷ items) rest a b all on =
    elim (is_within n w r.time) as (λ c. AreTimely p (cond c (Rec s r ∷ filter (is_kept n w) items) (filter (is_kept n w) items) ++ rest)) [
      | true ↦ ((all.0.0, none s), kept-timely (after (Rec s r) p) n w items rest a b all.1 on)
      | false ↦ kept-timely p n w items rest a b all.1 on
    ]
  where
    none : (s : Stream) → mark_of p s ≤ r.time
    none A = omega (arith, a)
    none B = omega (arith, b)
kept-timely p n w (Mark s t ∷ items) rest a b all on = kept-timely p n w items rest a b all.1 on
kept-timely p n w (Skip ∷ items) rest a b all on = kept-timely p n w items rest a b all.1 on
kept-timely p n w (Late l t m ∷ items) rest a b all on = kept-timely p n w items rest a b all.1 on

-- a watermark that is not 0 is one that was accepted
abbrev pub IsFitMark : Streams → Keys → Stream → ℕ → Type 0
IsFitMark streams keys s t = eqb t 0 ≡ false → IsFit streams keys (Mark s t)

last-holds : (P : ℕ → Type 0) (n : ℕ) (l : List ℕ) → P n → AllByRecursion P l → P (last_or n l)
last-holds P n [] p all = p
last-holds P n (x ∷ l) p all = last-holds P x l all.0 all.1

pub mark-fit : (streams : Streams) (keys : Keys) (s : Stream) (items : List Item) → AllByRecursion (IsSound streams keys) items → IsFitMark streams keys s (last_watermark s items)
mark-fit streams keys s items all =
    last-holds (IsFitMark streams keys s) 0 (flat_map (watermark_in s) items) (λ h. cc) (All-flat_map (IsSound streams keys) (IsFitMark streams keys s) (watermark_in s) (one s) items all)
  where
    one : (s : Stream) (i : Item) → IsSound streams keys i → AllByRecursion (IsFitMark streams keys s) (watermark_in s i)
    one A (Mark A t) h = (λ _. h, tt)
    one B (Mark B t) h = (λ _. h, tt)
    one A (Mark B t) h = tt
    one B (Mark A t) h = tt
    one A (Rec u r) h = tt
    one B (Rec u r) h = tt
    one A Skip h = tt
    one B Skip h = tt
    one A (Late n t m) h = tt
    one B (Late n t m) h = tt

-- a stream with a watermark that is not 0 is used
abbrev IsUsed : Streams → Stream → ℕ → Type 0
IsUsed streams s t = eqb t 0 ≡ false → uses streams s ≡ true

b-timely : (q : Progress) (t : ℕ) → q.mark_b ≡ 0 → IsUsed q.streams B t → AreTimely q (mark_item B t)
b-timely q t b h = by_case (eqb t 0) refl
  where
    by_case : (c : Bool) → eqb t 0 ≡ c → AreTimely q (cond c [] (Mark B t ∷ []))
    by_case true e = tt
    by_case false e = ((h e, omega (arith, b)), tt)

a-timely : (q : Progress) (t u : ℕ) → q.mark_a ≡ 0 → q.mark_b ≡ 0 → IsUsed q.streams A t → IsUsed q.streams B u → AreTimely q (mark_items t u)
a-timely q t u a b h k = by_case (eqb t 0) refl
  where
    by_case : (c : Bool) → eqb t 0 ≡ c → AreTimely q (cond c [] (Mark A t ∷ []) ++ mark_item B u)
    by_case true e = b-timely q u b k
    by_case false e = ((h e, omega (arith, a)), b-timely (after (Mark A t) q) u b k)

module _ (streams : Streams) (keys : Keys) where
  pub mark-used : (s : Stream) (t : ℕ) → IsFitMark streams keys s t → IsUsed streams s t
  mark-used s t h e = (h e).0

  mark_item-fit : (s : Stream) (t : ℕ) → IsFitMark streams keys s t → AllByRecursion (IsFit streams keys) (mark_item s t)
  mark_item-fit s t h = by_case (eqb t 0) refl
    where
      by_case : (b : Bool) → eqb t 0 ≡ b → AllByRecursion (IsFit streams keys) (cond b [] (Mark s t ∷ []))
      by_case true e = tt
      by_case false e = (h e, tt)

  pub skips-fit : (n : ℕ) → AllByRecursion (IsFit streams keys) (replicate n Skip)
  skips-fit zero = tt
  skips-fit (suc n) = (tt, skips-fit n)

pub saved-fit : (plan : Shape) (items : List Item) → AllByRecursion (IsSound (streams_of plan) plan.keys) items → AllByRecursion (IsFit (streams_of plan) plan.keys) (saved_items plan items)
saved-fit plan items all =
    All-join (IsFit streams keys) (kept_of plan items) (last_marks items)
    (All-passed (IsSound streams keys) (IsFit streams keys) (is_kept (reach plan) (low_of plan items)) (λ i h k. kept-fit streams keys (reach plan) (low_of plan items) i h k) items all)
    (All-join (IsFit streams keys) (mark_item A a) (mark_item B b) (mark_item-fit streams keys A a (mark-fit streams keys A items all)) (mark_item-fit streams keys B b (mark-fit streams keys B items all)))
  where
    streams : Streams
    streams = streams_of plan

    keys : Keys
    keys = plan.keys

    a : ℕ
    a = last_watermark A items

    b : ℕ
    b = last_watermark B items

pub resumed-fit : (plan : Shape) (items : List Item) → AllByRecursion (IsSound (streams_of plan) plan.keys) items → AllByRecursion (IsFit (streams_of plan) plan.keys) (resumed_items plan items)
resumed-fit plan items all =
    All-join (IsFit (streams_of plan) plan.keys) (replicate (length items - length (saved_items plan items)) Skip) (saved_items plan items) (skips-fit (streams_of plan) plan.keys (length items - length (saved_items plan items))) (saved-fit plan items all)

resumed-takes : (plan : Shape) (items : List Item) → AllByRecursion (IsSound (streams_of plan) plan.keys) items → length items ≤ 4294967295
    → accepted_in plan (map item_text (resumed_items plan items)) ≡ record { items = resumed_items plan items; refused = None }
resumed-takes plan items all few = takes streams plan.late keys (resumed_items plan items) [] fits timely (omega (arith, few, length-resumed plan items))
  where
    streams : Streams
    streams = streams_of plan

    keys : Keys
    keys = plan.keys

    a : ℕ
    a = last_watermark A items

    b : ℕ
    b = last_watermark B items

    fit-a : IsFitMark streams keys A a
    fit-a = mark-fit streams keys A items all

    fit-b : IsFitMark streams keys B b
    fit-b = mark-fit streams keys B items all

    fits : AllByRecursion (IsFit streams keys) (resumed_items plan items)
    fits = resumed-fit plan items all

    first : Progress
    first = progress_of streams plan.late keys []

    timely : AreTimely first (resumed_items plan items)
    timely =
        skips-before (length items - length (saved_items plan items)) first (saved_items plan items)
        (kept-timely first (reach plan) (low_of plan items) items (last_marks items) refl refl all
        (λ q same za zb. a-timely q a b za zb (subst (λ s. IsUsed s A a) (sym same) (mark-used streams keys A a fit-a)) (subst (λ s. IsUsed s B b) (sym same) (mark-used streams keys B b fit-b))))

pub resumed-accepted : ResumedLinesAreAccepted
resumed-accepted plan lines =
    let items : List Item = (accepted_in plan lines).items in
    let good = accepted-sound (streams_of plan) plan.late plan.keys lines [] tt (omega arith) in
    resumed-takes plan items good.0 good.1

pub accepted-resumed-fit : (plan : Shape) (lines : List (List ℕ)) → AllByRecursion (IsFit (streams_of plan) plan.keys) (resumed_items plan (accepted_in plan lines).items)
accepted-resumed-fit plan lines = resumed-fit plan (accepted_in plan lines).items (accepted-sound (streams_of plan) plan.late plan.keys lines [] tt (omega arith)).0
