-- Rows that rise, and calls that are apart, among changes.
use Rattle.std.proofs.Common.{◌≡◌, ◌⊎◌, inl, inr, ⊎_elim, ℕ, ◌+◌, ◌≤◌, ◌<◌, List, [], ◌∷◌, ◌++◌, sym, refl, subst, ap, ◌∙◌, arith}
use Rattle.std.specs.List.{AllByRecursion}
use Rattle.std.specs.Option.{option_map_or}
use Rattle.std.specs.Prelude.{◌-◌, length, slice_get, fold, Option, Some, None, true, false, Bool, if◌then◌else◌}
use Rattle.sb_emit.specs.records.declared.item.Record.{Record}
use Rattle.sb_emit.specs.records.declared.key.Key.{Key}
use Rattle.sb_emit.specs.records.Keys.{same_key}
use Rattle.sb_emit.proofs.records.Elements.{every}
use Rattle.sb_emit.specs.Outputs.{AreApart}
use Rattle.sb_emit.proofs.Apart.{apart_at, apart_front, apart_join}
use Rattle.sb_live.specs.declared.change.Change.{Change}
use Rattle.sb_live.specs.declared.change.Change.TheVariants.{Row, End}
use Rattle.sb_live.specs.Changes.{AreCallsApart, IsPrefix, call_of, rows_in}
use Rattle.sb_live.specs.Lasts.{last_of, later, nearer}
use Rattle.sb_live.specs.ShowLaws.{rows_in-append, next-shows, rise_first}
use Rattle.sb_live.specs.Showings.{ShownRows, Shows, ShowsSome}
use Rattle.sb_live.specs.Rising.{BeginAbove, RiseFrom, next_after, next_time, next_in, IsNoEarlier}

pub rows_in-call_of : (rows : List Record) → rows_in (call_of rows) ≡ rows
rows_in-call_of [] = refl
rows_in-call_of (r ∷ rows) = ap (λ (l : List Record). r ∷ l) (rows_in-call_of rows)

-- a call that shows rows grows the changes by them
pub shows_call : (old new : List Change) (rows : List Record) → new ≡ old ++ call_of rows → Shows old rows new
shows_call old new rows is = record { more = call_of rows; grown = is; shown = rows_in-call_of rows }

pub next_after_call : (changes : List Change) (rows : List Record) → next_in (changes ++ call_of rows) ≡ next_time (next_in changes) rows
next_after_call changes rows = next-shows changes (changes ++ call_of rows) rows (shows_call changes (changes ++ call_of rows) rows refl)

-- the next time is that after the last row, if there is one
pub next_time-at : (floor : ℕ) (rows : List Record) → option_map_or (λ r. r.time + 1) (slice_get rows (length rows - 1)) floor ≡ next_time floor rows
next_time-at floor [] = refl
next_time-at floor (r ∷ rows) =
    let place : length (r ∷ rows) - 1 ≡ length rows = omega arith in
    ap (λ k. option_map_or (λ s. s.time + 1) (slice_get (r ∷ rows) k) floor) place ∙ from_first r rows
  where
    from_first : (r : Record) (rows : List Record) → option_map_or (λ s. s.time + 1) (slice_get (r ∷ rows) (length rows)) floor ≡ next_time (r.time + 1) rows
    from_first r [] = refl
    from_first r (s ∷ rows) = from_first s rows

-- rows rise from above a row if they rise and their first is above it
pub rise_above : (latest : Option ℕ) (rows : List Record) → BeginAbove latest rows → RiseFrom 0 rows → RiseFrom (next_after latest) rows
rise_above latest [] above rise = tt
rise_above None (r ∷ rows) above rise = rise
rise_above (Some t) (r ∷ rows) above rise = (omega (arith, above), rise.1)

pub rises_above : (latest : Option ℕ) (rows : List Record) → RiseFrom (next_after latest) rows → BeginAbove latest rows × RiseFrom 0 rows
rises_above None [] rise = (tt, tt)
rises_above (Some t) [] rise = (tt, tt)
rises_above None (r ∷ rows) rise = (tt, rise)
rises_above (Some t) (r ∷ rows) rise = let up = rise.0 in (omega (arith, up), (omega arith, rise.1))

-- ---- the last time
-- the time of the last of the rows, or the floor where there is none
abbrev pub last_time : ℕ → List Record → ℕ
last_time floor rows = fold (λ _ (r : Record). r.time) floor rows

-- the time of the last row that was shown, or 0 where none was
abbrev pub latest_in : List Change → ℕ
latest_in changes = last_time 0 (rows_in changes)

pub rise_after : (floor : ℕ) (a b : List Record) → RiseFrom floor (a ++ b) → RiseFrom (last_time floor a) b
rise_after floor [] b h = h
rise_after floor (r ∷ a) b h = rise_after r.time a b h.1

pub rise_lower : (low high : ℕ) (rows : List Record) → low ≤ high → RiseFrom high rows → RiseFrom low rows
rise_lower low high [] le h = tt
rise_lower low high (r ∷ rows) le h = let up = h.0 in (omega (arith, le, up), h.1)

pub last_below_next : (last next : ℕ) (rows : List Record) → last ≤ next → last_time last rows ≤ next_time next rows
last_below_next last next [] le = le
last_below_next last next (r ∷ rows) le = last_below_next r.time (r.time + 1) rows (omega arith)

-- ---- calls that are apart
-- rows that rise are all before the time after the last of them
pub rise_below : (floor next : ℕ) (rows : List Record) → RiseFrom floor rows → AllByRecursion (λ r. r.time < next_time next rows) rows
rise_below floor next [] rise = tt
rise_below floor next (r ∷ rows) rise = (at_last r.time rows rise.1, rise_below r.time (r.time + 1) rows rise.1)
  where
    at_last : (t : ℕ) (rows : List Record) → RiseFrom t rows → t < next_time (t + 1) rows
    at_last t [] rise = omega arith
    at_last t (s ∷ rows) rise = let up = rise.0 in let high = at_last s.time rows rise.1 in omega (arith, up, high)

pub rise_from : (floor : ℕ) (rows : List Record) → RiseFrom floor rows → AllByRecursion (λ r. floor ≤ r.time) rows
rise_from floor [] rise = tt
rise_from floor (r ∷ rows) rise = (rise.0, every (λ s up. let first = rise.0 in omega (arith, up, first)) rows (rise_from r.time rows rise.1))

-- a call more either comes behind the end of a call, or has the last end
split_call : (changes : List Change) (rows : List Record) (before behind : List Change) → changes ++ call_of rows ≡ before ++ End ∷ behind
    → ((between : List Change) × (changes ≡ before ++ End ∷ between) × (behind ≡ between ++ call_of rows)) ⊎ (behind ≡ [])
split_call [] rows before behind is = inr (last_end rows before is)
  where
    last_end : (rows : List Record) (before : List Change) → call_of rows ≡ before ++ End ∷ behind → behind ≡ []
    last_end [] [] is = sym (cc is)
    last_end [] (c ∷ []) is = absurd (cc is)
    last_end [] (c ∷ d ∷ before) is = absurd (cc is)
    last_end (r ∷ rows) [] is = absurd (cc is)
    last_end (r ∷ rows) (c ∷ before) is = last_end rows before (cc is)
split_call (c ∷ changes) rows [] behind is = let e : c ≡ End = cc is in let same : changes ++ call_of rows ≡ behind = cc is in inl (changes, ap (λ d. d ∷ changes) e, sym same)
split_call (c ∷ changes) rows (d ∷ before) behind is =
    let e : c ≡ d = cc is in
    ⊎_elim (λ (t : (between : List Change) × (changes ≡ before ++ End ∷ between) × (behind ≡ between ++ call_of rows)). inl (t.0, (λ i. e i ∷ t.1 i), t.2))
    (λ (none : behind ≡ []). inr none) (split_call changes rows before behind (cc is))

-- a call whose rows are later than those of all calls before is apart from these
pub call_apart : (changes : List Change) (rows : List Record) → AreCallsApart changes → AreApart (rows_in changes) rows → AreCallsApart (changes ++ call_of rows)
call_apart changes rows apart new before behind is = ⊎_elim within last (split_call changes rows before behind is)
  where
    within : (between : List Change) × (changes ≡ before ++ End ∷ between) × (behind ≡ between ++ call_of rows) → AreApart (rows_in before) (rows_in behind)
    within t =
        let first : AreApart (rows_in before) rows = apart_front (rows_in before) (rows_in (End ∷ t.0)) rows (subst (λ l. AreApart l rows) (ap rows_in t.1 ∙ rows_in-append before (End ∷ t.0)) new) in
        subst (AreApart (rows_in before)) (sym (ap rows_in t.2 ∙ rows_in-append t.0 (call_of rows) ∙ ap (λ l. rows_in t.0 ++ l) (rows_in-call_of rows)))
        (apart_join (rows_in before) (rows_in t.0) rows (apart before t.0 t.1) first)

    last : behind ≡ [] → AreApart (rows_in before) (rows_in behind)
    last none = subst (λ (l : List Change). AreApart (rows_in before) (rows_in l)) (sym none) (before_none (rows_in before))
      where
        before_none : (l : List Record) → AreApart l []
        before_none [] = tt
        before_none (r ∷ l) = (tt, before_none l)

-- and so is one whose rows rise from above the last row
pub rising_apart : (changes : List Change) (rows : List Record) → RiseFrom 0 (rows_in changes) → RiseFrom (next_in changes) rows → AreApart (rows_in changes) rows
rising_apart changes rows rises rise = apart_at (next_in changes) (rows_in changes) rows (rise_below 0 0 (rows_in changes) rises) (rise_from (next_in changes) rows rise)

-- rows that rise go on with rows that rise from there
pub rise_on : (floor : ℕ) (a b : List Record) → RiseFrom floor a → RiseFrom (last_time floor a) b → RiseFrom floor (a ++ b)
rise_on floor [] b h k = k
rise_on floor (r ∷ a) b h k = (h.0, rise_on r.time a b h.1 k)

-- changes whose rows rise go on with rows that rise from the last of them
pub rising_on : (a b : List Change) → RiseFrom 0 (rows_in a) → RiseFrom (latest_in a) (rows_in b) → RiseFrom 0 (rows_in (a ++ b))
rising_on a b h k = subst (RiseFrom 0) (sym (rows_in-append a b)) (rise_on 0 (rows_in a) (rows_in b) h k)

-- a row that was found is not after the time t
abbrev pub IsUpTo : ℕ → Option Record → Type 0
IsUpTo t None = Unit {0}
IsUpTo t (Some r) = r.time ≤ t

no_earlier_self : (found : Option Record) → IsNoEarlier found found
no_earlier_self None = tt
no_earlier_self (Some r) = omega arith

no_earlier_trans : (t : ℕ) (found : Option Record) (r : Record) (now : Option Record) → IsUpTo t found → t ≤ r.time → IsNoEarlier (Some r) now → IsNoEarlier found now
no_earlier_trans t None r now h k i = tt
no_earlier_trans t (Some q) r None h k i = i
no_earlier_trans t (Some q) r (Some s) h k i = omega (arith, h, k, i)

up_to_later : (t u : ℕ) (found : Option Record) → IsUpTo t found → t ≤ u → IsUpTo u found
up_to_later t u None h k = tt
up_to_later t u (Some q) h k = omega (arith, h, k)

-- what was found is no later than the last row
pub found_up_to : (k : Key) (t : ℕ) (found : Option Record) (changes : List Change) → IsUpTo t found → RiseFrom t (rows_in changes) → IsUpTo (last_time t (rows_in changes)) (fold (later k) found changes)
found_up_to k t found [] h up = h
found_up_to k t found (End ∷ changes) h up = found_up_to k t found changes h up
found_up_to k t found (Row r ∷ changes) h up = found_up_to k r.time (later k found (Row r)) changes (step (same_key r.key k)) up.1
  where
    step : (same : Bool) → IsUpTo r.time (if same then Some r else found)
    step true = omega arith
    step false = up_to_later t r.time found h up.0

-- what is found later is not earlier
pub found_no_earlier : (k : Key) (t : ℕ) (found : Option Record) (changes : List Change) → IsUpTo t found → RiseFrom t (rows_in changes) → IsNoEarlier found (fold (later k) found changes)
found_no_earlier k t found [] h up = no_earlier_self found
found_no_earlier k t found (End ∷ changes) h up = found_no_earlier k t found changes h up
found_no_earlier k t found (Row r ∷ changes) h up =
    step (same_key r.key k)
    (no_earlier_trans t found r (fold (later k) (Some r) changes) h up.0 (found_no_earlier k r.time (Some r) changes (omega arith) up.1))
    (found_no_earlier k r.time found changes (up_to_later t r.time found h up.0) up.1)
  where
    step : (same : Bool) → IsNoEarlier found (fold (later k) (Some r) changes) → IsNoEarlier found (fold (later k) found changes)
        → IsNoEarlier found (fold (later k) (if same then Some r else found) changes)
    step true here later_on = here
    step false here later_on = later_on

fold_on : (k : Key) (found : Option Record) (a b : List Change) → fold (later k) found (a ++ b) ≡ fold (later k) (fold (later k) found a) b
fold_on k found [] b = refl
fold_on k found (c ∷ a) b = fold_on k (later k found c) a b

-- the last row is found by the rows alone
pub rows_fold : (k : Key) (found : Option Record) (changes : List Change) → fold (later k) found changes ≡ fold (nearer k) found (rows_in changes)
rows_fold k found [] = refl
rows_fold k found (Row r ∷ changes) = rows_fold k (later k found (Row r)) changes
rows_fold k found (End ∷ changes) = rows_fold k found changes

-- the last row of a key is no earlier than that of a front
pub last_no_earlier : (front changes : List Change) → IsPrefix front changes → RiseFrom 0 (rows_in changes) → (k : Key) → IsNoEarlier (last_of k front) (last_of k changes)
last_no_earlier front changes p up k =
    let rest = p.0 in
    let rises : RiseFrom 0 (rows_in front ++ rows_in rest) = subst (RiseFrom 0) (rows_in-append front rest) (subst (λ (z : List Change). RiseFrom 0 (rows_in z)) (sym p.1) up) in
    let first : RiseFrom 0 (rows_in front) = rise_first 0 (rows_in front) (rows_in rest) rises in
    subst (λ (z : List Change). IsNoEarlier (last_of k front) (last_of k z)) p.1
    (subst (IsNoEarlier (last_of k front)) (sym (fold_on k None front rest))
    (found_no_earlier k (latest_in front) (last_of k front) rest (found_up_to k 0 None front tt first) (rise_after 0 (rows_in front) (rows_in rest) rises)))

-- rows that rise are not refused
pub never_refused : (old new : ShownRows) (rows : List Record) → ShowsSome old rows new → RiseFrom (next_in old.out.changes) rows → new.faults ≡ old.faults
never_refused old new rows h rise = ⊎_elim (λ (e : new.faults ≡ old.faults). e) (λ (falls : RiseFrom (next_in old.out.changes) rows → ⊥). absurd (falls rise)) h.falls
