-- Offers of rows to a list of taps, one after another.
use Rattle.std.proofs.Common.{◌≡◌, ◌≤◌, ◌<◌, ◌+◌, ℕ, Bool, true, false, not, ◌&&◌, cond, List, [], ◌∷◌, ◌++◌, filter, length, take, drop, get_or, refl, sym, ap, subst, ◌∙◌, arith, append_assoc, append-nil}
use Rattle.std.proofs.lemmas.List.{take_more, take_all, drop_more, take-append-drop}
use Rattle.std.specs.List.{AllZip}
use Rattle.sb_base.specs.records.declared.item.Record.{Record}
use Rattle.sb_emit.specs.declared.tap.TapFault.TheVariants as fault
use Rattle.sb_emit.specs.Offers.{LeavesThoseThatWantMore, StopsAt}
use Rattle.sb_emit.specs.Taps.{TapState, SawRow, wants_more_after}
use Rattle.sb_feed.specs.TapLists.{LeavesThoseThatStay, SawRows, StopsIn, stays_for, wants_more_after_each}

-- ---- one tap
wants_after_both : (is_full : List Record → Bool) (seen l m : List Record)
    → wants_more_after_each is_full seen (l ++ m) ≡ wants_more_after_each is_full seen l && wants_more_after_each is_full (seen ++ l) m
wants_after_both is_full seen [] m = ap (λ s. wants_more_after_each is_full s m) (sym (append-nil seen))
wants_after_both is_full seen (row ∷ l) m = with_first (not (is_full (seen ++ row ∷ []))) (wants_after_both is_full (seen ++ row ∷ []) l m)
  where
    with_first : (b : Bool) → wants_more_after_each is_full (seen ++ row ∷ []) (l ++ m) ≡ wants_more_after_each is_full (seen ++ row ∷ []) l && wants_more_after_each is_full ((seen ++ row ∷ []) ++ l) m
        → b && wants_more_after_each is_full (seen ++ row ∷ []) (l ++ m) ≡ (b && wants_more_after_each is_full (seen ++ row ∷ []) l) && wants_more_after_each is_full (seen ++ row ∷ l) m
    with_first true later = later ∙ ap (λ s. wants_more_after_each is_full (seen ++ row ∷ []) l && wants_more_after_each is_full s m) (append_assoc seen (row ∷ []) l)
    with_first false later = refl

-- a tap that saw some rows wants more after others if it does after all of them
stays_after : (l m : List Record) (tap saw : TapState) → SawRows l tap saw → stays_for l tap ≡ true → stays_for (l ++ m) tap ≡ stays_for m saw
stays_after l m tap saw sees stays =
    wants_after_both tap.is_full tap.seen l m
    ∙ ap (λ b. b && wants_more_after_each tap.is_full (tap.seen ++ l) m) stays
    ∙ (λ i. wants_more_after_each (sym sees.same_test i) (sym sees.seen i) m)

goes_before : (l m : List Record) (tap : TapState) → stays_for l tap ≡ false → stays_for (l ++ m) tap ≡ false
goes_before l m tap goes = wants_after_both tap.is_full tap.seen l m ∙ ap (λ b. b && wants_more_after_each tap.is_full (tap.seen ++ l) m) goes

saw_both : (l m : List Record) (a b c : TapState) → SawRows l a b → SawRows m b c → SawRows (l ++ m) a c
saw_both l m a b c first then = record {
  seen = then.seen ∙ ap (λ s. s ++ m) first.seen ∙ append_assoc a.seen l m;
  same_test = then.same_test ∙ first.same_test;
  never_falls = let x = first.never_falls in let y = then.never_falls in omega (arith, x, y);
}

saw_none : (tap : TapState) → SawRows [] tap tap
saw_none tap = record { seen = sym (append-nil tap.seen); same_test = refl; never_falls = omega arith }

saw_one : (row : Record) (old new : TapState) → SawRow row old new → SawRows (row ∷ []) old new
saw_one row old new saw = record { seen = saw.seen; same_test = saw.same_test; never_falls = saw.never_falls }

-- ---- a list of taps
-- with one tap before the others, which stays or goes
module _ (l : List Record) (tap : TapState) (taps : List TapState) where
  first_goes : (left : List TapState) → stays_for l tap ≡ false → LeavesThoseThatStay l taps left → LeavesThoseThatStay l (tap ∷ taps) left
  first_goes left goes leaves = subst (λ b. AllZip (SawRows l) (cond b (tap ∷ filter (stays_for l) taps) (filter (stays_for l) taps)) left) (sym goes) leaves

  first_stays : (saw : TapState) (left : List TapState) → stays_for l tap ≡ true → SawRows l tap saw → LeavesThoseThatStay l taps left → LeavesThoseThatStay l (tap ∷ taps) (saw ∷ left)
  first_stays saw left stays sees leaves = subst (λ b. AllZip (SawRows l) (cond b (tap ∷ filter (stays_for l) taps) (filter (stays_for l) taps)) (saw ∷ left)) (sym stays) (sees, leaves)

pub none_offered : (taps : List TapState) → LeavesThoseThatStay [] taps taps
none_offered [] = tt
none_offered (tap ∷ taps) = (saw_none tap, none_offered taps)

-- one row
pub one_offered : (row : Record) (old new : List TapState) → LeavesThoseThatWantMore row old new → LeavesThoseThatStay (row ∷ []) old new
one_offered row [] [] leaves = tt
one_offered row [] (saw ∷ left) leaves = absurd leaves
one_offered row (tap ∷ taps) new leaves = by_wish (wants_more_after row tap) refl new leaves (λ left h. one_offered row taps left h)
  where
    wants : (b : Bool) → b && true ≡ b
    wants true = refl
    wants false = refl

    by_wish : (b : Bool) → wants_more_after row tap ≡ b → (new : List TapState) → AllZip (SawRow row) (cond b (tap ∷ filter (wants_more_after row) taps) (filter (wants_more_after row) taps)) new
        → ((left : List TapState) → LeavesThoseThatWantMore row taps left → LeavesThoseThatStay (row ∷ []) taps left) → LeavesThoseThatStay (row ∷ []) (tap ∷ taps) new
    by_wish true is [] leaves others = absurd leaves
    by_wish true is (saw ∷ left) leaves others = first_stays (row ∷ []) tap taps saw left (wants (wants_more_after row tap) ∙ is) (saw_one row tap saw leaves.0) (others left leaves.1)
    by_wish false is new leaves others = first_goes (row ∷ []) tap taps new (wants (wants_more_after row tap) ∙ is) (others new leaves)

-- some rows and then others
pub both_offered : (l m : List Record) (old mid new : List TapState) → LeavesThoseThatStay l old mid → LeavesThoseThatStay m mid new → LeavesThoseThatStay (l ++ m) old new
both_offered l m [] [] new first then = nothing new then
  where
    nothing : (new : List TapState) → LeavesThoseThatStay m [] new → LeavesThoseThatStay (l ++ m) [] new
    nothing [] then = tt
    nothing (saw ∷ left) then = absurd then
both_offered l m [] (saw ∷ mid) new first then = absurd first
both_offered l m (tap ∷ taps) mid new first then = by_first (stays_for l tap) refl mid first new then (λ mid new first then. both_offered l m taps mid new first then)
  where
    Later : Type 0
    Later = (mid new : List TapState) → LeavesThoseThatStay l taps mid → LeavesThoseThatStay m mid new → LeavesThoseThatStay (l ++ m) taps new

    by_then : (between : TapState) (mid : List TapState) → stays_for l tap ≡ true → SawRows l tap between → LeavesThoseThatStay l taps mid
        → (b : Bool) → stays_for m between ≡ b → (new : List TapState) → AllZip (SawRows m) (cond b (between ∷ filter (stays_for m) mid) (filter (stays_for m) mid)) new
        → Later → LeavesThoseThatStay (l ++ m) (tap ∷ taps) new
    by_then between mid stays sees first true is [] then later = absurd then
    by_then between mid stays sees first true is (saw ∷ left) then later =
        first_stays (l ++ m) tap taps saw left (stays_after l m tap between sees stays ∙ is) (saw_both l m tap between saw sees then.0) (later mid left first then.1)
    by_then between mid stays sees first false is new then later =
        first_goes (l ++ m) tap taps new (stays_after l m tap between sees stays ∙ is) (later mid new first then)

    by_first : (b : Bool) → stays_for l tap ≡ b → (mid : List TapState) → AllZip (SawRows l) (cond b (tap ∷ filter (stays_for l) taps) (filter (stays_for l) taps)) mid
        → (new : List TapState) → LeavesThoseThatStay m mid new → Later → LeavesThoseThatStay (l ++ m) (tap ∷ taps) new
    by_first true is [] first new then later = absurd first
    by_first true is (between ∷ mid) first new then later = by_then between mid is first.0 first.1 (stays_for m between) refl new then later
    by_first false is mid first new then later = first_goes (l ++ m) tap taps new (goes_before l m tap is) (later mid new first then)

-- a tap fails behind some rows
pub stops_behind : (l m : List Record) (place : ℕ) (old mid new : List TapState) → LeavesThoseThatStay l old mid → StopsIn m place mid new → StopsIn (l ++ m) place old new
stops_behind l m place old mid new first s = record {
  earlier = l ++ s.earlier;
  row = s.row;
  later = s.later;
  are = ap (λ x. l ++ x) s.are ∙ sym (append_assoc l s.earlier (s.row ∷ s.later));
  between = s.between;
  left = both_offered l s.earlier old mid s.between first s.left;
  stops = s.stops;
}

-- ---- a loop over the rows
pub next_offered : (rows : List Record) (i : ℕ) (row : Record) (old mid new : List TapState) → row ≡ get_or rows i row → i < length rows → LeavesThoseThatStay (take i rows) old mid → LeavesThoseThatWantMore row mid new → LeavesThoseThatStay (take (i + 1) rows) old new
next_offered rows i row old mid new is within first then =
    subst (λ l. LeavesThoseThatStay l old new) (ap (λ r. take i rows ++ r ∷ []) is ∙ sym (take_more rows i row within)) (both_offered (take i rows) (row ∷ []) old mid new first (one_offered row mid new then))

pub next_stops : (rows : List Record) (i : ℕ) (row : Record) (place : ℕ) (old mid new : List TapState) → row ≡ get_or rows i row → i < length rows → LeavesThoseThatStay (take i rows) old mid → StopsAt row fault.Failed place mid new → StopsIn rows place old new
next_stops rows i row place old mid new is within first stops = record {
  earlier = take i rows;
  row = row;
  later = drop (i + 1) rows;
  are = sym (take-append-drop i rows) ∙ ap (λ l. take i rows ++ l) (drop_more rows i row within ∙ ap (λ r. r ∷ drop (i + 1) rows) (sym is));
  between = mid;
  left = first;
  stops = stops;
}

pub all_offered : (rows : List Record) (i : ℕ) (old new : List TapState) → length rows ≤ i → LeavesThoseThatStay (take i rows) old new → LeavesThoseThatStay rows old new
all_offered rows i old new whole leaves = subst (λ l. LeavesThoseThatStay l old new) (take_all i rows whole) leaves
