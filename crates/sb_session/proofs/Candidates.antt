-- The candidates of a closing, as records come and sessions close.
use Rattle.std.proofs.Common.{◌≡◌, ℕ, ◌+◌, ◌≤◌, ◌<◌, zero, suc, Bool, true, false, eqb, ltb, List, [], ◌∷◌, ◌++◌, sym, refl, ap, ◌∙◌, arith, ⊎_elim}
use Rattle.std.specs.Prelude.{◌||◌, ◌&&◌, All, filter, nat_lt}
use Rattle.std.specs.List.Sorted.{IsStrictlySortedBy}
use Rattle.std.proofs.lemmas.List.Elements.{recursion_from_All}
use Rattle.std.proofs.lemmas.Bool.{lt-ltb, ltb-true, eqb-true, and_parts, cases_lt}
use Rattle.std.proofs.lemmas.List.Folds.{list_any-append, Any-from_list_any, list_any-from_Any}
use Rattle.std.proofs.lemmas.Map.Views.{tells_apart}
use Rattle.sb_windowed.specs.records.declared.item.Record.{Record}
use Rattle.sb_windowed.specs.records.declared.key.Key.{Key}
use Rattle.sb_windowed.specs.records.Keys.{same_key}
use Rattle.sb_windowed.specs.records.Reorderings.{IsReordered}
use Rattle.sb_windowed.proofs.records.Elements.{All-any, All-passed, All-anything}
use Rattle.sb_windowed.proofs.records.KeyOrder.{exact_keys}
use Rattle.sb_windowed.proofs.records.Sums.{any_reordered}
use Rattle.sb_windowed.specs.window.declared.keyed_window.KeyedWindow.{KeyedWindow}
use Rattle.sb_windowed.specs.window.Windows.{keyed_window_cmp}
use Rattle.sb_windowed.specs.Sessions.{end_from, times_from, session_end, is_session_open}
use Rattle.sb_windowed.proofs.SessionEnds.{IsEndOf, has_time, end-is}
use Rattle.sb_windowed.proofs.SessionLaws.{end-rises, still, or_cases, or_left, or_right, any-filter}
use Rattle.sb_session.specs.Candidates.{is_candidate, is_followed, HasCandidates, AreDue}
use Rattle.sb_session.proofs.Sets.{early-goes}
use Rattle.sb_session.proofs.Closing.{all-have}

-- where the list has records of a time
abbrev has_it : Key → ℕ → Record → Bool
has_it key t r = same_key r.key key && eqb r.time t

reordered : (key : Key) (t : ℕ) (l m : List Record) → IsReordered l m → has_time key l t ≡ has_time key m t
reordered key t l m h = any_reordered (has_it key t) l m h

-- the key has a later time, less than the gap after this one
abbrev IsFollowed : ℕ → List Record → Key → ℕ → Type 0
IsFollowed gap l key t = (u : ℕ) × (t < u) × (u < t + gap) × (has_time key l u ≡ true)

from-followed : (gap : ℕ) (l : List Record) (key : Key) (t : ℕ) → is_followed gap l key t ≡ true → IsFollowed gap l key t
from-followed gap l key t h =
    All-any (λ r. has_time r.key l r.time ≡ true) (IsFollowed gap l key t) (λ r. same_key r.key key && (nat_lt t r.time && nat_lt r.time (t + gap)))
    (λ r has is. let parts = and_parts (same_key r.key key) _ is in
    let times = and_parts (ltb t r.time) (ltb r.time (t + gap)) parts.1 in
    (r.time, ltb-true t r.time times.0, ltb-true r.time (t + gap) times.1, ap (λ k. has_time k l r.time) (sym (tells_apart exact_keys r.key key parts.0)) ∙ has)) l (all-have l) h

to-followed : (gap : ℕ) (l : List Record) (key : Key) (t : ℕ) → IsFollowed gap l key t → is_followed gap l key t ≡ true
to-followed gap l key t (u, after, near, has) =
    let (k, r, within, at, is) = Any-from_list_any (has_it key u) l has in
    let parts = and_parts (same_key r.key key) (eqb r.time u) is in
    let time : r.time ≡ u = eqb-true r.time u parts.1 in
    list_any-from_Any (λ r. same_key r.key key && (nat_lt t r.time && nat_lt r.time (t + gap))) l
    (k, r, within, at, λ i. parts.0 i && (lt-ltb t r.time (omega (arith, time, after)) i && lt-ltb r.time (t + gap) (omega (arith, time, near)) i))

-- a later time is one among more records
more-followed : (gap : ℕ) (l m : List Record) (key : Key) (t : ℕ) → ((u : ℕ) → t < u → has_time key l u ≡ true → has_time key m u ≡ true) → is_followed gap l key t ≡ true → is_followed gap m key t ≡ true
more-followed gap l m key t among h = let (u, after, near, has) = from-followed gap l key t h in to-followed gap m key t (u, after, near, among u after has)

-- ---- a record comes, and the end that it makes
pub candidates-add : (gap : ℕ) (kept later : List Record) (r : Record) (due more : List KeyedWindow) → IsReordered later (kept ++ r ∷ [])
    → ((end : ℕ) (key : Key) → is_candidate end key due ≡ true → is_candidate end key more ≡ true) → is_candidate (r.time + gap) r.key more ≡ true
    → HasCandidates gap kept due → HasCandidates gap later more
candidates-add gap kept later r due more is stay comes held key t has =
    or_cases (has_time key kept t) (has_time key (r ∷ []) t) ((is_candidate (t + gap) key more || is_followed gap later key t) ≡ true)
    (λ old. or_cases (is_candidate (t + gap) key due) (is_followed gap kept key t) ((is_candidate (t + gap) key more || is_followed gap later key t) ≡ true)
    (λ among. or_left (is_candidate (t + gap) key more) (is_followed gap later key t) (stay (t + gap) key among))
    (λ followed. or_right (is_candidate (t + gap) key more) (is_followed gap later key t) (more-followed gap kept later key t (λ u _ h. here u h) followed)) (held key t old))
    (λ new. let parts = and_parts (same_key r.key key) (eqb r.time t) (sym (or_false (has_it key t r)) ∙ new) in
    or_left (is_candidate (t + gap) key more) (is_followed gap later key t) ((λ i. is_candidate (sym (eqb-true r.time t parts.1) i + gap) (sym (tells_apart exact_keys r.key key parts.0) i) more) ∙ comes))
    (sym (reordered key t later (kept ++ r ∷ []) is ∙ split t) ∙ has)
  where
    or_false : (b : Bool) → (b || false) ≡ b
    or_false true = refl
    or_false false = refl

    split : (u : ℕ) → has_time key (kept ++ r ∷ []) u ≡ (has_time key kept u || has_time key (r ∷ []) u)
    split u = list_any-append (has_it key u) kept (r ∷ [])

    here : (u : ℕ) → has_time key kept u ≡ true → has_time key later u ≡ true
    here u h = reordered key u later (kept ++ r ∷ []) is ∙ split u ∙ or_left (has_time key kept u) (has_time key (r ∷ []) u) h

-- ---- a closing
-- the end of the session of a time of a key
abbrev end_at : ℕ → Key → List Record → ℕ → ℕ
end_at gap key l t = end_from gap t (times_from key t l)

-- what stays is open
open-stays : (gap mark : ℕ) (l : List Record) (key : Key) (t : ℕ) → has_time key (filter (is_session_open gap mark l) l) t ≡ true → mark < end_at gap key l t
open-stays gap mark l key t has =
    All-any (λ r. is_session_open gap mark l r ≡ true) (mark < end_at gap key l t) (has_it key t)
    (λ r open_ is. let parts = and_parts (same_key r.key key) (eqb r.time t) is in
    let same : session_end gap l r ≡ end_at gap key l t = λ i. end_at gap (tells_apart exact_keys r.key key parts.0 i) l (eqb-true r.time t parts.1 i) in
    omega (arith, same, ltb-true mark (session_end gap l r) open_))
    (filter (is_session_open gap mark l) l) (All-passed (λ _. Unit {0}) (λ r. is_session_open gap mark l r ≡ true) (is_session_open gap mark l) (λ r _ h. h) l (All-anything l)) has

-- the candidates that end after the mark are those of what stays
pub candidates-close : (gap mark : ℕ) (kept later : List Record) (due left : List KeyedWindow) → IsReordered later (filter (is_session_open gap mark kept) kept)
    → ((end : ℕ) (key : Key) → mark < end → is_candidate end key due ≡ true → is_candidate end key left ≡ true) → HasCandidates gap kept due → HasCandidates gap later left
candidates-close gap mark kept later due left is stay held key t has =
    or_cases (is_candidate (t + gap) key due) (is_followed gap kept key t) ((is_candidate (t + gap) key left || is_followed gap later key t) ≡ true)
    (λ among. ⊎_elim (λ after. or_left (is_candidate (t + gap) key left) (is_followed gap later key t) (stay (t + gap) key after among))
    (λ by_mark. let (u, after, near, there) = (end-is gap key t kept).goes_on t (omega arith) (omega (arith, open_, by_mark)) in
    or_right (is_candidate (t + gap) key left) (is_followed gap later key t) (to-followed gap later key t (u, after, near, stays u (omega (arith, after)) there)))
    (cases_lt mark (t + gap)))
    (λ followed. or_right (is_candidate (t + gap) key left) (is_followed gap later key t) (more-followed gap kept later key t (λ u after h. stays u (omega (arith, after)) h) followed))
    (held key t (any-filter (has_it key t) (is_session_open gap mark kept) kept there_open))
  where
    there_open : has_time key (filter (is_session_open gap mark kept) kept) t ≡ true
    there_open = sym (reordered key t later (filter (is_session_open gap mark kept) kept) is) ∙ has

    open_ : mark < end_at gap key kept t
    open_ = open-stays gap mark kept key t there_open

    stays : (u : ℕ) → t ≤ u → has_time key kept u ≡ true → has_time key later u ≡ true
    stays u after h =
        reordered key u later (filter (is_session_open gap mark kept) kept) is
        ∙ still gap mark kept [] tt key u (let up : end_at gap key kept t ≤ end_at gap key kept u = end-rises gap key kept t u after in omega (arith, open_, up)) h

-- ---- each session that ends has its end among the candidates
-- the last time of a session is the gap before its end
last-time : (n : ℕ) (has : ℕ → Bool) (gap t e : ℕ) → e ≤ t + n → IsEndOf has gap t e → has t ≡ true → (v : ℕ) × (has v ≡ true) × (v + gap ≡ e)
last-time zero has gap t e near is there = (t, there, let k : t + gap ≤ e = is.later in omega (arith, near, k))
last-time (suc n) has gap t e near is there = ⊎_elim
    (λ more. let (u, after, before, has_u) = is.goes_on t (omega arith) more in
    last-time n has gap u e (omega (arith, near, after)) (record {
      later = ⊎_elim (λ past. let k : true ≡ false = sym has_u ∙ is.silent u (omega (arith, before, more)) past in cc) (λ k. k) (cases_lt e (u + gap));
      silent = is.silent;
      goes_on = λ x from. is.goes_on x (omega (arith, from, after));
    }) has_u)
    (λ last. (t, there, let k : t + gap ≤ e = is.later in omega (arith, last, k)))
    (cases_lt (t + gap) e)

pub candidates-due : (gap : ℕ) (kept : List Record) (due : List KeyedWindow) → HasCandidates gap kept due → (r : Record) → has_time r.key kept r.time ≡ true → is_candidate (session_end gap kept r) r.key due ≡ true
candidates-due gap kept due held r has =
    let e = session_end gap kept r in
    let (v, there, last) = last-time e (λ u. has_time r.key kept u) gap r.time e (omega arith) (end-is gap r.key r.time kept) has in
    or_cases (is_candidate (v + gap) r.key due) (is_followed gap kept r.key v) (is_candidate e r.key due ≡ true) (λ among. ap (λ end. is_candidate end r.key due) (sym last) ∙ among)
    (λ followed. let (u, after, near, has_u) = from-followed gap kept r.key v followed in let k : true ≡ false = sym has_u ∙ (end-is gap r.key r.time kept).silent u (omega (arith, near, last)) (omega (arith, after, last)) in cc)
    (held r.key v there)

-- so what is taken out is due
pub are-due : (gap mark : ℕ) (l : List Record) (due ended left : List KeyedWindow) → HasCandidates gap l due → due ≡ ended ++ left → All (λ q. q.end ≤ mark) ended → All (λ q. mark < q.end) left
    → IsStrictlySortedBy keyed_window_cmp ended → AreDue gap mark l ended
are-due gap mark l due ended left held split by_mark after sorted = record {
  sorted = sorted;
  by_mark = recursion_from_All (λ (q : KeyedWindow). q.end ≤ mark) ended by_mark;
  all = λ r has closed. early-goes mark due ended left split (recursion_from_All (λ (q : KeyedWindow). mark < q.end) left after) (session_end gap l r) r.key closed (candidates-due gap l due held r has);
}
