-- Candidates: the ends that sessions have if no later record follows.
use Rattle.std.specs.Prelude.{◌≡◌, ◌≤◌, ◌+◌, ℕ, ℤ, nat_lt, Bool, true, ◌&&◌, ◌||◌, All, List}
use Rattle.std.specs.BTreeMap.{BTreeMap}
use Rattle.std.specs.List.{list_any, AllByRecursion}
use Rattle.std.specs.List.Sorted.{IsStrictlySortedBy}
use Rattle.std.specs.Ordering.{eq_by_cmp}
use Rattle.sb_windowed.specs.records.declared.item.Record.{Record}
use Rattle.sb_windowed.specs.records.declared.key.Key.{Key}
use Rattle.sb_windowed.specs.records.Keys.{same_key}
use Rattle.sb_windowed.specs.window.declared.keyed_window.KeyedWindow.{KeyedWindow}
use Rattle.sb_windowed.specs.window.Windows.{keyed_window_cmp}
use Rattle.sb_windowed.specs.Sessions.{session_end}
use Rattle.sb_windowed.proofs.SessionEnds.{has_time}
use Rattle.sb_session.specs.declared.keyed_time.KeyedTime.{KeyedTime}
use Rattle.sb_session.specs.Kept.{kept_of, AreFull}

-- whether this end of this key is among the candidates
abbrev pub is_candidate : ℕ → Key → List KeyedWindow → Bool
is_candidate end key due = list_any (eq_by_cmp keyed_window_cmp (record { end = end; key = key })) due

-- whether the key has a later time, less than the gap after this one
abbrev pub is_followed : ℕ → List Record → Key → ℕ → Bool
is_followed gap l key t = list_any (λ r. same_key r.key key && (nat_lt t r.time && nat_lt r.time (t + gap))) l

-- the end that a record makes is a candidate, unless its key has a later time within the gap
abbrev pub HasCandidates : ℕ → List Record → List KeyedWindow → Type 0
HasCandidates gap l due =
    (key : Key) (t : ℕ) → has_time key l t ≡ true
    → (is_candidate (t + gap) key due || is_followed gap l key t) ≡ true

-- what holds of the kept values and the candidates between two calls
pub record IsHeld (gap : ℕ) (times : BTreeMap KeyedTime (List ℤ)) (due : List KeyedWindow) : Type 0 where
  pub full : AreFull times
  pub candidates : HasCandidates gap (kept_of times.entries) due
  pub whole : All (λ q. gap ≤ q.end) due

-- the candidates that a mark closes: in order, each ends by the mark, and each session of the records that ends by the
-- mark is among them
pub record AreDue (gap mark : ℕ) (l : List Record) (due : List KeyedWindow) : Type 0 where
  pub sorted : IsStrictlySortedBy keyed_window_cmp due
  pub by_mark : AllByRecursion (λ q. q.end ≤ mark) due
  pub all : (r : Record) → has_time r.key l r.time ≡ true → session_end gap l r ≤ mark
      → is_candidate (session_end gap l r) r.key due ≡ true
