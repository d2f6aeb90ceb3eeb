-- What the records of a window have is joined of what those of its panes have.
use Rattle.std.proofs.Common.{◌≡◌, ℕ, ℤ, suc, zero, ◌+◌, ◌*◌, ◌/◌, ◌<◌, Bool, true, false, cond, List, [], ◌∷◌, ◌++◌, map, take, Option, Some, None, append-nil, sym, refl, ap, ◌∙◌, arith}
use Rattle.std.specs.Prelude.{◌||◌, ◌&&◌, sum_by}
use Rattle.std.specs.List.{filter, flat_map, list_any, AllByRecursion}
use Rattle.std.specs.Option.{is_some}
use Rattle.std.specs.BTreeMap.{is_at}
use Rattle.std.specs.Cmp.{eq_by_cmp_equiv}
use Rattle.std.specs.Map.{keys_of}
use Rattle.std.specs.Ordering.{eq_by_cmp}
use Rattle.std.specs.Set.{is_member}
use Rattle.std.proofs.lemmas.List.Elements.{recursion_from_All}
use Rattle.std.proofs.lemmas.Map.Made.{is_some-lookup, All-is_member}
use Rattle.sb_window.proofs.records.Elements.{every, All-any}
use Rattle.std.proofs.Math.Nat.{zero-mul}
use Rattle.std.proofs.lemmas.List.{map-append}
use Rattle.std.proofs.lemmas.List.Sums.{sum_by-append, sum_by-cons}
use Rattle.sb_window.specs.records.declared.item.Record.{Record}
use Rattle.sb_window.specs.records.Reorderings.{IsReordered}
use Rattle.sb_window.proofs.records.Sums.{IsReordered-map}
use Rattle.sb_window.specs.declared.keyed_window.KeyedWindow.{KeyedWindow}
use Rattle.sb_window.specs.Spacing.{Spacing, AreWindows, fixed_windows}
use Rattle.sb_window.specs.Windows.{window_ends, keyed_window_cmp, is_in, values_in}
use Rattle.sb_window.specs.Gatherings.{gathered_value, joined_value}
use Rattle.sb_window.proofs.Rows.{keyed_windows_total, end-of, none_in_zero}
use Rattle.sb_runs.specs.Placed.{placed_of, placed_first}
use Rattle.sb_runs.specs.Runs.{found, shifted_by, spread_value}
use Rattle.sb_runs.proofs.Shifting.{earlier, found-shifted, shifted-zero}
use Rattle.sb_runs.proofs.PaneEnds.{panes_of, whole-panes, either-in, not_both_in, none_in, first_end-pane}

-- ---- elements that pass one of two tests
module _ {X : Type 0} (p a b : X → Bool) (either : (x : X) → p x ≡ (a x || b x)) (apart : (x : X) → (a x && b x) ≡ false) where
  parts-reordered : (l : List X) → IsReordered (filter p l) (filter a l ++ filter b l)
  parts-reordered l f = added l ∙ sym (sum_by-append f (filter a l) (filter b l))
    where
      added : (l : List X) → sum_by f (filter p l) ≡ sum_by f (filter a l) + sum_by f (filter b l)
      added [] = omega arith
      added (x ∷ l) = ap (λ d. sum_by f (cond d (x ∷ filter p l) (filter p l))) (either x) ∙ by_case (a x) (b x) (apart x) (added l)
        where
          by_case : (d e : Bool) → (d && e) ≡ false → sum_by f (filter p l) ≡ sum_by f (filter a l) + sum_by f (filter b l)
              → sum_by f (cond (d || e) (x ∷ filter p l) (filter p l)) ≡ sum_by f (cond d (x ∷ filter a l) (filter a l)) + sum_by f (cond e (x ∷ filter b l) (filter b l))
          by_case true true h rest = cc
          by_case true false h rest = omega (arith, sum_by-cons f x (filter p l), sum_by-cons f x (filter a l), rest)
          by_case false true h rest = omega (arith, sum_by-cons f x (filter p l), sum_by-cons f x (filter b l), rest)
          by_case false false h rest = rest

-- ---- what is made of values, where there are any
abbrev some_made : {V : Type 0} → (List ℤ → V) → List ℤ → Option V
some_made made [] = None
some_made made (v ∷ vs) = Some (made (v ∷ vs))

module _ {V : Type 0} (made : List ℤ → V) where
  gathered-some : (windows : Spacing) (l : List Record) (q : KeyedWindow) → gathered_value made windows l q ≡ some_made made (values_in windows q l)
  gathered-some windows [] q = refl
  gathered-some windows (r ∷ l) q = by_case (is_in windows q r) (gathered-some windows l q)
    where
      by_case : (b : Bool) → cond (list_any (is_in windows q) l) (Some (made (values_in windows q l))) None ≡ some_made made (values_in windows q l)
          → cond {A = Option V} (b || list_any (is_in windows q) l) (Some (made (map (λ (r : Record). r.value) (cond b (r ∷ filter (is_in windows q) l) (filter (is_in windows q) l))))) None
          ≡ some_made made (map (λ (r : Record). r.value) (cond b (r ∷ filter (is_in windows q) l) (filter (is_in windows q) l)))
      by_case true rest = refl
      by_case false rest = rest

  some-joined : (join : V → V → V) → ((v w : ℤ) (vs ws : List ℤ) → made ((v ∷ vs) ++ w ∷ ws) ≡ join (made (v ∷ vs)) (made (w ∷ ws)))
      → (vs ws : List ℤ) → some_made made (vs ++ ws) ≡ joined_value join (some_made made vs) (some_made made ws)
  some-joined join joins [] ws = refl
  some-joined join joins (v ∷ vs) [] = ap (λ xs. Some (made (v ∷ xs))) (append-nil vs)
  some-joined join joins (v ∷ vs) (w ∷ ws) = ap (λ x. Some x) (joins v w vs ws)

  some-reordered : ((vs ws : List ℤ) → IsReordered vs ws → made vs ≡ made ws) → (vs ws : List ℤ) → IsReordered vs ws → some_made made vs ≡ some_made made ws
  some-reordered ignores [] [] h = refl
  some-reordered ignores [] (w ∷ ws) h = absurd (omega (arith, h (λ x. 1), sum_by-cons (λ x. 1) w ws))
  some-reordered ignores (v ∷ vs) [] h = absurd (omega (arith, h (λ x. 1), sum_by-cons (λ x. 1) v vs))
  some-reordered ignores (v ∷ vs) (w ∷ ws) h = ap (λ x. Some x) (ignores (v ∷ vs) (w ∷ ws) h)

module _ {V : Type 0} (made : List ℤ → V) (join : V → V → V) (joins : (v w : ℤ) (vs ws : List ℤ) → made ((v ∷ vs) ++ w ∷ ws) ≡ join (made (v ∷ vs)) (made (w ∷ ws))) (ignores : (vs ws : List ℤ) → IsReordered vs ws → made vs ≡ made ws) where
  more-panes : (every count : ℕ) (l : List Record) (q : KeyedWindow)
      → joined_value join (gathered_value made (panes_of every count) l q) (gathered_value made (fixed_windows every) l (earlier (count * every) q)) ≡ gathered_value made (panes_of every (suc count)) l q
  more-panes every count l q =
      (λ i. joined_value join (gathered-some made (panes_of every count) l q i) (gathered-some made (fixed_windows every) l (earlier (count * every) q) i))
      ∙ sym (some-joined made join joins (values_in (panes_of every count) q l) (values_in (fixed_windows every) (earlier (count * every) q) l))
      ∙ sym (some-reordered made ignores (values_in (panes_of every (suc count)) q l) (values_in (panes_of every count) q l ++ values_in (fixed_windows every) (earlier (count * every) q) l) same)
      ∙ sym (gathered-some made (panes_of every (suc count)) l q)
    where
      fewer : List Record
      fewer = filter (is_in (panes_of every count) q) l

      last : List Record
      last = filter (is_in (fixed_windows every) (earlier (count * every) q)) l

      same : IsReordered (values_in (panes_of every (suc count)) q l) (values_in (panes_of every count) q l ++ values_in (fixed_windows every) (earlier (count * every) q) l)
      same f =
          IsReordered-map (λ (r : Record). r.value) (filter (is_in (panes_of every (suc count)) q) l) (fewer ++ last)
          (parts-reordered (is_in (panes_of every (suc count)) q) (is_in (panes_of every count) q) (is_in (fixed_windows every) (earlier (count * every) q)) (either-in every count q) (not_both_in every count q) l) f
          ∙ ap (sum_by f) (map-append (λ (r : Record). r.value) fewer last)

  module _ (every : ℕ) (l : List Record) (run : List (KeyedWindow × V)) (has : (q : KeyedWindow) → found run q ≡ gathered_value made (fixed_windows every) l q) where
    none-at-zero : (q : KeyedWindow) → q.end ≡ 0 → found run q ≡ None
    none-at-zero q z = has q ∙ gathered-some made (fixed_windows every) l q ∙ ap (λ rs. some_made made (map (λ (r : Record). r.value) rs)) (none_in_zero (fixed_windows every) q z l)

    spread-panes : (count : ℕ) (q : KeyedWindow) → spread_value join every count run q ≡ gathered_value made (panes_of every count) l q
    spread-panes zero q = sym (ap (λ b. cond b (Some (made (values_in (panes_of every 0) q l))) None) (none_in every q l))
    spread-panes (suc count) q =
        (λ i. joined_value join (spread-panes count q i) ((found-shifted (count * every) run none-at-zero q ∙ has (earlier (count * every) q)) i))
        ∙ more-panes every count l q

  -- a run that has what is made of the values of each pane is spread to what is made of those of each window
  pub spread-gathered : (windows : Spacing) → AreWindows windows → (l : List Record) (run : List (KeyedWindow × V)) → ((q : KeyedWindow) → found run q ≡ gathered_value made (fixed_windows windows.every) l q)
      → (q : KeyedWindow) → spread_value join windows.every (windows.size / windows.every) run q ≡ gathered_value made windows l q
  spread-gathered windows are l run has q =
      spread-panes windows.every l run has (windows.size / windows.every) q ∙ (λ i. gathered_value made (record { size = whole-panes windows are i; every = windows.every }) l q)

-- ---- the panes of records
-- each record is placed at its pane alone
pub placed-panes : (windows : Spacing) → AreWindows windows → (l : List Record) → flat_map (placed_first windows) l ≡ flat_map (placed_of (fixed_windows windows.every)) l
placed-panes windows are [] = refl
placed-panes windows are (r ∷ l) =
    λ i. (first (window_ends windows r.time) ∙ ap at_ends (first_end-pane windows are r.time)) i ++ placed-panes windows are l i
  where
    at_ends : List ℕ → List (KeyedWindow × ℤ)
    at_ends es = map (λ k. (k, r.value)) (map (λ e. record { end = e; key = r.key }) es)

    first : (es : List ℕ) → take 1 (at_ends es) ≡ at_ends (take 1 es)
    first [] = refl
    first (e ∷ es) = refl

-- ---- the ends of panes
pub All-take : {X : Type 0} (P : X → Type 0) (count : ℕ) (xs : List X) → AllByRecursion P xs → AllByRecursion P (take count xs)
All-take P zero xs all = tt
All-take P (suc count) [] all = tt
All-take P (suc count) (x ∷ xs) all = (all.0, All-take P count xs all.1)

-- a run that has what is made of the values of each window ends no later than a size behind all times
pub ends-bounded : {V : Type 0} (made : List ℤ → V) (windows : Spacing) (l : List Record) (bound : ℕ) (run : List (KeyedWindow × V)) → ((q : KeyedWindow) → found run q ≡ gathered_value made windows l q)
    → AllByRecursion (λ r. r.time < bound) l → AllByRecursion (λ e. e.0.end < bound + windows.size) run
ends-bounded {V} made windows l bound run has low = of_keys run (every low_key (keys_of run) keys_found)
  where
    keys_found : AllByRecursion (λ k. list_any (eq_by_cmp keyed_window_cmp k) (keys_of run) ≡ true) (keys_of run)
    keys_found = recursion_from_All (λ k. is_member (eq_by_cmp keyed_window_cmp) (keys_of run) k ≡ true) (keys_of run) (All-is_member (eq_by_cmp_equiv keyed_windows_total) (keys_of run))

    some_in : (k : KeyedWindow) → is_some (found run k) ≡ true → list_any (is_in windows k) l ≡ true
    some_in k some = by_case (list_any (is_in windows k) l) (ap is_some (sym (has k)) ∙ some)
      where
        by_case : (b : Bool) → is_some (cond b (Some (made (values_in windows k l))) None) ≡ true → b ≡ true
        by_case true h = refl
        by_case false h = h

    low_key : (k : KeyedWindow) → list_any (eq_by_cmp keyed_window_cmp k) (keys_of run) ≡ true → k.end < bound + windows.size
    low_key k at =
        All-any (λ r. r.time < bound) (k.end < bound + windows.size) (is_in windows k) (λ r early is. let e = end-of windows k r is in omega (arith, e.1, early)) l low
        (some_in k (is_some-lookup (is_at (keyed_window_cmp k)) run ∙ at))

    of_keys : (es : List (KeyedWindow × V)) → AllByRecursion (λ k. k.end < bound + windows.size) (keys_of es) → AllByRecursion (λ e. e.0.end < bound + windows.size) es
    of_keys [] all = tt
    of_keys (e ∷ es) all = (all.0, of_keys es all.1)

-- ---- runs that are spread to one window
pub spread-first : {V : Type 0} (join : V → V → V) (step : ℕ) (run : List (KeyedWindow × V)) (q : KeyedWindow) → found run q ≡ spread_value join step 1 run q
spread-first {V} join step run q = ap (λ (es : List (KeyedWindow × V)). found es q) (sym (shifted-zero run)) ∙ ap (λ n. found (shifted_by n run) q) (sym (zero-mul step))
