-- Fixed windows: a record lies in one, and the values of a list are those of its parts.
use Rattle.std.proofs.Common.{◌≡◌, ℕ, ℤ, suc, zero, take, ◌*◌, ◌/◌, ◌+◌, ◌-◌, ◌%◌, ◌≤◌, ◌<◌, true, false, cond, eqb, List, [], ◌∷◌, ◌++◌, map, sym, refl, ap, ◌∙◌, arith}
use Rattle.std.specs.Prelude.{◌&&◌}
use Rattle.std.specs.List.{filter, flat_map, list_any, range_with_len}
use Rattle.std.specs.BTreeMap.{is_at}
use Rattle.std.proofs.Math.Bool.{and_comm, or-false}
use Rattle.std.proofs.Math.Nat.{add-mod_right, mul-mod_left}
use Rattle.std.proofs.lemmas.List.{map-append}
use Rattle.std.proofs.lemmas.List.Elements.{filter-append}
use Rattle.sb_runs.specs.records.declared.item.Record.{Record}
use Rattle.sb_runs.specs.records.Keys.{same_key}
use Rattle.sb_runs.specs.window.declared.keyed_window.KeyedWindow.{KeyedWindow}
use Rattle.sb_runs.specs.window.Spacing.{Spacing}
use Rattle.sb_runs.specs.window.Windows.{window_ends, keyed_window_cmp, is_in, values_in}
use Rattle.sb_runs.specs.Placed.{placed_of, placed_first}
use Rattle.sb_runs.proofs.window.Multiples.{multiples-range}
use Rattle.sb_runs.proofs.window.Rows.{row, same_keyed_window}

-- a multiple above a time, and at most a size above it, is the end of its one window
pub one_window : (windows : Spacing) → windows.size ≡ windows.every → 0 < windows.every → (t end : ℕ) → end % windows.every ≡ 0 → t < end → end ≤ t + windows.every → window_ends windows t ≡ end ∷ []
one_window windows fixed some t end multiple after near = multiples-range windows.every some 1 end (t + 1) windows.size multiple (omega arith) (omega arith) (omega arith) (omega arith)

pub values_in-append : (windows : Spacing) (q : KeyedWindow) (l m : List Record) → values_in windows q (l ++ m) ≡ values_in windows q l ++ values_in windows q m
values_in-append windows q l m = ap (map (λ r. r.value)) (filter-append (is_in windows q) l m) ∙ map-append (λ r. r.value) (filter (is_in windows q) l) (filter (is_in windows q) m)

-- a record lies in the window that ends at its one end, and in no other
pub is_in-one : (windows : Spacing) (q : KeyedWindow) (r : Record) (end : ℕ) → window_ends windows r.time ≡ end ∷ [] → is_in windows q r ≡ is_at (keyed_window_cmp (record { end = end; key = r.key })) q
is_in-one windows q r end one =
    ap (λ es. same_key r.key q.key && list_any (λ e. eqb e q.end) es) one
    ∙ ap (λ b. same_key r.key q.key && b) (or-false (eqb end q.end))
    ∙ and_comm (same_key r.key q.key) (eqb end q.end)
    ∙ sym (same_keyed_window (record { end = end; key = r.key }) q)

pub values_in-one : (windows : Spacing) (q : KeyedWindow) (r : Record) (end : ℕ) → window_ends windows r.time ≡ end ∷ [] → values_in windows q (r ∷ []) ≡ cond (is_at (keyed_window_cmp (record { end = end; key = r.key })) q) (r.value ∷ []) []
values_in-one windows q r end one = ap (λ b. map (λ (x : Record). x.value) (cond b (r ∷ []) [])) (is_in-one windows q r end one) ∙ (elim (is_at (keyed_window_cmp (record { end = end; key = r.key })) q) as (λ b. map (λ (x : Record). x.value) (cond b (r ∷ []) []) ≡ cond b (r.value ∷ []) []) [ true ↦ refl | false ↦ refl ])

-- values as records of a keyed window are the values of that one
pub values_in-rows : (windows : Spacing) (p q : KeyedWindow) → window_ends windows (p.end - 1) ≡ p.end ∷ [] → (vs : List ℤ) → values_in windows q (map (row p) vs) ≡ cond (is_at (keyed_window_cmp p) q) vs []
values_in-rows windows p q one [] = elim (is_at (keyed_window_cmp p) q) as (λ b. [] ≡ cond {A = List ℤ} b [] []) [ true ↦ refl | false ↦ refl ]
values_in-rows windows p q one (v ∷ vs) =
    values_in-append windows q (row p v ∷ []) (map (row p) vs)
    ∙ (λ i. values_in-one windows q (row p v) p.end one i ++ values_in-rows windows p q one vs i)
    ∙ (elim (is_at (keyed_window_cmp p) q) as (λ b. cond b (v ∷ []) [] ++ cond b vs [] ≡ cond b (v ∷ vs) []) [ true ↦ refl | false ↦ refl ])

-- ---- the first window of a time is its one
first-alone : (windows : Spacing) → windows.size ≡ windows.every → (t : ℕ) → take 1 (window_ends windows t) ≡ window_ends windows t
first-alone windows fixed t = by_case windows.every refl
  where
    by_case : (n : ℕ) → windows.every ≡ n → take 1 (window_ends windows t) ≡ window_ends windows t
    by_case zero h =
        let none : window_ends windows t ≡ [] = ap (λ k. filter (λ e. eqb (e % windows.every) 0) (range_with_len (t + 1) k)) (fixed ∙ h) in
        ap (take 1) none ∙ sym none
    by_case (suc n) h =
        let some : 0 < windows.every = omega (arith, h) in
        let down : t - t % windows.every ≡ t / windows.every * windows.every = omega (arith, some) in
        let multiple : (t - t % windows.every + windows.every) % windows.every ≡ 0 =
        add-mod_right (t - t % windows.every) windows.every ∙ ap (λ k. k % windows.every) down ∙ mul-mod_left (t / windows.every) windows.every in
        let near : t % windows.every < windows.every = omega (arith, some) in
        let one : window_ends windows t ≡ (t - t % windows.every + windows.every) ∷ [] =
        one_window windows fixed some t (t - t % windows.every + windows.every) multiple (omega (arith, near)) (omega (arith, near)) in
        ap (take 1) one ∙ sym one

-- so each record is placed once
pub placed-once : (windows : Spacing) → windows.size ≡ windows.every → (l : List Record) → flat_map (placed_first windows) l ≡ flat_map (placed_of windows) l
placed-once windows fixed [] = refl
placed-once windows fixed (r ∷ l) = λ i. (first (window_ends windows r.time) ∙ ap at_ends (first-alone windows fixed r.time)) i ++ placed-once windows fixed l i
  where
    at_ends : List ℕ → List (KeyedWindow × ℤ)
    at_ends es = map (λ k. (k, r.value)) (map (λ e. record { end = e; key = r.key }) es)

    first : (es : List ℕ) → take 1 (at_ends es) ≡ at_ends (take 1 es)
    first [] = refl
    first (e ∷ es) = refl
