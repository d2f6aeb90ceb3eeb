-- A value that is placed where one of its pane was placed before takes the place of both.
use Rattle.std.proofs.Common.{◌≡◌, ℕ, ℤ, ◌+◌, ◌<◌, Bool, true, false, cond, List, [], ◌∷◌, ◌++◌, map, set, get_or, take, drop, length, Option, Some, None, sym, refl, ap, ◌∙◌, arith}
use Rattle.std.specs.Prelude.{◌||◌}
use Rattle.std.specs.BTreeMap.{is_at}
use Rattle.std.proofs.lemmas.List.Sums.{sum_by-append, sum_by-cons, sum_by-set, sum_by-take-drop, sum_by-drop_more}
use Rattle.sb_runs.specs.records.Reorderings.{IsReordered}
use Rattle.sb_runs.specs.window.declared.keyed_window.KeyedWindow.{KeyedWindow}
use Rattle.sb_runs.specs.window.Gatherings.{joined_value}
use Rattle.sb_runs.specs.window.Windows.{keyed_window_cmp}
use Rattle.sb_runs.specs.Placed.{placed_value}
use Rattle.sb_runs.proofs.Placed.{placed-append, placed-reordered}

-- ---- an element, and the others
set-others : {X : Type 0} (xs : List X) (i : ℕ) (x d : X) → i < length xs → IsReordered (set xs i x) (x ∷ (take i xs ++ drop (i + 1) xs))
set-others xs i x d within f =
    omega (arith, sum_by-set f xs i x d within, sum_by-take-drop f xs i, sum_by-drop_more f xs i d within, sum_by-append f (take i xs) (drop (i + 1) xs), sum_by-cons f x (take i xs ++ drop (i + 1) xs))

one-others : {X : Type 0} (xs : List X) (i : ℕ) (y d : X) → i < length xs → IsReordered (xs ++ y ∷ []) (get_or xs i d ∷ y ∷ (take i xs ++ drop (i + 1) xs))
one-others xs i y d within f =
    omega (
      arith,
      sum_by-take-drop f xs i,
      sum_by-drop_more f xs i d within,
      sum_by-append f (take i xs) (drop (i + 1) xs),
      sum_by-append f xs (y ∷ []),
      sum_by-cons f y [],
      sum_by-cons f y (take i xs ++ drop (i + 1) xs),
      sum_by-cons f (get_or xs i d) (y ∷ (take i xs ++ drop (i + 1) xs)),
    )

module _ {V : Type 0} (made : List ℤ → V) (join : V → V → V) (joins : (v w : ℤ) (vs ws : List ℤ) → made ((v ∷ vs) ++ w ∷ ws) ≡ join (made (v ∷ vs)) (made (w ∷ ws))) (ignores : (vs ws : List ℤ) → IsReordered vs ws → made vs ≡ made ws) where
  -- one value at a window comes to what the two come to that it was made of
  one_for_two : (w : KeyedWindow) (value v y : ℤ) (q : KeyedWindow) → made (value ∷ []) ≡ made (v ∷ y ∷ []) → placed_value made ((w, value) ∷ []) q ≡ placed_value made ((w, v) ∷ (w, y) ∷ []) q
  one_for_two w value v y q is = by_case (is_at (keyed_window_cmp q) w)
    where
      by_case : (b : Bool) → cond {A = Option V} (b || false) (Some (made (map (λ (p : KeyedWindow × ℤ). p.1) (cond b ((w, value) ∷ []) [])))) None
          ≡ cond (b || (b || false)) (Some (made (map (λ (p : KeyedWindow × ℤ). p.1) (cond b ((w, v) ∷ cond b ((w, y) ∷ []) []) (cond b ((w, y) ∷ []) []))))) None
      by_case true = ap (λ x. Some x) is
      by_case false = refl

  pub placed-in_place : (xs : List (KeyedWindow × ℤ)) (i : ℕ) (w : KeyedWindow) (value v y : ℤ) (d : KeyedWindow × ℤ) (q : KeyedWindow) → i < length xs → get_or xs i d ≡ (w, v) → made (value ∷ []) ≡ made (v ∷ y ∷ [])
      → placed_value made (set xs i (w, value)) q ≡ joined_value join (placed_value made xs q) (placed_value made ((w, y) ∷ []) q)
  placed-in_place xs i w value v y d q within at is =
      let rest : List (KeyedWindow × ℤ) = take i xs ++ drop (i + 1) xs in
      placed-reordered made ignores (set xs i (w, value)) ((w, value) ∷ rest) (set-others xs i (w, value) d within) q
      ∙ placed-append made join joins ((w, value) ∷ []) rest q
      ∙ ap (λ x. joined_value join x (placed_value made rest q)) (one_for_two w value v y q is)
      ∙ sym (placed-append made join joins ((w, v) ∷ (w, y) ∷ []) rest q)
      ∙ ap (λ x. placed_value made (x ∷ (w, y) ∷ rest) q) (sym at)
      ∙ sym (placed-reordered made ignores (xs ++ (w, y) ∷ []) (get_or xs i d ∷ (w, y) ∷ rest) (one-others xs i (w, y) d within) q)
      ∙ placed-append made join joins xs ((w, y) ∷ []) q

  -- ---- a value that is placed before others
  before-others : (xs ys : List (KeyedWindow × ℤ)) (e : KeyedWindow × ℤ) → IsReordered ((xs ++ e ∷ []) ++ ys) ((xs ++ ys) ++ e ∷ [])
  before-others xs ys e f =
      omega (arith, sum_by-append f (xs ++ e ∷ []) ys, sum_by-append f xs (e ∷ []), sum_by-append f (xs ++ ys) (e ∷ []), sum_by-append f xs ys)

  pub placed-before : (xs ys : List (KeyedWindow × ℤ)) (e : KeyedWindow × ℤ) (q : KeyedWindow) → placed_value made ((xs ++ e ∷ []) ++ ys) q ≡ joined_value join (placed_value made (xs ++ ys) q) (placed_value made (e ∷ []) q)
  placed-before xs ys e q =
      placed-reordered made ignores ((xs ++ e ∷ []) ++ ys) ((xs ++ ys) ++ e ∷ []) (before-others xs ys e) q
      ∙ placed-append made join joins (xs ++ ys) (e ∷ []) q

  -- the first of two lists came to one value more
  pub placed-before_others : (xs xs' ys : List (KeyedWindow × ℤ)) (e : KeyedWindow × ℤ) (q : KeyedWindow) → placed_value made xs' q ≡ joined_value join (placed_value made xs q) (placed_value made (e ∷ []) q)
      → placed_value made (xs' ++ ys) q ≡ joined_value join (placed_value made (xs ++ ys) q) (placed_value made (e ∷ []) q)
  placed-before_others xs xs' ys e q more =
      placed-append made join joins xs' ys q
      ∙ ap (λ x. joined_value join x (placed_value made ys q)) (more ∙ sym (placed-append made join joins xs (e ∷ []) q))
      ∙ sym (placed-append made join joins (xs ++ e ∷ []) ys q)
      ∙ placed-before xs ys e q
