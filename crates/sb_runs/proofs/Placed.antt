-- The values that are placed at a keyed window are those of the records that lie in it, in whatever order they were placed.
use Rattle.std.proofs.Common.{◌≡◌, ℕ, ℤ, ◌<◌, Bool, true, false, cond, eqb, List, [], ◌∷◌, ◌++◌, map, Option, Some, None, append-nil, sym, refl, ap, ◌∙◌, arith}
use Rattle.std.specs.Prelude.{◌||◌, ◌&&◌}
use Rattle.std.specs.List.{filter, flat_map, list_any, AllByRecursion}
use Rattle.std.specs.BTreeMap.{is_at}
use Rattle.std.specs.Cmp.{eq_by_cmp_equiv}
use Rattle.std.proofs.lemmas.Bool.{eqb-true, ne_eqb}
use Rattle.std.proofs.lemmas.List.{map-append}
use Rattle.std.proofs.lemmas.List.Elements.{filter-append}
use Rattle.std.proofs.lemmas.List.Folds.{list_any-append}
use Rattle.sb_window.specs.records.declared.item.Record.{Record}
use Rattle.sb_window.specs.records.declared.key.Key.{Key}
use Rattle.sb_window.specs.records.Keys.{same_key}
use Rattle.sb_window.specs.records.Reorderings.{IsReordered}
use Rattle.sb_window.proofs.records.Sums.{IsReordered-map, IsReordered-filter, any_reordered, none_pass}
use Rattle.sb_window.specs.declared.keyed_window.KeyedWindow.{KeyedWindow}
use Rattle.sb_window.specs.Spacing.{Spacing}
use Rattle.sb_window.specs.Windows.{window_ends, keyed_window_cmp, is_in, values_in}
use Rattle.sb_window.specs.Gatherings.{gathered_value, joined_value}
use Rattle.sb_window.proofs.Multiples.{Rising, window_ends-rising}
use Rattle.sb_window.proofs.Rows.{keyed_windows_total, same_keyed_window}
use Rattle.sb_runs.specs.Placed.{placed_of, is_placed, values_at, placed_value}
use Rattle.sb_runs.specs.Runs.{found}

values_at-append : (q : KeyedWindow) (xs ys : List (KeyedWindow × ℤ)) → values_at q (xs ++ ys) ≡ values_at q xs ++ values_at q ys
values_at-append q xs ys =
    ap (map (λ (p : KeyedWindow × ℤ). p.1)) (filter-append (is_placed q) xs ys) ∙ map-append (λ (p : KeyedWindow × ℤ). p.1) (filter (is_placed q) xs) (filter (is_placed q) ys)

some-values : (q : KeyedWindow) (xs : List (KeyedWindow × ℤ)) → list_any (is_placed q) xs ≡ true → (v : ℤ) × (vs : List ℤ) × (values_at q xs ≡ v ∷ vs)
some-values q [] h = cc
some-values q (x ∷ xs) h = by_case (is_placed q x) h (some-values q xs)
  where
    by_case : (b : Bool) → (b || list_any (is_placed q) xs) ≡ true → (list_any (is_placed q) xs ≡ true → (v : ℤ) × (vs : List ℤ) × (values_at q xs ≡ v ∷ vs))
        → (v : ℤ) × (vs : List ℤ) × (map (λ (p : KeyedWindow × ℤ). p.1) (cond b (x ∷ filter (is_placed q) xs) (filter (is_placed q) xs)) ≡ v ∷ vs)
    by_case true h rest = (x.1, values_at q xs, refl)
    by_case false h rest = rest h

-- ---- one value more
module _ {V : Type 0} (made : List ℤ → V) where
  pub placed-more : (join : V → V → V) → ((v w : ℤ) (vs ws : List ℤ) → made ((v ∷ vs) ++ w ∷ ws) ≡ join (made (v ∷ vs)) (made (w ∷ ws)))
      → (xs : List (KeyedWindow × ℤ)) (w : KeyedWindow) (v : ℤ) (q : KeyedWindow) → placed_value made (xs ++ (w, v) ∷ []) q ≡ joined_value join (placed_value made xs q) (found ((w, made (v ∷ [])) ∷ []) q)
  placed-more join joins xs w v q =
      (λ i. cond (list_any-append (is_placed q) xs ((w, v) ∷ []) i) (Some (made (values_at-append q xs ((w, v) ∷ []) i))) None)
      ∙ by_case (list_any (is_placed q) xs) (is_at (keyed_window_cmp q) w) refl
    where
      by_case : (a b : Bool) → list_any (is_placed q) xs ≡ a
          → cond {A = Option V} (a || (b || false)) (Some (made (values_at q xs ++ map (λ (p : KeyedWindow × ℤ). p.1) (cond b ((w, v) ∷ []) [])))) None
          ≡ joined_value join (cond a (Some (made (values_at q xs))) None) (cond b (Some (made (v ∷ []))) None)
      by_case true true e =
          let s = some-values q xs e in
          (λ i. Some (made (s.2 i ++ v ∷ []))) ∙ ap (λ x. Some x) (joins s.0 v s.1 []) ∙ sym (λ i. Some (join (made (s.2 i)) (made (v ∷ []))))
      by_case true false e = ap (λ vs. Some (made vs)) (append-nil (values_at q xs))
      by_case false true e = ap (λ ps. Some (made (map (λ (p : KeyedWindow × ℤ). p.1) ps ++ v ∷ []))) (none_pass (is_placed q) xs e)
      by_case false false e = refl

  -- ---- two lists
  pub placed-append : (join : V → V → V) → ((v w : ℤ) (vs ws : List ℤ) → made ((v ∷ vs) ++ w ∷ ws) ≡ join (made (v ∷ vs)) (made (w ∷ ws)))
      → (xs ys : List (KeyedWindow × ℤ)) (q : KeyedWindow) → placed_value made (xs ++ ys) q ≡ joined_value join (placed_value made xs q) (placed_value made ys q)
  placed-append join joins xs ys q =
      (λ i. cond (list_any-append (is_placed q) xs ys i) (Some (made (values_at-append q xs ys i))) None)
      ∙ by_case (list_any (is_placed q) xs) (list_any (is_placed q) ys) refl refl
    where
      by_case : (a b : Bool) → list_any (is_placed q) xs ≡ a → list_any (is_placed q) ys ≡ b
          → cond {A = Option V} (a || b) (Some (made (values_at q xs ++ values_at q ys))) None
          ≡ joined_value join (cond a (Some (made (values_at q xs))) None) (cond b (Some (made (values_at q ys))) None)
      by_case true true e f =
          let s = some-values q xs e in
          let t = some-values q ys f in
          (λ i. Some (made (s.2 i ++ t.2 i))) ∙ ap (λ x. Some x) (joins s.0 t.0 s.1 t.1) ∙ sym (λ i. Some (join (made (s.2 i)) (made (t.2 i))))
      by_case true false e f =
          ap (λ ps. Some (made (values_at q xs ++ map (λ (p : KeyedWindow × ℤ). p.1) ps))) (none_pass (is_placed q) ys f)
          ∙ ap (λ vs. Some (made vs)) (append-nil (values_at q xs))
      by_case false true e f = ap (λ ps. Some (made (map (λ (p : KeyedWindow × ℤ). p.1) ps ++ values_at q ys))) (none_pass (is_placed q) xs e)
      by_case false false e f = refl

  pub placed-one : (w : KeyedWindow) (v : ℤ) (q : KeyedWindow) → placed_value made ((w, v) ∷ []) q ≡ found ((w, made (v ∷ [])) ∷ []) q
  placed-one w v q = by_case (is_at (keyed_window_cmp q) w)
    where
      by_case : (b : Bool) → cond {A = Option V} (b || false) (Some (made (map (λ (p : KeyedWindow × ℤ). p.1) (cond b ((w, v) ∷ []) [])))) None ≡ cond b (Some (made (v ∷ []))) None
      by_case true = refl
      by_case false = refl

  -- ---- another order
  pub placed-reordered : ((vs ws : List ℤ) → IsReordered vs ws → made vs ≡ made ws) → (xs ys : List (KeyedWindow × ℤ)) → IsReordered xs ys → (q : KeyedWindow) → placed_value made xs q ≡ placed_value made ys q
  placed-reordered ignores xs ys h q =
      let same : made (values_at q xs) ≡ made (values_at q ys) =
      ignores (values_at q xs) (values_at q ys) (IsReordered-map (λ (p : KeyedWindow × ℤ). p.1) (filter (is_placed q) xs) (filter (is_placed q) ys) (IsReordered-filter (is_placed q) xs ys h)) in
      λ i. cond (any_reordered (is_placed q) xs ys h i) (Some (same i)) None

-- ---- the values of records
-- the value of a record, placed at windows of its key with these ends
abbrev at_ends : Key → ℤ → List ℕ → List (KeyedWindow × ℤ)
at_ends key v es = map (λ k. (k, v)) (map (λ e. record { end = e; key = key }) es)

-- what is above a number does not hold it
not_among : (x : ℕ) (es : List ℕ) → AllByRecursion (λ e. x < e) es → list_any (λ e. eqb e x) es ≡ false
not_among x [] all = refl
not_among x (e ∷ es) all = (λ i. ne_eqb e x (λ same. omega (arith, same, all.0)) i || not_among x es all.1 i)

-- whether a window with this end is the keyed window
at_end : (q : KeyedWindow) (key : Key) (e : ℕ) → is_at (keyed_window_cmp q) (record { end = e; key = key }) ≡ (eqb e q.end && same_key key q.key)
at_end q key e = (eq_by_cmp_equiv keyed_windows_total).symm q (record { end = e; key = key }) ∙ same_keyed_window (record { end = e; key = key }) q

any_at_ends : (q : KeyedWindow) (key : Key) (v : ℤ) (es : List ℕ) → list_any (is_placed q) (at_ends key v es) ≡ (same_key key q.key && list_any (λ e. eqb e q.end) es)
any_at_ends q key v [] = elim (same_key key q.key) as (λ b. false ≡ (b && false)) [ true ↦ refl | false ↦ refl ]
any_at_ends q key v (e ∷ es) =
    (λ i. at_end q key e i || any_at_ends q key v es i)
    ∙ by_case (eqb e q.end) (same_key key q.key) (list_any (λ e. eqb e q.end) es)
  where
    by_case : (a k l : Bool) → ((a && k) || (k && l)) ≡ (k && (a || l))
    by_case true true l = refl
    by_case true false l = refl
    by_case false true l = refl
    by_case false false l = refl

values_at_ends : (q : KeyedWindow) (key : Key) (v : ℤ) (es : List ℕ) → Rising es → values_at q (at_ends key v es) ≡ cond (same_key key q.key && list_any (λ e. eqb e q.end) es) (v ∷ []) []
values_at_ends q key v [] up = elim (same_key key q.key) as (λ b. [] ≡ cond {A = List ℤ} (b && false) (v ∷ []) []) [ true ↦ refl | false ↦ refl ]
values_at_ends q key v (e ∷ es) up =
    ap (λ b. map (λ (p : KeyedWindow × ℤ). p.1) (cond b ((record { end = e; key = key }, v) ∷ filter (is_placed q) (at_ends key v es)) (filter (is_placed q) (at_ends key v es)))) (at_end q key e)
    ∙ by_case (eqb e q.end) (same_key key q.key) refl (values_at_ends q key v es up.1)
  where
    by_case : (a k : Bool) → eqb e q.end ≡ a → values_at q (at_ends key v es) ≡ cond (k && list_any (λ e. eqb e q.end) es) (v ∷ []) []
        → map (λ (p : KeyedWindow × ℤ). p.1) (cond (a && k) ((record { end = e; key = key }, v) ∷ filter (is_placed q) (at_ends key v es)) (filter (is_placed q) (at_ends key v es)))
        ≡ cond (k && (a || list_any (λ e. eqb e q.end) es)) (v ∷ []) []
    by_case true true c rest =
        let end_is : e ≡ q.end = eqb-true e q.end c in
        let none : list_any (λ x. eqb x q.end) es ≡ false = ap (λ y. list_any (λ x. eqb x y) es) (sym end_is) ∙ not_among e es up.0 in
        ap (λ vs. v ∷ vs) (rest ∙ ap (λ b. cond b (v ∷ []) []) none)
    by_case true false c rest = rest
    by_case false true c rest = rest
    by_case false false c rest = rest

-- of one record, and of all
pub any_placed : (windows : Spacing) (l : List Record) (q : KeyedWindow) → list_any (is_placed q) (flat_map (placed_of windows) l) ≡ list_any (is_in windows q) l
any_placed windows [] q = refl
any_placed windows (r ∷ l) q =
    list_any-append (is_placed q) (placed_of windows r) (flat_map (placed_of windows) l)
    ∙ (λ i. any_at_ends q r.key r.value (window_ends windows r.time) i || any_placed windows l q i)

pub values_placed : (windows : Spacing) (l : List Record) (q : KeyedWindow) → values_at q (flat_map (placed_of windows) l) ≡ values_in windows q l
values_placed windows [] q = refl
values_placed windows (r ∷ l) q =
    values_at-append q (placed_of windows r) (flat_map (placed_of windows) l)
    ∙ (λ i. values_at_ends q r.key r.value (window_ends windows r.time) (window_ends-rising windows r.time) i ++ values_placed windows l q i)
    ∙ by_case (is_in windows q r)
  where
    by_case : (b : Bool) → cond b (r.value ∷ []) [] ++ values_in windows q l ≡ map (λ (r : Record). r.value) (cond b (r ∷ filter (is_in windows q) l) (filter (is_in windows q) l))
    by_case true = refl
    by_case false = refl

-- what is made of the values that are placed is what is made of those of the records
pub placed-gathered : {V : Type 0} (made : List ℤ → V) (windows : Spacing) (l : List Record) (q : KeyedWindow) → placed_value made (flat_map (placed_of windows) l) q ≡ gathered_value made windows l q
placed-gathered made windows l q = λ i. cond (any_placed windows l q i) (Some (made (values_placed windows l q i))) None
