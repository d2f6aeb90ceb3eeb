-- Gathering what is made of values by keyed window: record by record, end by end, and the rows of a map's entries.
use Rattle.std.proofs.Common.{◌≡◌, ℕ, ℤ, ◌-◌, ◌<◌, Bool, true, false, cond, eqb, List, [], ◌∷◌, ◌++◌, map, Option, Some, None, append-nil, sym, refl, ap, ◌∙◌, arith}
use Rattle.std.specs.Prelude.{◌||◌, ◌&&◌}
use Rattle.std.specs.List.{filter, flat_map, list_any, AllByRecursion}
use Rattle.std.specs.Option.{is_some}
use Rattle.std.specs.List.Sorted.{IsStrictlySortedBy}
use Rattle.std.specs.Map.{keys_of, lookup}
use Rattle.std.specs.Ordering.{eq_by_cmp, is_eq, ordering_reverse}
use Rattle.std.specs.BTreeMap.{BTreeMap, IsOrdered, get, is_at}
use Rattle.std.specs.Cmp.{tied_itself}
use Rattle.std.specs.declared.cmp.Ordering.TheVariants.{Less}
use Rattle.std.proofs.lemmas.Bool.{eqb-true, ne_eqb}
use Rattle.std.proofs.lemmas.List.{map-append}
use Rattle.std.proofs.lemmas.List.Elements.{filter-append, All-from_recursion}
use Rattle.std.proofs.lemmas.List.Folds.{list_any-append, list_any_none, flat_map-map}
use Rattle.std.proofs.lemmas.List.Kept.{IsStrictlySortedBy-filter}
use Rattle.std.proofs.lemmas.Option.{cond_some}
use Rattle.std.proofs.lemmas.Map.Views.{tells_apart, any-filter_same}
use Rattle.std.proofs.lemmas.Map.Made.{is_some-lookup}
use Rattle.std.proofs.lemmas.Map.Lookups.{btree_set_from_contains}
use Rattle.sb_record.specs.declared.item.Record.{Record}
use Rattle.sb_record.specs.declared.key.Key.{Key}
use Rattle.sb_record.specs.Keys.{same_key}
use Rattle.sb_record.proofs.KeyOrder.{exact_keys}
use Rattle.sb_record.proofs.Elements.{every, filter_all}
use Rattle.sb_record.proofs.Sums.{any_filtered, none_pass}
use Rattle.sb_record.proofs.Distinct.{distinct-sorted}
use Rattle.sb_window.specs.declared.keyed_window.KeyedWindow.{KeyedWindow}
use Rattle.sb_window.specs.Spacing.{Spacing}
use Rattle.sb_window.specs.Windows.{window_ends, keyed_window_cmp, windows_of, keyed_windows, is_in, values_in}
use Rattle.sb_window.specs.Aggregations.{rows_by}
use Rattle.sb_window.specs.Gatherings.{gathered_value, joined_value, rows_of_entries}
use Rattle.sb_window.proofs.Multiples.{Rising}
use Rattle.sb_window.proofs.Rows.{keyed_windows_total, exact_keyed_windows, any_keyed_windows, same_keyed_window}

pub joined_none : {V : Type 0} (join : V → V → V) (o : Option V) → joined_value join o None ≡ o
joined_none join None = refl
joined_none join (Some v) = refl

-- ---- record by record
some_pass : (p : Record → Bool) (l : List Record) → list_any p l ≡ true → (x : Record) × (xs : List Record) × (filter p l ≡ x ∷ xs)
some_pass p l h = by_case (filter p l) refl
  where
    by_case : (xs : List Record) → filter p l ≡ xs → (x : Record) × (xs : List Record) × (filter p l ≡ x ∷ xs)
    by_case [] none = let k : true ≡ false = sym h ∙ any_filtered p l [] none in cc
    by_case (x ∷ xs) some = (x, xs, some)

-- what is made of the values of two lists, where join makes it of what is made of each
pub gathered-append : {V : Type 0} (made : List ℤ → V) (join : V → V → V) → ((v w : ℤ) (vs ws : List ℤ) → made ((v ∷ vs) ++ w ∷ ws) ≡ join (made (v ∷ vs)) (made (w ∷ ws)))
    → (windows : Spacing) (q : KeyedWindow) (l m : List Record) → gathered_value made windows (l ++ m) q ≡ joined_value join (gathered_value made windows l q) (gathered_value made windows m q)
gathered-append {V} made join joins windows q l m =
    (λ i. cond (list_any-append (is_in windows q) l m i) (Some (made ((ap (map (λ r. r.value)) (filter-append (is_in windows q) l m) ∙ map-append (λ r. r.value) (filter (is_in windows q) l) (filter (is_in windows q) m)) i))) None)
    ∙ by_case (list_any (is_in windows q) l) (list_any (is_in windows q) m) refl refl
  where
    vs : List ℤ
    vs = values_in windows q l

    ws : List ℤ
    ws = values_in windows q m

    by_case : (a b : Bool) → list_any (is_in windows q) l ≡ a → list_any (is_in windows q) m ≡ b
        → cond {A = Option V} (a || b) (Some (made (values_in windows q l ++ values_in windows q m))) None ≡ joined_value join (cond a (Some (made (values_in windows q l))) None) (cond b (Some (made (values_in windows q m))) None)
    by_case true true e f =
        let x = some_pass (is_in windows q) l e in
        let y = some_pass (is_in windows q) m f in
        let left : values_in windows q l ≡ map (λ r. r.value) (x.0 ∷ x.1) = ap (map (λ (r : Record). r.value)) x.2 in
        let right : values_in windows q m ≡ map (λ r. r.value) (y.0 ∷ y.1) = ap (map (λ (r : Record). r.value)) y.2 in
        ap (λ v. Some v)
        ((λ i. made (left i ++ right i)) ∙ joins x.0.value y.0.value (map (λ r. r.value) x.1) (map (λ r. r.value) y.1) ∙ sym (λ i. join (made (left i)) (made (right i))))
    by_case true false e f =
        let none : values_in windows q m ≡ [] = ap (map (λ (r : Record). r.value)) (none_pass (is_in windows q) m f) in
        ap (λ v. Some (made v)) (ap (λ ws. values_in windows q l ++ ws) none ∙ append-nil (values_in windows q l))
    by_case false true e f =
        let none : values_in windows q l ≡ [] = ap (map (λ (r : Record). r.value)) (none_pass (is_in windows q) l e) in
        ap (λ vs. Some (made (vs ++ values_in windows q m))) none
    by_case false false e f = refl

-- ---- end by end
-- what is made of one value of a key, for a keyed window of that key with its end among these
abbrev pub made_at : {V : Type 0} → V → Key → List ℕ → KeyedWindow → Option V
made_at v key ends q = cond (same_key key q.key && list_any (λ e. eqb e q.end) ends) (Some v) None

pub made_at-no_ends : {V : Type 0} (v : V) (key : Key) (q : KeyedWindow) → made_at v key [] q ≡ None
made_at-no_ends {V} v key q = elim (same_key key q.key) as (λ b. cond {A = Option V} (b && false) (Some v) None ≡ None) [ true ↦ refl | false ↦ refl ]

-- at all ends of its time it is what is gathered of the record
pub made_at-window_ends : {V : Type 0} (made : List ℤ → V) (windows : Spacing) (r : Record) (q : KeyedWindow) → made_at (made (r.value ∷ [])) r.key (window_ends windows r.time) q ≡ gathered_value made windows (r ∷ []) q
made_at-window_ends {V} made windows r q = by_case (is_in windows q r)
  where
    by_case : (b : Bool) → cond {A = Option V} b (Some (made (r.value ∷ []))) None ≡ cond (b || false) (Some (made (map (λ (x : Record). x.value) (cond b (r ∷ []) [])))) None
    by_case true = refl
    by_case false = refl

-- what is above a number does not hold it
not_among : (x : ℕ) (es : List ℕ) → AllByRecursion (λ e. x < e) es → list_any (λ e. eqb e x) es ≡ false
not_among x es all = list_any_none (λ e. eqb e x) es (All-from_recursion (λ e. eqb e x ≡ false) es (every (λ e h. ne_eqb e x (λ same. omega (arith, h, same))) es all))

-- a step of a loop over rising ends, which joins what is made of one value to what there is at each
pub made_at-more : {V : Type 0} (join : V → V → V) (v : V) (key : Key) (e : ℕ) (es : List ℕ) → Rising (e ∷ es) → (now later : KeyedWindow → Option V)
    → ((q : KeyedWindow) → later q ≡ cond (is_at (keyed_window_cmp (record { end = e; key = key })) q) (joined_value join (now (record { end = e; key = key })) (Some v)) (now q))
    → (q : KeyedWindow) → joined_value join (later q) (made_at v key es q) ≡ joined_value join (now q) (made_at v key (e ∷ es) q)
made_at-more {V} join v key e es rising now later step q =
    ap (λ o. joined_value join o (made_at v key es q)) (step q ∙ ap (λ b. cond b (joined_value join (now (record { end = e; key = key })) (Some v)) (now q)) (same_keyed_window (record { end = e; key = key }) q))
    ∙ by_case (eqb e q.end) (same_key key q.key) refl refl
  where
    by_case : (a k : Bool) → eqb e q.end ≡ a → same_key key q.key ≡ k
        → joined_value join (cond (a && k) (joined_value join (now (record { end = e; key = key })) (Some v)) (now q)) (cond (k && list_any (λ x. eqb x q.end) es) (Some v) None)
        ≡ joined_value join (now q) (cond (k && (a || list_any (λ x. eqb x q.end) es)) (Some v) None)
    by_case true true c d =
        let end_is : e ≡ q.end = eqb-true e q.end c in
        let key_is : key ≡ q.key = tells_apart exact_keys key q.key d in
        let none : list_any (λ x. eqb x q.end) es ≡ false = ap (λ y. list_any (λ x. eqb x y) es) (sym end_is) ∙ not_among e es rising.0 in
        ap (λ b. joined_value join (joined_value join (now (record { end = e; key = key })) (Some v)) (cond b (Some v) None)) none
        ∙ joined_none join (joined_value join (now (record { end = e; key = key })) (Some v))
        ∙ ap (λ o. joined_value join o (Some v)) (λ i. now (record { end = end_is i; key = key_is i }))
    by_case true false c d = refl
    by_case false true c d = refl
    by_case false false c d = refl

-- ---- the entries of a map
-- each entry of a list whose keys rise is found
found-behind : {V : Type 0} (e : KeyedWindow × V) (es xs : List (KeyedWindow × V)) → AllByRecursion (λ k. keyed_window_cmp e.0 k ≡ Less) (keys_of xs)
    → AllByRecursion (λ x. lookup (is_at (keyed_window_cmp x.0)) es ≡ Some x.1) xs → AllByRecursion (λ x. lookup (is_at (keyed_window_cmp x.0)) (e ∷ es) ≡ Some x.1) xs
found-behind e es [] before all = tt
found-behind e es (x ∷ xs) before all =
    (ap (λ o. cond (is_eq o) (Some e.1) (lookup (is_at (keyed_window_cmp x.0)) es)) (keyed_windows_total.antisymm x.0 e.0 ∙ ap ordering_reverse before.0) ∙ all.0, found-behind e es xs before.1 all.1)

pub all-found : {V : Type 0} (es : List (KeyedWindow × V)) → IsStrictlySortedBy keyed_window_cmp (keys_of es) → AllByRecursion (λ x. lookup (is_at (keyed_window_cmp x.0)) es ≡ Some x.1) es
unfolding IsStrictlySortedBy
all-found [] run = tt
all-found (e ∷ es) run =
    (ap (λ o. cond (is_eq o) (Some e.1) (lookup (is_at (keyed_window_cmp e.0)) es)) (tied_itself keyed_windows_total e.0), found-behind e es es run.0 (all-found es run.1))

-- a list that has a value just at the keyed windows that pass and have records has an entry for each of these, in order
pub entries-passing : {V : Type 0} (windows : Spacing) (p : KeyedWindow → Bool) (l : List Record) (f : KeyedWindow → V) (es : List (KeyedWindow × V)) → IsStrictlySortedBy keyed_window_cmp (keys_of es)
    → ((q : KeyedWindow) → lookup (is_at (keyed_window_cmp q)) es ≡ cond (p q && list_any (is_in windows q) l) (Some (f q)) None)
    → es ≡ map (λ q. (q, f q)) (filter p (keyed_windows windows l))
entries-passing {V} windows p l f es run at = sym (each es (all-found es run)) ∙ ap (map (λ q. (q, f q))) (sym same_keys)
  where
    is_some-cond : (b : Bool) (v : V) → is_some (cond b (Some v) None) ≡ b
    is_some-cond true v = refl
    is_some-cond false v = refl

    among : (q : KeyedWindow) → list_any (eq_by_cmp keyed_window_cmp q) (filter p (keyed_windows windows l)) ≡ (p q && list_any (is_in windows q) l)
    among q =
        any-filter_same (eq_by_cmp keyed_window_cmp q) p (p q) (λ x same. ap p (sym (tells_apart exact_keyed_windows q x same))) (keyed_windows windows l)
        ∙ ap (λ b. p q && b) (any_keyed_windows windows q l)

    same_keys : filter p (keyed_windows windows l) ≡ keys_of es
    same_keys = btree_set_from_contains keyed_windows_total (record { keys = filter p (keyed_windows windows l) }) (record { keys = keys_of es })
        (IsStrictlySortedBy-filter keyed_window_cmp p (keyed_windows windows l) (distinct-sorted keyed_windows_total (flat_map (windows_of windows) l))) run
        (λ q. among q ∙ sym (is_some-cond (p q && list_any (is_in windows q) l) (f q)) ∙ ap is_some (sym (at q)) ∙ is_some-lookup (is_at (keyed_window_cmp q)) es)
        exact_keyed_windows

    each : (xs : List (KeyedWindow × V)) → AllByRecursion (λ (x : KeyedWindow × V). lookup (is_at (keyed_window_cmp x.0)) es ≡ Some x.1) xs → map (λ q. (q, f q)) (keys_of xs) ≡ xs
    each [] all = refl
    each (x ∷ xs) all = λ i. (x.0, (cond_some (p x.0 && list_any (is_in windows x.0) l) (f x.0) x.1 (sym (at x.0) ∙ all.0)).1 i) ∷ each xs all.1 i

-- the same, where all pass
pub entries-keyed_windows : {V : Type 0} (windows : Spacing) (l : List Record) (f : KeyedWindow → V) (m : BTreeMap KeyedWindow V) → IsOrdered keyed_window_cmp m
    → ((q : KeyedWindow) → get keyed_window_cmp m q ≡ cond (list_any (is_in windows q) l) (Some (f q)) None)
    → m.entries ≡ map (λ q. (q, f q)) (keyed_windows windows l)
entries-keyed_windows windows l f m ordered at = entries-passing windows (λ _. true) l f m.entries ordered at ∙ ap (map (λ q. (q, f q))) (filter_all (keyed_windows windows l))

-- the rows of a map that gathers the values of records are the rows over the records
pub rows_of_entries-gathered : {V : Type 0} (made : List ℤ → V) (values : V → List ℤ) (windows : Spacing) (l : List Record) (m : BTreeMap KeyedWindow V) → IsOrdered keyed_window_cmp m
    → ((q : KeyedWindow) → get keyed_window_cmp m q ≡ gathered_value made windows l q) → rows_of_entries values m.entries ≡ rows_by (λ vs. values (made vs)) windows l
rows_of_entries-gathered {V} made values windows l m ordered at =
    ap (rows_of_entries values) (entries-keyed_windows windows l (λ q. made (values_in windows q l)) m ordered at)
    ∙ flat_map-map (λ (e : KeyedWindow × V). map (λ v. record { time = e.0.end - 1; key = e.0.key; value = v }) (values e.1)) (λ q. (q, made (values_in windows q l))) (keyed_windows windows l)
