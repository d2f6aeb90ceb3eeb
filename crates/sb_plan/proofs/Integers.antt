-- The integers of an array, one after another.
use Rattle.std.proofs.Common.{◌≡◌, ◌<◌, ◌≤◌, ◌+◌, ◌∙◌, ◌++◌, ℕ, ℤ, List, [], ◌∷◌, length, drop, get_or, Option, Some, None, option_map, append-nil, sym, refl, ap, append_assoc}
use Rattle.toml.specs.Data.{Items, as_integer, item}
use Rattle.toml.specs.View.{view, items_view}
use Rattle.toml.specs.declared.value.Value.{Value}
use Rattle.toml.proofs.Views.{items_view-drop}
use Rattle.std.proofs.lemmas.List.{drop_all}
use Rattle.sb_plan.specs.Kinds.{and_then, integers_of}

-- the elements from the i-th on, where v is that
pub items_at : (vs : List Value) (i : ℕ) (v : Value) → i < length vs → v ≡ get_or vs i v → items_view (drop i vs) ≡ item (view v) (items_view (drop (i + 1) vs))
items_at vs i v h at = items_view-drop vs i v h ∙ ap (λ x. item (view x) (items_view (drop (i + 1) vs))) (sym at)

-- these, and then those of the items
abbrev pub with_rest : List ℤ → Items → Option (List ℤ)
with_rest done items = option_map (λ rest. done ++ rest) (integers_of items)

-- the integers of the elements from the i-th on: past the end, at an integer, and at something else
pub integers-past : (done : List ℤ) (vs : List Value) (i : ℕ) → length vs ≤ i → with_rest done (items_view (drop i vs)) ≡ Some done
unfolding integers_of
integers-past done vs i past = rw (drop_all i vs past) (ap (λ l. Some l) (append-nil done))

pub integers-more : (done : List ℤ) (vs : List Value) (i : ℕ) (v : Value) (z : ℤ) → i < length vs → v ≡ get_or vs i v → as_integer (view v) ≡ Some z
    → with_rest done (items_view (drop i vs)) ≡ with_rest (done ++ z ∷ []) (items_view (drop (i + 1) vs))
unfolding integers_of
integers-more done vs i v z h at e = ap (with_rest done) (items_at vs i v h at) ∙ integers-item (items_view (drop (i + 1) vs))
  where
    by_case : (o : Option (List ℤ)) → option_map (λ rest. done ++ rest) (and_then (Some z) o) ≡ option_map (λ rest. (done ++ z ∷ []) ++ rest) o
    by_case None = refl
    by_case (Some xs) = ap (λ l. Some l) (sym (append_assoc done (z ∷ []) xs))

    integers-item : (ds : Items) → with_rest done (item (view v) ds) ≡ with_rest (done ++ z ∷ []) ds
    integers-item ds = rw e (by_case (integers_of ds))

pub integers-other : (done : List ℤ) (vs : List Value) (i : ℕ) (v : Value) → i < length vs → v ≡ get_or vs i v → as_integer (view v) ≡ None
    → with_rest done (items_view (drop i vs)) ≡ None
unfolding integers_of
integers-other done vs i v h at e = ap (with_rest done) (items_at vs i v h at) ∙ rw e refl
