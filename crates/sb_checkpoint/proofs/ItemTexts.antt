-- The text of items, written line by line.
use Rattle.std.proofs.Common.{◌≡◌, ◌≤◌, ◌<◌, ℕ, suc, ◌+◌, List, [], ◌∷◌, ◌++◌, Option, Some, None, Result, Ok, Err, length, take, drop, sym, ap, subst, ◌∙◌, append-nil, arith, inl, inr}
use Rattle.std.specs.List.{slice_get}
use Rattle.std.specs.Io.KnownBytes.{Appends}
use Rattle.std.proofs.KnownBytes.{Appends-trans}
use Rattle.std.proofs.Math.Seq.{take-suc}
use Rattle.std.proofs.lemmas.List.{take-append-drop, take_all}
use Rattle.std.proofs.lemmas.List.Concat.{flat_map-append}
use Rattle.std.proofs.lemmas.Option.{slice_get_within, slice_get_cases, get_or_from_slice_get}
use Rattle.sb_pipeline.specs.records.declared.item.Item.{Item}
use Rattle.sb_outside.specs.Sinks.{AppendsPrefix, WritesAll}
use Rattle.sb_outside.proofs.Appending.{prefix_later, prefix_of_more}
use Rattle.sb_checkpoint.specs.Texts.{item_text, with_end, items_text}

text-append : (l m : List Item) → items_text (l ++ m) ≡ items_text l ++ items_text m
text-append l m = flat_map-append (λ i. with_end (item_text i)) l m

take-more : (items : List Item) (k : ℕ) (i : Item) → slice_get items k ≡ Some i → take (k + 1) items ≡ take k items ++ i ∷ []
take-more items k i h =
    let e : k + 1 ≡ suc k = omega arith in
    ap (λ n. take n items) e ∙ take-suc items k i (slice_get_within items k i h) ∙ ap (λ x. take k items ++ x ∷ []) (get_or_from_slice_get items k i i h)

text-more : (items : List Item) (k : ℕ) (i : Item) → slice_get items k ≡ Some i → items_text (take (k + 1) items) ≡ items_text (take k items) ++ with_end (item_text i)
text-more items k i h = ap items_text (take-more items k i h) ∙ text-append (take k items) (i ∷ []) ∙ ap (λ l. items_text (take k items) ++ l) (append-nil (with_end (item_text i)))

-- the lines before, and then the line of the next item
pub wrote_more : (a b c : Option (List ℕ)) (items : List Item) (k : ℕ) (i : Item) (text : List ℕ) → slice_get items k ≡ Some i → text ≡ with_end (item_text i)
    → Appends a b (items_text (take k items)) → Appends b c text → Appends a c (items_text (take (k + 1) items))
wrote_more a b c items k i text at is h n =
    subst (Appends a c) (sym (text-more items k i at)) (Appends-trans a b c (items_text (take k items)) (with_end (item_text i)) h (subst (Appends b c) is n))

-- a prefix of that line leaves a prefix of all
pub wrote_part : (a b c : Option (List ℕ)) (items : List Item) (k : ℕ) (i : Item) (text : List ℕ) → slice_get items k ≡ Some i → text ≡ with_end (item_text i)
    → Appends a b (items_text (take k items)) → AppendsPrefix b c text → AppendsPrefix a c (items_text items)
wrote_part a b c items k i text at is h n =
    subst (AppendsPrefix a c) whole
    (prefix_of_more a c (items_text (take k items) ++ with_end (item_text i)) (items_text (drop (k + 1) items)) (prefix_later a b c (items_text (take k items)) (with_end (item_text i)) h (subst (AppendsPrefix b c) is n)))
  where
    whole : (items_text (take k items) ++ with_end (item_text i)) ++ items_text (drop (k + 1) items) ≡ items_text items
    whole =
        ap (λ l. l ++ items_text (drop (k + 1) items)) (sym (text-more items k i at))
        ∙ sym (text-append (take (k + 1) items) (drop (k + 1) items))
        ∙ ap items_text (take-append-drop (k + 1) items)

pub past : (items : List Item) (k : ℕ) → slice_get items k ≡ None → length items ≤ k
past items k h = elim (slice_get_cases items k).1 [
  | inl some ↦ let e : ◌≡◌ {A = Option Item} None (Some some.0) = sym h ∙ some.2 in absurd (cc e)
  | inr none ↦ none.0
]

-- no item is left
pub wrote_all : (a b : Option (List ℕ)) (items : List Item) (k : ℕ) → slice_get items k ≡ None → Appends a b (items_text (take k items)) → Appends a b (items_text items)
wrote_all a b items k none h = subst (λ l. Appends a b (items_text l)) (take_all k items (past items k none)) h

pub within : (items : List Item) (k : ℕ) (i : Item) → slice_get items k ≡ Some i → k < length items
within items k i h = slice_get_within items k i h

-- some bytes, and then others or a prefix of them
pub then_writes : {T E : Type 0} (a b c : Option (List ℕ)) (x y : List ℕ) (r : Result T E) → Appends a b x → WritesAll b c y r → WritesAll a c (x ++ y) r
then_writes a b c x y (Ok v) h k = Appends-trans a b c x y h k
then_writes a b c x y (Err e) h k = prefix_later a b c x y h k
