-- The lines of a checkpoint are read as what it kept.
use Rattle.std.proofs.Common.{◌≡◌, ℕ, ◌+◌, Bool, true, false, cond, eqb, List, [], ◌∷◌, ◌++◌, map, length, Some, None, Ok, Err, refl, sym, ap, ◌∙◌, append-nil}
use Rattle.std.specs.Prelude.{◌&&◌}
use Rattle.std.proofs.lemmas.Bool.{eq-eqb, eqb-true}
use Rattle.sb_pipeline.specs.records.declared.item.Item.{Item}
use Rattle.sb_pipeline.specs.records.declared.key.Keys.{Keys}
use Rattle.sb_pipeline.specs.records.Reading.{item_of}
use Rattle.sb_pipeline.specs.Shapes.{Shape}
use Rattle.sb_checkpoint.specs.Texts.{item_text, end_text, may_follow, may_stand, with_item, is_same, is_whole, if_last, read_pieces, read_lines}
use Rattle.sb_checkpoint.proofs.Runs.{join-assoc}

pub same-itself : (xs : List ℕ) → is_same xs xs ≡ true
same-itself [] = refl
same-itself (x ∷ xs) = (λ i. eq-eqb x x refl i && same-itself xs i)

pub same-texts : (xs ys : List ℕ) → is_same xs ys ≡ true → xs ≡ ys
same-texts [] [] h = refl
same-texts [] (y ∷ ys) h = cc
same-texts (x ∷ xs) [] h = cc
same-texts (x ∷ xs) (y ∷ ys) h = by_case (eqb x y) refl h (same-texts xs ys)
  where
    by_case : (b : Bool) → eqb x y ≡ b → (b && is_same xs ys) ≡ true → (is_same xs ys ≡ true → xs ≡ ys) → x ∷ xs ≡ y ∷ ys
    by_case true e h on = λ i. eqb-true x y e i ∷ on h i
    by_case false e h on = cc

end-no_item : (keys : Keys) (n : ℕ) → item_of keys (end_text n) ≡ None
unfolding item_of
end-no_item keys n = refl

-- each item may stand after those before it, and its text is its own
abbrev pub MayStand : Shape → ℕ → List Item → List Item → Type 0
MayStand plan low items [] = Unit {0}
MayStand plan low items (u ∷ us) = (item_of plan.keys (item_text u) ≡ Some u) × (may_follow plan low items u ≡ true) × MayStand plan low (items ++ u ∷ []) us

-- the pieces from an item on
abbrev pub texts_of : List Item → ℕ → List (List ℕ)
texts_of us n = map item_text us ++ (end_text n ∷ [] ∷ [])

pub reads : (plan : Shape) (lines low : ℕ) (us items : List Item) (n : ℕ) → n ≡ length (items ++ us) → MayStand plan low items us → is_whole plan lines low (items ++ us) ≡ true
    → read_lines plan lines low items (texts_of us n) ≡ Ok (items ++ us)
reads plan lines low [] items n e stand whole =
    let none : item_of plan.keys (end_text n) ≡ None = end-no_item plan.keys n in
    let count : n ≡ length items = e ∙ ap length (append-nil items) in
    (λ i. cond (may_stand plan low items (none i)) (read_pieces plan lines low (with_item items (none i)) [] [])
    (cond (is_same (end_text (count i)) (end_text (length items)) && is_whole plan lines low items) (Ok items) (Err (length items + 2))))
    ∙ (λ i. cond (same-itself (end_text (length items)) i && (ap (is_whole plan lines low) (sym (append-nil items)) ∙ whole) i) (Ok items) (Err (length items + 2)))
    ∙ ap Ok (sym (append-nil items))
reads plan lines low (u ∷ us) items n e stand whole =
    next-by us
    ∙ reads plan lines low us (items ++ u ∷ []) n (e ∙ ap length (sym (back us))) stand.2 (ap (is_whole plan lines low) (back us) ∙ whole)
    ∙ ap Ok (back us)
  where
    back : (us : List Item) → (items ++ u ∷ []) ++ us ≡ items ++ u ∷ us
    back us = join-assoc items (u ∷ []) us

    chosen : (next : List ℕ) (pieces : List (List ℕ)) → read_pieces plan lines low items (item_text u) (next ∷ pieces) ≡ read_pieces plan lines low (items ++ u ∷ []) next pieces
    chosen next pieces =
        (λ i. cond (may_stand plan low items (stand.0 i)) (read_pieces plan lines low (with_item items (stand.0 i)) next pieces)
        (cond (is_same (item_text u) (end_text (length items)) && is_whole plan lines low items) (if_last items (next ∷ pieces)) (Err (length items + 2))))
        ∙ (λ i. cond (stand.1 i) (read_pieces plan lines low (items ++ u ∷ []) next pieces)
        (cond (is_same (item_text u) (end_text (length items)) && is_whole plan lines low items) (if_last items (next ∷ pieces)) (Err (length items + 2))))

    next-by : (us : List Item) → read_lines plan lines low items (item_text u ∷ texts_of us n) ≡ read_lines plan lines low (items ++ u ∷ []) (texts_of us n)
    next-by [] = chosen (end_text n) ([] ∷ [])
    next-by (v ∷ vs) = chosen (item_text v) (texts_of vs n)
