-- How reading goes on at a line.
use Rattle.std.proofs.Common.{◌≡◌, ◌<◌, ◌==◌, ℕ, ◌+◌, Bool, true, false, cond, List, [], ◌∷◌, length, Result, Ok, Err, refl, sym, ap, ◌∙◌, arith, inr}
use Rattle.std.specs.Prelude.{◌&&◌}
use Rattle.std.specs.List.{onto_first}
use Rattle.std.proofs.lemmas.Bool.{eqb-true}
use Rattle.std.proofs.lemmas.List.Splits.{length-slice_split}
use Rattle.sb_pipeline.specs.records.declared.item.Item.{Item}
use Rattle.sb_pipeline.specs.records.Reading.{item_of}
use Rattle.sb_pipeline.specs.Shapes.{Shape}
use Rattle.sb_checkpoint.specs.Texts.{pieces, may_stand, with_item, is_same, end_text, is_whole, if_last, read_pieces, read_lines, IsHead, Gives, IsFaultAt}

some-pieces : (text : List ℕ) → 0 < length (pieces text)
some-pieces text = omega (arith, length-slice_split (λ b. b == 10) text)

-- ---- nothing may follow the last line
if_last-more : (items : List Item) (parts : List (List ℕ)) → 0 < length parts → if_last items ([] ∷ parts) ≡ Err (length items + 3)
if_last-more items [] some = absurd (omega arith)
if_last-more items (part ∷ parts) some = refl

if_last-onto : (items : List Item) (b : ℕ) (parts : List (List ℕ)) → if_last items (onto_first b parts) ≡ Err (length items + 3)
if_last-onto items b [] = refl
if_last-onto items b (part ∷ parts) = refl

pub last-read : (items : List Item) (more : List ℕ) → true ≡ (length more == 0) → if_last items (pieces more) ≡ Ok items
last-read items [] none = refl
last-read items (b ∷ more) none = let e = eqb-true (length (b ∷ more)) 0 (sym none) in absurd (omega (arith, e))

pub more-read : (items : List Item) (more : List ℕ) → false ≡ (length more == 0) → if_last items (pieces more) ≡ Err (length items + 3)
more-read items [] some = cc
more-read items (b ∷ more) some = elim (b == 10) as (λ c. if_last items (cond c ([] ∷ pieces more) (onto_first b (pieces more))) ≡ Err (length items + 3)) [
  | true ↦ if_last-more items (pieces more) (some-pieces more)
  | false ↦ if_last-onto items b (pieces more)
]

module _ (plan : Shape) (lines low : ℕ) (items : List Item) (line : List ℕ) where
  -- what is read where the line may stand, and where it may not
  by-line : (parts : List (List ℕ)) → 0 < length parts → read_pieces plan lines low items line parts
      ≡ cond (may_stand plan low items (item_of plan.keys line)) (read_lines plan lines low (with_item items (item_of plan.keys line)) parts)
      (cond (is_same line (end_text (length items)) && is_whole plan lines low items) (if_last items parts) (Err (length items + 2)))
  by-line [] some = absurd (omega arith)
  by-line (next ∷ parts) some = refl

  pub item-read : (more : List ℕ) → may_stand plan low items (item_of plan.keys line) ≡ true
      → read_lines plan lines low items (line ∷ pieces more) ≡ read_lines plan lines low (with_item items (item_of plan.keys line)) (pieces more)
  item-read more may =
      by-line (pieces more) (some-pieces more)
      ∙ ap (λ c. cond c (read_lines plan lines low (with_item items (item_of plan.keys line)) (pieces more))
      (cond (is_same line (end_text (length items)) && is_whole plan lines low items) (if_last items (pieces more)) (Err (length items + 2)))) may

  pub other-read : (more : List ℕ) (b : Bool) → may_stand plan low items (item_of plan.keys line) ≡ false → b ≡ (is_same line (end_text (length items)) && is_whole plan lines low items)
      → read_lines plan lines low items (line ∷ pieces more) ≡ cond b (if_last items (pieces more)) (Err (length items + 2))
  other-read more b may e =
      by-line (pieces more) (some-pieces more)
      ∙ (λ i. cond (may i) (read_lines plan lines low (with_item items (item_of plan.keys line)) (pieces more)) (cond (sym e i) (if_last items (pieces more)) (Err (length items + 2))))

-- one item more was read
pub goes-on : (plan : Shape) (lines low lines' low' : ℕ) (items items' : List Item) (rest line more : List ℕ) (all : Result (List Item) ℕ) (b : Bool) → all ≡ read_lines plan lines low items (pieces rest) → pieces rest ≡ line ∷ pieces more
    → lines' ≡ lines → low' ≡ low → b ≡ true → b ≡ may_stand plan low items (item_of plan.keys line) → items' ≡ cond b (with_item items (item_of plan.keys line)) items
    → all ≡ read_lines plan lines' low' items' (pieces more)
goes-on plan lines low lines' low' items items' rest line more all b before split same same-low taken may is =
    before
    ∙ ap (read_lines plan lines low items) split
    ∙ item-read plan lines low items line more (sym may ∙ taken)
    ∙ sym (λ i. read_lines plan (same i) (same-low i) ((is ∙ ap (λ c. cond c (with_item items (item_of plan.keys line)) items) taken) i) (pieces more))

-- ---- a whole text
pub fault-at : (plan : Shape) (lines low n : ℕ) (text head rest : List ℕ) → pieces text ≡ head ∷ pieces rest → IsHead head lines low → read_lines plan lines low [] (pieces rest) ≡ Err n → IsFaultAt plan (pieces text) n
fault-at plan lines low n text head rest split is h = inr (lines, low, by_parts (pieces rest) (some-pieces rest) split h)
  where
    by_parts : (parts : List (List ℕ)) → 0 < length parts → pieces text ≡ head ∷ parts → read_lines plan lines low [] parts ≡ Err n → Gives plan (pieces text) lines low (Err n)
    by_parts [] some split h = absurd (omega arith)
    by_parts (next ∷ parts) some split h = record { head = head; next = next; rest = parts; split = split; is_head = is; others = h }
