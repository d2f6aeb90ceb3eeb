-- The pieces of a text, and those of a checkpoint's text.
use Rattle.std.proofs.Common.{◌≡◌, ◌≤◌, ◌<◌, ◌==◌, ℕ, ◌+◌, ◌^◌, Bool, true, false, not, List, [], ◌∷◌, ◌++◌, map, length, take, drop, Some, None, cond, refl, sym, ap, subst, ◌∙◌, arith, inl, inr, append_assoc}
use Rattle.std.specs.Prelude.{decimal, nat_lt}
use Rattle.std.specs.List.{AllByRecursion, position, position_or_len, onto_first}
use Rattle.std.proofs.lemmas.Bool.{cases_lt, lt-ltb}
use Rattle.std.proofs.lemmas.Bool.Decides.{nat_tests}
use Rattle.std.proofs.lemmas.List.Elements.{All-from_recursion}
use Rattle.std.proofs.lemmas.Option.{same_Some}
use Rattle.std.proofs.lemmas.List.Splits.{slice_split_at, slice_split_first}
use Rattle.sb_pipeline.specs.records.declared.item.Item.{Item}
use Rattle.sb_pipeline.specs.records.declared.item.Streams.{Streams}
use Rattle.sb_pipeline.specs.records.declared.key.Keys.{Keys}
use Rattle.sb_pipeline.proofs.records.Elements.{All-join}
use Rattle.sb_pipeline.proofs.records.InputLemmas.{accepted-in_range, low_watermark-in_range}
use Rattle.sb_pipeline.specs.Shapes.{streams_of}
use Rattle.sb_checkpoint.specs.Texts.{item_text, items_text, head_text, end_text, with_end, checkpoint_text, pieces, IsRead}
use Rattle.sb_checkpoint.specs.Checkpoints.{low_of, saved_items}
use Rattle.sb_checkpoint.specs.Laws.{accepted_in, checkpoint_pieces, SavedTextsAreReadBack}
use Rattle.sb_checkpoint.proofs.ReadAgain.{IsFit, accepted-sound, saved-fit}
use Rattle.sb_checkpoint.proofs.LinesOfTexts.{IsPlain, number-plain, item-plain}
use Rattle.sb_checkpoint.proofs.Runs.{length_saved}
use Rattle.sb_checkpoint.proofs.Written.{read-back}

-- ---- a text at its first line feed
none-feeds : (text : List ℕ) → length text ≤ position_or_len (λ b. b == 10) text → pieces text ≡ text ∷ []
none-feeds [] h = refl
none-feeds (b ∷ text) h = by_case (b == 10) h (none-feeds text)
  where
    by_case : (c : Bool) → length (b ∷ text) ≤ cond (not c) (1 + position_or_len (λ b. b == 10) text) 0 → (length text ≤ position_or_len (λ b. b == 10) text → pieces text ≡ text ∷ [])
        → cond c ([] ∷ pieces text) (onto_first b (pieces text)) ≡ (b ∷ text) ∷ []
    by_case true h on = absurd (omega arith)
    by_case false h on = ap (onto_first b) (on (omega arith))

pub no-feed : (text : List ℕ) → None ≡ position (λ b. b == 10) text → pieces text ≡ text ∷ []
no-feed text h = elim (cases_lt (position_or_len (λ b. b == 10) text) (length text)) [
  | inl some ↦ cc (rw (lt-ltb _ _ some) at h)
  | inr none ↦ none-feeds text none
]

pub at-feed : (text : List ℕ) (end : ℕ) → Some end ≡ position (λ b. b == 10) text → (end < length text) × (pieces text ≡ take end text ∷ pieces (drop (end + 1) text))
at-feed text end h = elim (cases_lt (position_or_len (λ b. b == 10) text) (length text)) [
  | inl some ↦
      let e : end ≡ position_or_len (λ b. b == 10) text = same_Some _ _ (rw (lt-ltb _ _ some) at h) in
      (omega arith, slice_split_first (λ b. b == 10) text 0 some ∙ ap (λ n. take n text ∷ pieces (drop (n + 1) text)) (sym e))
  | inr none ↦ let off : nat_lt (position_or_len (λ b. b == 10) text) (length text) ≡ false = grind (arith, nat_tests) in cc (rw off at h)
]

-- ---- a line without a line feed, and what follows it
plain-feeds : (text : List ℕ) → IsPlain text → AllByRecursion (λ b. (b == 10) ≡ false) text
plain-feeds [] all = tt
plain-feeds (b ∷ text) all = (grind (arith, nat_tests, all.0), plain-feeds text all.1)

plain-split : (text rest : List ℕ) → IsPlain text → pieces (with_end text ++ rest) ≡ text ∷ pieces rest
plain-split text rest all =
    ap pieces (append_assoc text (10 ∷ []) rest) ∙ slice_split_at (λ b. b == 10) text 10 rest (All-from_recursion (λ b. (b == 10) ≡ false) text (plain-feeds text all)) refl

items-split : (streams : Streams) (keys : Keys) (items : List Item) (rest : List ℕ) → AllByRecursion (IsFit streams keys) items → pieces (items_text items ++ rest) ≡ map item_text items ++ pieces rest
items-split streams keys [] rest all = refl
items-split streams keys (i ∷ items) rest all =
    ap pieces (append_assoc (with_end (item_text i)) (items_text items) rest)
    ∙ plain-split (item_text i) (items_text items ++ rest) (item-plain streams keys i all.0)
    ∙ ap (λ l. item_text i ∷ l) (items-split streams keys items rest all.1)

end-plain : (count : ℕ) → count < 2 ^ 64 → IsPlain (end_text count)
end-plain count fits = (omega arith, (omega arith, (omega arith, (omega arith, number-plain count fits))))

head-plain : (lines low : ℕ) → lines < 2 ^ 64 → low < 2 ^ 64 → IsPlain (head_text lines low)
head-plain lines low few small =
    let numbers : IsPlain (decimal lines ++ 32 ∷ decimal low) = All-join (λ b. 13 < b) (decimal lines) (32 ∷ decimal low) (number-plain lines few) (omega arith, number-plain low small) in
    (omega arith, (omega arith, (omega arith, (omega arith, (omega arith, (omega arith, (omega arith, (omega arith, (omega arith, (omega arith, (omega arith, numbers)))))))))))

text-pieces : (streams : Streams) (keys : Keys) (lines low : ℕ) (items : List Item) → lines < 2 ^ 64 → low < 2 ^ 64 → length items < 2 ^ 64 → AllByRecursion (IsFit streams keys) items
    → pieces (checkpoint_text lines low items) ≡ checkpoint_pieces lines low items
text-pieces streams keys lines low items few small count all =
    plain-split (head_text lines low) (items_text items ++ with_end (end_text (length items))) (head-plain lines low few small)
    ∙ ap (λ l. head_text lines low ∷ l)
    (items-split streams keys items (with_end (end_text (length items))) all
    ∙ ap (λ l. map item_text items ++ l) (slice_split_at (λ b. b == 10) (end_text (length items)) 10 [] (All-from_recursion (λ b. (b == 10) ≡ false) (end_text (length items)) (plain-feeds (end_text (length items)) (end-plain (length items) count))) refl))

pub texts-read_back : SavedTextsAreReadBack
texts-read_back plan lines items is =
    subst (λ ps. IsRead plan ps (length items) (low_of plan items) (saved_items plan items)) (sym (subst (λ xs. pieces (checkpoint_text (length xs) (low_of plan xs) (saved_items plan xs)) ≡ checkpoint_pieces (length xs) (low_of plan xs) (saved_items plan xs)) (sym is) own))
    (read-back plan lines items is)
  where
    own : let xs = (accepted_in plan lines).items in pieces (checkpoint_text (length xs) (low_of plan xs) (saved_items plan xs)) ≡ checkpoint_pieces (length xs) (low_of plan xs) (saved_items plan xs)
    own =
        let xs : List Item = (accepted_in plan lines).items in
        let good = accepted-sound (streams_of plan) plan.late plan.keys lines [] tt (omega arith) in
        let small = low_watermark-in_range plan.keys (streams_of plan) xs (accepted-in_range (streams_of plan) plan.late plan.keys lines) in
        text-pieces (streams_of plan) plan.keys (length xs) (low_of plan xs) (saved_items plan xs) (omega (arith, good.1)) (omega (arith, small)) (omega (arith, good.1, length_saved plan xs)) (saved-fit plan xs good.0)
