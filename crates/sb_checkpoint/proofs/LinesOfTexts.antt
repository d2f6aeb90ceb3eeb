-- The lines of the texts of items.
use Rattle.std.proofs.Common.{◌≡◌, ◌<◌, ℕ, pos, negsuc, ℤ, suc, ◌+◌, ◌-◌, ◌%◌, ◌^◌, Bool, true, false, cond, eqb, List, [], ◌∷◌, ◌++◌, map, length, get_or, refl, sym, ap, ◌∙◌, arith, inl, inr, append-nil, append_assoc, rules}
use Rattle.std.specs.Prelude.{decimal, nat_lt}
use Rattle.std.specs.Fmt.{signed_decimal}
use Rattle.std.specs.Io.BufRead.{ends_with_byte}
use Rattle.std.specs.List.{list_all, AllByRecursion}
use Rattle.std.proofs.lemmas.Bool.{cases_Bool}
use Rattle.std.proofs.lemmas.Bool.Decides.{nat_tests}
use Rattle.std.proofs.lemmas.Fmt.{decimal_by_steps}
use Rattle.std.proofs.lemmas.List.Elements.{All-from_recursion}
use lib.Signed.{mag}
use Rattle.sb_outside.specs.Lines.{without_cr, lines_from, lines}
use Rattle.sb_pipeline.specs.records.declared.item.Item.{Item}
use Rattle.sb_pipeline.specs.records.declared.item.Item.TheVariants.{Rec, Mark, Skip, Late}
use Rattle.sb_pipeline.specs.records.declared.item.Stream.{Stream}
use Rattle.sb_pipeline.specs.records.declared.item.Stream.TheVariants.{A, B}
use Rattle.sb_pipeline.specs.records.declared.item.Streams.{Streams}
use Rattle.sb_pipeline.specs.records.declared.key.Key.{Key}
use Rattle.sb_pipeline.specs.records.declared.key.Key.TheVariants.{Number, Word}
use Rattle.sb_pipeline.specs.records.declared.key.Keys.{Keys}
use Rattle.sb_pipeline.specs.records.declared.key.Keys.TheVariants.{Numbers, Words}
use Rattle.sb_pipeline.specs.records.Keys.{key_text, IsKeyInRange}
use Rattle.sb_pipeline.specs.records.Lines.{letter}
use Rattle.sb_pipeline.specs.records.Words.{is_word_byte}
use Rattle.sb_pipeline.proofs.records.Elements.{All-join}
use Rattle.sb_checkpoint.specs.Texts.{item_text, items_text}
use Rattle.sb_checkpoint.proofs.ReadAgain.{IsFit}

-- no byte ends a line
abbrev pub IsPlain : List ℕ → Type 0
IsPlain bytes = AllByRecursion (λ b. 13 < b) bytes

-- ---- numbers, keys and items
pub number-plain : (n : ℕ) → n < 2 ^ 64 → IsPlain (decimal n)
number-plain n fits = decimal_by_steps (λ _ ds. IsPlain ds) (λ k small. (omega arith, tt)) (λ k ds big all. All-join (λ b. 13 < b) ds ((48 + k % 10) ∷ []) all (omega arith, tt)) n fits

signed-plain : (z : ℤ) → mag z < 2 ^ 63 → IsPlain (signed_decimal z)
signed-plain (pos n) fits = number-plain n (omega (arith, fits))
signed-plain (negsuc n) fits = (omega arith, number-plain (suc n) (omega (arith, fits)))

word-plain : (w : List ℕ) → list_all is_word_byte w ≡ true → IsPlain w
word-plain [] h = tt
word-plain (b ∷ w) h = elim (cases_Bool (is_word_byte b)) [
  | inl is ↦ (visible b is, word-plain w (rw is at h))
  | inr other ↦ cc (rw other at h)
]
  where
    visible : (b : ℕ) → is_word_byte b ≡ true → 13 < b
    visible b is = grind (arith, nat_tests)

key-plain : (keys : Keys) (k : Key) → IsKeyInRange keys k → IsPlain (key_text k)
key-plain Numbers (Number n) h = number-plain n (omega (arith, h))
key-plain Numbers (Word w) h = absurd h
key-plain Words (Number n) h = absurd h
key-plain Words (Word w) h = word-plain w (search rules)

letter-plain : (s : Stream) → 13 < letter s
letter-plain A = omega arith
letter-plain B = omega arith

pub item-plain : (streams : Streams) (keys : Keys) (i : Item) → IsFit streams keys i → IsPlain (item_text i)
item-plain streams keys (Rec s r) h = (
  omega arith,
  (
    omega arith,
    (
      letter-plain s,
      (
        omega arith,
        All-join plain (decimal r.time) (44 ∷ (key_text r.key ++ 44 ∷ signed_decimal r.value)) (number-plain r.time (omega (arith, h.1.time)))
            (omega arith, All-join plain (key_text r.key) (44 ∷ signed_decimal r.value) (key-plain keys r.key h.1.key) (omega arith, signed-plain r.value h.1.value)),
      ),
    ),
  ),
)
  where
    plain : ℕ → Type 0
    plain b = 13 < b
item-plain streams keys (Mark s t) h = (omega arith, (omega arith, (letter-plain s, (omega arith, number-plain t (omega (arith, h.1))))))
item-plain streams keys Skip h = (omega arith, tt)
item-plain streams keys (Late n t m) h = absurd h

-- ---- lines
plain-no_cr : (l : List ℕ) → IsPlain l → ends_with_byte 13 l ≡ false
plain-no_cr [] all = refl
plain-no_cr (b ∷ l) all =
    let last : 13 < get_or (b ∷ l) (length (b ∷ l) - 1) 0 = All-from_recursion (λ b. 13 < b) (b ∷ l) all (length (b ∷ l) - 1) 0 (omega arith) in
    let other : eqb (get_or (b ∷ l) (length (b ∷ l) - 1) 0) 13 ≡ false = grind (arith, nat_tests) in
    elim (cases_Bool (nat_lt 0 (length (b ∷ l)))) [
      | inl some ↦ rw (some, other) refl
      | inr none ↦ rw none refl
    ]

plain-without_cr : (l : List ℕ) → IsPlain l → without_cr l ≡ l
plain-without_cr l all = rw (plain-no_cr l all) refl

begun-line : (ended : Bool) (begun text bytes : List ℕ) → IsPlain text → lines_from ended begun (text ++ 10 ∷ bytes) ≡ without_cr (begun ++ text) ∷ lines ended bytes
begun-line ended begun [] bytes all = ap (λ l. without_cr l ∷ lines ended bytes) (sym (append-nil begun))
begun-line ended begun (b ∷ text) bytes all =
    let other : eqb b 10 ≡ false = grind (arith, nat_tests, all.0) in
    (λ i. cond (other i) (without_cr begun ∷ lines_from ended [] (text ++ 10 ∷ bytes)) (lines_from ended (begun ++ b ∷ []) (text ++ 10 ∷ bytes)))
    ∙ begun-line ended (begun ++ b ∷ []) text bytes all.1
    ∙ ap (λ l. without_cr l ∷ lines ended bytes) (append_assoc begun (b ∷ []) text)

-- the lines of the texts of items, and of bytes behind them
pub lines-of_items : (streams : Streams) (keys : Keys) (ended : Bool) (items : List Item) (bytes : List ℕ) → AllByRecursion (IsFit streams keys) items → lines ended (items_text items ++ bytes) ≡ map item_text items ++ lines ended bytes
lines-of_items streams keys ended [] bytes all = refl
lines-of_items streams keys ended (i ∷ items) bytes all =
    ap (lines ended) (append_assoc (item_text i ++ 10 ∷ []) (items_text items) bytes ∙ append_assoc (item_text i) (10 ∷ []) (items_text items ++ bytes))
    ∙ begun-line ended [] (item_text i) (items_text items ++ bytes) (item-plain streams keys i all.0)
    ∙ (λ j. plain-without_cr (item_text i) (item-plain streams keys i all.0) j ∷ lines-of_items streams keys ended items bytes all.1 j)

-- and those of the texts alone
pub own-lines : (streams : Streams) (keys : Keys) (items : List Item) → AllByRecursion (IsFit streams keys) items → lines false (items_text items) ≡ map item_text items
own-lines streams keys items all = ap (lines false) (sym (append-nil (items_text items))) ∙ lines-of_items streams keys false items [] all ∙ append-nil (map item_text items)
