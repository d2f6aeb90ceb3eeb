-- Each text is a checkpoint of one input, or has one first faulty line.
use Rattle.std.proofs.Common.{◌≡◌, ◌<◌, ◌^◌, ◌⊎◌, ℕ, zero, suc, true, List, [], ◌∷◌, Result, Ok, Err, refl, sym, ap, subst, ◌∙◌, arith, inl, inr}
use Rattle.std.proofs.lemmas.Bool.{cases_Bool, cases_lt}
use Rattle.sb_pipeline.specs.records.declared.item.Item.{Item}
use Rattle.sb_pipeline.specs.Shapes.{Shape}
use Rattle.sb_checkpoint.specs.Texts.{head_text, is_same, read_pieces, pieces, IsHead, Gives, IsRead, HasNoHead, IsFaultAt}
use Rattle.sb_checkpoint.specs.Laws.{CheckpointsAreReadOrFaulty}
use Rattle.sb_checkpoint.proofs.Heads.{same-head}
use Rattle.sb_checkpoint.proofs.ReadBack.{same-itself, same-texts}

-- ---- whether a line is a first line
-- some number below n has the property, or none has
abbrev SomeBelow : (ℕ → Type 0) → ℕ → Type 0
SomeBelow P n = ((k : ℕ) × (k < n) × P k) ⊎ ((k : ℕ) → k < n → P k → ⊥)

some-below : (P : ℕ → Type 0) → ((k : ℕ) → P k ⊎ (P k → ⊥)) → (n : ℕ) → SomeBelow P n
some-below P test zero = inr (λ k less p. absurd (omega arith))
some-below P test (suc n) = by_last (test n) (some-below P test n)
  where
    by_last : P n ⊎ (P n → ⊥) → SomeBelow P n → SomeBelow P (suc n)
    by_last (inl p) rest = inl (n, omega arith, p)
    by_last (inr here) (inl some) = inl (some.0, omega (arith, some.1), some.2)
    by_last (inr here) (inr none) = inr (λ k less p. elim (cases_lt k n) [
      | inl below ↦ none k below p
      | inr last ↦ let e : k ≡ n = omega arith in here (subst P e p)
    ])

same-or_not : (xs ys : List ℕ) → (xs ≡ ys) ⊎ (xs ≡ ys → ⊥)
same-or_not xs ys = elim (cases_Bool (is_same xs ys)) [
  | inl same ↦ inl (same-texts xs ys same)
  | inr other ↦ inr (λ e. let t : is_same xs ys ≡ true = ap (is_same xs) (sym e) ∙ same-itself xs in cc)
]

head-or_none : (line : List ℕ) → ((lines : ℕ) × (low : ℕ) × IsHead line lines low) ⊎ ((lines low : ℕ) → IsHead line lines low → ⊥)
head-or_none line = elim (some-below WithLines lines-test (2 ^ 64)) [
  | inl some ↦ inl (some.0, some.2.0, record { few_lines = some.1; small_low = some.2.1; text = some.2.2 })
  | inr none ↦ inr (λ lines low h. none lines h.few_lines (low, h.small_low, h.text))
]
  where
    WithLines : ℕ → Type 0
    WithLines lines = (low : ℕ) × (low < 2 ^ 64) × (line ≡ head_text lines low)

    lines-test : (lines : ℕ) → WithLines lines ⊎ (WithLines lines → ⊥)
    lines-test lines = elim (some-below (λ low. line ≡ head_text lines low) (λ low. same-or_not line (head_text lines low)) (2 ^ 64)) [
      | inl some ↦ inl some
      | inr none ↦ inr (λ w. none w.0 w.1 w.2)
    ]

-- ---- one answer
-- a text gives one answer
record GiveOne {X : Type 0} (l m v w : ℕ) (a b : X) : Type 0 where
  lines : l ≡ m
  low : v ≡ w
  answer : a ≡ b

module _ (plan : Shape) (parts : List (List ℕ)) where
  give-one : (l m v w : ℕ) (a b : Result (List Item) ℕ) → Gives plan parts l v a → Gives plan parts m w b → GiveOne l m v w a b
  give-one l m v w a b g k =
      let split : g.head ∷ g.next ∷ g.rest ≡ k.head ∷ k.next ∷ k.rest = sym g.split ∙ k.split in
      let head : g.head ≡ k.head = cc in
      let next : g.next ≡ k.next = cc in
      let rest : g.rest ≡ k.rest = cc in
      let numbers = same-head k.head l v m w (subst (λ line. IsHead line l v) head g.is_head) k.is_head in
      record {
        lines = numbers.0;
        low = numbers.1;
        answer = sym g.others ∙ (λ i. read_pieces plan (numbers.0 i) (numbers.1 i) [] (next i) (rest i)) ∙ k.others;
      }

  no-head : (l v : ℕ) (a : Result (List Item) ℕ) → Gives plan parts l v a → HasNoHead parts → ⊥
  no-head l v a g none = subst HasNoHead g.split none l v g.is_head

  not-both : (l v n : ℕ) (items : List Item) → IsRead plan parts l v items → IsFaultAt plan parts n → ⊥
  not-both l v n items is (inl none) = no-head l v (Ok items) is none.0
  not-both l v n items is (inr g) = let one = give-one l g.0 v g.1 (Ok items) (Err n) is g.2 in let e = one.answer in cc

  one-checkpoint : (l m v w : ℕ) (items others : List Item) → IsRead plan parts l v items → IsRead plan parts m w others → (l ≡ m) × (v ≡ w) × (items ≡ others)
  one-checkpoint l m v w items others is other =
      let one = give-one l m v w (Ok items) (Ok others) is other in
      let e = one.answer in
      (one.lines, one.low, cc)

  one-fault : (m n : ℕ) → IsFaultAt plan parts m → IsFaultAt plan parts n → m ≡ n
  one-fault m n (inl a) (inl b) = a.1 ∙ sym b.1
  one-fault m n (inl a) (inr g) = absurd (no-head g.0 g.1 (Err n) g.2 a.0)
  one-fault m n (inr g) (inl b) = absurd (no-head g.0 g.1 (Err m) g.2 b.0)
  one-fault m n (inr g) (inr k) = let one = give-one g.0 k.0 g.1 k.1 (Err m) (Err n) g.2 k.2 in let e = one.answer in cc

abbrev IsEither : Shape → List (List ℕ) → Type 0
IsEither plan parts = ((lines : ℕ) × (low : ℕ) × (items : List Item) × IsRead plan parts lines low items) ⊎ ((line : ℕ) × IsFaultAt plan parts line)

is-either : (plan : Shape) (parts : List (List ℕ)) → IsEither plan parts
is-either plan [] = inr (1, inl (tt, refl))
is-either plan (head ∷ []) = inr (1, inl (tt, refl))
is-either plan (head ∷ next ∷ rest) = by_head (head-or_none head)
  where
    by_answer : (lines low : ℕ) → IsHead head lines low → (a : Result (List Item) ℕ) → read_pieces plan lines low [] next rest ≡ a → IsEither plan (head ∷ next ∷ rest)
    by_answer lines low is (Ok items) e = inl (lines, low, items, record { head = head; next = next; rest = rest; split = refl; is_head = is; others = e })
    by_answer lines low is (Err line) e = inr (line, inr (lines, low, record { head = head; next = next; rest = rest; split = refl; is_head = is; others = e }))

    by_head : ((lines : ℕ) × (low : ℕ) × IsHead head lines low) ⊎ ((lines low : ℕ) → IsHead head lines low → ⊥) → IsEither plan (head ∷ next ∷ rest)
    by_head (inl some) = by_answer some.0 some.1 some.2 (read_pieces plan some.0 some.1 [] next rest) refl
    by_head (inr none) = inr (1, inl (none, refl))

pub read-or_faulty : CheckpointsAreReadOrFaulty
read-or_faulty plan text =
    let parts = pieces text in
    record {
      either = is-either plan parts;
      not_both = not-both plan parts;
      one_checkpoint = one-checkpoint plan parts;
      one_fault = one-fault plan parts;
    }
