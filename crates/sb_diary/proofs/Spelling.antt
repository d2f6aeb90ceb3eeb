-- A text tells its word and its numbers.
use Rattle.std.proofs.Common.{◌≡◌, ◌==◌, ℕ, suc, ◌+◌, ◌%◌, ◌-◌, ◌<◌, ◌^◌, zero, List, [], ◌∷◌, ◌++◌, length, get_or, take, drop, set, replicate, lit<, Some, None, Ok, Err, sym, refl, ap, subst, ◌∙◌, arith, Bool, true, false, not, cond, append_assoc, append-nil, add-one}
use Rattle.std.proofs.lemmas.Bool.{eqb-true, eq-eqb}
use Rattle.std.proofs.lemmas.Fmt.{decimal_by_steps, decimal_injective}
use Rattle.std.proofs.lemmas.List.{take_all}
use Rattle.std.specs.List.{AllByRecursion, position, position_or_len}
use Rattle.std.specs.Prelude.{decimal, Option, Result, OkIff}
use Rattle.std.specs.Result.{result_ok}
use Rattle.std.specs.Option.{unwrap_or}
use Rattle.sb_record.proofs.WordBytes.{position_or_end}
use Rattle.std.proofs.lemmas.Option.{same_Some}
use Rattle.sb_diary.specs.Texts.{spaced_text, AreInRange}
use Rattle.sb_diary.specs.Reading.{HasNoSpace, IsAtSpace, BeginsWith, AreNumbers, AreFields}

-- ---- words end at spaces
pub apart : false ≡ true → ⊥
apart e = cc

-- the first space splits a text
abbrev pub first_at : List ℕ → ℕ
first_at bytes = position_or_len (λ b. b == 32) bytes

-- it is what the search for it gives, or the end
pub found_at : (bytes : List ℕ) (found : Option ℕ) (end : ℕ) → found ≡ position (λ b. b == 32) bytes → end ≡ unwrap_or found (length bytes) → end ≡ first_at bytes
found_at bytes found end e f = f ∙ ap (λ o. unwrap_or o (length bytes)) e ∙ position_or_end (λ b. b == 32) bytes

split-here : (b : ℕ) (bytes : List ℕ) (t : Bool) → (b == 32) ≡ t → HasNoSpace (take (first_at bytes) bytes) → IsAtSpace (drop (first_at bytes) bytes)
    → HasNoSpace (take (cond (not t) (1 + first_at bytes) 0) (b ∷ bytes)) × IsAtSpace (drop (cond (not t) (1 + first_at bytes) 0) (b ∷ bytes))
split-here b bytes true e h k = (tt, eqb-true b 32 e)
split-here b bytes false e h k =
    let one : 1 + first_at bytes ≡ suc (first_at bytes) = omega arith in
    rw one ((λ f. apart (sym e ∙ eq-eqb b 32 f), h), k)

pub at_space : (bytes : List ℕ) → HasNoSpace (take (first_at bytes) bytes) × IsAtSpace (drop (first_at bytes) bytes)
at_space [] = (tt, tt)
at_space (b ∷ bytes) = let r = at_space bytes in split-here b bytes (b == 32) refl r.0 r.1

no_space-append : (a b : List ℕ) → HasNoSpace a → HasNoSpace b → HasNoSpace (a ++ b)
no_space-append [] b h k = k
no_space-append (c ∷ a) b h k = (h.0, no_space-append a b h.1 k)

no_space-decimal : (n : ℕ) → n < 2 ^ 64 → HasNoSpace (decimal n)
no_space-decimal n h =
    decimal_by_steps (λ n ds. HasNoSpace ds) (λ n small. (λ e. omega arith, tt))
    (λ n ds big ih. no_space-append ds ((48 + n % 10) ∷ []) ih (λ e. omega arith, tt)) n h

-- up to the first space two texts are one
pub split-unique : (a b x y : List ℕ) → HasNoSpace a → HasNoSpace b → IsAtSpace x → IsAtSpace y → a ++ x ≡ b ++ y → (a ≡ b) × (x ≡ y)
split-unique [] [] x y h k ex ey e = (refl, e)
split-unique [] (c ∷ b) [] y h k ex ey e = cc
split-unique [] (c ∷ b) (d ∷ x) y h k ex ey e = let f : c ≡ d = cc in absurd (k.0 (f ∙ ex))
split-unique (c ∷ a) [] x [] h k ex ey e = cc
split-unique (c ∷ a) [] x (d ∷ y) h k ex ey e = let f : c ≡ d = cc in absurd (h.0 (f ∙ ey))
split-unique (c ∷ a) (d ∷ b) x y h k ex ey e =
    let f : c ≡ d = cc in
    let g : a ++ x ≡ b ++ y = cc in
    let r = split-unique a b x y h.1 k.1 ex ey g in
    (λ i. f i ∷ r.0 i, r.1)

-- ---- numbers behind spaces
pub spaced-at_space : (ns : List ℕ) → IsAtSpace (spaced_text ns)
spaced-at_space [] = tt
spaced-at_space (n ∷ ns) = refl

-- a number at the front is the only one
pub same_front : (n m : ℕ) (x y : List ℕ) → n < 2 ^ 64 → m < 2 ^ 64 → IsAtSpace x → IsAtSpace y → decimal n ++ x ≡ decimal m ++ y → (n ≡ m) × (x ≡ y)
same_front n m x y h k ex ey e =
    let r = split-unique (decimal n) (decimal m) x y (no_space-decimal n h) (no_space-decimal m k) ex ey e in
    (decimal_injective n m h k r.0, r.1)

-- numbers that begin as these bytes do
pub first_same : (n : ℕ) (ns : List ℕ) (m : ℕ) (bytes rest : List ℕ) → n < 2 ^ 64 → BeginsWith bytes m rest → spaced_text (n ∷ ns) ≡ bytes → (n ≡ m) × (spaced_text ns ≡ rest)
first_same n ns m bytes rest fits b e =
    let tails : decimal n ++ spaced_text ns ≡ decimal m ++ rest = cc in
    same_front n m (spaced_text ns) rest fits b.fits (spaced-at_space ns) b.ends tails

abbrev pub BeginsWithNone : List ℕ → Type 0
BeginsWithNone bytes = (n : ℕ) (rest : List ℕ) → BeginsWith bytes n rest → ⊥

pub first_none : (n : ℕ) (ns bytes : List ℕ) → n < 2 ^ 64 → BeginsWithNone bytes → spaced_text (n ∷ ns) ≡ bytes → ⊥
first_none n ns bytes fits none e = none n (spaced_text ns) (record { fits = fits; text = sym e; ends = spaced-at_space ns })

-- ---- as many numbers as have been read
-- these bytes are what is left of the text of numbers, of which the first i were read
pub spaced-more : (xs : List ℕ) (i v : ℕ) (rest after bytes : List ℕ) → i < length xs → spaced_text (take i xs) ++ rest ≡ bytes → rest ≡ 32 ∷ (decimal v ++ after) → spaced_text (take (i + 1) (set xs i v)) ++ after ≡ bytes
spaced-more xs i v rest after bytes h e f =
    rw (add-one, front xs i v h) (append_assoc (spaced_text (take i xs)) (32 ∷ decimal v) after ∙ ap (λ l. spaced_text (take i xs) ++ l) (sym f) ∙ e)
  where
    front : (xs : List ℕ) (i v : ℕ) → i < length xs → spaced_text (take (suc i) (set xs i v)) ≡ spaced_text (take i xs) ++ (32 ∷ decimal v)
    front [] i v h = absurd (omega arith)
    front (x ∷ xs) zero v h = append-nil (32 ∷ decimal v)
    front (x ∷ xs) (suc i) v h = let ih = front xs i v (omega arith) in ap (λ l. 32 ∷ (decimal x ++ l)) ih ∙ sym (append_assoc (32 ∷ decimal x) (spaced_text (take i xs)) (32 ∷ decimal v))

-- the numbers from the i-th on have what is left for their text
pub spaced-drop : (ns : List ℕ) (i v : ℕ) (rest after : List ℕ) → i < length ns → AllByRecursion (λ k. k < 2 ^ 64) ns → BeginsWith rest v after → spaced_text (drop i ns) ≡ rest → spaced_text (drop (i + 1) ns) ≡ after
spaced-drop ns i v rest after h all b e = rw add-one (next ns i h all e)
  where
    next : (ns : List ℕ) (i : ℕ) → i < length ns → AllByRecursion (λ k. k < 2 ^ 64) ns → spaced_text (drop i ns) ≡ rest → spaced_text (drop (suc i) ns) ≡ after
    next [] i h all e = absurd (omega arith)
    next (n ∷ ns) zero h all e = (first_same n ns v rest after all.0 b e).1
    next (n ∷ ns) (suc i) h all e = next ns i (omega arith) all.1 e

-- there is an i-th number, so what is left begins with one
pub spaced-none : (ns : List ℕ) (i : ℕ) (rest : List ℕ) → i < length ns → AllByRecursion (λ k. k < 2 ^ 64) ns → BeginsWithNone rest → spaced_text (drop i ns) ≡ rest → ⊥
spaced-none [] i rest h all none e = absurd (omega arith)
spaced-none (n ∷ ns) zero rest h all none e = first_none n ns rest all.0 none e
spaced-none (n ∷ ns) (suc i) rest h all none e = spaced-none ns i rest (omega arith) all.1 none e

-- the word after a space at the front, up to the next one, is the number that stands there
pub front_word : (bytes word after : List ℕ) (n : ℕ) (rest : List ℕ) → HasNoSpace word → IsAtSpace after → word ++ after ≡ take (length bytes - 1) (drop 1 bytes) → BeginsWith bytes n rest → word ≡ decimal n
front_word bytes word after n rest w a e b =
    let all : word ++ after ≡ take (suc (length (decimal n ++ rest)) - 1) (decimal n ++ rest) = subst (λ (l : List ℕ). word ++ after ≡ take (length l - 1) (drop 1 l)) b.text e in
    let whole : take (suc (length (decimal n ++ rest)) - 1) (decimal n ++ rest) ≡ decimal n ++ rest = take_all (suc (length (decimal n ++ rest)) - 1) (decimal n ++ rest) (omega arith) in
    (split-unique word (decimal n) after rest w (no_space-decimal n b.fits) a b.ends (all ∙ whole)).0

pub all-zeros : (n : ℕ) → AllByRecursion (λ k. k < 2 ^ 64) (replicate n 0)
all-zeros zero = tt
all-zeros (suc n) = (lit< tt, all-zeros n)

pub all-set : (xs : List ℕ) (i v : ℕ) → AllByRecursion (λ k. k < 2 ^ 64) xs → v < 2 ^ 64 → AllByRecursion (λ k. k < 2 ^ 64) (set xs i v)
all-set [] i v all h = tt
all-set (x ∷ xs) zero v all h = (h, all.1)
all-set (x ∷ xs) (suc i) v all h = (all.0, all-set xs i v all.1 h)

-- ---- a lane or a node, and numbers
first_fits : (n : ℕ) (ns : List ℕ) → AreInRange (n ∷ ns) → n < 2 ^ 64
first_fits n ns h = omega (arith, h.0)

pub no_first : (count : ℕ) (bytes : List ℕ) → BeginsWithNone bytes → (ns : List ℕ) → AreFields count ns bytes → ⊥
no_first count bytes none [] are = absurd (omega (arith, are.count_is))
no_first count bytes none (n ∷ ns) are = first_none n ns bytes (first_fits n ns are.fit) none are.text

-- the first number is no lane and no node
pub big_first : (count : ℕ) (bytes : List ℕ) (m : ℕ) (rest : List ℕ) → BeginsWith bytes m rest → (m < 2 ^ 32 → ⊥) → (ns : List ℕ) → AreFields count ns bytes → ⊥
big_first count bytes m rest b big [] are = absurd (omega (arith, are.count_is))
big_first count bytes m rest b big (n ∷ ns) are =
    let same = (first_same n ns m bytes rest (first_fits n ns are.fit) b are.text).0 in big (omega (arith, same, are.fit.0))

pub no_others : (count : ℕ) (bytes : List ℕ) (m : ℕ) (rest : List ℕ) → BeginsWith bytes m rest → ((ns : List ℕ) → AreNumbers count ns rest → ⊥) → (ns : List ℕ) → AreFields count ns bytes → ⊥
no_others count bytes m rest b none [] are = absurd (omega (arith, are.count_is))
no_others count bytes m rest b none (n ∷ ns) are =
    let same = (first_same n ns m bytes rest (first_fits n ns are.fit) b are.text).1 in
    none ns (record { count_is = omega (arith, are.count_is); fit = are.fit.1; text = same })

pub with_first : (count : ℕ) (bytes : List ℕ) (n m : ℕ) (rest ns : List ℕ) → BeginsWith bytes n rest → (n < 2 ^ 32) × (m ≡ n) → AreNumbers count ns rest → AreFields count (m ∷ ns) bytes
with_first count bytes n m rest ns b small others =
    subst (λ k. AreFields count (k ∷ ns) bytes) (sym small.1)
    (record { count_is = omega (arith, others.count_is); fit = (small.0, others.fit); text = ap (λ l. 32 ∷ (decimal n ++ l)) others.text ∙ sym b.text })

-- ---- what a cast gives
pub cast-Some : {E : Type 0} (r : Result ℕ E) (P : Type 0) (n x : ℕ) → Some x ≡ result_ok r → OkIff r P n → P × (x ≡ n)
cast-Some (Ok y) P n x e h = (h.0, same_Some x y e ∙ h.1)
cast-Some (Err d) P n x e h = cc

pub cast-None : {E : Type 0} (r : Result ℕ E) (P : Type 0) (n : ℕ) → ◌≡◌ {A = Option ℕ} None (result_ok r) → OkIff r P n → P → ⊥
cast-None (Ok y) P n e h = cc
cast-None (Err d) P n e h = h

-- ---- short lists by their elements
pub one_number : (xs : List ℕ) → length xs ≡ 1 → xs ≡ get_or xs 0 0 ∷ []
one_number (a ∷ []) len = refl
one_number xs len = absurd (omega (arith, len))

pub two_numbers : (xs : List ℕ) → length xs ≡ 2 → xs ≡ get_or xs 0 0 ∷ get_or xs 1 0 ∷ []
two_numbers (a ∷ b ∷ []) len = refl
two_numbers xs len = absurd (omega (arith, len))

pub three_numbers : (xs : List ℕ) → length xs ≡ 3 → xs ≡ get_or xs 0 0 ∷ get_or xs 1 0 ∷ get_or xs 2 0 ∷ []
three_numbers (a ∷ b ∷ c ∷ []) len = refl
three_numbers xs len = absurd (omega (arith, len))

pub six_bytes : (w : List ℕ) (a b c d e f : ℕ) → length w ≡ 6 → get_or w 0 0 ≡ a → get_or w 1 0 ≡ b → get_or w 2 0 ≡ c → get_or w 3 0 ≡ d → get_or w 4 0 ≡ e → get_or w 5 0 ≡ f → a ∷ b ∷ c ∷ d ∷ e ∷ f ∷ [] ≡ w
six_bytes (x ∷ y ∷ z ∷ u ∷ v ∷ w ∷ []) a b c d e f len p q r s t o = λ i. sym p i ∷ sym q i ∷ sym r i ∷ sym s i ∷ sym t i ∷ sym o i ∷ []
six_bytes xs a b c d e f len p q r s t o = absurd (omega (arith, len))

-- ---- numbers by their text
pub in-range_fit : (ns : List ℕ) → AreInRange ns → AllByRecursion (λ k. k < 2 ^ 64) ns
in-range_fit [] h = tt
in-range_fit (n ∷ ns) h = (first_fits n ns h, h.1)

pub spaced-unique : (ns ms : List ℕ) → AllByRecursion (λ k. k < 2 ^ 64) ns → AllByRecursion (λ k. k < 2 ^ 64) ms → spaced_text ns ≡ spaced_text ms → ns ≡ ms
spaced-unique [] [] h k e = refl
spaced-unique [] (m ∷ ms) h k e = cc
spaced-unique (n ∷ ns) [] h k e = cc
spaced-unique (n ∷ ns) (m ∷ ms) h k e =
    let r = first_same n ns m (spaced_text (m ∷ ms)) (spaced_text ms) h.0 (record { fits = k.0; text = refl; ends = spaced-at_space ms }) e in
    λ i. r.0 i ∷ spaced-unique ns ms h.1 k.1 r.1 i
