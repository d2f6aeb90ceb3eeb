-- Words with zeros behind them compare as the words do.
use Rattle.std.proofs.Common.{◌≡◌, ℕ, zero, suc, ◌+◌, ◌-◌, ◌<◌, ◌==◌, true, false, cond, not, List, [], ◌∷◌, ◌++◌, length, drop, replicate, IsTrue, refl, sym, ap, subst, ◌∙◌, arith}
use Rattle.std.specs.Prelude.{nat_eq}
use Rattle.std.specs.List.{list_all}
use Rattle.std.specs.Ordering.{nat_cmp, ordering_then, is_eq, eq_by_cmp}
use Rattle.std.specs.Cmp.{nat_cmp_is, tied_itself}
use Rattle.std.specs.Cmp.Lexicographic.{slice_cmp, pointwise, nat_list_cmp_total, texts_ties}
use Rattle.std.specs.declared.cmp.Ordering.TheVariants.{Less, Greater}
use Rattle.std.proofs.lemmas.List.{drop-replicate}
use Rattle.std.proofs.lemmas.List.Sums.{take_while-cons}
use Rattle.std.proofs.lemmas.Bool.{ne_eqb}
use Rattle.sb_record.proofs.WordBytes.{AreWordBytes, are_word_bytes, first_of_both, second_of_both, above_zero, word_length}
use Rattle.sb_record.specs.declared.key.TheConstants.{MAX_WORD_LENGTH}
use Rattle.sb_record.specs.Words.{is_word, is_word_byte, word_cmp, word_with_zeros, word_before_zeros, IsPaddedWord}

unpadded-zeros : (word : List ℕ) (zeros : ℕ) → AreWordBytes word → word_before_zeros (word ++ replicate zeros 0) ≡ word
unpadded-zeros [] zero bytes = refl
unpadded-zeros [] (suc n) bytes = refl
unpadded-zeros (b ∷ word) zeros bytes =
    let low : 0 < b = above_zero b (first_of_both (is_word_byte b) (list_all is_word_byte word) bytes) in
    let some : (b == 0) ≡ false = ne_eqb b 0 (λ e. omega arith) in
    take_while-cons (λ x. not (x == 0)) b (word ++ replicate zeros 0)
    ∙ (λ i. cond (not (some i)) (b ∷ unpadded-zeros word zeros (second_of_both (is_word_byte b) (list_all is_word_byte word) bytes) i) [])

pub unpadded-padded : (word : List ℕ) → is_word word ≡ true → word_before_zeros (word_with_zeros word) ≡ word
unpadded-padded word h = unpadded-zeros word (MAX_WORD_LENGTH - length word) (are_word_bytes word h)

pub padded_word : (word : List ℕ) → is_word word ≡ true → IsPaddedWord (word_with_zeros word)
padded_word word h = record { word = subst (λ w. IsTrue (is_word w)) (sym (unpadded-padded word h)) h; zeros = ap word_with_zeros (unpadded-padded word h) }

cmp-zeros : (v w : List ℕ) (j k : ℕ) → AreWordBytes v → AreWordBytes w → length v + j ≡ length w + k
    → slice_cmp nat_cmp (v ++ replicate j 0) (w ++ replicate k 0) ≡ word_cmp v w
cmp-zeros [] [] j k a b same = let e : j ≡ k = omega arith in ap (λ n. slice_cmp nat_cmp (replicate j 0) (replicate n 0)) (sym e) ∙ tied_itself nat_list_cmp_total (replicate j 0)
cmp-zeros [] (y ∷ w) zero k a b same = absurd (omega arith)
cmp-zeros [] (y ∷ w) (suc j) k a b same =
    ap (λ o. ordering_then o (slice_cmp nat_cmp (replicate j 0) (w ++ replicate k 0))) (sym (nat_cmp_is 0 y Less (above_zero y (first_of_both (is_word_byte y) _ b))))
cmp-zeros (x ∷ v) [] j zero a b same = absurd (omega arith)
cmp-zeros (x ∷ v) [] j (suc k) a b same =
    ap (λ o. ordering_then o (slice_cmp nat_cmp (v ++ replicate j 0) (replicate k 0))) (sym (nat_cmp_is x 0 Greater (above_zero x (first_of_both (is_word_byte x) _ a))))
cmp-zeros (x ∷ v) (y ∷ w) j k a b same =
    ap (ordering_then (nat_cmp x y)) (cmp-zeros v w j k (second_of_both (is_word_byte x) _ a) (second_of_both (is_word_byte y) _ b) (omega arith))

-- words that are held compare as the words do
pub cmp-held : (v w : List ℕ) → IsPaddedWord v → IsPaddedWord w → slice_cmp nat_cmp v w ≡ word_cmp (word_before_zeros v) (word_before_zeros w)
cmp-held v w a b =
    (λ i. slice_cmp nat_cmp (sym a.zeros i) (sym b.zeros i))
    ∙ cmp-zeros (word_before_zeros v) (word_before_zeros w) (MAX_WORD_LENGTH - length (word_before_zeros v)) (MAX_WORD_LENGTH - length (word_before_zeros w)) (are_word_bytes (word_before_zeros v) a.word) (are_word_bytes (word_before_zeros w) b.word)
    (omega (arith, word_length (word_before_zeros v) a.word, word_length (word_before_zeros w) b.word))

pub eq-held : (v w : List ℕ) → IsPaddedWord v → IsPaddedWord w → pointwise nat_eq v w ≡ eq_by_cmp word_cmp (word_before_zeros v) (word_before_zeros w)
eq-held v w a b = texts_ties v w ∙ ap is_eq (cmp-held v w a b)

-- a word that is written over zeros
pub written : (word : List ℕ) → word ++ drop (length word) (replicate MAX_WORD_LENGTH 0) ≡ word_with_zeros word
written word = ap (λ l. word ++ l) (drop-replicate (length word) MAX_WORD_LENGTH 0)
