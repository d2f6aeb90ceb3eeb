-- What a read from memory leaves.
use Rattle.std.proofs.Common.{◌≡◌, ℕ, ◌+◌, ◌-◌, ◌≤◌, ◌++◌, List, [], length, take, drop, min, sym, ap, ◌∙◌, arith}
use Rattle.std.proofs.lemmas.List.{drop-drop, drop_all, take-take, take-append-le, take-append-drop, take_all, length-take, length-drop}

-- part is what was copied to the front of a buffer, of the bytes from given on
module _ (left all bytes part rest : List ℕ) (given count most : ℕ) (same : all ≡ bytes) (is : drop given bytes ≡ left)
    (copied : part ≡ take count (take (length all - given) (drop given all))) (counts : count ≡ min most (length (take (length all - given) (drop given all)))) where
  whole : take (length all - given) (drop given all) ≡ left
  whole = take_all (length all - given) (drop given all) (omega (arith, length-drop given all)) ∙ ap (drop given) same ∙ is

  bound : count ≡ min most (length left)
  bound = counts ∙ ap (λ l. min most (length l)) whole

  behind : drop (given + count) bytes ≡ drop count left
  behind = sym (drop-drop count given bytes) ∙ ap (drop count) is

  shown : take count (part ++ rest) ≡ take count left
  shown =
      let size : length part ≡ count = ap length (copied ∙ ap (take count) whole) ∙ (omega (arith, length-take count left, bound)) in
      take-append-le count part rest (omega (arith, size)) ∙ ap (take count) (copied ∙ ap (take count) whole) ∙ take-take count count left (omega arith)

  pub left_by_read : left ≡ take count (part ++ rest) ++ drop (given + count) bytes
  left_by_read = sym (take-append-drop count left) ∙ (λ i. sym shown i ++ sym behind i)

  pub ends_at_none : 1 ≤ most → count ≡ 0 → drop (given + count) bytes ≡ []
  ends_at_none some none = behind ∙ drop_all count left (omega (arith, bound))
