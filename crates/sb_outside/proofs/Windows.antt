-- What the first bytes of a window show of the first line.
use Rattle.std.proofs.Common.{◌≡◌, ℕ, ◌+◌, ◌<◌, ◌≤◌, ◌++◌, List, [], ◌∷◌, length, take, drop, true, false, min, sym, ap, ◌∙◌, arith, inl, inr}
use Rattle.std.proofs.lemmas.Bool.{cases_lt, le-ltb, lt-ltb}
use Rattle.std.proofs.lemmas.List.{length-take, length-take-le, take-take}
use Rattle.sb_outside.specs.Lines.{without_cr, lines}
use Rattle.sb_outside.specs.Readings.{IsTooLong}
use Rattle.sb_outside.specs.Looks.{line_len, IsOpen, Shows}
use Rattle.sb_outside.specs.declared.look.Look.TheVariants as look
use Rattle.sb_outside.proofs.Ends.{len_within}
use Rattle.sb_outside.proofs.FirstLines.{front, has_line, next_line, no_line_at_end, front_all, without_cr_least, long_line, open_rest}

pub shows_too_long : (bytes : List ℕ) (at len : ℕ) → at ≡ min 130 (line_len bytes) → len ≡ length (without_cr (take at bytes)) → 128 < len → IsTooLong bytes
shows_too_long bytes at len is size over = long_line bytes (elim (cases_lt 130 (line_len bytes)) [
  | inl beyond ↦
      let least = without_cr_least (front bytes) in
      lt-ltb 128 (length (without_cr (front bytes))) (omega (arith, length-take-le (line_len bytes) bytes (len_within bytes)))
  | inr within ↦
      let same : at ≡ line_len bytes = omega arith in
      lt-ltb 128 (length (without_cr (front bytes))) (let here : len ≡ length (without_cr (front bytes)) = size ∙ ap (λ n. length (without_cr (take n bytes))) same in omega arith)
])

-- a line that ends where the window shows it, once its CR is cut off and it is not too long
module _ (bytes : List ℕ) (at len : ℕ) (is : at ≡ min 130 (line_len bytes)) (cut : take len (take at bytes) ≡ without_cr (take at bytes)) (fits : len ≤ length (take at bytes)) (near : length (take at bytes) ≤ len + 1) (short : len ≤ 128) where
  at_end : at ≡ line_len bytes
  at_end = omega (arith, length-take at bytes, len_within bytes)

  cut_within : len ≤ at
  cut_within = omega (arith, length-take at bytes)

  pub shows_line : at < length bytes → Shows bytes (look.Line len (at + 1))
  shows_line some =
      let has : has_line bytes ≡ true = lt-ltb (line_len bytes) (length bytes) (omega (arith, at_end)) in
      let line : without_cr (front bytes) ≡ take len bytes = ap (λ n. without_cr (take n bytes)) (sym at_end) ∙ sym cut ∙ take-take len at bytes cut_within in (
        λ e later. next_line bytes e [] later has ∙ (λ i. line i ∷ lines e (drop (sym at_end i + 1) bytes ++ later)),
        short,
        omega (arith, cut_within),
        omega arith,
      )

  pub shows_more : length bytes ≤ at → Shows bytes look.More
  shows_more none =
      let has : has_line bytes ≡ false = le-ltb (line_len bytes) (length bytes) (omega (arith, at_end)) in
      let whole : take at bytes ≡ bytes = ap (λ n. take n bytes) at_end ∙ front_all bytes has in
      let size : length (without_cr bytes) ≡ length (take len (take at bytes)) = ap (λ l. length (without_cr l)) (sym whole) ∙ ap length (sym cut) in
      let small : length (without_cr bytes) ≤ 128 = omega (arith, length-take len (take at bytes)) in
      let known : IsOpen bytes = record {
        no_line_yet = open_rest bytes has (le-ltb 128 (length (without_cr bytes)) small);
        last_one = no_line_at_end bytes true has;
        short = small;
      } in
      (known, omega (arith, length-take at bytes))
