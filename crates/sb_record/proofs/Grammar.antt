-- The item that is read is the one whose text the line is.
use Rattle.std.proofs.Common.{◌≡◌, ◌==◌, ℕ, ℤ, pos, negsuc, suc, ◌+◌, ◌-◌, ◌<◌, ◌≤◌, ◌^◌, ◌++◌, cond, not, List, [], ◌∷◌, length, take, drop, IsTrue, Some, None, false, refl, sym, ap, subst, ◌∙◌, arith, inl, inr, append-nil}
use Rattle.std.proofs.lemmas.Bool.{cases_Bool, eqb-true, ne_eqb}
use Rattle.std.proofs.lemmas.Fmt.{decimal_is_IsNumeral, decimal_nonempty}
use Rattle.std.proofs.lemmas.List.{take-append-drop}
use Rattle.std.proofs.Math.Seq.{take-append_seam, drop-append_seam}
use Rattle.std.proofs.lemmas.Option.{same_Some}
use Rattle.std.specs.List.{list_all}
use Rattle.std.proofs.lemmas.Str.Parse.{digit_from_value}
use Rattle.std.specs.Str.Parse.{AllDigits}
use Rattle.std.specs.Fmt.{decimal, signed_decimal}
use Rattle.std.specs.Prelude.{Option}
use lib.Signed.{mag}
use Rattle.sb_record.specs.declared.item.Record.{Record}
use Rattle.sb_record.specs.declared.item.Stream.{Stream}
use Rattle.sb_record.specs.declared.item.Stream.TheVariants.{A, B}
use Rattle.sb_record.specs.declared.item.Item.{Item}
use Rattle.sb_record.specs.declared.item.Item.TheVariants.{Rec, Mark, Skip, Late}
use Rattle.sb_record.specs.declared.key.Key.{Key}
use Rattle.sb_record.specs.declared.key.Key.TheVariants.{Number, Word}
use Rattle.sb_record.specs.declared.key.Keys.{Keys}
use Rattle.sb_record.specs.declared.key.Keys.TheVariants.{Numbers, Words}
use Rattle.sb_record.specs.Keys.{key_text, IsKeyInRange}
use Rattle.sb_record.specs.Lines.{letter, IsInRange, IsTextOf}
use Rattle.sb_record.specs.Reading.{number_at, byte_at, negative, positive, signed_from, signed_at, comma, word_at, number_key, word_key, key_at, stream_at, at_end, record_at, mark_at, between, item_of}
use Rattle.sb_record.specs.Words.{is_word, is_word_byte}
use Rattle.sb_record.proofs.WordBytes.{AreWordBytes, are_word_bytes, first_of_both, second_of_both, no_comma}
use Rattle.sb_record.proofs.Numbers.{bind_some, number_text, number_of_text, number_of_whole, starts_digit}

pub byte_some : (b : ℕ) (xs rest : List ℕ) → byte_at b xs ≡ Some rest → xs ≡ b ∷ rest
unfolding byte_at
byte_some b [] rest h = cc
byte_some b (x ∷ xs) rest h = elim (cases_Bool (x == b)) [
  | inl same ↦
      let e : xs ≡ rest = same_Some xs rest (rw same at h) in
      λ i. eqb-true x b same i ∷ e i
  | inr other ↦ cc (rw other at h)
]

pub stream_some : (xs rest : List ℕ) (s : Stream) → stream_at xs ≡ Some (s, rest) → xs ≡ letter s ∷ rest
unfolding stream_at
stream_some [] rest s h = cc
stream_some (x ∷ xs) rest s h = elim (cases_Bool (x == 97)) [
  | inl a ↦ let e = same_Some (A, xs) (s, rest) (rw a at h) in λ i. (eqb-true x 97 a ∙ ap (λ (p : Stream × List ℕ). letter p.0) e) i ∷ (e i).1
  | inr no_a ↦ elim (cases_Bool (x == 98)) [
    | inl b ↦ let e = same_Some (B, xs) (s, rest) (rw (no_a, b) at h) in λ i. (eqb-true x 98 b ∙ ap (λ (p : Stream × List ℕ). letter p.0) e) i ∷ (e i).1
    | inr no_b ↦ cc (rw (no_a, no_b) at h)
  ]
]

pub end_some : (item i : Item) (xs : List ℕ) → at_end item xs ≡ Some i → (xs ≡ []) × (item ≡ i)
unfolding at_end
end_some item i [] h = (refl, same_Some item i h)
end_some item i (x ∷ xs) h = cc

signed_from_some : (o : Option (List ℕ)) (xs rest : List ℕ) (v : ℤ) → byte_at 45 xs ≡ o → signed_from o xs ≡ Some (v, rest) → (xs ≡ signed_decimal v ++ rest) × (mag v < 2 ^ 63)
signed_from_some None xs rest v at h =
    let (p, read, is) = bind_some (number_at 9223372036854775807 xs) positive (v, rest) h in
    let t = number_text 9223372036854775807 xs p.0 p.1 read in
    subst (λ (q : ℤ × List ℕ). (xs ≡ signed_decimal q.0 ++ q.1) × (mag q.0 < 2 ^ 63)) (same_Some (pos p.0, p.1) (v, rest) is) (t.0, omega (arith, t.1))
signed_from_some (Some bytes) xs rest v at h =
    let (p, read, is) = bind_some (number_at 9223372036854775808 bytes) negative (v, rest) h in
    let t = number_text 9223372036854775808 bytes p.0 p.1 read in
    elim (cases_Bool (p.0 == 0)) [
      | inl none ↦ cc (rw none at is)
      | inr some ↦
          let e = same_Some (negsuc (p.0 - 1), p.1) (v, rest) (rw some at is) in
          let f : suc (p.0 - 1) ≡ p.0 = grind arith in
          let whole : xs ≡ 45 ∷ (decimal (suc (p.0 - 1)) ++ p.1) = byte_some 45 xs bytes at ∙ (λ i. 45 ∷ t.0 i) ∙ ap (λ n. 45 ∷ (decimal n ++ p.1)) (sym f) in
          let small : p.0 - 1 < 2 ^ 63 = omega (arith, t.1) in
          subst (λ (q : ℤ × List ℕ). (xs ≡ signed_decimal q.0 ++ q.1) × (mag q.0 < 2 ^ 63)) e (whole, small)
    ]

pub signed_some : (xs rest : List ℕ) (v : ℤ) → signed_at xs ≡ Some (v, rest) → (xs ≡ signed_decimal v ++ rest) × (mag v < 2 ^ 63)
unfolding signed_at
signed_some xs rest v h = signed_from_some (byte_at 45 xs) xs rest v refl h

not_minus : (ds rest : List ℕ) → AllDigits 10 ds → 0 < length ds → byte_at 45 (ds ++ rest) ≡ None
unfolding byte_at
not_minus [] rest d some = absurd (omega arith)
not_minus (c ∷ cs) rest d some = let r = digit_from_value c d.0 in rw (ne_eqb c 45 (λ e. omega (arith, e, r.0))) refl

pub signed_of_text : (v : ℤ) (rest : List ℕ) → mag v < 2 ^ 63 → starts_digit rest ≡ false → signed_at (signed_decimal v ++ rest) ≡ Some (v, rest)
unfolding signed_at byte_at
signed_of_text (pos n) rest small h =
    rw (not_minus (decimal n) rest (decimal_is_IsNumeral n (omega arith)).0.1 (decimal_nonempty n (omega arith)), number_of_text 9223372036854775807 n rest (omega arith) (omega arith) h) refl
signed_of_text (negsuc n) rest small h =
    let e : suc n - 1 ≡ n = omega arith in
    rw (number_of_text 9223372036854775808 (suc n) rest (omega arith) (omega arith) h, ne_eqb (suc n) 0 (λ z. omega arith), e) refl

signed_of_whole : (v : ℤ) → mag v < 2 ^ 63 → signed_at (signed_decimal v) ≡ Some (v, [])
signed_of_whole v small = ap signed_at (sym (append-nil (signed_decimal v))) ∙ signed_of_text v [] small refl

word_some : (xs w rest : List ℕ) → word_at xs ≡ Some (w, rest) → (xs ≡ w ++ rest) × IsTrue (is_word w)
unfolding word_at
word_some xs w rest h = elim (cases_Bool (is_word (take (comma xs) xs))) [
  | inl word ↦
      subst (λ (q : List ℕ × List ℕ). (xs ≡ q.0 ++ q.1) × IsTrue (is_word q.0)) (same_Some (take (comma xs) xs, drop (comma xs) xs) (w, rest) (rw word at h))
      (sym (take-append-drop (comma xs) xs), word)
  | inr other ↦ cc (rw other at h)
]

pub key_some : (keys : Keys) (xs rest : List ℕ) (k : Key) → key_at keys xs ≡ Some (k, rest) → (xs ≡ key_text k ++ rest) × IsKeyInRange keys k
unfolding key_at
key_some Numbers xs rest k h =
    let (p, read, is) = bind_some (number_at 1000000000000000000 xs) number_key (k, rest) h in
    subst (λ (q : Key × List ℕ). (xs ≡ key_text q.0 ++ q.1) × IsKeyInRange Numbers q.0) (same_Some (Number p.0, p.1) (k, rest) is)
    (number_text 1000000000000000000 xs p.0 p.1 read)
key_some Words xs rest k h =
    let (p, read, is) = bind_some (word_at xs) word_key (k, rest) h in
    subst (λ (q : Key × List ℕ). (xs ≡ key_text q.0 ++ q.1) × IsKeyInRange Words q.0) (same_Some (Word p.0, p.1) (k, rest) is)
    (word_some xs p.0 p.1 read)

record_some : (keys : Keys) (s : Stream) (xs : List ℕ) (i : Item) → record_at keys s xs ≡ Some i → IsTextOf keys i (114 ∷ 44 ∷ letter s ∷ 44 ∷ xs)
unfolding record_at
record_some keys s xs i h =
    let (t, rt, h1) = bind_some (number_at 1000000000000000 xs) _ i h in
    let (b, rb, h2) = bind_some (byte_at 44 t.1) _ i h1 in
    let (k, rk, h3) = bind_some (key_at keys b) _ i h2 in
    let (c, rc, h4) = bind_some (byte_at 44 k.1) _ i h3 in
    let (v, rv, h5) = bind_some (signed_at c) _ i h4 in
    let (e, is) = end_some _ i v.1 h5 in
    let time = number_text 1000000000000000 xs t.0 t.1 rt in
    let key = key_some keys b k.1 k.0 rk in
    let value = signed_some c v.1 v.0 rv in
    let whole : xs ≡ decimal t.0 ++ 44 ∷ (key_text k.0 ++ 44 ∷ signed_decimal v.0) =
    time.0 ∙ ap (λ l. decimal t.0 ++ l) (byte_some 44 t.1 b rb ∙ ap (λ l. 44 ∷ l) (key.0 ∙ ap (λ l. key_text k.0 ++ l) (byte_some 44 k.1 c rc ∙ ap (λ l. 44 ∷ l) (value.0 ∙ ap (λ l. signed_decimal v.0 ++ l) e ∙ append-nil (signed_decimal v.0)))))
    in
    let fits : IsInRange keys (record { time = t.0; key = k.0; value = v.0 }) = record { time = time.1; key = key.1; value = value.1 } in
    subst (λ j. IsTextOf keys j (114 ∷ 44 ∷ letter s ∷ 44 ∷ xs)) is (fits, λ j. 114 ∷ 44 ∷ letter s ∷ 44 ∷ whole j)

mark_some : (keys : Keys) (s : Stream) (xs : List ℕ) (i : Item) → mark_at s xs ≡ Some i → IsTextOf keys i (119 ∷ 44 ∷ letter s ∷ 44 ∷ xs)
unfolding mark_at
mark_some keys s xs i h =
    let (t, rt, h1) = bind_some (number_at 1000000000000000 xs) _ i h in
    let (e, is) = end_some _ i t.1 h1 in
    let time = number_text 1000000000000000 xs t.0 t.1 rt in
    let whole : xs ≡ decimal t.0 = time.0 ∙ ap (λ l. decimal t.0 ++ l) e ∙ append-nil (decimal t.0) in
    subst (λ j. IsTextOf keys j (119 ∷ 44 ∷ letter s ∷ 44 ∷ xs)) is (time.1, λ j. 119 ∷ 44 ∷ letter s ∷ 44 ∷ whole j)

pub between_some : (xs rest : List ℕ) (s : Stream) → between xs ≡ Some (s, rest) → xs ≡ 44 ∷ letter s ∷ 44 ∷ rest
unfolding between
between_some xs rest s h =
    let (b, rb, h1) = bind_some (byte_at 44 xs) _ (s, rest) h in
    let (t, rt, h2) = bind_some (stream_at b) _ (s, rest) h1 in
    let (c, rc, h3) = bind_some (byte_at 44 t.1) _ (s, rest) h2 in
    let whole : xs ≡ 44 ∷ letter t.0 ∷ 44 ∷ c = byte_some 44 xs b rb ∙ ap (λ l. 44 ∷ l) (stream_some b t.1 t.0 rt ∙ ap (λ l. letter t.0 ∷ l) (byte_some 44 t.1 c rc)) in
    subst (λ (q : Stream × List ℕ). xs ≡ 44 ∷ letter q.0 ∷ 44 ∷ q.1) (same_Some (t.0, c) (s, rest) h3) whole

-- what is read is what the line is the text of
pub item_some : (keys : Keys) (line : List ℕ) (i : Item) → item_of keys line ≡ Some i → IsTextOf keys i line
unfolding item_of
item_some keys [] i h = cc
item_some keys (b ∷ rest) i h = elim (cases_Bool (b == 35)) [
  | inl hash ↦ subst (λ j. IsTextOf keys j (b ∷ rest)) (same_Some Skip i (rw hash at h)) (rest, λ j. eqb-true b 35 hash j ∷ rest)
  | inr no_hash ↦ elim (cases_Bool (b == 114)) [
    | inl r ↦
        let (s, bt, h1) = bind_some (between rest) _ i (rw (no_hash, r) at h) in
        let front = between_some rest s.1 s.0 bt in
        subst (λ l. IsTextOf keys i l) (λ j. sym (eqb-true b 114 r) j ∷ sym front j) (record_some keys s.0 s.1 i h1)
    | inr no_r ↦ elim (cases_Bool (b == 119)) [
      | inl w ↦
          let (s, bt, h1) = bind_some (between rest) _ i (rw (no_hash, no_r, w) at h) in
          let front = between_some rest s.1 s.0 bt in
          subst (λ l. IsTextOf keys i l) (λ j. sym (eqb-true b 119 w) j ∷ sym front j) (mark_some keys s.0 s.1 i h1)
      | inr no_w ↦ cc (rw (no_hash, no_r, no_w) at h)
    ]
  ]
]

-- a word ends at the comma behind it
comma-word : (w rest : List ℕ) → AreWordBytes w → comma (w ++ 44 ∷ rest) ≡ length w
comma-word [] rest bytes = refl
comma-word (b ∷ w) rest bytes =
    let no_comma : (b == 44) ≡ false = no_comma b (first_of_both (is_word_byte b) (list_all is_word_byte w) bytes) in
    (λ i. cond (not (no_comma i)) (1 + comma (w ++ 44 ∷ rest)) 0)
    ∙ ap (λ n. 1 + n) (comma-word w rest (second_of_both (is_word_byte b) (list_all is_word_byte w) bytes)) ∙ omega arith

word_reads : (w rest : List ℕ) → IsTrue (is_word w) → word_at (w ++ 44 ∷ rest) ≡ Some (w, 44 ∷ rest)
unfolding word_at
word_reads w rest is =
    let ends = comma-word w rest (are_word_bytes w is) in
    rw (ends, take-append_seam w (44 ∷ rest), drop-append_seam w (44 ∷ rest), is) refl

pub key_reads : (keys : Keys) (k : Key) (rest : List ℕ) → IsKeyInRange keys k → key_at keys (key_text k ++ 44 ∷ rest) ≡ Some (k, 44 ∷ rest)
unfolding key_at
key_reads Numbers (Number n) rest fits = rw (number_of_text 1000000000000000000 n (44 ∷ rest) (omega arith) fits refl) refl
key_reads Numbers (Word w) rest fits = absurd fits
key_reads Words (Number n) rest fits = absurd fits
key_reads Words (Word w) rest fits = rw (word_reads w rest fits) refl

record_reads : (keys : Keys) (s : Stream) (r : Record) → IsInRange keys r → record_at keys s (decimal r.time ++ 44 ∷ (key_text r.key ++ 44 ∷ signed_decimal r.value)) ≡ Some (Rec s r)
unfolding record_at byte_at at_end
record_reads keys s r fits =
    rw (
      number_of_text 1000000000000000 r.time (44 ∷ (key_text r.key ++ 44 ∷ signed_decimal r.value)) (omega arith) fits.time refl,
      key_reads keys r.key (signed_decimal r.value) fits.key,
      signed_of_whole r.value fits.value,
    ) refl

mark_reads : (s : Stream) (t : ℕ) → t ≤ 1000000000000000 → mark_at s (decimal t) ≡ Some (Mark s t)
unfolding mark_at at_end
mark_reads s t fits = rw (number_of_whole 1000000000000000 t (omega arith) fits) refl

pub between_reads : (s : Stream) (rest : List ℕ) → between (44 ∷ letter s ∷ 44 ∷ rest) ≡ Some (s, rest)
unfolding between byte_at stream_at
between_reads A rest = refl
between_reads B rest = refl

-- the text of an item gives it
pub item_reads : (keys : Keys) (i : Item) (line : List ℕ) → IsTextOf keys i line → item_of keys line ≡ Some i
unfolding item_of
item_reads keys (Rec s r) line h = rw (h.1, between_reads s (decimal r.time ++ 44 ∷ (key_text r.key ++ 44 ∷ signed_decimal r.value))) (record_reads keys s r h.0)
item_reads keys (Mark s t) line h = rw (h.1, between_reads s (decimal t)) (mark_reads s t h.0)
item_reads keys Skip line h = rw h.1 refl
item_reads keys (Late n t m) line h = absurd h
