-- What is read at the front of bytes is the item whose text stands there, with a line feed behind it.
use Rattle.std.proofs.Common.{◌≡◌, ◌↔◌, ℕ, ℤ, ◌+◌, ◌-◌, ◌<◌, ◌≤◌, ◌^◌, ◌==◌, ◌++◌, List, [], ◌∷◌, length, Some, None, refl, sym, ap, subst, ◌∙◌, arith, inl, inr, append_assoc, length-append}
use Rattle.std.proofs.lemmas.Bool.{cases_Bool, eqb-true}
use Rattle.std.proofs.lemmas.Option.{same_Some}
use Rattle.std.specs.Fmt.{decimal, signed_decimal}
use Rattle.std.specs.Prelude.{Option}
use lib.Signed.{mag}
use Rattle.sb_record.specs.declared.front.FrontLine.{FrontLine}
use Rattle.sb_record.specs.declared.item.Record.{Record}
use Rattle.sb_record.specs.declared.item.Stream.{Stream}
use Rattle.sb_record.specs.declared.item.Item.{Item}
use Rattle.sb_record.specs.declared.item.Item.TheVariants.{Rec, Mark, Skip, Late}
use Rattle.sb_record.specs.declared.key.Key.{Key}
use Rattle.sb_record.specs.declared.key.Keys.{Keys}
use Rattle.sb_record.specs.Keys.{key_text, IsKeyInRange}
use Rattle.sb_record.specs.Lines.{letter, IsInRange}
use Rattle.sb_record.specs.Reading.{number_at, byte_at, key_at, between}
use Rattle.sb_record.specs.Fronts.{IsPlainTextOf, IsFront}
use Rattle.sb_record.specs.FrontReading.{before_line_feed, value_at, rest_of_record_at, record_line_at, mark_line_at, front_at}
use Rattle.sb_record.proofs.Grammar.{byte_some, key_some, signed_some, between_some, key_reads, signed_of_text, between_reads}
use Rattle.sb_record.proofs.Numbers.{bind_some, number_text, number_of_text}

-- ---- what is read stands there
line_feed_some : (item i : Item) (xs rest : List ℕ) → before_line_feed item xs ≡ Some (i, rest) → (xs ≡ 10 ∷ rest) × (item ≡ i)
line_feed_some item i xs rest h =
    let (r, read, is) = bind_some (byte_at 10 xs) _ (i, rest) h in
    let e = same_Some (item, r) (i, rest) is in
    (byte_some 10 xs r read ∙ ap (λ (p : Item × List ℕ). 10 ∷ p.1) e, ap (λ (p : Item × List ℕ). p.0) e)

joined : (d k v rest : List ℕ) → (d ++ 44 ∷ (k ++ 44 ∷ v)) ++ rest ≡ d ++ 44 ∷ (k ++ 44 ∷ (v ++ rest))
joined d k v rest = append_assoc d (44 ∷ (k ++ 44 ∷ v)) rest ∙ ap (λ l. d ++ 44 ∷ l) (append_assoc k (44 ∷ v) rest)

rest_some : (keys : Keys) (s : Stream) (t : ℕ) (xs : List ℕ) (i : Item) (rest : List ℕ) → rest_of_record_at keys s t xs ≡ Some (i, rest)
    → (k : Key) × (v : ℤ) × IsKeyInRange keys k × (mag v < 2 ^ 63) × (Rec s (record { time = t; key = k; value = v }) ≡ i) × (xs ≡ key_text k ++ 44 ∷ (signed_decimal v ++ 10 ∷ rest))
unfolding rest_of_record_at value_at
rest_some keys s t xs i rest h =
    let (k, rk, h1) = bind_some (key_at keys xs) _ (i, rest) h in
    let (v, rv, h2) = bind_some (value_at k.1) _ (i, rest) h1 in
    let (c, rc, rs) = bind_some (byte_at 44 k.1) _ v rv in
    let (e, is) = line_feed_some _ i v.1 rest h2 in
    let key = key_some keys xs k.1 k.0 rk in
    let value = signed_some c v.1 v.0 rs in
    (k.0, v.0, key.1, value.1, is, key.0 ∙ ap (λ l. key_text k.0 ++ l) (byte_some 44 k.1 c rc ∙ ap (λ l. 44 ∷ l) (value.0 ∙ ap (λ l. signed_decimal v.0 ++ l) e)))

record_line_some : (keys : Keys) (s : Stream) (xs : List ℕ) (i : Item) (rest : List ℕ) → record_line_at keys s xs ≡ Some (i, rest)
    → (text : List ℕ) × IsPlainTextOf keys i (114 ∷ 44 ∷ letter s ∷ 44 ∷ text) × (xs ≡ text ++ 10 ∷ rest)
unfolding record_line_at
record_line_some keys s xs i rest h =
    let (t, rt, h1) = bind_some (number_at 1000000000000000 xs) _ (i, rest) h in
    let (b, rb, h2) = bind_some (byte_at 44 t.1) _ (i, rest) h1 in
    let (k, v, key, value, is, whole) = rest_some keys s t.0 b i rest h2 in
    let time = number_text 1000000000000000 xs t.0 t.1 rt in
    let text : List ℕ = decimal t.0 ++ 44 ∷ (key_text k ++ 44 ∷ signed_decimal v) in
    let all : xs ≡ decimal t.0 ++ 44 ∷ (key_text k ++ 44 ∷ (signed_decimal v ++ 10 ∷ rest)) = time.0 ∙ ap (λ l. decimal t.0 ++ l) (byte_some 44 t.1 b rb ∙ ap (λ l. 44 ∷ l) whole) in
    let fits : IsInRange keys (record { time = t.0; key = k; value = v }) = record { time = time.1; key = key; value = value } in
    (text, subst (λ j. IsPlainTextOf keys j (114 ∷ 44 ∷ letter s ∷ 44 ∷ text)) is (fits, refl), all ∙ sym (joined (decimal t.0) (key_text k) (signed_decimal v) (10 ∷ rest)))

mark_line_some : (keys : Keys) (s : Stream) (xs : List ℕ) (i : Item) (rest : List ℕ) → mark_line_at s xs ≡ Some (i, rest)
    → (text : List ℕ) × IsPlainTextOf keys i (119 ∷ 44 ∷ letter s ∷ 44 ∷ text) × (xs ≡ text ++ 10 ∷ rest)
unfolding mark_line_at
mark_line_some keys s xs i rest h =
    let (t, rt, h1) = bind_some (number_at 1000000000000000 xs) _ (i, rest) h in
    let (e, is) = line_feed_some _ i t.1 rest h1 in
    let time = number_text 1000000000000000 xs t.0 t.1 rt in
    (decimal t.0, subst (λ j. IsPlainTextOf keys j (119 ∷ 44 ∷ letter s ∷ 44 ∷ decimal t.0)) is (time.1, refl), time.0 ∙ ap (λ l. decimal t.0 ++ l) e)

front_some : (keys : Keys) (xs : List ℕ) (i : Item) (rest : List ℕ) → front_at keys xs ≡ Some (i, rest)
    → (line : List ℕ) × IsPlainTextOf keys i line × (xs ≡ line ++ 10 ∷ rest)
unfolding front_at
front_some keys [] i rest h = cc
front_some keys (b ∷ xs) i rest h = elim (cases_Bool (b == 114)) [
  | inl r ↦
      let (s, head, h1) = bind_some (between xs) _ (i, rest) (rw r at h) in
      let (text, is, whole) = record_line_some keys s.0 s.1 i rest h1 in
      let front : xs ≡ 44 ∷ letter s.0 ∷ 44 ∷ (text ++ 10 ∷ rest) = between_some xs s.1 s.0 head ∙ ap (λ l. 44 ∷ letter s.0 ∷ 44 ∷ l) whole in
      (114 ∷ 44 ∷ letter s.0 ∷ 44 ∷ text, is, λ j. eqb-true b 114 r j ∷ front j)
  | inr no_r ↦ elim (cases_Bool (b == 119)) [
    | inl w ↦
        let (s, head, h1) = bind_some (between xs) _ (i, rest) (rw (no_r, w) at h) in
        let (text, is, whole) = mark_line_some keys s.0 s.1 i rest h1 in
        let front : xs ≡ 44 ∷ letter s.0 ∷ 44 ∷ (text ++ 10 ∷ rest) = between_some xs s.1 s.0 head ∙ ap (λ l. 44 ∷ letter s.0 ∷ 44 ∷ l) whole in
        (119 ∷ 44 ∷ letter s.0 ∷ 44 ∷ text, is, λ j. eqb-true b 119 w j ∷ front j)
    | inr no_w ↦ cc (rw (no_r, no_w) at h)
  ]
]

-- ---- what stands there is read
rest_reads : (keys : Keys) (s : Stream) (r : Record) (rest : List ℕ) → IsInRange keys r
    → rest_of_record_at keys s r.time (key_text r.key ++ 44 ∷ (signed_decimal r.value ++ 10 ∷ rest)) ≡ Some (Rec s r, rest)
unfolding rest_of_record_at value_at byte_at
rest_reads keys s r rest fits =
    rw (key_reads keys r.key (signed_decimal r.value ++ 10 ∷ rest) fits.key, signed_of_text r.value (10 ∷ rest) fits.value refl) refl

record_line_reads : (keys : Keys) (s : Stream) (r : Record) (rest : List ℕ) → IsInRange keys r
    → record_line_at keys s ((decimal r.time ++ 44 ∷ (key_text r.key ++ 44 ∷ signed_decimal r.value)) ++ 10 ∷ rest) ≡ Some (Rec s r, rest)
unfolding record_line_at byte_at
record_line_reads keys s r rest fits =
    rw (
      joined (decimal r.time) (key_text r.key) (signed_decimal r.value) (10 ∷ rest),
      number_of_text 1000000000000000 r.time (44 ∷ (key_text r.key ++ 44 ∷ (signed_decimal r.value ++ 10 ∷ rest))) (omega arith) fits.time refl,
    ) (rest_reads keys s r rest fits)

mark_line_reads : (s : Stream) (t : ℕ) (rest : List ℕ) → t ≤ 1000000000000000 → mark_line_at s (decimal t ++ 10 ∷ rest) ≡ Some (Mark s t, rest)
unfolding mark_line_at byte_at
mark_line_reads s t rest fits = rw (number_of_text 1000000000000000 t (10 ∷ rest) (omega arith) fits refl) refl

front_reads : (keys : Keys) (i : Item) (line rest : List ℕ) → IsPlainTextOf keys i line → front_at keys (line ++ 10 ∷ rest) ≡ Some (i, rest)
unfolding front_at
front_reads keys (Rec s r) line rest h =
    rw (h.1, between_reads s ((decimal r.time ++ 44 ∷ (key_text r.key ++ 44 ∷ signed_decimal r.value)) ++ 10 ∷ rest)) (record_line_reads keys s r rest h.0)
front_reads keys (Mark s t) line rest h = rw (h.1, between_reads s (decimal t ++ 10 ∷ rest)) (mark_line_reads s t rest h.0)
front_reads keys Skip line rest h = absurd h
front_reads keys (Late n t m) line rest h = absurd h

-- ---- so what is given is the line at the front
len_before : (xs line rest : List ℕ) → xs ≡ line ++ 10 ∷ rest → length xs ≡ length line + 1 + length rest
len_before xs line rest whole = let joined = length-append line (10 ∷ rest) in omega (arith, ap length whole, joined)

-- what follows the line feed is shorter than all
pub rest_is_shorter : (keys : Keys) (xs : List ℕ) (i : Item) (rest : List ℕ) → front_at keys xs ≡ Some (i, rest) → length rest + 1 ≤ length xs
rest_is_shorter keys xs i rest read = let (line, text, whole) = front_some keys xs i rest read in omega (arith, len_before xs line rest whole)

pub front_exact : (keys : Keys) (xs rest : List ℕ) (i : Item) (f : FrontLine) → front_at keys xs ≡ Some (i, rest)
    → (◌≡◌ {A = Option FrontLine} (Some (record { item = i; len = length xs - length rest - 1 })) (Some f)) ↔ IsFront keys f.item f.len xs
front_exact keys xs rest i f read =
    let given : FrontLine = record { item = i; len = length xs - length rest - 1 } in
    let (line, text, whole) = front_some keys xs i rest read in
    let size : length xs - length rest - 1 ≡ length line = omega (arith, len_before xs line rest whole) in
    let front : IsFront keys given.item given.len xs = record { line = line; rest = rest; text = text; whole = whole; size = size } in (
      λ e. subst (λ (g : FrontLine). IsFront keys g.item g.len xs) (same_Some given f e) front,
      λ h.
          let there : front_at keys xs ≡ Some (f.item, h.rest) = ap (front_at keys) h.whole ∙ front_reads keys f.item h.line h.rest h.text in
          let same = same_Some (i, rest) (f.item, h.rest) (sym read ∙ there) in
          let items : i ≡ f.item = ap (λ (p : Item × List ℕ). p.0) same in
          let lens : length xs - length rest - 1 ≡ f.len = omega (arith, ap (λ (p : Item × List ℕ). length p.1) same, len_before xs h.line h.rest h.whole, h.size) in
          λ j. Some (record { item = items j; len = lens j }),
    )

pub no_front : (keys : Keys) (xs : List ℕ) (f : FrontLine) → front_at keys xs ≡ None → (◌≡◌ {A = Option FrontLine} None (Some f)) ↔ IsFront keys f.item f.len xs
no_front keys xs f read = (
  λ e. cc,
  λ h.
      let there : front_at keys xs ≡ Some (f.item, h.rest) = ap (front_at keys) h.whole ∙ front_reads keys f.item h.line h.rest h.text in
      let none : ◌≡◌ {A = Option (Item × List ℕ)} None (Some (f.item, h.rest)) = sym read ∙ there in
      cc,
)
