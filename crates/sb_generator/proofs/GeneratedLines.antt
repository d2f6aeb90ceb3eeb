-- The generated lines are lines of a text, and each gives its item.
use Rattle.std.proofs.Common.{◌≡◌, ◌==◌, ℕ, ℤ, pos, negsuc, zero, suc, ◌+◌, ◌*◌, ◌%◌, ◌-ℤ◌, ◌<◌, ◌≤◌, ◌^◌, ◌++◌, List, [], ◌∷◌, length, Some, refl, sym, arith, inl, inr, length-append, map, subst}
use Rattle.std.specs.List.{AllByRecursion, flat_map, range_with_len}
use Rattle.std.specs.Prelude.{nat_lt, decimal}
use Rattle.std.specs.Fmt.{signed_decimal}
use Rattle.std.specs.Str.Parse.{AllDigits}
use Rattle.std.proofs.lemmas.Bool.{cases_Bool}
use Rattle.std.proofs.lemmas.Fmt.{decimal_is_IsNumeral, length-decimal-le, length_signed_le}
use Rattle.std.proofs.lemmas.List.{map-append}
use Rattle.std.proofs.lemmas.Str.Parse.{digit_from_value}
use lib.Signed.{mag}
use Rattle.sb_record.specs.declared.item.Item.TheVariants.{Rec, Mark}
use Rattle.sb_record.specs.declared.item.Stream.TheVariants.{A}
use Rattle.sb_record.specs.declared.key.Key.TheVariants.{Number}
use Rattle.sb_record.specs.declared.key.Keys.TheVariants.{Numbers}
use Rattle.sb_record.specs.Lines.{record_text, mark_text}
use Rattle.sb_record.specs.Reading.{item_of}
use Rattle.sb_record.proofs.Elements.{All-join}
use Rattle.sb_record.proofs.Grammar.{item_reads}
use Rattle.sb_generator.specs.declared.pattern.TheConstants.{MAX_RECORDS}
use Rattle.sb_generator.specs.Generated.{record_at, items_at, line_of}
use Rattle.sb_generator.proofs.TextLines.{IsInner, IsWhole}

digits_inner : (ds : List ℕ) → AllDigits 10 ds → AllByRecursion IsInner ds
digits_inner [] all = tt
digits_inner (d ∷ ds) all = (omega (arith, digit_from_value d all.0), digits_inner ds all.1)

decimal_inner : (n : ℕ) → n < 2 ^ 64 → AllByRecursion IsInner (decimal n)
decimal_inner n small = digits_inner (decimal n) (decimal_is_IsNumeral n small).0.1

signed_inner : (v : ℤ) → mag v < 2 ^ 63 → AllByRecursion IsInner (signed_decimal v)
signed_inner (pos n) small = decimal_inner n (omega (arith, small))
signed_inner (negsuc n) small = (omega arith, decimal_inner (suc n) (omega (arith, small)))

decimal_size : (n : ℕ) → n < 2 ^ 64 → length (decimal n) ≤ 20
decimal_size n small = length-decimal-le 20 n (omega arith) (omega (arith, small)) small

-- the line of a record that a line can give, where keys are numbers
record_whole : (t k : ℕ) (v : ℤ) → t < 2 ^ 64 → k < 2 ^ 64 → mag v < 2 ^ 63
    → IsWhole (record_text A (record { time = t; key = Number k; value = v }))
record_whole t k v ht hk hv = record {
  inner =
      let value = signed_inner v hv in
      let key = All-join IsInner (decimal k) (44 ∷ signed_decimal v) (decimal_inner k hk) (omega arith, value) in
      let time = All-join IsInner (decimal t) (44 ∷ (decimal k ++ 44 ∷ signed_decimal v)) (decimal_inner t ht) (omega arith, key) in
      (omega arith, (omega arith, (omega arith, (omega arith, time))));
  short =
      let time = decimal_size t ht in
      let key = decimal_size k hk in
      let value : length (signed_decimal v) ≤ 20 = length_signed_le 19 v (omega (arith, hv)) hv in
      omega (arith, time, key, value, length-append (decimal t) (44 ∷ (decimal k ++ 44 ∷ signed_decimal v)), length-append (decimal k) (44 ∷ signed_decimal v));
}

mark_whole : (t : ℕ) → t < 2 ^ 64 → IsWhole (mark_text A t)
mark_whole t ht = record {
  inner = (omega arith, (omega arith, (omega arith, (omega arith, decimal_inner t ht))));
  short = omega (arith, decimal_size t ht);
}

value_small : (a : ℕ) → a < 101 → mag (pos a -ℤ pos 50) ≤ 50
value_small a small = elim (cases_Bool (nat_lt a 50)) [
  | inl below ↦ rw below (omega arith)
  | inr other ↦ rw other (omega (arith, small))
]

-- the line of record i, and what it gives
pub record_line : (i : ℕ) → i < MAX_RECORDS → IsWhole (line_of (Rec A (record_at i)))
record_line i few =
    record_whole (record_at i).time (i % 5) (record_at i).value (omega (arith, few)) (omega arith)
    (let s = value_small (37 * i % 101) (omega arith) in omega (arith, s))

pub mark_line : (i : ℕ) → i < MAX_RECORDS → IsWhole (line_of (Mark A (i + 1)))
mark_line i few = mark_whole (i + 1) (omega (arith, few))

pub record_read : (i : ℕ) → i < MAX_RECORDS → item_of Numbers (line_of (Rec A (record_at i))) ≡ Some (Rec A (record_at i))
record_read i few = item_reads Numbers (Rec A (record_at i)) (line_of (Rec A (record_at i))) (
  record {
    time = omega (arith, few);
    key = omega arith;
    value = let s = value_small (37 * i % 101) (omega arith) in omega (arith, s);
  },
  refl,
)

pub mark_read : (i : ℕ) → i < MAX_RECORDS → item_of Numbers (line_of (Mark A (i + 1))) ≡ Some (Mark A (i + 1))
mark_read i few = item_reads Numbers (Mark A (i + 1)) (line_of (Mark A (i + 1))) (omega (arith, few), refl)

lines_at : (i : ℕ) → i < MAX_RECORDS → AllByRecursion IsWhole (map line_of (items_at i))
lines_at i few = elim (cases_Bool (i % 8 == 7)) [
  | inl last ↦ rw last (record_line i few, (mark_line i few, tt))
  | inr other ↦ rw other (record_line i few, tt)
]

-- all lines of the records from number i on
pub all_whole : (k i : ℕ) → i + k ≤ MAX_RECORDS → AllByRecursion IsWhole (map line_of (flat_map items_at (range_with_len i k)))
all_whole zero i fits = tt
all_whole (suc k) i fits =
    let at_once = lines_at i (omega (arith, fits)) in
    let rest = flat_map items_at (range_with_len (i + 1) k) in
    subst (AllByRecursion IsWhole) (sym (map-append line_of (items_at i) rest))
    (All-join IsWhole (map line_of (items_at i)) (map line_of rest) at_once (all_whole k (i + 1) (omega (arith, fits))))
