-- The lesser of two values, and which of the two it is.
use Rattle.std.proofs.Common.{◌≡◌, ℕ, ℤ, ◌+◌, ◌≤◌, Bool, true, false, cond, int_lt, int_le, refl, arith}
use Rattle.std.specs.Int.{int_min, from_bool}
use Rattle.std.specs.Ordering.{MatchOrdering, int_cmp}
use Rattle.std.specs.declared.cmp.Ordering.TheVariants.{Less, Equal, Greater}
use Rattle.std.proofs.lemmas.Int.{ints}

-- the places in two lists once the lesser of the values there is given out: of equal values both are
pub places-next : (x y m : ℤ) (i j a b : ℕ) → m ≡ int_min x y → a ≡ from_bool (int_le x y) → b ≡ from_bool (int_le y x)
    → MatchOrdering (int_cmp x y) ((m ≡ x) × (i + a ≡ i + 1) × (j + b ≡ j)) ((m ≡ x) × (i + a ≡ i + 1) × (j + b ≡ j + 1)) ((m ≡ y) × (i + a ≡ i) × (j + b ≡ j + 1))
places-next x y m i j a b least moved moved_more = by (int_lt x y) (int_lt y x) (int_le x y) (int_le y x) refl refl refl refl least moved moved_more
  where
    by : (s t p q : Bool) → int_lt x y ≡ s → int_lt y x ≡ t → int_le x y ≡ p → int_le y x ≡ q → m ≡ cond t y x → a ≡ from_bool p → b ≡ from_bool q
        → MatchOrdering (cond s Less (cond t Greater Equal)) ((m ≡ x) × (i + a ≡ i + 1) × (j + b ≡ j)) ((m ≡ x) × (i + a ≡ i + 1) × (j + b ≡ j + 1)) ((m ≡ y) × (i + a ≡ i) × (j + b ≡ j + 1))
    by true false true false e f g h l u v = let u' : a ≡ 1 = u in let v' : b ≡ 0 = v in (l, omega (arith, u'), omega (arith, v'))
    by false false true true e f g h l u v = let u' : a ≡ 1 = u in let v' : b ≡ 1 = v in (l, omega (arith, u'), omega (arith, v'))
    by false true false true e f g h l u v = let u' : a ≡ 0 = u in let v' : b ≡ 1 = v in (l, omega (arith, u'), omega (arith, v'))
    by true true p q e f g h l u v = absurd (omega (arith, ints))
    by true false false q e f g h l u v = absurd (omega (arith, ints))
    by true false true true e f g h l u v = absurd (omega (arith, ints))
    by false false false q e f g h l u v = absurd (omega (arith, ints))
    by false false true false e f g h l u v = absurd (omega (arith, ints))
    by false true true q e f g h l u v = absurd (omega (arith, ints))
    by false true false false e f g h l u v = absurd (omega (arith, ints))

pub at-most-one : (b : Bool) (n : ℕ) → n ≡ from_bool b → n ≤ 1
at-most-one true n e = let e' : n ≡ 1 = e in omega (arith, e')
at-most-one false n e = let e' : n ≡ 0 = e in omega (arith, e')
