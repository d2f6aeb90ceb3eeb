-- Times of keys are ordered, and those that compare alike are one.
use Rattle.std.proofs.Common.{◌≡◌, ℕ, false, eqb, sym, refl, ap, ◌∙◌, ◌≤◌, arith}
use Rattle.std.specs.Prelude.{◌&&◌}
use Rattle.std.specs.Ordering.{nat_cmp, eq_by_cmp, is_lt, is_gt, ordering_then, ordering_reverse}
use Rattle.std.specs.BTreeMap.{is_at}
use Rattle.std.specs.Cmp.{IsTotalOrder, nat_cmp_total, eq_by_cmp_equiv, tied_itself, tied_then}
use Rattle.std.specs.declared.cmp.Ordering.{Ordering}
use Rattle.std.specs.declared.cmp.Ordering.TheVariants.{Less, Equal, Greater}
use Rattle.std.proofs.lemmas.Cmp.{then_total, on_total}
use Rattle.std.proofs.lemmas.Bool.Decides.{nat_tests}
use Rattle.std.proofs.lemmas.Map.Lookups.{CmpEqualImpliesEq, exact_pairs, exact_unsigned}
use Rattle.sb_windowed.specs.records.declared.key.Key.{Key}
use Rattle.sb_windowed.specs.records.Keys.{key_cmp, same_key}
use Rattle.sb_windowed.specs.records.KeyOrder.{key_cmp_total}
use Rattle.sb_windowed.proofs.records.KeyOrder.{exact_keys}
use Rattle.sb_windowed.proofs.records.Sorting.{equal_by}
use Rattle.sb_windowed.proofs.SessionEnds.{not_less}
use Rattle.sb_session.specs.declared.keyed_time.KeyedTime.{KeyedTime}
use Rattle.sb_session.specs.Kept.{keyed_time_cmp}

pub keyed_times_total : IsTotalOrder keyed_time_cmp
keyed_times_total = then_total (on_total (λ (q : KeyedTime). q.key) key_cmp_total) (on_total (λ (q : KeyedTime). q.time) nat_cmp_total)

pub exact_keyed_times : CmpEqualImpliesEq keyed_time_cmp
exact_keyed_times a b h = ap (λ (p : Key × ℕ). record { key = p.0; time = p.1 }) (exact_pairs key_cmp nat_cmp exact_keys exact_unsigned (a.key, a.time) (b.key, b.time) h)

-- whether two are one
pub same_keyed_time : (e q : KeyedTime) → (same_key e.key q.key && eqb e.time q.time) ≡ is_at (keyed_time_cmp q) e
same_keyed_time e q =
    (λ i. (eq_by_cmp_equiv key_cmp_total).symm e.key q.key i && same_time i) ∙ tied_then (key_cmp q.key e.key) (nat_cmp q.time e.time)
  where
    same_time : eqb e.time q.time ≡ eq_by_cmp nat_cmp q.time e.time
    same_time = grind (arith, nat_tests)

-- one that is not earlier, of the same key, is not before
pub not_lt : (a b : KeyedTime) → a.key ≡ b.key → b.time ≤ a.time → is_lt (keyed_time_cmp a b) ≡ false
not_lt a b k low = ap (λ o. is_lt (ordering_then o (nat_cmp a.time b.time))) (ap (key_cmp a.key) (sym k) ∙ tied_itself key_cmp_total a.key) ∙ late a.time b.time low
  where
    late : (x y : ℕ) → y ≤ x → is_lt (nat_cmp x y) ≡ false
    late x y h = grind (arith, nat_tests)

keys-fall : (a b : KeyedTime) → is_lt (keyed_time_cmp a b) ≡ false → is_lt (key_cmp a.key b.key) ≡ false
keys-fall a b h = by_case (key_cmp a.key b.key) h
  where
    by_case : (o : Ordering) → is_lt (ordering_then o (nat_cmp a.time b.time)) ≡ false → is_lt o ≡ false
    by_case Less h = h
    by_case Equal h = refl
    by_case Greater h = refl

-- what stands between two times of one key is a time of that key
pub between : (at next q : KeyedTime) → is_lt (keyed_time_cmp next at) ≡ false → is_lt (keyed_time_cmp q next) ≡ false → at.key ≡ q.key → next.key ≡ q.key
between at next q after before same =
    equal_by key_cmp_total exact_keys next.key q.key (ap (λ k. is_lt (key_cmp next.key k)) (sym same) ∙ keys-fall next at after) (keys-fall q next before)

-- what is not before another of its key has no earlier time
pub not_before : (a b : KeyedTime) → is_lt (keyed_time_cmp a b) ≡ false → a.key ≡ b.key → b.time ≤ a.time
not_before a b h k = not_less b.time a.time (ap (λ o. is_lt (ordering_then o (nat_cmp a.time b.time))) (sym tied) ∙ h)
  where
    tied : key_cmp a.key b.key ≡ Equal
    tied = ap (key_cmp a.key) (sym k) ∙ tied_itself key_cmp_total a.key

pub in-range : (at q : KeyedTime) → is_lt (keyed_time_cmp q at) ≡ false → is_gt (keyed_time_cmp at q) ≡ false
in-range at q h = turn (keyed_time_cmp q at) (keyed_time_cmp at q) (keyed_times_total.antisymm at q) h
  where
    turn : (o p : Ordering) → p ≡ ordering_reverse o → is_lt o ≡ false → is_gt p ≡ false
    turn Less p e h = cc
    turn Equal p e h = ap is_gt e
    turn Greater p e h = ap is_gt e

pub not-after : (a q : KeyedTime) → is_gt (keyed_time_cmp a q) ≡ false → is_lt (keyed_time_cmp q a) ≡ false
not-after a q h = turn (keyed_time_cmp a q) (keyed_time_cmp q a) (keyed_times_total.antisymm q a) h
  where
    turn : (o p : Ordering) → p ≡ ordering_reverse o → is_gt o ≡ false → is_lt p ≡ false
    turn Less p e h = ap is_lt e
    turn Equal p e h = ap is_lt e
    turn Greater p e h = cc
