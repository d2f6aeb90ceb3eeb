-- A run that is spread by joining it with itself, shifted: half as many steps are left then, each twice as far.
use Rattle.std.proofs.Common.{◌≡◌, ℕ, suc, zero, ◌+◌, ◌-◌, ◌*◌, ◌/◌, ◌≤◌, ◌<◌, Bool, true, false, cond, List, [], ◌∷◌, length, Option, Some, None, sym, refl, ap, ◌∙◌, arith, subst}
use Rattle.std.specs.Prelude.{nat_lt}
use Rattle.std.specs.List.{list_any, AllByRecursion}
use Rattle.std.specs.Option.{is_some}
use Rattle.std.specs.BTreeMap.{is_at}
use Rattle.std.specs.Map.{keys_of}
use Rattle.std.specs.Set.{is_member}
use Rattle.std.specs.Ordering.{is_eq, eq_by_cmp}
use Rattle.std.specs.Cmp.{eq_by_cmp_equiv}
use Rattle.std.specs.declared.cmp.Ordering.{Ordering}
use Rattle.std.specs.declared.cmp.Ordering.TheVariants.{Less, Equal, Greater}
use Rattle.std.proofs.lemmas.Bool.{ltb-true, ltb-false}
use Rattle.std.proofs.lemmas.List.Elements.{recursion_from_All}
use Rattle.std.proofs.lemmas.Map.Made.{is_some-lookup, All-is_member}
use Rattle.std.proofs.Math.Nat.{mul-le-mul_right, mul_assoc, mul_comm, one-mul, suc-mul}
use Rattle.sb_window.proofs.records.Elements.{every}
use Rattle.sb_window.proofs.Rows.{keyed_windows_total, exact_keyed_windows}
use Rattle.sb_window.specs.declared.keyed_window.KeyedWindow.{KeyedWindow}
use Rattle.sb_window.specs.Gatherings.{joined_value}
use Rattle.sb_window.specs.Windows.{keyed_window_cmp}
use Rattle.sb_runs.specs.Runs.{found, shifted_by, spread_value, IsAssociative}
use Rattle.sb_runs.proofs.FoundIn.{joined-grouped}
use Rattle.sb_runs.proofs.Shifting.{earlier, found-too_early, found-later}

-- ---- steps that are twice as far
steps-double : (count step : ℕ) → count * (step * 2) ≡ count * 2 * step
steps-double count step = ap (λ n. count * n) (mul_comm step 2) ∙ sym (mul_assoc count 2 step)

-- ---- what is found of runs that were shifted
shifted-twice : {V : Type 0} (first then both : ℕ) → first + then ≡ both → (es : List (KeyedWindow × V)) → shifted_by then (shifted_by first es) ≡ shifted_by both es
shifted-twice first then both is [] = refl
shifted-twice first then both is (e ∷ es) = λ i. (record { end = end_is i; key = e.0.key }, e.1) ∷ shifted-twice first then both is es i
  where
    end_is : e.0.end + first + then ≡ e.0.end + both
    end_is = omega (arith, is)

shifted-joined : {V : Type 0} (join : V → V → V) (by : ℕ) (both one other : List (KeyedWindow × V)) → ((q : KeyedWindow) → found both q ≡ joined_value join (found one q) (found other q))
    → (q : KeyedWindow) → found (shifted_by by both) q ≡ joined_value join (found (shifted_by by one) q) (found (shifted_by by other) q)
shifted-joined join by both one other is q = by_case (nat_lt q.end by) refl
  where
    by_case : (b : Bool) → nat_lt q.end by ≡ b → found (shifted_by by both) q ≡ joined_value join (found (shifted_by by one) q) (found (shifted_by by other) q)
    by_case true h =
        let low : q.end < by = ltb-true q.end by h in
        found-too_early by both q low ∙ sym (λ i. joined_value join (found-too_early by one q low i) (found-too_early by other q low i))
    by_case false h =
        let high : by ≤ q.end = ltb-false q.end by h in
        found-later by both q high ∙ is (earlier by q) ∙ sym (λ i. joined_value join (found-later by one q high i) (found-later by other q high i))

-- ---- what runs are spread to
spread-none : {V : Type 0} (join : V → V → V) (step count : ℕ) (q : KeyedWindow) → spread_value join step count [] q ≡ None
spread-none join step zero q = refl
spread-none join step (suc count) q = ap (λ o. joined_value join o None) (spread-none join step count q)

pub spread-empty : {V : Type 0} (join : V → V → V) (step count : ℕ) (run : List (KeyedWindow × V)) → length run ≡ 0 → (q : KeyedWindow) → found run q ≡ spread_value join step count run q
spread-empty join step count [] none q = sym (spread-none join step count q)
spread-empty join step count (e ∷ es) none q = absurd (omega (arith, none))

-- one more is joined behind
pub spread-odd : {V : Type 0} (join : V → V → V) → IsAssociative join → (step even count : ℕ) → even + 1 ≡ count → (run last behind all : List (KeyedWindow × V)) → last ≡ shifted_by ((count - 1) * step) run
    → (q : KeyedWindow) → found all q ≡ joined_value join (found last q) (found behind q)
    → joined_value join (spread_value join step even run q) (found all q) ≡ joined_value join (spread_value join step count run q) (found behind q)
spread-odd join groups step even count odd run last behind all last_is q is =
    let before : count - 1 ≡ even = omega (arith, odd) in
    let next : suc even ≡ count = omega (arith, odd) in
    ap (joined_value join (spread_value join step even run q)) (is ∙ ap (λ es. joined_value join (found es q) (found behind q)) (last_is ∙ ap (λ n. shifted_by (n * step) run) before))
    ∙ sym (joined-grouped join groups (spread_value join step even run q) (found (shifted_by (even * step) run) q) (found behind q))
    ∙ ap (λ n. joined_value join (spread_value join step n run q) (found behind q)) next

module _ {V : Type 0} (join : V → V → V) (groups : IsAssociative join) (step : ℕ) (run both : List (KeyedWindow × V)) (is : (q : KeyedWindow) → found both q ≡ joined_value join (found run q) (found (shifted_by step run) q)) where
  last-two : (count : ℕ) (q : KeyedWindow) → found (shifted_by (count * (step * 2)) both) q ≡ joined_value join (found (shifted_by (count * 2 * step) run) q) (found (shifted_by (suc (count * 2) * step) run) q)
  last-two count q =
      shifted-joined join (count * (step * 2)) both run (shifted_by step run) is q
      ∙ (λ i. joined_value join (found (shifted_by (steps-double count step i) run) q) (found (shifted-twice step (count * (step * 2)) (suc (count * 2) * step) next run i) q))
    where
      next : step + count * (step * 2) ≡ suc (count * 2) * step
      next = omega (arith, steps-double count step, suc-mul (count * 2) step)

  pub spread-doubled : (count : ℕ) (q : KeyedWindow) → spread_value join (step * 2) count both q ≡ spread_value join step (count * 2) run q
  spread-doubled zero q = refl
  spread-doubled (suc count) q =
      let twice : suc (suc (count * 2)) ≡ suc count * 2 = omega arith in
      (λ i. joined_value join (spread-doubled count q i) (last-two count q i))
      ∙ sym (joined-grouped join groups (spread_value join step (count * 2) run q) (found (shifted_by (count * 2 * step) run) q) (found (shifted_by (suc (count * 2) * step) run) q))
      ∙ ap (λ n. spread_value join step n run q) twice

-- ---- the room that ends leave
pub room-fewer : {V : Type 0} (few many bound : ℕ) → few ≤ many → (es : List (KeyedWindow × V)) → AllByRecursion (λ e. e.0.end + many < bound) es → AllByRecursion (λ e. e.0.end + few < bound) es
room-fewer few many bound h [] room = tt
room-fewer few many bound h (e ∷ es) room = (omega (arith, h, room.0), room-fewer few many bound h es room.1)

-- the first end says how far steps go at most
pub room-steps : {V : Type 0} (many bound : ℕ) (es : List (KeyedWindow × V)) → (length es ≡ 0 → ⊥) → AllByRecursion (λ e. e.0.end + many < bound) es → many < bound
room-steps many bound [] some room = absurd (some refl)
room-steps many bound (e ∷ es) some room = omega (arith, room.0)

room-shifted : {V : Type 0} (by few many bound : ℕ) → by + few ≤ many → (es : List (KeyedWindow × V)) → AllByRecursion (λ e. e.0.end + many < bound) es → AllByRecursion (λ e. e.0.end + few < bound) (shifted_by by es)
room-shifted by few many bound h [] room = tt
room-shifted by few many bound h (e ∷ es) room = (omega (arith, h, room.0), room-shifted by few many bound h es room.1)

room-found : {V : Type 0} (few bound : ℕ) (es : List (KeyedWindow × V)) → AllByRecursion (λ e. e.0.end + few < bound) es → (k : KeyedWindow) → is_some (found es k) ≡ true → k.end + few < bound
room-found few bound [] room k h = cc
room-found {V} few bound (e ∷ es) room k h = by_case (keyed_window_cmp k e.0) refl (λ some. room-found few bound es room.1 k some) h
  where
    by_case : (o : Ordering) → keyed_window_cmp k e.0 ≡ o → (is_some (found es k) ≡ true → k.end + few < bound) → is_some (cond (is_eq o) (Some e.1) (found es k)) ≡ true → k.end + few < bound
    by_case Less c rest some = rest some
    by_case Equal c rest some = subst (λ (q : KeyedWindow). q.end + few < bound) (sym (exact_keyed_windows k e.0 c)) room.0
    by_case Greater c rest some = rest some

either-some : {V : Type 0} (join : V → V → V) (P : Type 0) (x y : Option V) → (is_some x ≡ true → P) → (is_some y ≡ true → P) → is_some (joined_value join x y) ≡ true → P
either-some join P None y one other h = other h
either-some join P (Some v) y one other h = one refl

-- of the run joined with itself, shifted
pub room-doubled : {V : Type 0} (join : V → V → V) (by few many bound : ℕ) → by + few ≤ many → (run both : List (KeyedWindow × V)) → ((q : KeyedWindow) → found both q ≡ joined_value join (found run q) (found (shifted_by by run) q))
    → AllByRecursion (λ e. e.0.end + many < bound) run → AllByRecursion (λ e. e.0.end + few < bound) both
room-doubled {V} join by few many bound h run both is room = of_keys both (every low_key (keys_of both) keys_found)
  where
    keys_found : AllByRecursion (λ k. list_any (eq_by_cmp keyed_window_cmp k) (keys_of both) ≡ true) (keys_of both)
    keys_found = recursion_from_All (λ k. is_member (eq_by_cmp keyed_window_cmp) (keys_of both) k ≡ true) (keys_of both) (All-is_member (eq_by_cmp_equiv keyed_windows_total) (keys_of both))

    low_key : (k : KeyedWindow) → list_any (eq_by_cmp keyed_window_cmp k) (keys_of both) ≡ true → k.end + few < bound
    low_key k at =
        either-some join (k.end + few < bound) (found run k) (found (shifted_by by run) k)
        (room-found few bound run (room-fewer few many bound (omega (arith, h)) run room) k)
        (room-found few bound (shifted_by by run) (room-shifted by few many bound h run room) k)
        (ap is_some (sym (is k)) ∙ is_some-lookup (is_at (keyed_window_cmp k)) both ∙ at)

    of_keys : (es : List (KeyedWindow × V)) → AllByRecursion (λ k. k.end + few < bound) (keys_of es) → AllByRecursion (λ e. e.0.end + few < bound) es
    of_keys [] all = tt
    of_keys (e ∷ es) all = (all.0, of_keys es all.1)

-- ---- how far the steps go that are left
-- one step, where there are two windows or more
pub first-step : (count step : ℕ) → 1 < count → step ≤ (count - 1) * step
first-step count step more =
    let some : 1 ≤ count - 1 = omega (arith, more) in
    let all : 1 * step ≤ (count - 1) * step = mul-le-mul_right step some in
    omega (arith, all, one-mul step)

-- two steps
pub two-steps : (count step : ℕ) → 1 < count → step * 2 ≤ count * step
two-steps count step more =
    let some : 2 ≤ count = omega (arith, more) in
    let all : 2 * step ≤ count * step = mul-le-mul_right step some in
    omega (arith, all)

pub steps-fewer : (count step : ℕ) → (count - 1) * step ≤ count * step
steps-fewer count step = let few : count - 1 ≤ count = omega arith in mul-le-mul_right step few

-- half as many, each twice as far
pub half-steps : (count step : ℕ) → count / 2 * (step * 2) ≤ count * step
half-steps count step =
    let few : count / 2 * 2 ≤ count = omega arith in
    let all : count / 2 * 2 * step ≤ count * step = mul-le-mul_right step few in
    omega (arith, all, steps-double (count / 2) step)

-- and one as far as before
pub last-steps : (count step : ℕ) → 1 < count → step + (count / 2 - 1) * (step * 2) ≤ (count - 1) * step
last-steps count step more =
    let few : suc ((count / 2 - 1) * 2) ≤ count - 1 = omega (arith, more) in
    let all : suc ((count / 2 - 1) * 2) * step ≤ (count - 1) * step = mul-le-mul_right step few in
    omega (arith, all, steps-double (count / 2 - 1) step, suc-mul ((count / 2 - 1) * 2) step)
