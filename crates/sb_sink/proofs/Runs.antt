-- Sorted runs: how they are joined and cut.
use Rattle.std.proofs.Common.{◌≡◌, ℕ, suc, ◌+◌, ◌-◌, ◌≤◌, ◌<◌, true, false, List, [], ◌∷◌, ◌++◌, length, get_or, append-nil, subst, sym, refl, ap, ◌∙◌, arith}
use Rattle.std.specs.Prelude.{nat_lt, not}
use Rattle.std.specs.List.{sum_by, AllByRecursion}
use Rattle.std.specs.List.Sorted.{IsSorted}
use Rattle.std.specs.Ordering.{is_lt, is_ge, nat_cmp, int_cmp, ordering_then}
use Rattle.std.specs.Cmp.{IsStrictWeakOrder}
use Rattle.std.specs.declared.cmp.Ordering.{Ordering}
use Rattle.std.specs.declared.cmp.Ordering.TheVariants.{Less, Equal, Greater}
use Rattle.std.proofs.lemmas.Bool.{ltb-true, ltb-false}
use Rattle.std.proofs.lemmas.Cmp.{ranked}
use Rattle.std.proofs.lemmas.List.{nil_from_length, length-append}
use Rattle.std.proofs.lemmas.List.Concat.{flat_map-append}
use Rattle.std.proofs.lemmas.List.Elements.{filter-append}
use Rattle.std.proofs.lemmas.List.Sorted.{ranks_by}
use Rattle.std.proofs.lemmas.List.Sums.{sum_by-append}
use Rattle.sb_window.specs.records.Keys.{key_cmp}
use Rattle.sb_window.specs.records.declared.item.Record.{Record}
use Rattle.sb_window.specs.records.Orders.{IsAscending}
use Rattle.sb_window.specs.records.Records.{record_cmp, sorted_records, before, at_least}
use Rattle.sb_window.specs.records.Reorderings.{IsReordered}
use Rattle.sb_window.proofs.records.Elements.{every}
use Rattle.sb_window.proofs.records.Sorting.{records_total, ascending-from_sorted, sorted-unique}
use Rattle.sb_window.proofs.Marks.{before-all, before-none, at_least-all, at_least-none, All-split}
use Rattle.sb_sink.specs.Runs.{records_in, begins_before}

abbrev IsUp : List Record → Type 0
IsUp rows = IsAscending record_cmp rows

-- ---- runs that follow each other
ranks : IsStrictWeakOrder (λ x y. is_lt (record_cmp x y))
ranks = ranks_by records_total (λ (r : Record). r)

not_lt : (o : Ordering) → is_ge o ≡ true → is_lt o ≡ false
not_lt Less h = cc
not_lt Equal h = refl
not_lt Greater h = refl

-- the record is not below the last one of the list
abbrev IsBehind : List Record → Record → Record → Type 0
IsBehind l d y = (n : ℕ) → n + 1 ≡ length l → is_ge (record_cmp y (get_or l n d)) ≡ true

up-join : (l : List Record) (d y : Record) (ys : List Record) → IsBehind l d y → IsUp l → IsUp (y ∷ ys) → IsUp (l ++ y ∷ ys)
up-join [] d y ys h up vp = vp
up-join (x ∷ []) d y ys h up vp =
    let low : is_lt (record_cmp y x) ≡ false = not_lt (record_cmp y x) (h 0 (omega arith)) in
    ((low, every (λ z k. ranks.chain z y x k low) ys vp.0), vp)
up-join (x ∷ x' ∷ l) d y ys h up vp =
    let rest = up-join (x' ∷ l) d y ys (λ n e. h (suc n) (omega (arith, e))) up.1 vp in
    ((up.0.0, every (λ z k. ranks.chain z x' x k up.0.0) (l ++ y ∷ ys) rest.0), rest)

-- a run that begins at the last record of another or above it goes on from that
pub leads : (l m : List Record) (last first : Record) → last ≡ get_or l (length l - 1) last → first ≡ get_or m 0 first → IsUp l → IsUp m → is_ge (record_cmp first last) ≡ true → IsUp (l ++ m)
leads l [] last first last_is first_is up vp h = subst (λ (x : List Record). IsUp x) (sym (append-nil l)) up
leads l (y ∷ ys) last first last_is first_is up vp h = up-join l last y ys behind up vp
  where
    behind : IsBehind l last y
    behind n e =
        let at : n ≡ length l - 1 = omega (arith, e) in
        ap (λ (x : Record). is_ge (record_cmp y x)) (ap (λ k. get_or l k last) at ∙ sym last_is) ∙ ap (λ (x : Record). is_ge (record_cmp x last)) (sym first_is) ∙ h

-- what `sort` ensures
pub up-sorted : (l : List Record) → IsSorted record_cmp l → IsUp l
up-sorted l h = ascending-from_sorted records_total l h

-- the last of some runs is joined with a later one
pub last-joined : (runs : List (List Record)) (last later new : List Record) → IsReordered new (last ++ later) → IsReordered (records_in runs ++ new) (records_in (runs ++ last ∷ []) ++ later)
last-joined runs last later new h f =
    let a = sum_by-append f (records_in runs) new in
    let b = h f ∙ sum_by-append f last later in
    let d = sum_by-append f (records_in (runs ++ last ∷ [])) later in
    let e = ap (sum_by f) (flat_map-append (λ (run : List Record). run) runs (last ∷ [])) ∙ sum_by-append f (records_in runs) (last ++ []) in
    let g = ap (sum_by f) (append-nil last) in
    omega (arith, a, b, d, e, g)

-- ---- a run that is cut
rises : (x y : Record) → is_lt (record_cmp y x) ≡ false → x.time ≤ y.time
rises x y h = by_case (nat_cmp y.time x.time) refl h
  where
    by_case : (o : Ordering) → nat_cmp y.time x.time ≡ o → is_lt (ordering_then o (ordering_then (key_cmp y.key x.key) (int_cmp y.value x.value))) ≡ false → x.time ≤ y.time
    by_case Less e h = cc
    by_case Equal e h = let k : y.time ≡ x.time = ranked y.time x.time Equal (sym e) in omega (arith, k)
    by_case Greater e h = let k : x.time < y.time = ranked y.time x.time Greater (sym e) in omega (arith, k)

-- where the first record is from the mark on, all are
all-from : (mark : ℕ) (l : List Record) → begins_before mark l ≡ false → IsUp l → AllByRecursion (λ r. mark ≤ r.time) l
all-from mark [] h up = tt
all-from mark (r ∷ rs) h up =
    let late : mark ≤ r.time = ltb-false r.time mark h in
    (late, every (λ x k. let k' : r.time ≤ x.time = rises r x k in omega (arith, late, k')) rs up.0)

-- where the last record is below the mark, all are
all-before : (mark : ℕ) (l : List Record) (d : Record) → ((n : ℕ) → n + 1 ≡ length l → (get_or l n d).time < mark) → IsUp l → AllByRecursion (λ r. r.time < mark) l
all-before mark [] d h up = tt
all-before mark (x ∷ []) d h up = (h 0 (omega arith), tt)
all-before mark (x ∷ x' ∷ l) d h up =
    let rest = all-before mark (x' ∷ l) d (λ n e. h (suc n) (omega (arith, e))) up.1 in
    let k : x.time ≤ x'.time = rises x x' up.0.0 in
    (omega (arith, k, rest.0), rest)

pub ends-before : (mark : ℕ) (l : List Record) (last : Record) → last ≡ get_or l (length l - 1) last → nat_lt last.time mark ≡ true → IsUp l → AllByRecursion (λ r. r.time < mark) l
ends-before mark l last is low up =
    all-before mark l last
    (λ n e. let at : n ≡ length l - 1 = omega (arith, e) in subst (λ (r : Record). r.time < mark) (is ∙ ap (λ k. get_or l k last) (sym at)) (ltb-true last.time mark low)) up

up-left : (l m : List Record) → IsUp (l ++ m) → IsUp l
up-left [] m up = tt
up-left (x ∷ l) m up = ((All-split (λ y. is_lt (record_cmp y x) ≡ false) l m up.0).0, up-left l m up.1)

up-right : (l m : List Record) → IsUp (l ++ m) → IsUp m
up-right [] m up = up
up-right (x ∷ l) m up = up-right l m up.1

-- what is moved is below the mark, and stood before the rest
pub record Cutting (mark : ℕ) (whole moved left : List Record) : Type 0 where
  pub parts : moved ++ left ≡ whole
  pub low : AllByRecursion (λ r. r.time < mark) moved

module _ (mark : ℕ) (whole moved left : List Record) (h : begins_before mark left ≡ false) (up : IsUp whole) (c : Cutting mark whole moved left) where
  both-up : IsUp (moved ++ left)
  both-up = subst (λ (l : List Record). IsUp l) (sym c.parts) up

  pub cut-below-up : IsUp moved
  cut-below-up = up-left moved left both-up

  pub cut-rest-up : IsUp left
  cut-rest-up = up-right moved left both-up

  high : AllByRecursion (λ r. mark ≤ r.time) left
  high = all-from mark left h cut-rest-up

  pub cut-below : moved ≡ before mark whole
  cut-below =
      sym
      (ap (before mark) (sym c.parts) ∙ filter-append (λ r. nat_lt r.time mark) moved left
      ∙ (λ i. before-all mark moved c.low i ++ before-none mark left high i) ∙ append-nil moved)

  pub cut-rest : left ≡ at_least mark whole
  cut-rest =
      sym
      (ap (at_least mark) (sym c.parts) ∙ filter-append (λ r. not (nat_lt r.time mark)) moved left
      ∙ (λ i. at_least-none mark moved c.low i ++ at_least-all mark left high i))

-- ---- a run that stands alone
-- it leaves, and nothing else was there
module _ (mark : ℕ) (runs left : List (List Record)) (only : List Record) (alone : length runs ≡ 1) (parts : runs ≡ left ++ only ∷ []) where
  nothing : left ≡ []
  nothing = nil_from_length left (let k = ap length parts ∙ length-append left (only ∷ []) in omega (arith, alone, k))

  all : only ≡ records_in runs
  all = sym (append-nil only) ∙ ap (λ l. records_in (l ++ only ∷ [])) (sym nothing) ∙ ap records_in (sym parts)

  pub only-rows : only ≡ before mark only → IsUp only → only ≡ sorted_records (before mark (records_in runs))
  only-rows low up = sorted-unique only (before mark (records_in runs)) up (λ f. ap (sum_by f) (low ∙ ap (before mark) all))
