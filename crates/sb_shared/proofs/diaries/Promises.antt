-- The lines that a node owes: what each event makes of them.
use Rattle.std.proofs.Common.{◌≡◌, ◌≤◌, ℕ, suc, zero, ◌+◌, Bool, true, false, cond, eqb, List, [], ◌∷◌, ◌++◌, drop, length, filter, not, sum_by, Option, Some, None, ◌||◌, length-append, ap, refl, ◌∙◌, arith}
use Rattle.std.specs.Prelude.{nat_lt, is_some, Ok, slice_get, slice_set}
use Rattle.std.specs.List.{list_any}
use Rattle.std.proofs.lemmas.List.Sums.{sum_by-cons}
use Rattle.std.proofs.lemmas.Option.{same_Some}
use Rattle.sb_shown.specs.base.records.Reading.{◌>>=◌}
use Rattle.sb_shown.specs.base.bundle.declared.bundle.Bundle.{Bundle}
use Rattle.sb_shown.specs.core.containers.declared.container.Cont.{Cont}
use Rattle.sb_shown.specs.core.containers.LaneOrder.{cont_at}
use Rattle.sb_shown.specs.core.containers.Lanes.{in_epoch, fresh, with_bundle, with_first_closing}
use Rattle.sb_shown.specs.core.containers.Marks.{first_is_closing}
use Rattle.sb_shown.specs.lane.declared.answers.LaneClose.{LaneClose}
use Rattle.sb_shown.specs.lane.LaneView.{LaneView}
use Rattle.sb_shown.specs.lane.Looks.{look_of, look_closing}
use Rattle.sb_shown.specs.lane.Placed.{conts_of}
use Rattle.sb_shown.specs.lane.Taking.{first_taken, take_first, finish_first, with_finished}
use Rattle.sb_shared.specs.SharedNodes.{IsOut, owed_lines, owed_in}

-- those of the containers of a lane
abbrev pub owed_of : List Cont → ℕ
owed_of cs = sum_by owed_in cs

-- one lane is another
pub owed-set : (lanes : List LaneView) (l : ℕ) (was is : LaneView) → slice_get lanes l ≡ Some was → owed_lines (slice_set lanes l is) + owed_of (conts_of was.containers) ≡ owed_lines lanes + owed_of (conts_of is.containers)
owed-set [] l was is h = cc
owed-set (x ∷ xs) zero was is h =
    let e = ap (λ (lane : LaneView). owed_of (conts_of lane.containers)) (same_Some x was h) in
    omega (arith, e, sum_by-cons (λ (lane : LaneView). owed_of (conts_of lane.containers)) x xs, sum_by-cons (λ (lane : LaneView). owed_of (conts_of lane.containers)) is xs)
owed-set (x ∷ xs) (suc l) was is h =
    omega (arith, owed-set xs l was is h, sum_by-cons (λ (lane : LaneView). owed_of (conts_of lane.containers)) x xs, sum_by-cons (λ (lane : LaneView). owed_of (conts_of lane.containers)) x (slice_set xs l is))

-- what a lane owes, its node owes
pub owed-in : (lanes : List LaneView) (l : ℕ) (was : LaneView) → slice_get lanes l ≡ Some was → owed_of (conts_of was.containers) ≤ owed_lines lanes
owed-in [] l was h = cc
owed-in (x ∷ xs) zero was h =
    let e = ap (λ (lane : LaneView). owed_of (conts_of lane.containers)) (same_Some x was h) in
    omega (arith, e, sum_by-cons (λ (lane : LaneView). owed_of (conts_of lane.containers)) x xs)
owed-in (x ∷ xs) (suc l) was h = omega (arith, owed-in xs l was h, sum_by-cons (λ (lane : LaneView). owed_of (conts_of lane.containers)) x xs)

-- a change that makes a container owe more makes the lane owe more
pub owed-in_epoch : (epoch floor more : ℕ) (change : Cont → Cont) → ((c : Cont) → owed_in (change c) ≡ owed_in c + more) → (cs : List Cont) → owed_of (in_epoch epoch floor change cs) ≡ owed_of cs + more
owed-in_epoch epoch floor more change by [] = let n = by (fresh epoch floor) in omega (arith, n, sum_by-cons owed_in (change (fresh epoch floor)) [])
owed-in_epoch epoch floor more change by (c ∷ cs) = by_case (eqb c.epoch epoch) (nat_lt epoch c.epoch) (owed-in_epoch epoch floor more change by cs)
  where
    by_case : (a b : Bool) → owed_of (in_epoch epoch floor change cs) ≡ owed_of cs + more
        → owed_of (cond a (change c ∷ cs) (cond b (change (fresh epoch floor) ∷ c ∷ cs) (c ∷ in_epoch epoch floor change cs))) ≡ owed_of (c ∷ cs) + more
    by_case true b ih = let n = by c in omega (arith, n, sum_by-cons owed_in (change c) cs, sum_by-cons owed_in c cs)
    by_case false true ih = let n = by (fresh epoch floor) in omega (arith, n, sum_by-cons owed_in (change (fresh epoch floor)) (c ∷ cs))
    by_case false false ih = omega (arith, ih, sum_by-cons owed_in c (in_epoch epoch floor change cs), sum_by-cons owed_in c cs)

-- a bundle that arrives is taken and finished
pub owed-arrived : (epoch floor : ℕ) (b : Bundle) (cs : List Cont) → owed_of (in_epoch epoch floor (with_bundle b) cs) ≡ owed_of cs + 2
owed-arrived epoch floor b cs = owed-in_epoch epoch floor 2 (with_bundle b) (λ c. by c (cond c.closing 1 0) refl) cs
  where
    by : (c : Cont) (k : ℕ) → cond c.closing 1 0 ≡ k → owed_in (with_bundle b c) ≡ owed_in c + 2
    by c k e = omega (arith, e, length-append c.waiting (b ∷ []))

-- a mark owes nothing
pub owed-sealed : (epoch floor mark : ℕ) (cs : List Cont) → owed_of (in_epoch epoch floor (λ c. record c { mark = Some mark }) cs) ≡ owed_of cs
owed-sealed epoch floor mark cs = let n = owed-in_epoch epoch floor 0 (λ c. record c { mark = Some mark }) (λ c. omega arith) cs in omega (arith, n)

-- a bundle that was taken is only to be finished
pub owed-taken : (cs ds : List Cont) (b : Bundle) → take_first cs ≡ Some (b, ds) → owed_of ds + 1 ≡ owed_of cs
owed-taken [] ds b h = cc
owed-taken (c ∷ cs) ds b h = by_case c.waiting refl (λ es x e. owed-taken cs es x e) h
  where
    later : ((es : List Cont) (x : Bundle) → take_first cs ≡ Some (x, es) → owed_of es + 1 ≡ owed_of cs) → (o : Option (Bundle × List Cont)) → take_first cs ≡ o → ◌>>=◌ {B = Bundle × List Cont} o (λ q. Some (q.0, c ∷ q.1)) ≡ Some (b, ds) → owed_of ds + 1 ≡ owed_of (c ∷ cs)
    later ih None e h = cc
    later ih (Some q) e h =
        let is : c ∷ q.1 ≡ ds = ap (λ (x : Bundle × List Cont). x.1) (same_Some (q.0, c ∷ q.1) (b, ds) h) in
        let n = ap owed_of is in
        omega (arith, n, ih q.1 q.0 e, sum_by-cons owed_in c q.1, sum_by-cons owed_in c cs)

    by_case : (w : List Bundle) → c.waiting ≡ w → ((es : List Cont) (x : Bundle) → take_first cs ≡ Some (x, es) → owed_of es + 1 ≡ owed_of cs) → first_taken w c cs (take_first cs) ≡ Some (b, ds) → owed_of ds + 1 ≡ owed_of (c ∷ cs)
    by_case [] e ih h = later ih (take_first cs) refl h
    by_case (x ∷ xs) e ih h =
        let with : Cont = record c { waiting = xs; out = c.out ++ x.number ∷ [] } in
        let is : with ∷ cs ≡ ds = ap (λ (y : Bundle × List Cont). y.1) (same_Some (x, with ∷ cs) (b, ds) h) in
        let n = ap owed_of is in
        let m : length c.waiting ≡ suc (length xs) = ap length e in
        omega (arith, n, m, length-append c.out (x.number ∷ []), sum_by-cons owed_in with cs, sum_by-cons owed_in c cs)

-- where a bundle waits, something is owed
pub owed-waits : (cs : List Cont) → is_some (take_first cs) ≡ true → 1 ≤ owed_of cs
owed-waits cs h = by_case (take_first cs) refl h
  where
    by_case : (o : Option (Bundle × List Cont)) → take_first cs ≡ o → is_some o ≡ true → 1 ≤ owed_of cs
    by_case None e h = cc
    by_case (Some q) e h = omega (arith, owed-taken cs q.1 q.0 e)

-- a number that is in a list is no longer there
pub fewer : (number : ℕ) (ns : List ℕ) → (length (filter (λ n. not (eqb n number)) ns) ≤ length ns) × (list_any (λ n. eqb n number) ns ≡ true → length (filter (λ n. not (eqb n number)) ns) + 1 ≤ length ns)
fewer number [] = (omega arith, λ h. cc)
fewer number (n ∷ ns) = by_case (eqb n number) (fewer number ns)
  where
    by_case : (b : Bool) → (length (filter (λ n. not (eqb n number)) ns) ≤ length ns) × (list_any (λ n. eqb n number) ns ≡ true → length (filter (λ n. not (eqb n number)) ns) + 1 ≤ length ns)
        → (length (cond (not b) (n ∷ filter (λ n. not (eqb n number)) ns) (filter (λ n. not (eqb n number)) ns)) ≤ length (n ∷ ns)) × ((b || list_any (λ n. eqb n number) ns) ≡ true → length (cond (not b) (n ∷ filter (λ n. not (eqb n number)) ns) (filter (λ n. not (eqb n number)) ns)) + 1 ≤ length (n ∷ ns))
    by_case true ih = (omega (arith, ih.0), λ h. omega (arith, ih.0))
    by_case false ih = (omega (arith, ih.0), λ h. let n = ih.1 h in omega (arith, n))

-- a bundle that was out owes nothing once it is done with
pub owed-finished : (epoch number : ℕ) (cs : List Cont) → IsOut epoch number cs → owed_of (finish_first epoch number cs) + 1 ≤ owed_of cs
owed-finished epoch number [] (c, at, any) = cc
owed-finished epoch number (x ∷ xs) (c, at, any) = by_case (eqb x.epoch epoch) at (λ at. owed-finished epoch number xs (c, at, any))
  where
    by_case : (b : Bool) → cond b (Some x) (cont_at epoch xs) ≡ Some c → (cont_at epoch xs ≡ Some c → owed_of (finish_first epoch number xs) + 1 ≤ owed_of xs) → owed_of (cond b (with_finished number x ∷ xs) (x ∷ finish_first epoch number xs)) + 1 ≤ owed_of (x ∷ xs)
    by_case true at ih =
        let is : list_any (λ n. eqb n number) x.out ≡ true = ap (λ (y : Cont). list_any (λ n. eqb n number) y.out) (same_Some x c at) ∙ any in
        omega (arith, (fewer number x.out).1 is, sum_by-cons owed_in (with_finished number x) xs, sum_by-cons owed_in x xs)
    by_case false at ih = omega (arith, ih at, sum_by-cons owed_in x (finish_first epoch number xs), sum_by-cons owed_in x xs)

-- a closing that begins is to be ended
pub owed-begun : (cs : List Cont) (close : LaneClose) → look_of cs ≡ Ok close → owed_of (with_first_closing cs) ≡ owed_of cs + 1
owed-begun [] close h = cc
owed-begun (c ∷ cs) close h = by_case c.closing refl h
  where
    by_case : (b : Bool) → c.closing ≡ b → look_closing c b ≡ Ok close → owed_of (record c { closing = true } ∷ cs) ≡ owed_of (c ∷ cs) + 1
    by_case true e h = cc
    by_case false e h =
        let n : ◌≡◌ {A = ℕ} (cond c.closing 1 0) 0 = ap (λ b. cond b 1 0) e in
        omega (arith, n, sum_by-cons owed_in (record c { closing = true }) cs, sum_by-cons owed_in c cs)

-- a closing that has ended owes nothing
pub owed-ended : (cs : List Cont) → first_is_closing cs ≡ true → owed_of (drop 1 cs) + 1 ≤ owed_of cs
owed-ended [] h = cc
owed-ended (c ∷ cs) h =
    let n : ◌≡◌ {A = ℕ} (cond c.closing 1 0) 1 = ap (λ b. cond b 1 0) h in
    omega (arith, n, sum_by-cons owed_in c cs)
