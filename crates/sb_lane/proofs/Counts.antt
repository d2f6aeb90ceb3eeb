-- How many bundles wait or are out, and what changes do to that number.
use Rattle.std.proofs.Common.{◌≡◌, ℕ, suc, zero, ◌+◌, ◌<◌, Bool, true, false, cond, eqb, List, [], ◌∷◌, ◌++◌, drop, length, get_or, set, length-append, ap, refl, ◌∙◌, arith}
use Rattle.std.specs.Prelude.{nat_lt}
use Rattle.std.proofs.lemmas.List.Sums.{sum_by-cons}
use Rattle.sb_containers.specs.base.bundle.declared.bundle.Bundle.{Bundle}
use Rattle.sb_containers.specs.declared.container.Cont.{Cont}
use Rattle.sb_containers.specs.Lanes.{in_epoch, fresh, with_bundle}
use Rattle.sb_lane.specs.Unfinished.{unfinished_in, unfinished_of}

-- a change that makes a container busier by more makes the lane so
pub unfinished-in_epoch : (epoch floor more : ℕ) (change : Cont → Cont) → ((c : Cont) → unfinished_in (change c) ≡ unfinished_in c + more) → (cs : List Cont) → unfinished_of (in_epoch epoch floor change cs) ≡ unfinished_of cs + more
unfinished-in_epoch epoch floor more change by [] = sum_by-cons unfinished_in (change (fresh epoch floor)) [] ∙ ap (λ n. n + 0) (by (fresh epoch floor)) ∙ omega arith
unfinished-in_epoch epoch floor more change by (c ∷ cs) = by_case (eqb c.epoch epoch) (nat_lt epoch c.epoch) (unfinished-in_epoch epoch floor more change by cs)
  where
    by_case : (a b : Bool) → unfinished_of (in_epoch epoch floor change cs) ≡ unfinished_of cs + more
        → unfinished_of (cond a (change c ∷ cs) (cond b (change (fresh epoch floor) ∷ c ∷ cs) (c ∷ in_epoch epoch floor change cs))) ≡ unfinished_of (c ∷ cs) + more
    by_case true b ih = let n = by c in omega (arith, sum_by-cons unfinished_in (change c) cs, sum_by-cons unfinished_in c cs)
    by_case false true ih = let n = by (fresh epoch floor) in omega (arith, sum_by-cons unfinished_in (change (fresh epoch floor)) (c ∷ cs))
    by_case false false ih = omega (arith, sum_by-cons unfinished_in c (in_epoch epoch floor change cs), sum_by-cons unfinished_in c cs)

pub unfinished-bundle : (b : Bundle) (c : Cont) → unfinished_in (with_bundle b c) ≡ unfinished_in c + 1
unfinished-bundle b c = omega (arith, length-append c.waiting (b ∷ []))

-- one container is another
pub unfinished-set : (cs : List Cont) (i : ℕ) (c with : Cont) → i < length cs → c ≡ get_or cs i c → unfinished_of (set cs i with) + unfinished_in c ≡ unfinished_of cs + unfinished_in with
unfinished-set [] i c with h at = absurd (omega arith)
unfinished-set (x ∷ cs) zero c with h at =
    let e : unfinished_in c ≡ unfinished_in x = ap unfinished_in at in
    omega (arith, sum_by-cons unfinished_in with cs, sum_by-cons unfinished_in x cs)
unfinished-set (x ∷ cs) (suc i) c with h at =
    let ih = unfinished-set cs i c with (omega arith) at in
    omega (arith, sum_by-cons unfinished_in x (set cs i with), sum_by-cons unfinished_in x cs)

-- the first is gone
pub unfinished-drop : (cs : List Cont) (d : Cont) → 0 < length cs → unfinished_of (drop 1 cs) + unfinished_in (get_or cs 0 d) ≡ unfinished_of cs
unfinished-drop [] d h = absurd (omega arith)
unfinished-drop (c ∷ cs) d h = omega (arith, sum_by-cons unfinished_in c cs)

-- a bundle taken is out
pub unfinished-taken : (cs ds : List Cont) (i : ℕ) (b : Bundle) (bs : List Bundle) → i < length cs → ((d : Cont) → (get_or cs i d).waiting ≡ b ∷ bs) → ((d : Cont) → ds ≡ set cs i (record (get_or cs i d) { waiting = bs; out = (get_or cs i d).out ++ b.number ∷ [] })) → unfinished_of ds ≡ unfinished_of cs
unfinished-taken cs ds i b bs h waits is =
    let x = get_or cs i (fresh 0 0) in
    let e = ap unfinished_of (is (fresh 0 0)) in
    let n : length x.waiting ≡ suc (length bs) = ap length (waits (fresh 0 0)) in
    omega (arith, e, n, length-append x.out (b.number ∷ []), unfinished-set cs i x (record x { waiting = bs; out = x.out ++ b.number ∷ [] }) h (self cs i h))
  where
    self : (cs : List Cont) (i : ℕ) → i < length cs → get_or cs i (fresh 0 0) ≡ get_or cs i (get_or cs i (fresh 0 0))
    self [] i h = absurd (omega arith)
    self (c ∷ cs) zero h = refl
    self (c ∷ cs) (suc i) h = self cs i (omega arith)
