-- The number of a bundle in hand is not 0.
use Rattle.std.proofs.Common.{◌≡◌, ℕ, ◌≤◌, Bool, true, false, cond, eqb, List, [], ◌∷◌, Some, refl, ap, subst, ◌∙◌, arith}
use Rattle.std.specs.Prelude.{count_by, ◌||◌}
use Rattle.std.specs.List.{sum_by, list_any, AllByRecursion}
use Rattle.std.proofs.lemmas.List.Sums.{sum_by-cons}
use Rattle.std.proofs.lemmas.Option.{same_Some}
use Rattle.sb_shown.specs.base.records.declared.item.Record.{Record}
use Rattle.sb_shown.specs.base.pipeline.Shapes.{Shape}
use Rattle.sb_shown.specs.core.containers.declared.container.Cont.{Cont}
use Rattle.sb_shown.specs.core.declared.moment.Moment.{Moment}
use Rattle.sb_shown.specs.core.declared.held.Held.{Held}
use Rattle.sb_shown.specs.core.declared.held.Held.TheVariants.{Work}
use Rattle.sb_shown.specs.core.containers.LaneOrder.{cont_at}
use Rattle.sb_shown.specs.core.Holdings.{IsHeld}
use Rattle.sb_shown.specs.core.Soundness.{IsSound, numbers_of}

any-count : (p : ℕ → Bool) (xs : List ℕ) → list_any p xs ≡ true → 1 ≤ count_by p xs
any-count p [] h = cc
any-count p (x ∷ xs) h = by_case (p x) refl h (any-count p xs)
  where
    by_case : (b : Bool) → p x ≡ b → (b || list_any p xs) ≡ true → (list_any p xs ≡ true → 1 ≤ count_by p xs) → 1 ≤ count_by p (x ∷ xs)
    by_case true e h ih = omega (arith, sum_by-cons (λ x. cond {A = ℕ} (p x) 1 0) x xs, ap (λ b. cond {A = ℕ} b 1 0) e)
    by_case false e h ih = omega (arith, sum_by-cons (λ x. cond {A = ℕ} (p x) 1 0) x xs, ih h)

numbered : (number epoch : ℕ) (cs : List Cont) (c : Cont) → cont_at epoch cs ≡ Some c → list_any (λ n. eqb n number) c.out ≡ true → 1 ≤ sum_by (numbers_of number) cs
numbered number epoch [] c h out = cc
numbered number epoch (x ∷ cs) c h out = by_case (eqb x.epoch epoch) h (λ k. numbered number epoch cs c k out)
  where
    by_case : (b : Bool) → cond b (Some x) (cont_at epoch cs) ≡ Some c → (cont_at epoch cs ≡ Some c → 1 ≤ sum_by (numbers_of number) cs) → 1 ≤ sum_by (numbers_of number) (x ∷ cs)
    by_case true h ih =
        let e : x ≡ c = same_Some x c h in
        let k : 1 ≤ count_by (λ n. eqb n number) x.out = any-count (λ n. eqb n number) x.out (ap (λ (c : Cont). list_any (λ n. eqb n number) c.out) e ∙ out) in
        omega (arith, sum_by-cons (numbers_of number) x cs)
    by_case false h ih = omega (arith, sum_by-cons (numbers_of number) x cs, ih h)

pub work_number : (plan : Shape) (m : Moment) → IsSound plan m → (k l epoch floor number : ℕ) (records : List Record) (delivered : Bool) → m.held ≡ Work k l epoch floor number records delivered ∷ [] → 1 ≤ number
work_number plan m sound k l epoch floor number records delivered held =
    let w = (subst (λ (hs : List Held). AllByRecursion (IsHeld plan m) hs) held sound.holds).0 in
    ((sound.numbers (record { node = k; lane = l }) w.lane w.there).given number (numbered number epoch w.lane.conts w.cont w.of_epoch w.is_out)).0
