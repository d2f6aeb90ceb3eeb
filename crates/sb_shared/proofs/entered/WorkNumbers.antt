-- The number of a bundle in hand is not 0, whatever else is in hand.
use Rattle.std.proofs.Common.{◌≡◌, ℕ, ◌+◌, ◌≤◌, Bool, true, cond, List, ◌∷◌, refl, ap, subst, ◌∙◌, arith}
use Rattle.std.specs.Prelude.{count_by, sum_by, ◌&&◌}
use Rattle.std.specs.List.{AllByRecursion}
use Rattle.std.proofs.lemmas.Bool.{eq-eqb}
use Rattle.std.proofs.lemmas.List.Sums.{sum_by-cons, sum_by-le-sum_by}
use Rattle.sb_shown.specs.base.records.declared.item.Record.{Record}
use Rattle.sb_shown.specs.base.pipeline.declared.transform.Down.{Down}
use Rattle.sb_shown.specs.base.pipeline.Shapes.{Shape}
use Rattle.sb_shown.specs.core.declared.moment.Moment.{Moment}
use Rattle.sb_shown.specs.core.declared.held.Held.{Held}
use Rattle.sb_shown.specs.core.declared.held.Held.TheVariants.{Work}
use Rattle.sb_shown.specs.core.Holdings.{IsHeld}
use Rattle.sb_shown.specs.core.Moments.{is_work}
use Rattle.sb_shown.specs.core.Soundness.{IsSound, numbers_of, out_of}

-- a Work is of its node, its lane and its number
pub work-is : (k l epoch floor number : ℕ) (records : List Record) (delivered : Bool) → is_work k l number (Work k l epoch floor number records delivered) ≡ true
work-is k l epoch floor number records delivered = λ i. eq-eqb k k refl i && (eq-eqb l l refl i && eq-eqb number number refl i)

-- in a sound moment the number of a Work that is first in hand was given
pub work-number : (plan : Shape) (m : Moment) (k l epoch floor number : ℕ) (records : List Record) (delivered : Bool) (rest : List Held)
    → IsSound plan m → m.held ≡ Work k l epoch floor number records delivered ∷ rest → 1 ≤ number
work-number plan m k l epoch floor number records delivered rest sound held =
    let h : Held = Work k l epoch floor number records delivered in
    let w = (subst (λ (hs : List Held). AllByRecursion (IsHeld plan m) hs) held sound.holds).0 in
    let d : Down = record { node = k; lane = l } in
    let out : sum_by (out_of number) w.lane.conts ≡ count_by (is_work k l number) m.held = sound.outs d w.lane w.there number in
    let first : count_by (is_work k l number) m.held ≡ cond (is_work k l number h) 1 0 + count_by (is_work k l number) rest =
    ap (count_by (is_work k l number)) held ∙ sum_by-cons (λ z. cond {A = ℕ} (is_work k l number z) 1 0) h rest in
    let one : cond {A = ℕ} (is_work k l number h) 1 0 ≡ 1 = ap (λ b. cond {A = ℕ} b 1 0) (work-is k l epoch floor number records delivered) in
    let all : sum_by (out_of number) w.lane.conts ≤ sum_by (numbers_of number) w.lane.conts = sum_by-le-sum_by (out_of number) (numbers_of number) w.lane.conts (λ c. more _ _) in
    ((sound.numbers d w.lane w.there).given number (omega (arith, out, first, one, all))).0
  where
    more : (a b : ℕ) → b ≤ a + b
    more a b = omega arith
