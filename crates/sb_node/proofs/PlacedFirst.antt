-- A container is made, and a bundle comes into it.
use Rattle.std.proofs.Common.{◌≡◌, ℕ, ◌+◌, Bool, true, false, cond, eqb, ltb, List, [], ◌∷◌, refl, ap, ◌∙◌}
use Rattle.std.proofs.lemmas.Bool.{eq-eqb}
use Rattle.sb_work.specs.base.records.declared.item.Record.{Record}
use Rattle.sb_work.specs.base.bundle.declared.bundle.Bundle.{Bundle}
use Rattle.sb_lane.specs.containers.declared.container.Cont.{Cont}
use Rattle.sb_lane.specs.containers.declared.container.CoreLane.{CoreLane}
use Rattle.sb_lane.specs.containers.Lanes.{fresh, in_epoch, with_arrival, with_bundle}

module _ (epoch floor : ℕ) (change : Cont → Cont) where
  twice : (cs : List Cont) → in_epoch epoch floor change (in_epoch epoch floor (λ c. c) cs) ≡ in_epoch epoch floor change cs
  twice [] = ap (λ b. cond b (change (fresh epoch floor) ∷ []) (cond (ltb epoch epoch) (change (fresh epoch floor) ∷ fresh epoch floor ∷ []) (fresh epoch floor ∷ in_epoch epoch floor change []))) (eq-eqb epoch epoch refl)
  twice (c ∷ cs) = by_case (eqb c.epoch epoch) refl (ltb epoch c.epoch) refl (twice cs)
    where
      again : (a b : Bool) → eqb c.epoch epoch ≡ a → ltb epoch c.epoch ≡ b → (l : List Cont) → in_epoch epoch floor change (c ∷ l) ≡ cond a (change c ∷ l) (cond b (change (fresh epoch floor) ∷ c ∷ l) (c ∷ in_epoch epoch floor change l))
      again a b e f l = (λ i. cond (e i) (change c ∷ l) (cond (f i) (change (fresh epoch floor) ∷ c ∷ l) (c ∷ in_epoch epoch floor change l)))

      by_case : (a : Bool) → eqb c.epoch epoch ≡ a → (b : Bool) → ltb epoch c.epoch ≡ b → in_epoch epoch floor change (in_epoch epoch floor (λ c. c) cs) ≡ in_epoch epoch floor change cs
          → in_epoch epoch floor change (cond a (c ∷ cs) (cond b (fresh epoch floor ∷ c ∷ cs) (c ∷ in_epoch epoch floor (λ c. c) cs))) ≡ cond a (change c ∷ cs) (cond b (change (fresh epoch floor) ∷ c ∷ cs) (c ∷ in_epoch epoch floor change cs))
      by_case true e b f ih = again true b e f cs
      by_case false e true f ih = ap (λ b. cond b (change (fresh epoch floor) ∷ c ∷ cs) (cond (ltb epoch epoch) (change (fresh epoch floor) ∷ fresh epoch floor ∷ c ∷ cs) (fresh epoch floor ∷ in_epoch epoch floor change (c ∷ cs)))) (eq-eqb epoch epoch refl)
      by_case false e false f ih = again false false e f (in_epoch epoch floor (λ c. c) cs) ∙ ap (λ l. c ∷ l) ih

pub arrives-placed : (epoch floor : ℕ) (records : List Record) (lane placed : CoreLane) → placed ≡ record lane { conts = in_epoch epoch floor (λ c. c) lane.conts } → with_arrival epoch floor records placed ≡ with_arrival epoch floor records lane
arrives-placed epoch floor records lane placed is =
    let b : Bundle = record { number = lane.arrived + 1; epoch = epoch; floor = floor; records = records } in
    ap (with_arrival epoch floor records) is
    ∙ ap (λ (cs : List Cont). record lane { conts = cs; arrived = lane.arrived + 1 }) (twice epoch floor (with_bundle b) lane.conts)
