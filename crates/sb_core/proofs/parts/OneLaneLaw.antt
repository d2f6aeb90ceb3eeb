-- An event changes one lane of its node: by what it does to the part.
use Rattle.std.proofs.Common.{◌≡◌, ℕ, ◌+◌, eqb, List, [], ◌∷◌, ◌++◌, drop, Some, Option, sym, refl, ap, ◌∙◌, append-nil}
use Rattle.std.specs.Prelude.{slice_get, slice_set}
use Rattle.std.proofs.lemmas.Bool.{eqb-true, and_parts}
use Rattle.std.proofs.lemmas.Option.{same_Some}
use Rattle.sb_containers.specs.base.NumberLemmas.{bind_some}
use Rattle.sb_containers.specs.base.records.Reading.{◌>>=◌}
use Rattle.sb_containers.specs.base.records.declared.item.Record.{Record}
use Rattle.sb_containers.specs.base.pipeline.declared.transform.Down.{Down}
use Rattle.sb_containers.specs.base.pipeline.Shapes.{source}
use Rattle.sb_containers.specs.declared.container.CoreLane.{CoreLane}
use Rattle.sb_core.specs.declared.moment.Node.{Node}
use Rattle.sb_core.specs.declared.held.Held.{Held}
use Rattle.sb_core.specs.declared.held.Held.TheVariants.{Work, Close}
use Rattle.sb_core.specs.declared.event.Event.TheVariants.{Arrive, Seal, Take, Deliver, Finish, Begin, Pass, End}
use Rattle.sb_core.specs.Events.{below}
use Rattle.sb_containers.specs.Lanes.{with_arrival, with_seal, take_from, finish_in, closable, with_first_closing}
use Rattle.sb_core.specs.Moments.{set_lane}
use Rattle.sb_core.specs.OneLane.{ChangesLane, OneLaneChanges, HeldOneLaneChanges}
use Rattle.sb_core.specs.Parts.{Part, only_node, put_in}
use Rattle.sb_containers.proofs.Lists.{cond_is_some}
use Rattle.sb_core.proofs.parts.PartsLaw.{names, owner-close, owner-work}

module _ (node : Node) where
  -- one lane is another
  lane_changes : (l : ℕ) (more : List ℕ) (p made : Part) (lane with : CoreLane) → slice_get node.lanes l ≡ Some lane → Some made ≡ Some p → made.node.lanes ≡ slice_set node.lanes l with
      → with.marks ≡ lane.marks ++ more → ChangesLane l more node p.node
  lane_changes l more p made lane with there is lanes marks =
      record { lane = lane; with = with; there = there; others = ap (λ (p : Part). p.node.lanes) (sym (same_Some made p is)) ∙ lanes; marks = marks }

  same_marks : (lane : CoreLane) → lane.marks ≡ lane.marks ++ []
  same_marks lane = sym (append-nil lane.marks)

  put_changes : (l epoch floor : ℕ) (records : List Record) (held : List Held) (p : Part) → put_in l epoch floor records held node ≡ Some p → ChangesLane l [] node p.node
  put_changes l epoch floor records held p h =
      let b = bind_some (slice_get node.lanes l) _ p h in
      let c = cond_is_some _ _ p b.2 in
      let with : CoreLane = with_arrival epoch floor records b.0 in
      lane_changes l [] p (only_node held (set_lane l with node)) b.0 with b.1 c.1 refl (same_marks b.0)

-- the place that is named
placed : (o : Option Down) (k : ℕ) (d : Down) → (o >>= λ d. Some d.node) ≡ Some k → o ≡ Some d → o ≡ Some (record { node = k; lane = d.lane })
placed o k d named is =
    let z = names o k named in
    let at : d.node ≡ k = ap (λ (d : Down). d.node) (same_Some d z.0 (sym is ∙ z.1)) ∙ z.2 in
    is ∙ (λ i. Some (record { node = at i; lane = d.lane }))

pub one-lane_changes : OneLaneChanges
one-lane_changes plan bundle k (Deliver n l number) node p named h = cc
one-lane_changes plan bundle k (Finish n l number) node p named h = cc
one-lane_changes plan bundle k (Pass n) node p named h = cc
one-lane_changes plan bundle k (End n) node p named h = cc
one-lane_changes plan bundle k (Arrive stream records) node p named h =
    let a = bind_some (source plan stream) _ p h in
    let b = bind_some (slice_get node.lanes a.0.lane) _ p a.2 in
    let c = cond_is_some _ _ p b.2 in
    (a.0.lane, placed (source plan stream) k a.0 named a.1, put_changes node a.0.lane _ _ records [] p c.1)
one-lane_changes plan bundle k (Seal stream mark) node p named h =
    let a = bind_some (source plan stream) _ p h in
    let b = bind_some (slice_get node.lanes a.0.lane) _ p a.2 in
    let c = cond_is_some _ _ p b.2 in
    (a.0.lane, placed (source plan stream) k a.0 named a.1, lane_changes node a.0.lane (mark ∷ []) p (only_node [] (set_lane a.0.lane (with_seal mark b.0) node)) b.0 (with_seal mark b.0) b.1 c.1 refl refl)
one-lane_changes plan bundle k (Take n l number) node p named h =
    let b = bind_some (slice_get node.lanes l) _ p h in
    let c = bind_some (take_from number b.0.conts) _ p b.2 in
    (l, (λ i. Some (record { node = same_Some n k named i; lane = l })), lane_changes node l [] p _ b.0 (record b.0 { conts = c.0.1 }) b.1 c.2 refl (same_marks node b.0))
one-lane_changes plan bundle k (Begin n l) node p named h =
    let b = bind_some (slice_get node.lanes l) _ p h in
    let c = bind_some (closable b.0.ended b.0.conts) _ p b.2 in
    let d = cond_is_some _ _ p c.2 in
    (l, (λ i. Some (record { node = same_Some n k named i; lane = l })), lane_changes node l [] p _ b.0 (record b.0 { conts = with_first_closing b.0.conts }) b.1 d.1 refl (same_marks node b.0))

pub held-one_lane_changes : HeldOneLaneChanges
held-one_lane_changes plan bundle k (Arrive stream records) held node p c named h = cc
held-one_lane_changes plan bundle k (Seal stream mark) held node p c named h = cc
held-one_lane_changes plan bundle k (Take n l number) held node p c named h = cc
held-one_lane_changes plan bundle k (Begin n l) held node p c named h = cc
held-one_lane_changes plan bundle k (Deliver n j number) (Close y l epoch serial floor mark rows passed) node p c named h =
    let a = bind_some (below plan y) _ p h in
    let d = cond_is_some _ _ p a.2 in
    (a.0.lane, placed (below plan n) k a.0 named (ap (below plan) (sym (owner-close n j number y l epoch serial floor mark rows passed c)) ∙ a.1), put_changes node a.0.lane serial floor _ _ p d.1)
held-one_lane_changes plan bundle k (Deliver n j number) (Work y l epoch floor other records delivered) node p c named h =
    let a = bind_some (below plan y) _ p h in
    let d = cond_is_some _ _ p a.2 in
    (a.0.lane, placed (below plan n) k a.0 named (ap (below plan) (sym (owner-work n j number y l epoch floor other records delivered c)) ∙ a.1), put_changes node a.0.lane epoch floor _ _ p d.1)
held-one_lane_changes plan bundle k (Finish n j number) (Close y l epoch serial floor mark rows passed) node p c named h = cc
held-one_lane_changes plan bundle k (Finish n j number) (Work y l epoch floor other records delivered) node p c named h =
    let b = bind_some (slice_get node.lanes l) _ p h in
    let d = cond_is_some _ _ p b.2 in
    let lane : l ≡ j = eqb-true l j (and_parts (eqb l j) (eqb other number) (and_parts (eqb y n) _ c).1).0 in
    (l, (λ i. Some (record { node = same_Some n k named i; lane = sym lane i })), lane_changes node l [] p _ b.0 (record b.0 { conts = finish_in epoch other b.0.conts }) b.1 d.1 refl (same_marks node b.0))
held-one_lane_changes plan bundle k (Pass n) (Work y l epoch floor other records delivered) node p c named h = cc
held-one_lane_changes plan bundle k (Pass n) (Close y l epoch serial floor mark rows passed) node p c named h =
    let a = bind_some (below plan y) _ p h in
    let b = bind_some (slice_get node.lanes a.0.lane) _ p a.2 in
    let d = cond_is_some _ _ p b.2 in (
      a.0.lane,
      placed (below plan n) k a.0 named (ap (below plan) (sym (eqb-true y n c)) ∙ a.1),
      lane_changes node a.0.lane (mark ∷ []) p _ b.0 (with_seal mark b.0) b.1 d.1 refl refl,
    )
held-one_lane_changes plan bundle k (End n) (Work y l epoch floor other records delivered) node p c named h = cc
held-one_lane_changes plan bundle k (End n) (Close y l epoch serial floor mark rows passed) node p c named h =
    let b = bind_some (slice_get node.lanes l) _ p h in
    let d = cond_is_some _ _ p b.2 in
    (l, (λ i. Some (record { node = same_Some n k named i; lane = l })), lane_changes node l [] p _ b.0 (record b.0 { conts = drop 1 b.0.conts; ended = b.0.ended + 1 }) b.1 d.1 refl (same_marks node b.0))
