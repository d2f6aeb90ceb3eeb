-- Where each node is idle, the moment that is shown is at rest.
use Rattle.std.proofs.Common.{◌≡◌, ℕ, Bool, true, false, eqb, List, [], ◌∷◌, length, Some, None, Option, sym, refl, ap, ◌∙◌, arith}
use Rattle.std.specs.Prelude.{◌&&◌, is_some, Err}
use Rattle.std.specs.List.{slice_get, list_any, AllByRecursion}
use Rattle.std.proofs.lemmas.Bool.{false≢true}
use Rattle.std.proofs.lemmas.List.Sums.{sum_by-cons}
use Rattle.std.proofs.lemmas.Option.{same_Some}
use Rattle.sb_shown.specs.base.records.declared.item.Record.{Record}
use Rattle.sb_shown.specs.base.bundle.declared.bundle.Bundle.{Bundle}
use Rattle.sb_shown.specs.base.pipeline.declared.transform.Down.{Down}
use Rattle.sb_shown.specs.base.pipeline.Shapes.{Shape}
use Rattle.sb_shown.specs.core.containers.declared.container.Cont.{Cont}
use Rattle.sb_shown.specs.core.containers.declared.container.CoreLane.{CoreLane}
use Rattle.sb_shown.specs.core.declared.moment.Moment.{Moment}
use Rattle.sb_shown.specs.core.containers.Choices.{only_if, is_empty}
use Rattle.sb_shown.specs.core.containers.Lanes.{closable}
use Rattle.sb_shown.specs.core.containers.Marks.{first_is_closing}
use Rattle.sb_shown.specs.core.Moments.{lane_at, is_close_of}
use Rattle.sb_shown.proofs.core.ends.AtRest.{free}
use Rattle.sb_shown.specs.lane.declared.answers.NotYet.{NotYet}
use Rattle.sb_shown.specs.lane.LaneView.{lane_of}
use Rattle.sb_shown.specs.lane.Looks.{look_marked, look_closing, look_of}
use Rattle.sb_shown.specs.lane.Placed.{conts_of}
use Rattle.sb_shown.specs.lane.Taking.{first_taken, take_first}
use Rattle.sb_shown.specs.lane.Unfinished.{unfinished_in, unfinished_of}
use Rattle.sb_shown.specs.node.declared.state.NodeState.{NodeState}
use Rattle.sb_hand.specs.HandLaws.{AreIdle, IdleIsRest, IdleIsFinished}
use Rattle.sb_shown.specs.Showing.{Stands}
use Rattle.sb_shown.specs.node.Looking.{CannotClose, NoneWaits}
use Rattle.sb_hand.proofs.Having.{finds}
use Rattle.sb_hand.proofs.ShownLanes.{one-of-all, within-plan, lane-shown}
use Rattle.sb_shown.proofs.Single.{there-too}

-- no bundle waits in a lane of which none can be taken
none_taken : (o : Option (Bundle × List Cont)) (c : Cont) (cs : List Cont) → first_taken [] c cs o ≡ None → o ≡ None
none_taken None c cs h = refl
none_taken (Some q) c cs h = cc

none_wait : (cs : List Cont) → take_first cs ≡ None → AllByRecursion (λ c. c.waiting ≡ []) cs
none_wait [] h = tt
none_wait (c ∷ cs) h = by c.waiting refl h (none_wait cs)
  where
    by : (w : List Bundle) → c.waiting ≡ w → first_taken w c cs (take_first cs) ≡ None → (take_first cs ≡ None → AllByRecursion (λ c. c.waiting ≡ []) cs)
        → (c.waiting ≡ []) × AllByRecursion (λ c. c.waiting ≡ []) cs
    by [] e k ih = (e, ih (none_taken (take_first cs) c cs k))
    by (b ∷ bs) e k ih = cc

-- a first container that is not closing and cannot close is not closable
marked : (c : Cont) (mark : Option ℕ) (waiting : List Bundle) (out : List ℕ) (why : NotYet) → look_marked c mark waiting out ≡ Err why → (is_some mark && (is_empty waiting && is_empty out)) ≡ false
marked c None waiting out why h = refl
marked c (Some mark) (b ∷ bs) out why h = refl
marked c (Some mark) [] (n ∷ ns) why h = refl
marked c (Some mark) [] [] why h = cc

unless_both : {X : Type 0} (b : Bool) (o : Option X) → only_if (b && false) o ≡ None
unless_both true o = refl
unless_both false o = refl

not_closable : (epoch : ℕ) (cs : List Cont) (why : NotYet) → look_of cs ≡ Err why → first_is_closing cs ≡ false → closable epoch cs ≡ None
not_closable epoch [] why h unclosed = refl
not_closable epoch (c ∷ cs) why h unclosed =
    ap (λ t. only_if (eqb c.epoch epoch && t) (Some c)) (marked c c.mark c.waiting c.out why (ap (look_closing c) (sym unclosed) ∙ h))
    ∙ unless_both (eqb c.epoch epoch) (Some c)

-- nothing is in hand, so no container is closing
none_closing : (plan : Shape) (bundle : ℕ) (nodes : List NodeState) (rows : List Record) (m : Moment) → Stands plan bundle nodes [] rows m → (d : Down) (lane : CoreLane) → lane_at m d ≡ Some lane → first_is_closing lane.conts ≡ false
none_closing plan bundle nodes rows m s d lane at = by (first_is_closing lane.conts) refl
  where
    by : (b : Bool) → first_is_closing lane.conts ≡ b → b ≡ false
    by false e = refl
    by true e = absurd (false≢true (ap (list_any (is_close_of d.node d.lane)) (sym s.held_is) ∙ s.sound.closing_held d lane at e))

-- a lane of the moment is one in which nothing waits and nothing can close
record IsLaneIdle (lane : CoreLane) : Type 0 where
  none : take_first lane.conts ≡ None
  why : NotYet
  stuck : look_of lane.conts ≡ Err why

lane_idle : (plan : Shape) (bundle : ℕ) (nodes : List NodeState) (rows : List Record) (m : Moment) → Stands plan bundle nodes [] rows m → AreIdle plan nodes → (d : Down) (lane : CoreLane) → lane_at m d ≡ Some lane → IsLaneIdle lane
lane_idle plan bundle nodes rows m s idle d lane at =
    let f = finds plan bundle nodes [] rows m s d lane at in
    let n = there-too nodes m.nodes d.node f.has.own s.count f.has.there in
    let i = idle d.node (within-plan plan bundle nodes [] rows m s d.node n.0 n.1) in
    let same : i.own ≡ f.has.own = same_Some i.own f.has.own (sym i.there ∙ f.has.there) in
    let in_it : slice_get i.own.lanes.items d.lane ≡ Some f.lane = ap (λ (n : NodeState). slice_get n.lanes.items d.lane) same ∙ f.has.in_it in
    let closes = one-of-all CannotClose i.own.lanes.items d.lane f.lane i.closes in_it in
    record {
      none = ap (λ (x : CoreLane). take_first x.conts) (sym f.lane_is) ∙ one-of-all NoneWaits i.own.lanes.items d.lane f.lane i.waits in_it;
      why = closes.0;
      stuck = ap (λ (x : CoreLane). look_of x.conts) (sym f.lane_is) ∙ closes.1;
    }

pub idle-is-rest : IdleIsRest
idle-is-rest plan bundle nodes rows m s idle = record {
  none_held = s.held_is;
  none_waits = λ d lane at. none_wait lane.conts (lane_idle plan bundle nodes rows m s idle d lane at).none;
  none_closes = λ d lane at.
      let i = lane_idle plan bundle nodes rows m s idle d lane at in
      not_closable lane.ended lane.conts i.why i.stuck (none_closing plan bundle nodes rows m s d lane at);
}

-- where nothing waits and nothing is out, nothing is unfinished
none_unfinished : (cs : List Cont) → AllByRecursion (λ c. (c.waiting ≡ []) × (c.out ≡ [])) cs → unfinished_of cs ≡ 0
none_unfinished [] all = refl
none_unfinished (c ∷ cs) all =
    let waits : length c.waiting ≡ 0 = ap length all.0.0 in
    let outs : length c.out ≡ 0 = ap length all.0.1 in
    omega (arith, sum_by-cons unfinished_in c cs, none_unfinished cs all.1, waits, outs)

pub idle-is-finished : IdleIsFinished
idle-is-finished plan is_plan bundle nodes rows m s idle k l lane has =
    none_unfinished (conts_of lane.containers) (free plan is_plan m s.sound (idle-is-rest plan bundle nodes rows m s idle) (record { node = k; lane = l }) (lane_of lane) (lane-shown plan bundle nodes [] rows m s k l lane has))
