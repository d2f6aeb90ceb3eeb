-- What the rule says of the lanes of the nodes, for the links between them.
use Rattle.std.proofs.Common.{◌≡◌, ℕ, Bool, true, false, cond, eqb, List, [], ◌∷◌, ◌++◌, Some, None, Option, sym, refl, ap, subst, ◌∙◌}
use Rattle.std.specs.Prelude.{slice_get}
use Rattle.std.specs.List.{AllByRecursion}
use Rattle.std.specs.Option.{option_map}
use Rattle.std.proofs.lemmas.Option.{same_Some}
use mathlib.Core.Option.{some}
use lib.ListN.{get_elem?}
use Rattle.sb_shown.specs.base.records.Reading.{◌>>=◌}
use Rattle.sb_shown.specs.base.records.declared.item.Record.{Record}
use Rattle.sb_shown.specs.core.declared.held.Held.{Held}
use Rattle.sb_shown.specs.core.containers.declared.container.CoreLane.{CoreLane}
use Rattle.sb_shown.specs.core.declared.moment.Moment.{Moment}
use Rattle.sb_shown.specs.core.declared.moment.Node.{Node}
use Rattle.sb_shown.specs.core.Holdings.{IsClosing, IsHeld}
use Rattle.sb_shown.specs.core.containers.Marks.{first_is_closing}
use Rattle.sb_shown.specs.core.Moments.{lane_at}
use Rattle.sb_shown.specs.lane.LaneView.{LaneView, lane_of}
use Rattle.sb_shown.specs.lane.Links.{Link, down_of, link_in, links_of}
use Rattle.sb_shown.specs.lane.Placed.{conts_of}
use Rattle.sb_shown.specs.node.Changes.{HasLane}
use Rattle.sb_shown.proofs.Single.{get-map}
use Rattle.sb_shown.specs.node.declared.closing.Closing.{Closing}
use Rattle.sb_shared.specs.declared.telling.Change.{Change}
use Rattle.sb_shared.specs.declared.telling.Hands.{Hands}
use Rattle.sb_shared.specs.declared.telling.Piece.{Piece}
use Rattle.sb_shared.specs.declared.telling.Setting.{Setting}
use Rattle.sb_shared.specs.Doings.{close_of}
use Rattle.sb_shared.specs.Found.{IsFound}
use Rattle.sb_shared.specs.Linked.{HasLaneIn, is_pardo_at}
use Rattle.sb_shared.specs.Passing.{found}
use Rattle.sb_shared.specs.SharedNodes.{SharedView}
use Rattle.sb_shared.specs.Shown.{ShowsMoment, moment_of}
use Rattle.sb_shared.specs.Views.{all_in_hand, held_by}
use Rattle.sb_shared.proofs.links.MovedLanes.{NoneUnder}
use Rattle.sb_shared.proofs.links.UnsealedBelow.{none-under, pardo-first}

-- what is linked to a place has a link
pub down-linked : (e place : ℕ) (ks : List Link) → down_of e ks ≡ Some place → (x : Link) × (link_in e ks ≡ Some x) × (x.down ≡ Some place)
down-linked e place [] h = cc
down-linked e place (k ∷ ks) h = by_case (eqb k.epoch e) h (λ z. down-linked e place ks z)
  where
    by_case : (b : Bool) → cond b k.down (down_of e ks) ≡ Some place → (down_of e ks ≡ Some place → (x : Link) × (link_in e ks ≡ Some x) × (x.down ≡ Some place))
        → (x : Link) × (cond b (Some k) (link_in e ks) ≡ Some x) × (x.down ≡ Some place)
    by_case true h ih = (k, refl, h)
    by_case false h ih = ih h

module _ (a : Setting) (shelf : List (Option Piece)) (status : ℕ) (states : List SharedView) (logs : List (List Change)) (views : List Hands) (r : ShowsMoment a shelf status states logs views) where
  -- the moment that is shown
  abbrev m : Moment
  m = moment_of a.bundle r.parts (all_in_hand views shelf) r.rows

  -- the lanes of the moment
  pub lane-shown : (k l : ℕ) (lane : LaneView) → HasLaneIn k l lane states → lane_at m (record { node = k; lane = l }) ≡ Some (lane_of lane)
  lane-shown k l lane has =
      let s = r.shown k has.state has.there in
      ap (λ (o : Option Node). o >>= λ n. slice_get n.lanes l) s.1 ∙ ap (λ ls. slice_get ls l) s.2.lanes ∙ get-map lane_of has.state.own.lanes.items l lane has.in_it

  -- an epoch that node k has no container of has none below, if it is not sealed there
  pub none-below : (later : List Hands) (k : ℕ) (own : LaneView) → is_pardo_at a k ≡ true → HasLaneIn k 0 own states → (e : ℕ) → link_in e (links_of own.containers) ≡ None → NoneUnder a states views later k e
  none-below later k own pardo has e none under u from =
      let n = none-under a.plan r.plan m r.sound k u.step own under u.is pardo (lane-shown k 0 own has) (lane-shown u.step.down.node u.step.down.lane under u.has) e none from in
      ap (option_map (λ (k : Link). k.place)) n

  -- ---- of a node that a pass enters
  module _ (k : ℕ) (x : SharedView) (here : get_elem? states k ≡ some x) where
    -- a lane of the node is one of all
    pub lane-here : (l : ℕ) (lane : LaneView) → HasLane l lane x.own → HasLaneIn k l lane states
    lane-here l lane has = record { state = x; there = here; in_it = has }

    -- a transform of single records has one lane
    pub first-lane : (l : ℕ) (lane : LaneView) → is_pardo_at a k ≡ true → HasLane l lane x.own → l ≡ 0
    first-lane l lane pardo has = pardo-first a.plan r.plan m r.sound k l (lane_of lane) pardo (lane-shown k l lane (lane-here l lane has))

    -- the first container of a closing's lane is closing
    pub closing-here : (id : ℕ) (w : Hands) → get_elem? views id ≡ some w → (c : Closing) (rows : List Record) (passed : Bool) → c.node ≡ k → held_by w ≡ close_of c rows passed ∷ [] → (lane : LaneView) → HasLane c.lane lane x.own → first_is_closing (conts_of lane.containers) ≡ true
    closing-here id w at c rows passed node has lane in_it =
        let f : IsFound a w k x = found a shelf status states logs views id k w x r here at in
        let held : f.moment.held ≡ close_of c rows passed ∷ f.rest = f.held ∙ ap (λ (l : List Held). l ++ f.rest) has in
        let h : IsClosing a.plan f.moment c.node c.lane c.epoch c.serial c.floor c.mark rows passed = (subst (AllByRecursion (IsHeld a.plan f.moment)) held f.sound.holds).0 in
        let shown : lane_at f.moment (record { node = c.node; lane = c.lane }) ≡ Some (lane_of lane) =
        ap (λ n. slice_get f.moment.nodes n >>= λ p. slice_get p.lanes c.lane) node
        ∙ ap (λ (o : Option Node). o >>= λ p. slice_get p.lanes c.lane) f.there
        ∙ ap (λ ls. slice_get ls c.lane) f.shown.lanes ∙ get-map lane_of x.own.lanes.items c.lane lane in_it in
        let same : h.lane ≡ lane_of lane = same_Some h.lane (lane_of lane) (sym h.there ∙ shown) in
        ap (λ (z : CoreLane). first_is_closing z.conts) (sym same) ∙ h.closing
