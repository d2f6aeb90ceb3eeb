-- An event that changes one lane of one node and no more of it.
use Rattle.std.proofs.Common.{◌≡◌, ℕ, ◌-◌, ◌<◌, ◌^◌, true, List, [], ◌∷◌, ◌++◌, map, Some, sym, refl, ap, subst, ◌∙◌}
use Rattle.std.specs.List.{slice_get, slice_set}
use Rattle.std.proofs.lemmas.Bool.{lt-ltb}
use Rattle.std.proofs.lemmas.List.{map-set}
use Rattle.sb_node.specs.base.records.declared.item.Record.{Record}
use Rattle.sb_node.specs.base.pipeline.Shapes.{Shape}
use Rattle.sb_node.specs.base.pipeline.Plans.{IsPlan}
use Rattle.sb_node.specs.base.pipeline.Operators.{Operator, operator_at}
use Rattle.sb_tally.specs.core.containers.declared.container.CoreLane.{CoreLane}
use Rattle.sb_tally.specs.core.declared.moment.Node.{Node}
use Rattle.sb_tally.specs.core.declared.moment.Moment.{Moment}
use Rattle.sb_tally.specs.core.declared.held.Held.{Held}
use Rattle.sb_tally.specs.core.declared.event.Event.{Event}
use Rattle.sb_tally.specs.core.containers.Lanes.{with_arrival}
use Rattle.sb_tally.specs.core.Laws.{place_of, concerns}
use Rattle.sb_tally.specs.core.containers.Marks.{least_begun_mark}
use Rattle.sb_tally.specs.core.Moments.{set_lane, empty_lane}
use Rattle.sb_tally.specs.core.Parts.{only_node, put_in, part_after, held_after, with_part}
use Rattle.sb_tally.specs.core.Soundness.{IsSound}
use Rattle.sb_tally.proofs.core.exact.Nodes.{slice_get-set_same}
use Rattle.sb_node.specs.lane.LaneView.{LaneView, lane_of}
use Rattle.sb_node.specs.declared.state.NodeState.{NodeState}
use Rattle.sb_node.specs.declared.kept.Kept.{Kept}
use Rattle.sb_node.specs.Keeping.{IsMadeFor, IsSpent, ShowsKept, closed_mark}
use Rattle.sb_shown.specs.Sets.{SetsLane}
use Rattle.std.proofs.lemmas.Option.{get_or_from_slice_get}
use Rattle.sb_node.specs.diary.declared.event.DiaryEvent.{DiaryEvent}
use Rattle.sb_tally.specs.Written.{the_lane, line_after, held_line}
use Rattle.sb_shown.specs.Showing.{ShowsNode, IsKept, Stands, Reaches, diaries_of}
use Rattle.sb_shown.proofs.Calm.{SameMarks, calm}
use Rattle.sb_shown.proofs.Single.{chain, passing, get-map, event-free, event-held}

pub kept-stays : (op : Operator) (k with : Kept) (n now : Node) → with ≡ k → now.kept ≡ n.kept → least_begun_mark now.lanes ≡ least_begun_mark n.lanes → IsKept op k n → IsKept op with now
kept-stays op k with n now e f same h = record {
  made = subst (λ (x : Kept). IsMadeFor op x) (sym e) h.made;
  unspent = subst (λ (x : Kept). IsSpent x → ⊥) (sym e) h.unspent;
  closed_is = ap closed_mark e ∙ h.closed_is ∙ sym same;
  kept = subst (λ z. z) (λ i. ShowsKept op (sym e i) (sym f i)) h.kept;
}

pub put-is : (l epoch floor : ℕ) (records : List Record) (held : List Held) (n : Node) (lane : CoreLane) → slice_get n.lanes l ≡ Some lane → lane.arrived < 2 ^ 64 - 1
    → put_in l epoch floor records held n ≡ Some (only_node held (set_lane l (with_arrival epoch floor records lane) n))
put-is l epoch floor records held n lane at room = chain (slice_get n.lanes l) _ lane _ at (passing _ _ _ (lt-ltb lane.arrived (2 ^ 64 - 1) room) refl)

module _ (plan : Shape) (is_plan : IsPlan plan) (bundle : ℕ) (nodes new : List NodeState) (held : List Held) (rows : List Record) (m : Moment) (s : Stands plan bundle nodes held rows m) (k l : ℕ) (lane now : LaneView) (line : DiaryEvent) (sets : SetsLane k l lane now line nodes new) (n : Node) (at_m : slice_get m.nodes k ≡ Some n) where
  pub shown : ShowsNode (operator_at (slice_get plan.steps k)) sets.own n
  shown = s.each k sets.own n sets.there at_m

  pub lane_in : slice_get n.lanes l ≡ Some (lane_of lane)
  lane_in = ap (λ ls. slice_get ls l) shown.lanes ∙ get-map lane_of sets.own.lanes.items l lane sets.in_it

  pub the_lane-is : the_lane l n ≡ lane_of lane
  the_lane-is = get_or_from_slice_get n.lanes l (lane_of lane) empty_lane lane_in

  module _ (marks : SameMarks (lane_of lane) (lane_of now)) where
    shows : (rest held' : List Held) → IsSound plan (with_part k rest m (only_node held' (set_lane l (lane_of now) n))) → ShowsNode (operator_at (slice_get plan.steps k)) sets.with (set_lane l (lane_of now) n)
    shows rest held' still =
        let same : least_begun_mark (set_lane l (lane_of now) n).lanes ≡ least_begun_mark n.lanes = calm plan m (with_part k rest m (only_node held' (set_lane l (lane_of now) n))) s.sound still k l n (set_lane l (lane_of now) n) (lane_of lane) (lane_of now) at_m (slice_get-set_same m.nodes k n (set_lane l (lane_of now) n) at_m) lane_in refl refl marks in
        record {
          lanes = ap (λ ls. slice_set ls l (lane_of now)) shown.lanes ∙ sym (map-set lane_of sets.own.lanes.items l now) ∙ ap (map lane_of) (sym sets.lanes);
          closings = shown.closings ∙ sym sets.closings;
          kept = kept-stays (operator_at (slice_get plan.steps k)) sets.own.kept sets.with.kept n (set_lane l (lane_of now) n) sets.kept refl same shown.kept;
        }

    pub lane-free : (e : Event) (held' : List Held) → held ≡ [] → place_of plan e ≡ Some k → part_after plan bundle e n ≡ Some (only_node held' (set_lane l (lane_of now) n)) → line_after plan e n ≡ line → Reaches plan bundle (e ∷ []) m (diaries_of nodes) new (held ++ held') (rows ++ [])
    lane-free e held' none place h line_is =
        subst (λ (z : List NodeState). Reaches plan bundle (e ∷ []) m (diaries_of nodes) z (held ++ held') (rows ++ [])) (sym sets.set)
        (event-free plan is_plan bundle nodes held rows m s k sets.own sets.with n (only_node held' (set_lane l (lane_of now) n)) sets.there at_m e line none place h sets.diary line_is (shows held held'))

    pub lane-held : (e : Event) (h : Held) (held' : List Held) → held ≡ h ∷ [] → concerns e h ≡ true → place_of plan e ≡ Some k → held_after plan bundle e h n ≡ Some (only_node held' (set_lane l (lane_of now) n)) → held_line plan bundle e h n ≡ line → Reaches plan bundle (e ∷ []) m (diaries_of nodes) new held' (rows ++ [])
    lane-held e h held' only c place g line_is =
        subst (λ (z : List NodeState). Reaches plan bundle (e ∷ []) m (diaries_of nodes) z held' (rows ++ [])) (sym sets.set)
        (event-held plan is_plan bundle nodes held rows m s k sets.own sets.with n (only_node held' (set_lane l (lane_of now) n)) sets.there at_m e h line only c place g sets.diary line_is (shows [] held'))
