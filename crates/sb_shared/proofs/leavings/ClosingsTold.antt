-- A call that changed the state of a node so has done its change, told by a snapshot of the closing in hand.
use Rattle.std.proofs.Common.{◌≡◌, ℕ, ◌+◌, ◌-◌, ◌^◌, ◌<◌, Bool, true, false, List, [], ◌∷◌, length, take, drop, Option, Some, sym, refl, ap, ◌∙◌, subst}
use Rattle.std.specs.declared.snapshot.Snapshot.{Snapshot}
use Rattle.sb_shown.specs.base.records.declared.item.Record.{Record}
use Rattle.sb_shown.specs.base.pipeline.declared.transform.Down.{Down}
use Rattle.sb_shown.specs.core.containers.Choices.{is_empty}
use Rattle.sb_shown.specs.core.Closings.{is_sink}
use Rattle.sb_shown.specs.core.Events.{below}
use Rattle.sb_shown.specs.core.containers.Lanes.{next_epoch, with_arrival, with_seal}
use Rattle.sb_shown.specs.diary.declared.event.DiaryEvent.TheVariants as line
use Rattle.sb_shown.specs.lane.LaneView.{LaneView, lane_of}
use Rattle.sb_shown.specs.lane.Placed.{conts_of}
use Rattle.sb_shown.specs.node.Changes.{Turns}
use Rattle.sb_shown.specs.node.LinkChanges.{DropsLink, GetsPlace, LinksStay}
use Rattle.sb_shown.specs.node.declared.closing.Closing.{Closing}
use Rattle.sb_shared.specs.declared.telling.Change.TheVariants.{Begin, End, Pass, Rows}
use Rattle.sb_shared.specs.declared.telling.Hands.{Hands}
use Rattle.sb_shared.specs.declared.telling.Setting.{Setting}
use Rattle.sb_shared.specs.Doings.{close_of}
use Rattle.sb_shared.specs.Leavings.{Does}
use Rattle.sb_shared.specs.Linked.{PlacesNext, SetsLinks, SetsLinksAt}
use Rattle.sb_shared.specs.SharedNodes.{BeginsAt, ChangesOwn, PutsAt, SharedView}
use Rattle.sb_shared.specs.Shown.{operator_of}
use Rattle.sb_shared.specs.Views.{held_by}
use Rattle.sb_shared.proofs.leavings.ActsOfBeginnings.{begins_as}
use Rattle.sb_shared.proofs.feeds.FeedOfChanges.{does-so}
use Rattle.sb_shared.proofs.leavings.HeldEvents.{ends, passes, rows-go}
use Rattle.sb_shared.proofs.links.LinksOwed.{begin-sets, end-sets, put-sets, seal-sets}

-- a place below, by the number of its node
at_node : {o : Option Down} (d : Down) (k : ℕ) → o ≡ Some d → d.node ≡ k → o ≡ Some (record { node = k; lane = d.lane })
at_node d k is here = is ∙ ap (λ n. Some (record { node = n; lane = d.lane })) here

module _ (a : Setting) (w : Hands) (seen k : ℕ) (x y : SharedView) (t : Snapshot Closing) (c : Closing) (told : t.value ≡ c) where
  -- a closing begins
  pub begins_does : (sink : Bool) → is_sink (operator_of a k) ≡ sink → c.node ≡ k → BeginsAt sink c x y → held_by w ≡ [] → Does a w seen k x y (Begin t sink)
  begins_does sink is here begins free =
      does-so a w seen k x y (Begin t sink) refl
      (begins_as a w seen k x y t sink is (ap (λ (z : Closing). z.node) told ∙ here) (subst (λ (z : Closing). BeginsAt sink z x y) (sym told) begins) free)
      (subst (λ (z : Closing). SetsLinks z.lane 0 LinksStay x y) (sym told) (begin-sets sink c x y begins))

  -- the next rows of a closing are put below
  pub rows_does : (first most place : ℕ) (d : Down) (given : List Record) (lane : LaneView) → most ≡ a.bundle → below a.plan c.node ≡ Some d → d.node ≡ k
      → given ≡ take most (drop first c.rows.items) → is_empty (drop first c.rows.items) ≡ false → lane.arrived < 2 ^ 64 - 1
      → ChangesOwn (Turns d.lane lane (with_arrival c.serial c.floor given (lane_of lane)) (PutsAt c.serial place) (line.Arrive d.lane c.serial (lane.arrived + 1) (length given))) x y
      → held_by w ≡ close_of c (drop first c.rows.items) false ∷ [] → Does a w seen k x y (Rows t first most place)
  rows_does first most place d given lane is under here gives some room own one =
      does-so a w seen k x y (Rows t first most place) refl
      (rows-go a w seen k x y t first most place d given lane (PutsAt c.serial place) is
      (ap (λ (z : Closing). below a.plan z.node) told ∙ under) here
      (gives ∙ ap (λ (z : Closing). take most (drop first z.rows.items)) (sym told))
      (ap (λ (z : Closing). is_empty (drop first z.rows.items)) told ∙ some) room
      (subst (λ (z : Closing). ChangesOwn (Turns d.lane lane (with_arrival z.serial z.floor given (lane_of lane)) (PutsAt c.serial place) (line.Arrive d.lane z.serial (lane.arrived + 1) (length given))) x y) (sym told) own)
      (one ∙ ap (λ (z : Closing). close_of z (drop first z.rows.items) false ∷ []) (sym told)))
      (subst (λ (z : Closing). SetsLinksAt (below a.plan z.node) k 0 (PutsAt z.serial place) x y) (sym told)
      (record { lane = d.lane; place_is = at_node d k under here; sets = put-sets d.lane c.serial c.floor place given lane _ x y own }))

  -- the mark of a closing, of which no rows are left, is passed below
  pub passes_does : (d : Down) (lane : LaneView) → below a.plan c.node ≡ Some d → d.node ≡ k
      → ChangesOwn (Turns d.lane lane (with_seal c.mark (lane_of lane)) (GetsPlace (length lane.marks)) (line.Seal d.lane (next_epoch (lane_of lane)) c.mark)) x y
      → held_by w ≡ close_of c [] false ∷ [] → Does a w seen k x y (Pass t)
  passes_does d lane under here own one =
      does-so a w seen k x y (Pass t) refl
      (passes a w seen k x y t d lane (GetsPlace (length lane.marks)) (ap (λ (z : Closing). below a.plan z.node) told ∙ under) here
      (subst (λ (z : Closing). ChangesOwn (Turns d.lane lane (with_seal z.mark (lane_of lane)) (GetsPlace (length lane.marks)) (line.Seal d.lane (next_epoch (lane_of lane)) z.mark)) x y) (sym told) own)
      (one ∙ ap (λ (z : Closing). close_of z [] false ∷ []) (sym told)))
      (subst (λ (z : Closing). SetsLinksAt (below a.plan z.node) k 1 PlacesNext x y) (sym told)
      (record { lane = d.lane; place_is = at_node d k under here; sets = seal-sets d.lane c.mark lane _ x y own }))

  -- a closing ends
  pub ends_does : (lane : LaneView) → c.node ≡ k
      → ChangesOwn (Turns c.lane lane (record (lane_of lane) { conts = drop 1 (conts_of lane.containers); ended = lane.ended + 1 }) DropsLink (line.End c.lane c.epoch)) x y
      → held_by w ≡ close_of c [] true ∷ [] → Does a w seen k x y (End t)
  ends_does lane here own one =
      does-so a w seen k x y (End t) refl
      (ends a w seen k x y t lane DropsLink (ap (λ (z : Closing). z.node) told ∙ here)
      (subst (λ (z : Closing). ChangesOwn (Turns z.lane lane (record (lane_of lane) { conts = drop 1 (conts_of lane.containers); ended = lane.ended + 1 }) DropsLink (line.End z.lane z.epoch)) x y) (sym told) own)
      (one ∙ ap (λ (z : Closing). close_of z [] true ∷ []) (sym told)))
      (subst (λ (z : Closing). SetsLinks z.lane 0 DropsLink x y) (sym told) (end-sets c.lane lane _ x y own))
