-- A call that changed the state of a node so has done its change: of the events of what is in hand.
use Rattle.std.proofs.Common.{◌≡◌, ℕ, ◌+◌, ◌-◌, ◌^◌, ◌≤◌, ◌<◌, Bool, true, false, not, cond, eqb, List, [], ◌∷◌, ◌++◌, length, take, drop, Some, sym, refl, ap, ◌∙◌, inl, inr, arith, append-nil}
use Rattle.std.specs.Prelude.{◌&&◌, ◌||◌}
use Rattle.std.specs.List.{slice_get}
use Rattle.std.proofs.lemmas.Bool.{eq-eqb, ne_eqb}
use Rattle.std.specs.declared.snapshot.Snapshot.{Snapshot}
use Rattle.sb_shown.specs.base.records.declared.element.KeptRec.{KeptRec}
use Rattle.sb_shown.specs.base.records.declared.item.Record.{Record}
use Rattle.sb_shown.specs.base.records.Elements.{on_lane}
use Rattle.sb_shown.specs.base.pipeline.declared.transform.Down.{Down}
use Rattle.sb_shown.specs.base.pipeline.Operators.{Operator}
use Rattle.sb_shown.specs.base.pipeline.Operators.Operator.{ParDo, Windowed, Sink}
use Rattle.sb_shown.specs.core.containers.declared.container.CoreLane.{CoreLane}
use Rattle.sb_shown.specs.core.declared.moment.Node.{Node}
use Rattle.sb_shown.specs.core.declared.held.Held.{Held}
use Rattle.sb_shown.specs.core.declared.event.Event.TheVariants as event
use Rattle.sb_shown.specs.core.Bounds.{bound_at}
use Rattle.sb_shown.specs.core.containers.Choices.{is_empty}
use Rattle.sb_shown.specs.core.Closings.{kept_elements, delivery, is_pardo}
use Rattle.sb_shown.specs.core.Events.{below}
use Rattle.sb_shown.specs.core.containers.Lanes.{finish_in, next_epoch, with_arrival, with_seal}
use Rattle.sb_shown.specs.core.Moments.{set_lane}
use Rattle.sb_shown.specs.core.Parts.{only_node, put_in}
use Rattle.sb_shown.specs.diary.declared.event.DiaryEvent.{DiaryEvent}
use Rattle.sb_shown.specs.diary.declared.event.DiaryEvent.TheVariants as line
use Rattle.sb_shown.specs.tally.Written as written
use Rattle.sb_shown.specs.tally.Written.{arrival_line, seal_line}
use Rattle.sb_shown.specs.lane.LaneView.{LaneView, lane_of}
use Rattle.sb_shown.specs.lane.Placed.{conts_of}
use Rattle.sb_shown.specs.lane.Taking.{finish_first}
use Rattle.sb_shown.specs.node.Changes.{Turns}
use Rattle.sb_shown.specs.node.declared.closing.Closing.{Closing}
use Rattle.sb_shown.specs.work.declared.claim.Claim.{Claim}
use Rattle.sb_shown.proofs.LaneEvents.{put-is}
use Rattle.sb_shown.proofs.lane.InTheCore.{finish_first-is}
use Rattle.sb_shown.proofs.Single.{chain, passing}
use Rattle.sb_shared.specs.declared.telling.Change.TheVariants.{Deliver, End, Finish, Pass, Rows}
use Rattle.sb_shared.specs.declared.telling.Hands.{Hands}
use Rattle.sb_shared.specs.declared.telling.Setting.{Setting}
use Rattle.sb_shared.specs.Doings.{close_of, work_of}
use Rattle.sb_shared.specs.Found.{IsFound}
use Rattle.sb_shared.specs.SharedNodes.{ChangesOwn, SharedView}
use Rattle.sb_shared.specs.Shown.{operator_of}
use Rattle.sb_shared.specs.Views.{held_by}
use Rattle.sb_shared.proofs.leavings.Acts.{Acts}
use Rattle.sb_shared.proofs.links.LaneTurns.{LaneTurns, acts-held, lane-in, of-turns, the-lane_is}
use Rattle.sb_shared.proofs.entered.WorkNumbers.{work-is, work-number}

-- what is in hand is in the moment that was found
pub in-hand : (a : Setting) (w : Hands) (k : ℕ) (x : SharedView) (h : Held) (f : IsFound a w k x) → held_by w ≡ h ∷ [] → f.moment.held ≡ h ∷ f.rest
in-hand a w k x h f one = f.held ∙ ap (λ (hs : List Held). hs ++ f.rest) one

-- a transform of single records takes nothing in
takes_none_in : (op : Operator) (es : List KeptRec) → is_pardo op ≡ true → kept_elements op es ≡ []
takes_none_in (ParDo op) es h = refl
takes_none_in (Windowed g) es h = cc
takes_none_in Sink es h = cc

module _ (a : Setting) (w : Hands) (seen k : ℕ) (x y : SharedView) where
  -- what a transform of single records gives for a bundle is put below
  pub delivers : (t : Snapshot Claim) (place : ℕ) (d : Down) (given : List Record) (lane : LaneView) (links : LaneView → LaneView → Type 0) → below a.plan t.value.node ≡ Some d → d.node ≡ k
      → given ≡ delivery (operator_of a t.value.node) t.value.bundle.records → is_empty given ≡ false → lane.arrived < 2 ^ 64 - 1
      → ChangesOwn (Turns d.lane lane (with_arrival t.value.bundle.epoch t.value.bundle.floor given (lane_of lane)) links (line.Arrive d.lane t.value.bundle.epoch (lane.arrived + 1) (length given))) x y
      → held_by w ≡ work_of t.value false ∷ [] → Acts a w seen k x y (Deliver t place)
  delivers t place d given lane links under at gives some room own one =
      let n = t.value.node in
      let l = t.value.lane in
      let b = t.value.bundle in
      let e = event.Deliver n l b.number in
      let left : List Held = work_of t.value true ∷ [] in
      let later = with_arrival b.epoch b.floor given (lane_of lane) in
      let told : DiaryEvent = line.Arrive d.lane b.epoch (lane.arrived + 1) (length given) in
      let turns : LaneTurns d.lane lane later told x y = of-turns d.lane lane told x y later links own in
      acts-held a w seen k x y d.lane lane later told turns (inl refl) (Deliver t place) e (work_of t.value false) left refl refl
      (chain (below a.plan n) _ d _ under (ap Some at)) one refl
      (λ f. let number : 1 ≤ b.number = work-number a.plan f.moment n l b.epoch b.floor b.number b.records false f.rest f.sound (in-hand a w k x (work_of t.value false) f one) in
      ap (λ z. cond z false ((eqb n n) && ((eqb l l) && (eqb b.number b.number)))) (ne_eqb b.number 0 (λ z. absurd (omega (arith, number))))
      ∙ work-is n l b.epoch b.floor b.number b.records false)
      (λ f. chain (below a.plan n) _ d _ under
      (passing _ _ _ (ap (λ z. not (is_empty z)) (sym gives) ∙ ap not some)
      (ap (λ z. put_in d.lane b.epoch b.floor z left f.part) (sym gives)
      ∙ put-is d.lane b.epoch b.floor given left f.part (lane_of lane) (lane-in a w seen k x y d.lane lane later told turns f) room)))
      (λ f. (λ i. arrival_line (written.lane_of (under i)) b.epoch (sym gives i) f.part)
      ∙ ap (λ (z : CoreLane). line.Arrive d.lane b.epoch (z.arrived + 1) (length given)) (the-lane_is a w seen k x y d.lane lane later told turns f))

  -- the next rows of a closing are put below
  pub rows-go : (t : Snapshot Closing) (first most place : ℕ) (d : Down) (given : List Record) (lane : LaneView) (links : LaneView → LaneView → Type 0) → most ≡ a.bundle → below a.plan t.value.node ≡ Some d → d.node ≡ k
      → given ≡ take most (drop first t.value.rows.items) → is_empty (drop first t.value.rows.items) ≡ false → lane.arrived < 2 ^ 64 - 1
      → ChangesOwn (Turns d.lane lane (with_arrival t.value.serial t.value.floor given (lane_of lane)) links (line.Arrive d.lane t.value.serial (lane.arrived + 1) (length given))) x y
      → held_by w ≡ close_of t.value (drop first t.value.rows.items) false ∷ [] → Acts a w seen k x y (Rows t first most place)
  rows-go t first most place d given lane links is under at gives some room own one =
      let n = t.value.node in
      let l = t.value.lane in
      let rows = drop first t.value.rows.items in
      let next : take a.bundle rows ≡ given = ap (λ z. take z rows) (sym is) ∙ sym gives in
      let left : List Held = close_of t.value (drop a.bundle rows) false ∷ [] in
      let later = with_arrival t.value.serial t.value.floor given (lane_of lane) in
      let told : DiaryEvent = line.Arrive d.lane t.value.serial (lane.arrived + 1) (length given) in
      let turns : LaneTurns d.lane lane later told x y = of-turns d.lane lane told x y later links own in
      acts-held a w seen k x y d.lane lane later told turns (inl refl) (Rows t first most place) (event.Deliver n l 0) (close_of t.value rows false) left refl refl
      (chain (below a.plan n) _ d _ under (ap Some at)) one (ap (λ z. close_of t.value (drop z rows) false ∷ []) is)
      (λ f i. eq-eqb n n refl i && eq-eqb l l refl i)
      (λ f. chain (below a.plan n) _ d _ under
      (passing _ _ _ (ap not some)
      (ap (λ z. put_in d.lane t.value.serial t.value.floor z left f.part) next
      ∙ put-is d.lane t.value.serial t.value.floor given left f.part (lane_of lane) (lane-in a w seen k x y d.lane lane later told turns f) room)))
      (λ f. (λ i. arrival_line (written.lane_of (under i)) t.value.serial (next i) f.part)
      ∙ ap (λ (z : CoreLane). line.Arrive d.lane t.value.serial (z.arrived + 1) (length given)) (the-lane_is a w seen k x y d.lane lane later told turns f))

  -- the mark of a closing, of which no rows are left, is passed below
  pub passes : (t : Snapshot Closing) (d : Down) (lane : LaneView) (links : LaneView → LaneView → Type 0) → below a.plan t.value.node ≡ Some d → d.node ≡ k
      → ChangesOwn (Turns d.lane lane (with_seal t.value.mark (lane_of lane)) links (line.Seal d.lane (next_epoch (lane_of lane)) t.value.mark)) x y
      → held_by w ≡ close_of t.value [] false ∷ [] → Acts a w seen k x y (Pass t)
  passes t d lane links under at own one =
      let n = t.value.node in
      let left : List Held = close_of t.value [] true ∷ [] in
      let later = with_seal t.value.mark (lane_of lane) in
      let told : DiaryEvent = line.Seal d.lane (next_epoch (lane_of lane)) t.value.mark in
      let turns : LaneTurns d.lane lane later told x y = of-turns d.lane lane told x y later links own in
      acts-held a w seen k x y d.lane lane later told turns (inr (t.value.mark, refl)) (Pass t) (event.Pass n) (close_of t.value [] false) left refl refl
      (chain (below a.plan n) _ d _ under (ap Some at)) one refl
      (λ f. eq-eqb n n refl)
      (λ f. chain (below a.plan n) _ d _ under (chain (slice_get f.part.lanes d.lane) _ (lane_of lane) _ (lane-in a w seen k x y d.lane lane later told turns f) (passing _ _ _ refl refl)))
      (λ f. (λ i. seal_line (written.lane_of (under i)) t.value.mark f.part)
      ∙ ap (λ (z : CoreLane). line.Seal d.lane (next_epoch z) t.value.mark) (the-lane_is a w seen k x y d.lane lane later told turns f))

  -- a closing ends
  pub ends : (t : Snapshot Closing) (lane : LaneView) (links : LaneView → LaneView → Type 0) → t.value.node ≡ k
      → ChangesOwn (Turns t.value.lane lane (record (lane_of lane) { conts = drop 1 (conts_of lane.containers); ended = lane.ended + 1 }) links (line.End t.value.lane t.value.epoch)) x y
      → held_by w ≡ close_of t.value [] true ∷ [] → Acts a w seen k x y (End t)
  ends t lane links at own one =
      let n = t.value.node in
      let l = t.value.lane in
      let later : CoreLane = record (lane_of lane) { conts = drop 1 (conts_of lane.containers); ended = lane.ended + 1 } in
      let told : DiaryEvent = line.End l t.value.epoch in
      let turns : LaneTurns l lane later told x y = of-turns l lane told x y later links own in
      acts-held a w seen k x y l lane later told turns (inl refl) (End t) (event.End n) (close_of t.value [] true) [] refl refl (ap Some at) one refl
      (λ f. eq-eqb n n refl)
      (λ f. chain (slice_get f.part.lanes l) _ (lane_of lane) _ (lane-in a w seen k x y l lane later told turns f) refl)
      (λ f. refl)

  -- a bundle of a transform of single records is done with, if what it gives is delivered
  pub finishes-given : (t : Snapshot Claim) (delivered : Bool) (count : ℕ) (lane : LaneView) (links : LaneView → LaneView → Type 0) → t.value.node ≡ k → is_pardo (operator_of a t.value.node) ≡ true
      → count ≡ length (delivery (operator_of a t.value.node) t.value.bundle.records) → (delivered || is_empty (delivery (operator_of a t.value.node) t.value.bundle.records)) ≡ true
      → ChangesOwn (Turns t.value.lane lane (record (lane_of lane) { conts = finish_first t.value.bundle.epoch t.value.bundle.number (conts_of lane.containers) }) links (line.Finish t.value.lane t.value.bundle.number count)) x y
      → held_by w ≡ work_of t.value delivered ∷ [] → Acts a w seen k x y (Finish t delivered)
  finishes-given t delivered count lane links at pardo counts done own one =
      let n = t.value.node in
      let l = t.value.lane in
      let b = t.value.bundle in
      let op = operator_of a n in
      let later : CoreLane = record (lane_of lane) { conts = finish_first b.epoch b.number (conts_of lane.containers) } in
      let told : DiaryEvent = line.Finish l b.number count in
      let turns : LaneTurns l lane later told x y = of-turns l lane told x y later links own in
      acts-held a w seen k x y l lane later told turns (inl refl) (Finish t delivered) (event.Finish n l b.number) (work_of t.value delivered) [] refl refl (ap Some at) one refl
      (λ f. work-is n l b.epoch b.floor b.number b.records delivered)
      (λ f. let in_it = lane-in a w seen k x y l lane later told turns f in
      let ok = f.sound.lanes (record { node = k; lane = l }) (lane_of lane) (chain (slice_get f.moment.nodes k) (λ (z : Node). slice_get z.lanes l) f.part (lane_of lane) f.there in_it) in
      let is : finish_in b.epoch b.number (conts_of lane.containers) ≡ finish_first b.epoch b.number (conts_of lane.containers) = sym (finish_first-is (bound_at a.plan k) b.epoch b.number (lane_of lane) ok) in
      let none : f.part.kept ++ kept_elements op (on_lane l b.records) ≡ f.part.kept = ap (λ es. f.part.kept ++ es) (takes_none_in op (on_lane l b.records) pardo) ∙ append-nil f.part.kept in
      chain (slice_get f.part.lanes l) _ (lane_of lane) _ in_it
      (passing _ _ _ done (λ i. Some (only_node [] (record (set_lane l (record (lane_of lane) { conts = is i }) f.part) { kept = none i })))))
      (λ f. ap (λ z. line.Finish l b.number z) (sym counts))
