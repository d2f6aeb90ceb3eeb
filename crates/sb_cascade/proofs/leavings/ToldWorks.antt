-- A leaving has done its change with a bundle in hand, by what is told of the bundle.
use Rattle.std.proofs.Common.{◌≡◌, ℕ, ◌+◌, ◌-◌, ◌^◌, ◌<◌, Bool, true, false, List, [], ◌∷◌, length, Some, None, Option, sym, refl, ap, ◌∙◌, subst, arith, ⊎_elim}
use Rattle.std.specs.Prelude.{◌||◌, IfSome, is_some, unwrap_or}
use Rattle.std.specs.declared.snapshot.Snapshot.{Snapshot}
use Rattle.sb_hand.specs.base.records.declared.item.Record.{Record}
use Rattle.sb_hand.specs.base.pipeline.declared.transform.Down.{Down}
use Rattle.sb_hand.specs.base.pipeline.Operators.{Operator}
use Rattle.sb_hand.specs.base.pipeline.Operators.Operator.{ParDo, Windowed, Sink}
use Rattle.sb_hand.specs.core.containers.Choices.{is_empty}
use Rattle.sb_hand.specs.core.Closings.{delivery, is_pardo}
use Rattle.sb_hand.specs.core.Events.{below}
use Rattle.sb_hand.specs.core.containers.Lanes.{with_arrival}
use Rattle.sb_hand.specs.diary.declared.event.DiaryEvent.TheVariants as line
use Rattle.sb_hand.specs.lane.LaneView.{LaneView, lane_of}
use Rattle.sb_hand.specs.lane.Placed.{conts_of}
use Rattle.sb_hand.specs.lane.Taking.{finish_first}
use Rattle.sb_hand.specs.node.Keeping.{IsPartFor}
use Rattle.sb_hand.specs.node.Changes.{Absorbs, Turns}
use Rattle.sb_hand.specs.work.declared.claim.Claim.{Claim}
use Rattle.sb_hand.specs.work.declared.outputs.Part.{Part}
use Rattle.sb_hand.specs.work.Processing.{IsPart}
use Rattle.sb_shared.specs.declared.telling.Change.TheVariants.{Deliver, Finish}
use Rattle.sb_shared.specs.declared.telling.Hands.{Hands}
use Rattle.sb_shared.specs.declared.telling.Setting.{Setting}
use Rattle.sb_cascade.specs.Calls.{given_count}
use Rattle.sb_shared.specs.Doings.{work_of}
use Rattle.sb_shared.specs.SharedNodes.{ChangesOwn, SharedView}
use Rattle.sb_shared.specs.Shown.{operator_of}
use Rattle.sb_shared.specs.Views.{held_by}
use Rattle.sb_cascade.specs.Working.{NeedsNoPart}
use Rattle.sb_shared.proofs.leavings.Acts.{Acts}
use Rattle.sb_shared.proofs.leavings.ActsOfParts.{finishes_part}
use Rattle.sb_shared.proofs.leavings.HeldEvents.{delivers, finishes-given}

-- a list with something in it is not empty
pub not_empty : (rows : List Record) → 0 < length rows → is_empty rows ≡ false
not_empty [] h = absurd (omega arith)
not_empty (r ∷ rows) h = refl

-- a node that takes a part in is no transform of single records
pub part_gathers : (op : Operator) (lane : ℕ) (records : List Record) (part : Part) → IsPart op lane records part → is_pardo op ≡ false
part_gathers (ParDo op) lane records part h = absurd h
part_gathers (Windowed g) lane records part h = refl
part_gathers Sink lane records part h = refl

-- what is so anyway is so of what is there
pub anyway : {X : Type 0} {P : Type 0} (o : Option X) → P → IfSome o (λ x. P)
anyway None p = tt
anyway (Some x) p = p

module _ (a : Setting) (c : Claim) where
  -- a pass counts what a bundle gave exactly if it is delivered
  pub counts_given : (delivered : Bool) → is_some (given_count a (Some (work_of c delivered))) ≡ delivered
  counts_given true = refl
  counts_given false = refl

  -- and it counts what the bundle gives
  count_given : (delivered : Bool) → NeedsNoPart (operator_of a c.node) c.bundle.records delivered → unwrap_or (given_count a (Some (work_of c delivered))) 0 ≡ length (delivery (operator_of a c.node) c.bundle.records)
  count_given true needs = refl
  count_given false needs = ⊎_elim (λ e. absurd (cc e)) (λ e. ap (λ (l : List Record). length l) (sym e)) needs.done

  -- as the core asks
  done_given : (delivered : Bool) → NeedsNoPart (operator_of a c.node) c.bundle.records delivered → (delivered || is_empty (delivery (operator_of a c.node) c.bundle.records)) ≡ true
  done_given true needs = refl
  done_given false needs = ⊎_elim (λ e. absurd (cc e)) (λ e. ap (λ (l : List Record). is_empty l) e) needs.done

module _ (a : Setting) (w : Hands) (seen k : ℕ) (x y : SharedView) (t : Snapshot Claim) where
  -- what a transform of single records gives for a bundle is put below
  pub delivers_told : (c : Claim) → t.value ≡ c → (place : ℕ) (d : Down) (given : List Record) (lane : LaneView) (links : LaneView → LaneView → Type 0) → below a.plan c.node ≡ Some d → d.node ≡ k
      → given ≡ delivery (operator_of a c.node) c.bundle.records → 0 < length given → lane.arrived < 2 ^ 64 - 1
      → ChangesOwn (Turns d.lane lane (with_arrival c.bundle.epoch c.bundle.floor given (lane_of lane)) links (line.Arrive d.lane c.bundle.epoch (lane.arrived + 1) (length given))) x y
      → held_by w ≡ work_of c false ∷ [] → Acts a w seen k x y (Deliver t place)
  delivers_told c told place d given lane links under here gives some room own one =
      subst
      (λ (z : Claim). below a.plan z.node ≡ Some d → given ≡ delivery (operator_of a z.node) z.bundle.records
      → ChangesOwn (Turns d.lane lane (with_arrival z.bundle.epoch z.bundle.floor given (lane_of lane)) links (line.Arrive d.lane z.bundle.epoch (lane.arrived + 1) (length given))) x y
      → held_by w ≡ work_of z false ∷ [] → Acts a w seen k x y (Deliver t place))
      told (λ under gives own one. delivers a w seen k x y t place d given lane links under here gives (not_empty given some) room own one) under gives own one

  -- a bundle of a transform of single records is done with, of which the pass counts what was delivered
  pub finishes_given_told : (c : Claim) → t.value ≡ c → (delivered so : Bool) (count : ℕ) (given : Option ℕ) (lane : LaneView) (links : LaneView → LaneView → Type 0) → c.node ≡ k → NeedsNoPart (operator_of a c.node) c.bundle.records delivered
      → given ≡ given_count a (Some (work_of c delivered)) → count ≡ unwrap_or given 0 → so ≡ is_some given
      → ChangesOwn (Turns c.lane lane (record (lane_of lane) { conts = finish_first c.bundle.epoch c.bundle.number (conts_of lane.containers) }) links (line.Finish c.lane c.bundle.number count)) x y
      → held_by w ≡ work_of c delivered ∷ [] → Acts a w seen k x y (Finish t so)
  finishes_given_told c told delivered so count given lane links here needs known counted says own one =
      subst (λ b. Acts a w seen k x y (Finish t b)) (sym (says ∙ ap is_some known ∙ counts_given a c delivered))
      (subst
      (λ (z : Claim). z.node ≡ k → is_pardo (operator_of a z.node) ≡ true → count ≡ length (delivery (operator_of a z.node) z.bundle.records) → (delivered || is_empty (delivery (operator_of a z.node) z.bundle.records)) ≡ true
      → ChangesOwn (Turns z.lane lane (record (lane_of lane) { conts = finish_first z.bundle.epoch z.bundle.number (conts_of lane.containers) }) links (line.Finish z.lane z.bundle.number count)) x y
      → held_by w ≡ work_of z delivered ∷ [] → Acts a w seen k x y (Finish t delivered))
      told (finishes-given a w seen k x y t delivered count lane links) here needs.pardo
      (counted ∙ ap (λ o. unwrap_or o 0) known ∙ count_given a c delivered needs) (done_given a c delivered needs) own one)

  -- a node takes its part of a bundle in
  pub finishes_part_told : (c : Claim) → t.value ≡ c → (lane : LaneView) (part : Part) → c.node ≡ k → IsPart (operator_of a k) c.lane c.bundle.records part → x.spent ≡ false → IsPartFor x.own.kept part c.lane c.bundle.records
      → ChangesOwn (Absorbs c.lane lane c.bundle.epoch c.bundle.number part) x y → held_by w ≡ work_of c false ∷ [] → Acts a w seen k x y (Finish t false)
  finishes_part_told c told lane part here is_part sane takes own one =
      subst
      (λ (z : Claim). z.node ≡ k → IsPartFor x.own.kept part z.lane z.bundle.records → ChangesOwn (Absorbs z.lane lane z.bundle.epoch z.bundle.number part) x y
      → held_by w ≡ work_of z false ∷ [] → Acts a w seen k x y (Finish t false))
      told (λ at takes own one. finishes_part a w seen k x y t lane part at (part_gathers (operator_of a k) c.lane c.bundle.records part is_part) sane takes own one) here takes own one
