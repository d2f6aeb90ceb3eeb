-- A closing may begin in a node that a pass finds.
use Rattle.std.proofs.Common.{◌≡◌, ℕ, suc, ◌≤◌, false, not, List, [], ◌∷◌, length, map, Some, sym, refl, ap, ◌∙◌, arith}
use Rattle.std.specs.Prelude.{◌||◌, Ok}
use Rattle.std.specs.List.{slice_get, slice_set, list_any}
use Rattle.std.proofs.lemmas.List.{length-map}
use Rattle.sb_shown.specs.core.declared.event.Event.TheVariants.{Begin}
use Rattle.sb_shown.specs.core.containers.declared.container.CoreLane.{CoreLane}
use Rattle.sb_shown.specs.core.Bounds.{bound_at}
use Rattle.sb_shown.specs.core.containers.Lanes.{closable, with_first_closing}
use Rattle.sb_shown.specs.core.containers.Marks.{before_closing, first_is_closing, least_begun_mark}
use Rattle.sb_shown.specs.core.Parts.{Part, part_after}
use Rattle.sb_shown.proofs.core.parts.PartsLaw.{chain, parts-keep_sound, passing}
use Rattle.sb_shown.specs.lane.declared.answers.LaneClose.{LaneClose}
use Rattle.sb_shown.specs.lane.LaneView.{LaneView, lane_of}
use Rattle.sb_shown.specs.lane.Looks.{look_of}
use Rattle.sb_shown.specs.lane.Placed.{conts_of}
use Rattle.sb_shown.specs.node.Keeping.{closed_mark}
use Rattle.sb_shown.specs.node.Changes.{HasLane}
use Rattle.sb_shown.specs.node.Looking.{NoneClosing}
use Rattle.sb_shown.specs.node.Marking.{mark_for}
use Rattle.sb_shown.proofs.Steps.{begun_part}
use Rattle.sb_shown.proofs.lane.InTheCore.{MayClose, may-close}
use Rattle.sb_shown.proofs.ClosingMarks.{calm_before, mark_for-is}
use Rattle.sb_shared.specs.declared.telling.Hands.{Hands}
use Rattle.sb_shared.specs.declared.telling.Setting.{Setting}
use Rattle.sb_shared.specs.Found.{IsFound}
use Rattle.sb_shared.specs.SharedNodes.{SharedView}
use Rattle.sb_shared.specs.Shown.{operator_of}
use Rattle.sb_shared.proofs.entered.FoundLanes.{all_at, lane_in_part, lane_of_part, lane_ok, lanes_few}

module _ (a : Setting) (w : Hands) (k : ℕ) (x : SharedView) (f : IsFound a w k x) (l : ℕ) (lane : LaneView) (has : HasLane l lane x.own) (close : LaneClose) (looks : look_of (conts_of lane.containers) ≡ Ok close) (calm : NoneClosing x.own.lanes.items) where
  pub may : MayClose (lane_of lane) close
  may = may-close (bound_at a.plan k) (lane_of lane) close (lane_ok a w k x f l lane has) looks

  abbrev pub begun_lane : CoreLane
  begun_lane = record (lane_of lane) { conts = with_first_closing (conts_of lane.containers) }

  -- no lane of its part is closing
  none : (i : ℕ) (c : CoreLane) → slice_get f.part.lanes i ≡ Some c → first_is_closing c.conts ≡ false
  none i c h =
      let at = lane_of_part a w k x f i c h in
      sym (ap (λ (c : CoreLane). first_is_closing c.conts) at.2)
      ∙ all_at (λ (v : LaneView). first_is_closing (conts_of v.containers) ≡ false) x.own.lanes.items i at.0 calm at.1

  none_any : list_any (λ (c : CoreLane). first_is_closing c.conts) f.part.lanes ≡ false
  none_any = go f.part.lanes none
    where
      go : (lanes : List CoreLane) → ((i : ℕ) (c : CoreLane) → slice_get lanes i ≡ Some c → first_is_closing c.conts ≡ false) → list_any (λ (c : CoreLane). first_is_closing c.conts) lanes ≡ false
      go [] each = refl
      go (c ∷ lanes) each = (λ i. each 0 c refl i || go lanes (λ j y h. each (suc j) y h) i)

  -- the part after it
  abbrev pub begun : Part
  begun = begun_part (operator_of a k) k l f.part (lane_of lane) may.first

  pub begun_is : part_after a.plan a.bundle (Begin k l) f.part ≡ Some begun
  begun_is = chain (slice_get f.part.lanes l) _ (lane_of lane) _ (lane_in_part a w k x f l lane has) (chain (closable lane.ended (conts_of lane.containers)) _ may.first _ may.may (passing _ _ _ (ap not none_any) refl))

  -- its mark, and that of the closing before
  pub mark_is : least_begun_mark (slice_set f.part.lanes l begun_lane) ≡ mark_for l (map lane_of x.own.lanes.items)
  mark_is =
      mark_for-is l f.part.lanes (lane_of lane) may.first may.rest two (lane_in_part a w k x f l lane has) may.conts none ∙ ap (mark_for l) f.shown.lanes
    where
      two : length f.part.lanes ≤ 2
      two = let e = length_map in let t = (lanes_few a w k x f).1 in omega (arith, e, t)
        where
          length_map : length f.part.lanes ≡ length x.own.lanes.items
          length_map = ap length f.shown.lanes ∙ length-map x.own.lanes.items lane_of

  pub floor_is : before_closing (map lane_of x.own.lanes.items) ≡ least_begun_mark f.part.lanes
  floor_is = ap before_closing (sym f.shown.lanes) ∙ calm_before f.part.lanes none

  -- the mark does not fall
  pub climbs : least_begun_mark f.part.lanes ≤ least_begun_mark (slice_set f.part.lanes l begun_lane)
  climbs =
      (parts-keep_sound a.plan f.plan f.moment (Begin k l) k f.part begun f.sound refl f.there
      (ap (λ b. part_after a.plan b (Begin k l) f.part) f.bundle ∙ begun_is)).0.holds.0.rises

  pub rises : x.spent ≡ false → closed_mark x.own.kept ≤ mark_for l (map lane_of x.own.lanes.items)
  rises sane = let le = climbs in let c = (f.shown.kept sane).closed_is in omega (arith, le, mark_is, c)
