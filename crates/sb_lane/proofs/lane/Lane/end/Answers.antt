use Rattle.std.proofs.Common.{◌≡◌, ◌<◌, length, ap, subst, sym, ◌∙◌, arith, drop}
use Rattle.std.proofs.lemmas.List.{length-map}
use Rattle.sb_containers.specs.Lanes.{fresh}
use Rattle.sb_containers.specs.Marks.{first_is_closing}
use Rattle.sb_lane.specs.LaneView.{LaneView}
use Rattle.sb_lane.specs.Placed.{Placed, conts_of}
use Rattle.sb_lane.specs.Unfinished.{unfinished_of}
use Rattle.sb_lane.proofs.Counts.{unfinished-drop}
use Rattle.sb_lane.proofs.Firsts.{closing-some, conts-drop}
use Rattle.sb_lane.proofs.KeepingMarks.{one-ended}
use Rattle.sb_lane.proofs.lane.Lane.end.Goals as goal

pub overflow_sub-self : goal.overflow_sub-self
overflow_sub-self c =
    let xs = c.self.inside.containers in
    let some : 0 < length xs = closing-some xs (ap (λ (s : LaneView). first_is_closing (conts_of s.containers)) c.self.view_is ∙ c.requires.closing) in
    omega (arith, c.self.invariant.0, c.end.ensures.gone (fresh 0 0), unfinished-drop (conts_of xs) (fresh 0 0) (omega (arith, length-map xs (λ (x : Placed). x.cont))))

pub invariant_of-self : goal.invariant_of-self
invariant_of-self c =
    let s = c.self.inside in
    let xs = s.containers in
    let some : 0 < length xs = closing-some xs (ap (λ (s : LaneView). first_is_closing (conts_of s.containers)) c.self.view_is ∙ c.requires.closing) in
    let e : unfinished_of (conts_of c.end.new.self) ≡ unfinished_of (drop 1 (conts_of xs)) = ap (λ l. unfinished_of (conts_of l)) c.end.ensures.list ∙ ap unfinished_of (conts-drop xs) in
    let more : s.ended < length s.marks = subst (λ (s : LaneView). s.ended < length s.marks) (sym c.self.view_is) c.requires.sealed in (
      omega (arith, e, c.self.invariant.0, c.end.ensures.gone (fresh 0 0), unfinished-drop (conts_of xs) (fresh 0 0) (omega (arith, length-map xs (λ (x : Placed). x.cont)))),
      omega (arith, c.self.invariant.1),
      rw (c.mark_with-closed_mark.ensures, ← c.self.view_is, c.pop_front-ended.ensures.rest) (one-ended s.marks s.sealed s.ended s.last_mark s.closed_mark s.open_marks.items c.self.invariant.2 more),
    )
