use Rattle.std.proofs.Common.{◌≡◌, ◌+◌, length, map, rules, sym, ap, subst, ◌∙◌}
use Rattle.std.specs.List.{slice_set}
use Rattle.sb_work.specs.base.window.Groupings.{Closes}
use Rattle.sb_lane.specs.containers.Marks.{before_closing}
use Rattle.sb_diary.specs.Diaries.{with_line}
use Rattle.sb_diary.specs.declared.event.DiaryEvent.TheVariants as line
use Rattle.sb_node.specs.Keeping.{IsMadeFor, IsSpent, closed_mark, gives}
use Rattle.sb_lane.specs.LaneView.{lane_of}
use Rattle.sb_node.specs.Changes.{HasLane}
use Rattle.sb_node.specs.Marking.{mark_for}
use Rattle.sb_node.specs.declared.state.NodeState.{NodeState}
use Rattle.sb_node.proofs.state.NodeState.begin.Goals as goal

pub returns-clause-begins : goal.returns-clause-begins
returns-clause-begins c = λ at h.
    let old : NodeState = c.args.self.now in
    let k = c.in_ok-rows.ensures.closes in
    let cl = c.start.result in
    let lane : cl.lane ≡ c.args.lane = c.start.ensures.names.1 in
    let t = c.start.ensures.starts at (subst (HasLane c.args.lane at) (sym k.set) h) in
    let mark : cl.mark ≡ mark_for cl.lane (map lane_of old.lanes.items) = t.mark_is ∙ ap (λ (n : NodeState). mark_for cl.lane (map lane_of n.lanes.items)) k.set in
    let same : cl.mark ≡ mark_for c.args.lane (map lane_of old.lanes.items) = mark ∙ ap (λ l. mark_for l (map lane_of old.lanes.items)) lane in
    let rows : c.in_ok-rows.rows.items ≡ cl.rows.items = ap (λ r. r.items) (sym c.start.ensures.names.3) in
    record {
      now = t.now;
      sets = record {
        in_it = subst (λ l. HasLane l at old) (sym lane) h;
        lanes = t.sets.lanes ∙ ap (λ (n : NodeState). slice_set n.lanes.items cl.lane t.now) k.set;
        limit = t.sets.limit;
        diary = t.sets.diary
            ∙ ap (λ (n : NodeState). with_line (line.Begin cl.lane cl.epoch cl.mark c.len-count.result) n.diary) k.set
            ∙ ap (λ n. with_line (line.Begin cl.lane cl.epoch cl.mark n) old.diary) (search rules ∙ ap length rows);
      };
      closings = t.closings ∙ ap (λ (n : NodeState). n.closings + 1) k.set;
      is = t.is;
      linked = t.linked;
      serial_is = t.serial_is ∙ ap (λ (n : NodeState). n.closings) k.set;
      floor_is = t.floor_is ∙ ap (λ (n : NodeState). before_closing (map lane_of n.lanes.items)) k.set;
      mark_is = mark;
      was = k.was;
      unspent = λ spent. k.unspent (subst IsSpent t.kept spent);
      made = λ op made. subst (IsMadeFor op) (sym t.kept) (k.made op made);
      closed = ap closed_mark t.kept ∙ k.closed ∙ sym same;
      closes = subst (λ z. z) (λ i. Closes (sym same i) (gives old.kept) (rows i) (gives (sym t.kept i))) k.closes;
    }
