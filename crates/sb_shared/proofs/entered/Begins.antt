-- A closing begins, once room for its lines is reserved.
use Rattle.std.proofs.Common.{◌≡◌, ◌≤◌, ℕ, ◌+◌, List, length, map, Bool, false, ap, subst, arith}
use Rattle.sb_shown.specs.base.records.declared.item.Record.{Record}
use Rattle.sb_shown.specs.diary.Diaries.{with_spare}
use Rattle.sb_shown.specs.core.containers.declared.container.CoreLane.{CoreLane}
use Rattle.sb_shown.specs.lane.LaneView.{lane_of}
use Rattle.sb_shown.specs.lane.Placed.{conts_of}
use Rattle.sb_shown.specs.node.Changes.{ClosesKept}
use Rattle.sb_shown.specs.node.Looking.{EarlierCannotClose, NoneClosing}
use Rattle.sb_shown.specs.node.Marking.{mark_for}
use Rattle.sb_shown.specs.node.declared.closing.Closing.{Closing}
use Rattle.sb_shown.specs.node.declared.state.NodeState.{NodeState}
use Rattle.sb_shared.specs.SharedNodes.{SharedView, BeginsAt, owed_lines}
use Rattle.sb_shared.proofs.diaries.Promises.{owed_of, owed-set, owed-begun}
use Rattle.sb_shared.proofs.diaries.Rooms.{HasRoom}

-- of the two lines for which there was room, one is written, and one is owed
pub room-begun : (p : ℕ) (sink : Bool) (c : Closing) (old new : SharedView) → BeginsAt sink c old new → new.own.diary.spare + 1 ≡ old.own.diary.spare → length new.own.diary.events ≡ length old.own.diary.events + 1
    → HasRoom p old.own → p + 2 ≤ old.own.diary.spare → HasRoom (p + 1) new.own
room-begun p sink c old new b spare events room enough =
    let s = b.starts in
    let n = owed-set b.mid.lanes.items c.lane b.lane s.now s.sets.in_it in
    let m = ap (λ (x : NodeState). owed_lines x.lanes.items) b.closes.set in
    let e = ap owed_lines s.sets.lanes in
    let k = ap (λ (lane : CoreLane). owed_of lane.conts) s.is in
    (omega (arith, n, m, e, k, owed-begun (conts_of b.lane.containers) b.close b.looks, room.0), omega (arith, spare, enough), omega (arith, spare, events, room.2))

-- to reserve it changed nothing else
pub begins-reserved : (sink : Bool) (c : Closing) (old : SharedView) (mid new : NodeState) (room : ℕ) (tray : List Record) → mid ≡ record old.own { diary = with_spare room old.own.diary } → old.spent ≡ false
    → BeginsAt sink c (record { own = mid; tray = old.tray; spent = false }) (record { own = new; tray = tray; spent = false }) → BeginsAt sink c old (record { own = new; tray = tray; spent = old.spent })
begins-reserved sink c old mid new room tray is unspent b = record {
  lane = b.lane;
  close = b.close;
  looks = b.looks;
  epoch_is = b.epoch_is;
  first = subst (λ (m : NodeState). EarlierCannotClose c.lane m.lanes.items) is b.first;
  none = subst (λ (m : NodeState). NoneClosing m.lanes.items) is b.none;
  rows = b.rows;
  mid = b.mid;
  room = b.room;
  closes = subst (λ (m : NodeState). ClosesKept (mark_for c.lane (map lane_of m.lanes.items)) b.rows (record m { diary = with_spare b.room m.diary }) b.mid) is b.closes;
  starts = b.starts;
  rows_are = b.rows_are;
  tray = b.tray;
  was = unspent;
  is = unspent;
}
