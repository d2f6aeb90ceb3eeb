-- What the calls of a node give of what a leaving owes on links.
use Rattle.std.proofs.Common.{◌≡◌, ℕ, ◌+◌, Bool, true, false, List, [], ◌∷◌, length, drop, cond, Some, None, Option, sym, refl, ap, subst, ◌∙◌, arith, length-append}
use Rattle.std.specs.Prelude.{map, slice_get, slice_set}
use Rattle.sb_shown.specs.base.bundle.declared.bundle.Bundle.{Bundle}
use Rattle.sb_shown.specs.diary.declared.event.DiaryEvent.{DiaryEvent}
use Rattle.sb_shown.specs.base.records.Reading.{◌>>=◌}
use Rattle.sb_shown.specs.base.records.declared.item.Record.{Record}
use Rattle.sb_shown.specs.base.pipeline.Shapes.{Shape}
use Rattle.sb_shown.specs.base.pipeline.declared.transform.Down.{Down}
use Rattle.sb_shown.specs.base.pipeline.declared.transform.Step.{Step}
use Rattle.sb_shown.specs.work.declared.outputs.Part.{Part}
use Rattle.sb_shown.specs.core.Events.{below}
use Rattle.sb_shown.specs.core.containers.declared.container.CoreLane.{CoreLane}
use Rattle.sb_shown.specs.core.containers.Lanes.{with_arrival, with_seal}
use Rattle.sb_shown.specs.lane.LaneView.{LaneView, lane_of}
use Rattle.sb_shown.specs.lane.Links.{links_of}
use Rattle.sb_shown.specs.lane.Placed.{conts_of}
use Rattle.sb_shown.specs.node.declared.closing.Closing.{Closing}
use Rattle.sb_shown.specs.node.declared.state.NodeState.{NodeState}
use Rattle.sb_shown.specs.node.Changes.{Absorbs, Takes, Turns}
use Rattle.sb_shown.specs.node.LinkChanges.{DropsLink, GetsPlace, LinksStay}
use Rattle.sb_shared.specs.declared.telling.Hands.{Hands}
use Rattle.sb_shared.specs.declared.telling.Setting.{Setting}
use Rattle.sb_shared.specs.Linked.{LanesStay, PlacesNext, SetsLinks, SetsLinksAt, is_pardo_at, link_left}
use Rattle.sb_shared.specs.SharedNodes.{BeginsAt, ChangesOwn, Face, FinishesLinked, LosesKept, PutsAt, SharedView, ShowsSame}

-- a lane that becomes another lane of the core
pub turns-set : (l more : ℕ) (at : LaneView) (later : CoreLane) (so : LaneView → LaneView → Type 0) (line : DiaryEvent) (x y : SharedView)
    → ChangesOwn (Turns l at later so line) x y → length later.marks ≡ length at.marks + more → SetsLinks l more so x y
turns-set l more at later so line x y c marks = record {
  lane = at;
  now = c.own.now;
  in_it = c.own.sets.in_it;
  lanes = c.own.sets.lanes;
  linked = c.own.linked;
  marks = ap (λ (z : CoreLane). length z.marks) c.own.is ∙ marks;
}

-- no marks more
plus-none : (n : ℕ) → n ≡ n + 0
plus-none n = omega arith

-- which has the same marks
pub turns-stay : (l : ℕ) (at : LaneView) (later : CoreLane) (so : LaneView → LaneView → Type 0) (line : DiaryEvent) (x y : SharedView)
    → ChangesOwn (Turns l at later so line) x y → later.marks ≡ at.marks → SetsLinks l 0 so x y
turns-stay l at later so line x y c marks = turns-set l 0 at later so line x y c (ap length marks ∙ plus-none (length at.marks))

-- a bundle of the next epoch comes
pub arrive-sets : (l epoch : ℕ) (at : LaneView) (later : CoreLane) (line : DiaryEvent) (x y : SharedView)
    → ChangesOwn (Turns l at later (GetsPlace epoch) line) x y → later.marks ≡ at.marks → epoch ≡ length at.marks → SetsLinks l 0 PlacesNext x y
arrive-sets l epoch at later line x y c marks is = record {
  lane = at;
  now = c.own.now;
  in_it = c.own.sets.in_it;
  lanes = c.own.sets.lanes;
  linked = subst (λ e. GetsPlace e at c.own.now) is c.own.linked;
  marks = ap (λ (z : CoreLane). length z.marks) c.own.is ∙ ap length marks ∙ plus-none (length at.marks);
}

-- the next epoch is sealed
pub seal-sets : (l mark : ℕ) (at : LaneView) (line : DiaryEvent) (x y : SharedView)
    → ChangesOwn (Turns l at (with_seal mark (lane_of at)) (GetsPlace (length at.marks)) line) x y → SetsLinks l 1 PlacesNext x y
seal-sets l mark at line x y c = record {
  lane = at;
  now = c.own.now;
  in_it = c.own.sets.in_it;
  lanes = c.own.sets.lanes;
  linked = c.own.linked;
  marks = ap (λ (z : CoreLane). length z.marks) c.own.is ∙ length-append at.marks (mark ∷ []);
}

-- a bundle is put below
pub put-sets : (l epoch floor place : ℕ) (records : List Record) (at : LaneView) (line : DiaryEvent) (x y : SharedView)
    → ChangesOwn (Turns l at (with_arrival epoch floor records (lane_of at)) (PutsAt epoch place) line) x y → SetsLinks l 0 (PutsAt epoch place) x y
put-sets l epoch floor place records at line x y c = turns-stay l at (with_arrival epoch floor records (lane_of at)) (PutsAt epoch place) line x y c refl

-- the oldest container ends
pub end-sets : (l : ℕ) (at : LaneView) (line : DiaryEvent) (x y : SharedView)
    → ChangesOwn (Turns l at (record (lane_of at) { conts = drop 1 (conts_of at.containers); ended = at.ended + 1 }) DropsLink line) x y → SetsLinks l 0 DropsLink x y
end-sets l at line x y c = turns-stay l at (record (lane_of at) { conts = drop 1 (conts_of at.containers); ended = at.ended + 1 }) DropsLink line x y c refl

-- where the lane is that of the step's place below
pub sets-below : (plan : Shape) (n k l more : ℕ) (so : LaneView → LaneView → Type 0) (s : Step) (x y : SharedView)
    → slice_get plan.steps n ≡ Some s → s.down ≡ record { node = k; lane = l } → SetsLinks l more so x y → SetsLinksAt (below plan n) k more so x y
sets-below plan n k l more so s x y is down sets = record {
  lane = l;
  place_is = ap (λ (o : Option Step). o >>= λ s. Some s.down) is ∙ ap (λ (d : Down). Some d) down;
  sets = sets;
}

-- a bundle is taken
pub take-sets : (l : ℕ) (at : LaneView) (b : Bundle) (x y : SharedView) → ChangesOwn (Takes l at b) x y → SetsLinks l 0 LinksStay x y
take-sets l at b x y c = record {
  lane = at;
  now = c.own.now;
  in_it = c.own.sets.in_it;
  lanes = c.own.sets.lanes;
  linked = c.own.linked;
  marks = ap (λ (z : CoreLane). length z.marks) c.own.is ∙ plus-none (length at.marks);
}

-- a bundle of a transform of single records is finished
pub finish-sets : (a : Setting) (k : ℕ) (w : Hands) (l epoch : ℕ) (at : LaneView) (later : CoreLane) (line : DiaryEvent) (x y : SharedView)
    → is_pardo_at a k ≡ true → ChangesOwn (Turns l at later (FinishesLinked epoch w.link) line) x y → later.marks ≡ at.marks → SetsLinks l 0 (FinishesLinked epoch (link_left a k w)) x y
finish-sets a k w l epoch at later line x y pardo c marks =
    subst (λ link. SetsLinks l 0 (FinishesLinked epoch link) x y) (sym (ap (λ b. cond b w.link None) pardo)) (turns-stay l at later (FinishesLinked epoch w.link) line x y c marks)

-- of another node, whose links stay
pub finish-stays : (a : Setting) (k : ℕ) (w : Hands) (l epoch : ℕ) (x y : SharedView)
    → is_pardo_at a k ≡ false → SetsLinks l 0 LinksStay x y → SetsLinks l 0 (FinishesLinked epoch (link_left a k w)) x y
finish-stays a k w l epoch x y other s =
    subst (λ link. SetsLinks l 0 (FinishesLinked epoch link) x y) (sym (ap (λ b. cond b w.link None) other))
    (record { lane = s.lane; now = s.now; in_it = s.in_it; lanes = s.lanes; linked = s.linked.links; marks = s.marks })

-- what a bundle gave is taken in
pub absorb-sets : (l epoch number : ℕ) (at : LaneView) (part : Part) (x y : SharedView) → ChangesOwn (Absorbs l at epoch number part) x y → SetsLinks l 0 LinksStay x y
absorb-sets l epoch number at part x y c = record {
  lane = at;
  now = c.own.now;
  in_it = c.own.sets.in_it;
  lanes = c.own.sets.lanes;
  linked = c.own.linked;
  marks = ap (λ (z : CoreLane). length z.marks) c.own.is ∙ plus-none (length at.marks);
}

-- a closing begins
pub begin-sets : (sink : Bool) (c : Closing) (x y : SharedView) → BeginsAt sink c x y → SetsLinks c.lane 0 LinksStay x y
begin-sets sink c x y b =
    let same : b.mid.lanes.items ≡ x.own.lanes.items = ap (λ (n : NodeState). n.lanes.items) b.closes.set in
    record {
      lane = b.lane;
      now = b.starts.now;
      in_it = ap (λ (ls : List LaneView). slice_get ls c.lane) (sym same) ∙ b.starts.sets.in_it;
      lanes = b.starts.sets.lanes ∙ ap (λ (ls : List LaneView). slice_set ls c.lane b.starts.now) same;
      linked = b.starts.linked;
      marks = ap (λ (z : CoreLane). length z.marks) b.starts.is ∙ plus-none (length b.lane.marks);
    }

-- nothing but room changes, or what is kept is lost, or nothing changes
pub same-stays : (x y : SharedView) → ShowsSame x y → LanesStay x y
same-stays x y s = (ap (λ (f : Face). f.lanes) s.face_is, ap (λ (f : Face). f.links) s.face_is)

pub lost-stays : (x y : SharedView) → LosesKept x y → LanesStay x y
lost-stays x y s = (ap (λ (f : Face). f.lanes) s.face_is, ap (λ (f : Face). f.links) s.face_is)

pub own-stays : (x y : SharedView) → y.own ≡ x.own → LanesStay x y
own-stays x y same = (
  ap (λ (n : NodeState). map lane_of n.lanes.items) same,
  ap (λ (n : NodeState). map (λ (l : LaneView). links_of l.containers) n.lanes.items) same,
)
