-- What an event makes of the one node that it changes is what it makes of all nodes.
use Rattle.std.proofs.Common.{◌≡◌, ℕ, ◌+◌, List, [], ◌∷◌, ◌++◌, get_or, length, map, set, Some, sym, refl, ap, subst, ◌∙◌, arith}
use Rattle.std.specs.List.{slice_get}
use Rattle.std.proofs.lemmas.Option.{get_or_from_slice_get, same_Some}
use Rattle.sb_shown.specs.base.bundle.declared.bundle.Bundle.{Bundle}
use Rattle.sb_shown.specs.core.containers.declared.container.CoreLane.{CoreLane}
use Rattle.sb_shown.specs.core.containers.Marks.{before_closing}
use Rattle.sb_shown.proofs.core.exact.Nodes.{slice_get-set_same}
use Rattle.sb_shown.specs.diary.Diaries.{Written, with_spare}
use Rattle.sb_shown.specs.diary.declared.event.DiaryEvent.{DiaryEvent}
use Rattle.sb_shown.specs.diary.declared.event.DiaryEvent.TheVariants as line
use Rattle.sb_shown.specs.node.declared.kept.Kept.{Kept}
use Rattle.sb_shown.specs.lane.LaneView.{LaneView, lane_of}
use Rattle.sb_shown.specs.work.declared.outputs.Part.{Part}
use Rattle.sb_shown.specs.node.declared.closing.Closing.{Closing}
use Rattle.sb_shown.specs.node.declared.state.NodeState.{NodeState}
use Rattle.sb_shown.specs.node.Changes as node
use Rattle.sb_shown.specs.node.LinkChanges.{LinksStay}
use Rattle.sb_shown.specs.node.Marking.{mark_for}
use Rattle.sb_hand.specs.LaneGoing.{LaneGoes}
use Rattle.sb_shown.specs.Sets.{Absorbs, BeginsAt, HasLane, SetsLane, SetsNode, StaysAt, Takes, Turns}
use Rattle.sb_shown.proofs.SettingsStay.{set_same}

-- the node that code reads
pub own-there : (nodes : List NodeState) (k : ℕ) (own x : NodeState) → slice_get nodes k ≡ Some x → own ≡ get_or nodes k own → slice_get nodes k ≡ Some own
own-there nodes k own x there own_is = there ∙ ap (λ n. Some n) (sym (own_is ∙ get_or_from_slice_get nodes k x own there))

-- the node and the lane, by other names
abbrev sets-there : (k j l i : ℕ) (lane now : LaneView) (more : ℕ) (was is : Kept) (line : DiaryEvent) (old new : List NodeState) → k ≡ j → l ≡ i → SetsNode j i lane now more was is line old new → SetsNode k l lane now more was is line old new
sets-there k j l i lane now more was is line old new node_is at_lane s = record {
  own = s.own;
  there = ap (slice_get old) node_is ∙ s.there;
  in_it = ap (slice_get s.own.lanes.items) at_lane ∙ s.in_it;
  was_so = s.was_so;
  with = s.with;
  set = s.set ∙ ap (λ n. set old n s.with) (sym node_is);
  lanes = s.lanes ∙ ap (λ n. set s.own.lanes.items n now) (sym at_lane);
  kept = s.kept;
  closings = s.closings;
  diary = s.diary;
  keeps = s.keeps;
  limit = s.limit;
}

module _ (nodes : List NodeState) (k l : ℕ) (own : NodeState) (at : LaneView) (h : HasLane k l at nodes) (own_is : own ≡ get_or nodes k own) where
  -- it is the one that has the lane
  node-read : own ≡ h.own
  node-read = own_is ∙ get_or_from_slice_get nodes k h.own own h.there

  -- its lane
  pub has-lane : node.HasLane l at own
  has-lane = ap (λ (n : NodeState). slice_get n.lanes.items l) node-read ∙ h.in_it

  -- a lane of it is one among all nodes
  pub lane-there : (now : LaneView) → node.HasLane l now own → HasLane k l now nodes
  lane-there now there = record { own = h.own; there = h.there; in_it = ap (λ (n : NodeState). slice_get n.lanes.items l) (sym node-read) ∙ there }

  -- the lane is another, and the node shows what it did
  pub shows-same : (with : NodeState) (now : LaneView) → with.lanes.items ≡ set own.lanes.items l now → with.kept ≡ own.kept → with.closings ≡ own.closings → with.diary.events ≡ own.diary.events → with.diary.keeps ≡ own.diary.keeps
      → lane_of now ≡ lane_of at → now.pending ≡ at.pending → StaysAt k l nodes (set nodes k with) at
  shows-same with now lanes kept closings events keeps is limit = record {
    own = h.own;
    there = h.there;
    in_it = h.in_it;
    with = with;
    set = refl;
    now = now;
    lanes = lanes ∙ ap (λ (n : NodeState). set n.lanes.items l now) node-read;
    lane_is = is;
    kept = kept ∙ ap (λ (n : NodeState). n.kept) node-read;
    closings = closings ∙ ap (λ (n : NodeState). n.closings) node-read;
    diary = events ∙ ap (λ (n : NodeState). n.diary.events) node-read;
    keeps = keeps ∙ ap (λ (n : NodeState). n.diary.keeps) node-read;
    limit = limit;
  }

  -- no lane was touched, and the diary is as it was
  pub shows-all : (diary : Written) → diary ≡ own.diary → StaysAt k l nodes (set nodes k (record own { diary = diary })) at
  shows-all diary same = shows-same (record own { diary = diary }) at (sym (set_same own.lanes.items l at has-lane)) refl refl (ap (λ (d : Written). d.events) same) (ap (λ (d : Written). d.keeps) same) refl refl

  -- room was made in its diary
  module _ (spared : Written) (spare : ℕ) (reserved : spared ≡ with_spare spare own.diary) (with : NodeState) where
    abbrev ready : NodeState
    ready = record own { diary = spared }

    -- the lines and the setting of the diary
    events-told : (line : DiaryEvent) → with.diary.events ≡ spared.events ++ line ∷ [] → with.diary.events ≡ h.own.diary.events ++ line ∷ []
    events-told line told = told ∙ ap (λ (d : Written). d.events ++ line ∷ []) reserved ∙ ap (λ (n : NodeState). n.diary.events ++ line ∷ []) node-read

    keeps-told : with.diary.keeps ≡ spared.keeps → with.diary.keeps ≡ h.own.diary.keeps
    keeps-told same = same ∙ ap (λ (d : Written). d.keeps) reserved ∙ ap (λ (n : NodeState). n.diary.keeps) node-read

    -- the lane is set, and the line is told
    sets-lane : (now : LaneView) (line : DiaryEvent) → node.SetsLane l at now line ready with → node.KeepsRest ready with → SetsLane k l at now line nodes (set nodes k with)
    sets-lane now line s r = record {
      own = h.own;
      there = h.there;
      in_it = h.in_it;
      with = with;
      set = refl;
      lanes = s.lanes ∙ ap (λ (n : NodeState). set n.lanes.items l now) node-read;
      kept = r.kept ∙ ap (λ (n : NodeState). n.kept) node-read;
      closings = r.closings ∙ ap (λ (n : NodeState). n.closings) node-read;
      diary = events-told line (ap (λ (d : Written). d.events) s.diary);
      keeps = keeps-told (ap (λ (d : Written). d.keeps) s.diary);
      limit = s.limit;
    }

    -- the same where the node keeps something else, or has begun a closing more
    abbrev sets-node : (now : LaneView) (more : ℕ) (line : DiaryEvent) → node.SetsLane l at now line ready with → with.closings ≡ own.closings + more → SetsNode k l at now more own.kept with.kept line nodes (set nodes k with)
    sets-node now more line s closings = record {
      own = h.own;
      there = h.there;
      in_it = h.in_it;
      was_so = ap (λ (n : NodeState). n.kept) (sym node-read);
      with = with;
      set = refl;
      lanes = s.lanes ∙ ap (λ (n : NodeState). set n.lanes.items l now) node-read;
      kept = refl;
      closings = closings ∙ ap (λ (n : NodeState). n.closings + more) node-read;
      diary = events-told line (ap (λ (d : Written). d.events) s.diary);
      keeps = keeps-told (ap (λ (d : Written). d.keeps) s.diary);
      limit = s.limit;
    }

    -- each kind of change
    pub turns : (later : CoreLane) (links : LaneView → LaneView → Type 0) (line : DiaryEvent) → node.Turns l at later links line ready with → Turns k l nodes (set nodes k with) at later line
    turns later links line t = record { now = t.now; sets = sets-lane t.now line t.sets t.rest; is = t.is }

    pub takes : (b : Bundle) → node.Takes l at b ready with → Takes k l nodes (set nodes k with) at b
    takes b t = record { now = t.now; sets = sets-lane t.now _ t.sets t.rest; took = t.took; is = t.is }

    pub absorbs : (epoch number : ℕ) (part : Part) → node.Absorbs l at epoch number part ready with → Absorbs k l nodes (set nodes k with) at epoch number part
    absorbs epoch number part a = record {
      now = a.now;
      was = own.kept;
      is = with.kept;
      sets = sets-node a.now 0 _ a.sets (let e = a.closings in omega (arith, e));
      lane_is = a.is;
      unspent = a.unspent;
      made = a.made;
      closed = a.closed;
      adds = a.adds;
    }

    pub begins : (c : Closing) → c.node ≡ k → c.lane ≡ l → node.Begins at c ready with → BeginsAt c nodes (set nodes k with) at
    begins c node_is at_lane b = record {
      now = b.now;
      was = own.kept;
      is = with.kept;
      sets = sets-there c.node k c.lane l at b.now 1 own.kept with.kept (line.Begin c.lane c.epoch c.mark (length c.rows.items)) nodes (set nodes k with) node_is at_lane
          (sets-node b.now 1 _ (subst (λ i. node.SetsLane i at b.now (line.Begin c.lane c.epoch c.mark (length c.rows.items)) ready with) at_lane b.sets) b.closings);
      lane_is = b.is;
      serial_is = b.serial_is ∙ ap (λ (n : NodeState). n.closings) node-read;
      floor_is = b.floor_is ∙ ap (λ (n : NodeState). before_closing (map lane_of n.lanes.items)) node-read;
      mark_is = b.mark_is ∙ ap (λ (n : NodeState). mark_for c.lane (map lane_of n.lanes.items)) node-read;
      unspent = b.unspent;
      made = b.made;
      closed = b.closed;
      closes = b.closes;
    }

    pub stays : node.Stays l at ready with → StaysAt k l nodes (set nodes k with) at
    stays s = shows-same with s.now s.lanes s.rest.kept s.rest.closings
        (ap (λ (d : Written). d.events) s.diary ∙ ap (λ (d : Written). d.events) reserved) (ap (λ (d : Written). d.keeps) s.diary ∙ ap (λ (d : Written). d.keeps) reserved) s.is s.limit

-- the lane of a node is another, and this holds of both
abbrev pub Goes : (l : ℕ) (so : LaneView → LaneView → Type 0) (at : LaneView) (own with : NodeState) → Type 0
Goes l so at own with = (now : LaneView) × (with.lanes.items ≡ set own.lanes.items l now) × so at now

-- if it holds of the lane of the node, it holds of that lane among the nodes
pub goes : (nodes : List NodeState) (k l : ℕ) (own with : NodeState) → own ≡ get_or nodes k own → (so : LaneView → LaneView → Type 0) → ((at : LaneView) → node.HasLane l at own → Goes l so at own with) → LaneGoes k l so nodes (set nodes k with)
goes nodes k l own with own_is so each = λ was is h g.
    let there = has-lane nodes k l own was h own_is in
    let x = each was there in
    let with_is : g.own ≡ with = same_Some g.own with (sym g.there ∙ slice_get-set_same nodes k h.own with h.there) in
    let now_is : x.0 ≡ is = same_Some x.0 is (sym (ap (λ (ls : List LaneView). slice_get ls l) x.1 ∙ slice_get-set_same own.lanes.items l was x.0 there) ∙ ap (λ (n : NodeState). slice_get n.lanes.items l) (sym with_is) ∙ g.in_it) in
    subst (so was) now_is x.2

-- a lane that is left alone
pub same-goes : (nodes : List NodeState) (k l : ℕ) (own with : NodeState) → own ≡ get_or nodes k own → with.lanes.items ≡ own.lanes.items → LaneGoes k l LinksStay nodes (set nodes k with)
same-goes nodes k l own with own_is lanes = goes nodes k l own with own_is LinksStay (λ at there. (at, lanes ∙ sym (set_same own.lanes.items l at there), record { links = refl; searches = refl }))
