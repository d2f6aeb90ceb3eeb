-- A call that changed the state of a node so has done its change: of the events that concern nothing in hand.
use Rattle.std.proofs.Common.{◌≡◌, ℕ, ◌+◌, ◌-◌, ◌^◌, ◌≤◌, ◌<◌, true, false, not, List, [], ◌∷◌, length, Some, Option, refl, ap, ◌∙◌, inl, inr}
use Rattle.std.specs.Prelude.{◌&&◌, nat_le}
use Rattle.std.specs.List.{slice_get, list_all, AllByRecursion}
use Rattle.std.proofs.lemmas.Bool.{le-leb}
use Rattle.std.specs.declared.snapshot.Snapshot.{Snapshot}
use Rattle.sb_shown.specs.base.records.declared.item.Record.{Record}
use Rattle.sb_shown.specs.base.records.declared.item.Stream.{Stream}
use Rattle.sb_shown.specs.base.records.declared.item.TheConstants.{END_MARK, MAX_TIME}
use Rattle.sb_shown.specs.base.pipeline.declared.transform.Down.{Down}
use Rattle.sb_shown.specs.base.pipeline.Shapes.{source}
use Rattle.sb_shown.specs.core.containers.declared.container.CoreLane.{CoreLane}
use Rattle.sb_shown.specs.core.declared.held.Held.{Held}
use Rattle.sb_shown.specs.core.declared.held.Held.TheVariants.{Work}
use Rattle.sb_shown.specs.core.declared.event.Event.TheVariants as event
use Rattle.sb_shown.specs.core.containers.Choices.{is_empty}
use Rattle.sb_shown.specs.core.containers.Lanes.{next_epoch, next_floor, take_from, with_arrival, with_seal}
use Rattle.sb_shown.specs.diary.declared.event.DiaryEvent.TheVariants as line
use Rattle.sb_shown.specs.tally.Written as written
use Rattle.sb_shown.specs.tally.Written.{arrival_line, seal_line}
use Rattle.sb_shown.specs.lane.LaneView.{LaneView, lane_of}
use Rattle.sb_shown.specs.lane.Placed.{conts_of}
use Rattle.sb_shown.specs.node.Changes.{Takes, Turns}
use Rattle.sb_shown.specs.work.declared.claim.Claim.{Claim}
use Rattle.sb_shown.proofs.LaneEvents.{put-is}
use Rattle.sb_shown.proofs.Single.{chain, passing}
use Rattle.sb_shown.proofs.lane.InTheCore.{take_first-is}
use Rattle.sb_shared.specs.declared.telling.Change.TheVariants.{Arrive, Seal, Take}
use Rattle.sb_shared.specs.declared.telling.Hands.{Hands}
use Rattle.sb_shared.specs.declared.telling.Setting.{Setting}
use Rattle.sb_shared.specs.SharedNodes.{ChangesOwn, SharedView}
use Rattle.sb_shared.specs.Views.{held_by}
use Rattle.sb_shared.proofs.leavings.Acts.{Acts}
use Rattle.sb_shared.proofs.links.LaneTurns.{LaneTurns, acts-free, lane-in, of-takes, of-turns, the-lane_is}

-- the times of a bundle that comes
abbrev pub AreInTime : ℕ → List Record → Type 0
AreInTime floor records = AllByRecursion (λ r. (floor ≤ r.time) × (r.time ≤ MAX_TIME)) records

-- as the core tests them
in_time : (floor : ℕ) (records : List Record) → AreInTime floor records → list_all (λ r. nat_le floor r.time && nat_le r.time MAX_TIME) records ≡ true
in_time floor [] all = refl
in_time floor (r ∷ records) all = λ i. (le-leb floor r.time all.0.0 i && le-leb r.time MAX_TIME all.0.1 i) && in_time floor records all.1 i

module _ (a : Setting) (w : Hands) (seen k : ℕ) (x y : SharedView) where
  -- the first waiting bundle of a lane is taken
  pub takes : (t : Snapshot Claim) (link : Option ℕ) (lane : LaneView) → t.value.node ≡ k → ChangesOwn (Takes t.value.lane lane t.value.bundle) x y → held_by w ≡ [] → Acts a w seen k x y (Take t link)
  takes t link lane at own none =
      let l = t.value.lane in
      let b = t.value.bundle in
      let conts = conts_of own.own.now.containers in
      let later : CoreLane = record (lane_of lane) { conts = conts } in
      let work : List Held = Work k l b.epoch b.floor b.number b.records false ∷ [] in
      let turns : LaneTurns l lane later (line.Take l b.number) x y = of-takes l lane b x y own in
      acts-free a w seen k x y l lane later (line.Take l b.number) turns (inl refl) (Take t link) (event.Take k l b.number) work refl refl refl none
      (λ i. Work (at i) l b.epoch b.floor b.number b.records false ∷ [])
      (λ f. chain (slice_get f.part.lanes l) _ (lane_of lane) _ (lane-in a w seen k x y l lane later (line.Take l b.number) turns f)
      (chain (take_from b.number (conts_of lane.containers)) _ (b, conts) _ (take_first-is (conts_of lane.containers) (b, conts) own.own.took) refl))
      (λ f. refl)

  -- a bundle of a stream comes into its lane
  pub arrives : (stream : Stream) (t : Snapshot (List Record)) (d : Down) (lane : LaneView) (links : LaneView → LaneView → Type 0) → source a.plan stream ≡ Some d → d.node ≡ k
      → is_empty t.value ≡ false → length t.value ≤ a.bundle → AreInTime (next_floor (lane_of lane)) t.value → lane.arrived < 2 ^ 64 - 1
      → ChangesOwn (Turns d.lane lane (with_arrival (next_epoch (lane_of lane)) (next_floor (lane_of lane)) t.value (lane_of lane)) links (line.Arrive d.lane (next_epoch (lane_of lane)) (lane.arrived + 1) (length t.value))) x y
      → held_by w ≡ [] → Acts a w seen k x y (Arrive stream t)
  arrives stream t d lane links goes at some most times room own none =
      let epoch = next_epoch (lane_of lane) in
      let floor = next_floor (lane_of lane) in
      let later = with_arrival epoch floor t.value (lane_of lane) in
      let told = line.Arrive d.lane epoch (lane.arrived + 1) (length t.value) in
      let turns : LaneTurns d.lane lane later told x y = of-turns d.lane lane told x y later links own in
      acts-free a w seen k x y d.lane lane later told turns (inl refl) (Arrive stream t) (event.Arrive stream t.value) [] refl refl
      (chain (source a.plan stream) _ d _ goes (ap Some at)) none none
      (λ f. let in_it = lane-in a w seen k x y d.lane lane later told turns f in
      chain (source a.plan stream) _ d _ goes (chain (slice_get f.part.lanes d.lane) _ (lane_of lane) _ in_it
      (passing _ _ _ (λ i. not (some i) && (le-leb (length t.value) a.bundle most i && in_time floor t.value times i))
      (put-is d.lane epoch floor t.value [] f.part (lane_of lane) in_it room))))
      (λ f. (λ i. arrival_line (written.lane_of (goes i)) (next_epoch (written.the_lane (written.lane_of (goes i)) f.part)) t.value f.part)
      ∙ ap (λ (z : CoreLane). line.Arrive d.lane (next_epoch z) (z.arrived + 1) (length t.value)) (the-lane_is a w seen k x y d.lane lane later told turns f))

  -- the next epoch of its lane is sealed
  pub seals : (stream : Stream) (mark : ℕ) (d : Down) (lane : LaneView) (links : LaneView → LaneView → Type 0) → source a.plan stream ≡ Some d → d.node ≡ k → mark ≤ END_MARK → next_floor (lane_of lane) ≤ mark
      → ChangesOwn (Turns d.lane lane (with_seal mark (lane_of lane)) links (line.Seal d.lane (next_epoch (lane_of lane)) mark)) x y → held_by w ≡ [] → Acts a w seen k x y (Seal stream mark)
  seals stream mark d lane links goes at most rises own none =
      let later = with_seal mark (lane_of lane) in
      let told = line.Seal d.lane (next_epoch (lane_of lane)) mark in
      let turns : LaneTurns d.lane lane later told x y = of-turns d.lane lane told x y later links own in
      acts-free a w seen k x y d.lane lane later told turns (inr (mark, refl)) (Seal stream mark) (event.Seal stream mark) [] refl refl
      (chain (source a.plan stream) _ d _ goes (ap Some at)) none none
      (λ f. chain (source a.plan stream) _ d _ goes (chain (slice_get f.part.lanes d.lane) _ (lane_of lane) _ (lane-in a w seen k x y d.lane lane later told turns f)
      (passing _ _ _ (λ i. le-leb mark END_MARK most i && le-leb (next_floor (lane_of lane)) mark rises i) refl)))
      (λ f. (λ i. seal_line (written.lane_of (goes i)) mark f.part)
      ∙ ap (λ (z : CoreLane). line.Seal d.lane (next_epoch z) mark) (the-lane_is a w seen k x y d.lane lane later told turns f))
