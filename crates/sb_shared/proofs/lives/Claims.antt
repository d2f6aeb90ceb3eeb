-- A bundle that is taken, or that was laid down, is a claim.
use Rattle.std.proofs.Common.{◌≡◌, ℕ, ◌<◌, false, List, [], ◌∷◌, Some, refl, ap, subst, ◌∙◌, arith}
use Rattle.std.specs.Prelude.{All}
use Rattle.std.specs.List.{slice_get, AllByRecursion}
use Rattle.std.proofs.lemmas.List.Elements.{All-from_recursion}
use Rattle.std.proofs.lemmas.Option.{slice_get_within}
use Rattle.sb_shown.specs.base.records.declared.item.Record.{Record}
use Rattle.sb_shown.specs.base.records.declared.item.TheConstants.{END_MARK}
use Rattle.sb_shown.proofs.base.records.Numbers.{bind_some}
use Rattle.sb_shown.specs.core.declared.event.Event.TheVariants.{Take}
use Rattle.sb_shown.specs.core.declared.held.Held.{Held}
use Rattle.sb_shown.specs.core.declared.held.Held.TheVariants.{Work}
use Rattle.sb_shown.specs.core.containers.declared.container.Cont.{Cont}
use Rattle.sb_shown.specs.core.Bounds.{bound_at}
use Rattle.sb_shown.specs.core.Holdings.{IsHeld, IsWork}
use Rattle.sb_shown.specs.core.containers.LaneOrder.{IsWithin}
use Rattle.sb_shown.specs.core.containers.Lanes.{take_from}
use Rattle.sb_shown.specs.core.Moments.{set_lane}
use Rattle.sb_shown.specs.core.Parts.{Part, only_node, part_after, with_part_first}
use Rattle.sb_shown.proofs.core.parts.PartsLaw.{chain, parts-keep_sound}
use Rattle.sb_shown.proofs.core.times.TimeBounds.{bound-before_end}
use Rattle.sb_shown.specs.base.pipeline.Plans.{IsPlan}
use Rattle.sb_shown.specs.lane.LaneView.{LaneView, lane_of}
use Rattle.sb_shown.specs.lane.Placed.{conts_of}
use Rattle.sb_shown.specs.node.Changes.{Takes}
use Rattle.sb_shown.specs.work.declared.claim.Claim.{Claim}
use Rattle.sb_shown.proofs.lane.InTheCore.{take_first-is}
use Rattle.sb_shared.specs.declared.telling.Hands.{Hands}
use Rattle.sb_shared.specs.declared.telling.Piece.{Piece}
use Rattle.sb_shared.specs.declared.telling.Setting.{Setting}
use Rattle.sb_shared.specs.Doings.{work_of}
use Rattle.sb_shared.specs.Found.{IsClaim, IsFound, IsLaid}
use Rattle.sb_shared.specs.SharedNodes.{ChangesOwn, SharedView}
use Rattle.sb_shared.specs.Views.{held_by}
use Rattle.sb_shared.proofs.entered.FoundLanes.{lane_in_part, near}
use Rattle.sb_shared.proofs.entered.HeldHere.{work_here}

-- times within the bound of a node are below the last mark
pub times_within : (a : Setting) → IsPlan a.plan → (k floor : ℕ) (records : List Record) → IsWithin floor (bound_at a.plan k) records → All (λ r. r.time < END_MARK) records
times_within a is_plan k floor records within = All-from_recursion (λ (r : Record). r.time < END_MARK) records (go records within)
  where
    go : (rs : List Record) → IsWithin floor (bound_at a.plan k) rs → AllByRecursion (λ (r : Record). r.time < END_MARK) rs
    go [] all = tt
    go (r ∷ rs) all = (omega (arith, all.0.1, bound-before_end a.plan is_plan k), go rs all.1)

-- a bundle on the shelf
pub claimed : (a : Setting) (p : Piece) → IsLaid a p → IsClaim a p.claim
claimed a p laid =
    let c : Claim = p.claim in
    let v : IsWork a.plan laid.moment c.node c.lane c.bundle.epoch c.bundle.floor c.bundle.number c.bundle.records false =
    (subst (λ (hs : List Held). AllByRecursion (IsHeld a.plan laid.moment) hs) laid.held laid.sound.holds).0 in
    let n = bind_some (slice_get laid.moment.nodes c.node) _ v.lane v.there in
    record {
      node = omega (arith, slice_get_within laid.moment.nodes c.node n.0 n.1, laid.sound.nodes);
      times = times_within a laid.plan c.node c.bundle.floor c.bundle.records v.times;
    }

module _ (a : Setting) (w : Hands) (k : ℕ) (x : SharedView) (f : IsFound a w k x) (c : Claim) where
  -- the times of a bundle in hand
  pub times_here : held_by w ≡ work_of c false ∷ [] → All (λ r. r.time < END_MARK) c.bundle.records
  times_here has = times_within a f.plan c.node c.bundle.floor c.bundle.records (work_here a w k x f c false has).times

  -- a bundle that is taken
  pub taken : c.node ≡ k → (at : LaneView) (y : SharedView) → ChangesOwn (Takes c.lane at c.bundle) x y → IsClaim a c
  taken here at y t = record {
    node = omega (arith, near a w k x f, here);
    times = times_within a f.plan k c.bundle.floor c.bundle.records work.times;
  }
    where
      conts : List Cont
      conts = conts_of t.own.now.containers

      p : Part
      p = only_node (Work k c.lane c.bundle.epoch c.bundle.floor c.bundle.number c.bundle.records false ∷ []) (set_lane c.lane (record (lane_of at) { conts = conts }) f.part)

      gone : part_after a.plan a.bundle (Take k c.lane c.bundle.number) f.part ≡ Some p
      gone =
          chain (slice_get f.part.lanes c.lane) _ (lane_of at) _ (lane_in_part a w k x f c.lane at t.own.sets.in_it)
          (chain (take_from c.bundle.number (conts_of at.containers)) _ (c.bundle, conts) _ (take_first-is (conts_of at.containers) (c.bundle, conts) t.own.took) refl)

      work : IsWork a.plan (with_part_first k f.moment.held f.moment p) k c.lane c.bundle.epoch c.bundle.floor c.bundle.number c.bundle.records false
      work =
          (parts-keep_sound a.plan f.plan f.moment (Take k c.lane c.bundle.number) k f.part p f.sound refl f.there
          (ap (λ b. part_after a.plan b (Take k c.lane c.bundle.number) f.part) f.bundle ∙ gone)).0.holds.0
