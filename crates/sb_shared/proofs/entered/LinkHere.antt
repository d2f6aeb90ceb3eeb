-- The place that a pass knows for what it has in hand stands in the node that takes what it gives.
use Rattle.std.proofs.Common.{◌≡◌, ℕ, Bool, true, false, List, [], ◌∷◌, Option, Some, None}
use Rattle.std.specs.Prelude.{IfSome}
use Rattle.std.proofs.lemmas.Option.{same_Some}
use Rattle.sb_shown.specs.base.records.declared.item.Record.{Record}
use Rattle.sb_shown.proofs.base.records.Numbers.{bind_some}
use Rattle.sb_shown.specs.base.pipeline.declared.transform.Down.{Down}
use Rattle.sb_shown.specs.core.Events.{below}
use Rattle.sb_shown.specs.lane.Changes.{StandsAt}
use Rattle.sb_shown.specs.lane.LaneView.{LaneView}
use Rattle.sb_shown.specs.node.Changes.{HasLane}
use Rattle.sb_shown.specs.node.declared.closing.Closing.{Closing}
use Rattle.sb_shown.specs.work.declared.claim.Claim.{Claim}
use Rattle.sb_shared.specs.declared.telling.Hands.{Hands}
use Rattle.sb_shared.specs.declared.telling.Setting.{Setting}
use Rattle.sb_shared.specs.Doings.{close_of, work_of}
use Rattle.sb_shared.specs.Found.{IsFound}
use Rattle.sb_shared.specs.Linked.{is_pardo_at}
use Rattle.sb_shared.specs.SharedNodes.{SharedView}
use Rattle.sb_shared.specs.Views.{held_by}
use Rattle.sb_shared.proofs.entered.PlacesHere.{close-stands, work-stands}

module _ (a : Setting) (w : Hands) (d : Down) (x : SharedView) (f : IsFound a w d.node x) where
  -- of a bundle in hand
  pub work-link : (c : Claim) (delivered : Bool) → held_by w ≡ work_of c delivered ∷ [] → below a.plan c.node ≡ Some d → is_pardo_at a c.node ≡ true
      → (link : Option ℕ) → w.link ≡ link → IfSome link (λ place. (at : LaneView) → HasLane d.lane at x.own → StandsAt c.bundle.epoch place at.containers)
  work-link c delivered out under pardo None is = tt
  work-link c delivered out under pardo (Some place) is = λ at has.
      let s = bind_some _ _ d under in
      work-stands a w d.node x f d.lane s.0 at (same_Some s.0.down d s.2) has f.place c delivered place out is pardo s.1

  -- of a closing in hand
  pub close-link : (c : Closing) (rows : List Record) → held_by w ≡ close_of c rows false ∷ [] → below a.plan c.node ≡ Some d
      → (link : Option ℕ) → w.link ≡ link → IfSome link (λ place. (at : LaneView) → HasLane d.lane at x.own → StandsAt c.serial place at.containers)
  close-link c rows out under None is = tt
  close-link c rows out under (Some place) is = λ at has.
      let s = bind_some _ _ d under in
      close-stands a w d.node x f d.lane s.0 at (same_Some s.0.down d s.2) has f.place c rows place out is s.1
