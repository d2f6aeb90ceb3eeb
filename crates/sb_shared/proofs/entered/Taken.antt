-- A bundle is taken from the node that a pass entered, and the trace tells it.
use Rattle.std.proofs.Common.{◌≡◌, ℕ, [], Option, sym, refl, ap, ◌∙◌, subst}
use Rattle.std.specs.declared.snapshot.Snapshot.{Snapshot}
use Rattle.sb_shown.specs.lane.LaneView.{LaneView}
use Rattle.sb_shown.specs.lane.Links.{down_of, links_of}
use Rattle.sb_shown.specs.node.Changes.{Takes}
use Rattle.sb_shown.specs.node.LinkChanges.{LinksStay}
use Rattle.sb_shown.specs.work.declared.claim.Claim.{Claim}
use Rattle.sb_shared.specs.declared.telling.Change.TheVariants.{Take}
use Rattle.sb_shared.specs.declared.telling.Hands.{Hands}
use Rattle.sb_shared.specs.declared.telling.Setting.{Setting}
use Rattle.sb_shared.specs.Found.{IsFound}
use Rattle.sb_shared.specs.Leavings.{Does}
use Rattle.sb_shared.specs.Linked.{KnowsLink, SetsLinks}
use Rattle.sb_shared.specs.SharedNodes.{ChangesOwn, SharedView}
use Rattle.sb_shared.specs.Views.{held_by}
use Rattle.sb_shared.proofs.feeds.FeedOfChanges.{does-so}
use Rattle.sb_shared.proofs.leavings.FreshEvents.{takes}
use Rattle.sb_shared.proofs.links.LinksOwed.{take-sets}
use Rattle.sb_shared.proofs.entered.PlacesHere.{take-knows}

-- the first waiting bundle of a lane is the claim that is told, and of the first lane its container's link is known
pub takes-told : (a : Setting) (w : Hands) (seen k : ℕ) (x y : SharedView) → IsFound a w k x → (claim : Claim) (t : Snapshot Claim) (link : Option ℕ) (lane : LaneView)
    → t.value ≡ claim → claim.node ≡ k → ChangesOwn (Takes claim.lane lane claim.bundle) x y
    → (claim.lane ≡ 0 → link ≡ down_of claim.bundle.epoch (links_of lane.containers)) → held_by w ≡ [] → Does a w seen k x y (Take t link)
takes-told a w seen k x y f claim t link lane told at own knows none =
    does-so a w seen k x y (Take t link) refl
    (takes a w seen k x y t link lane (ap (λ (v : Claim). v.node) told ∙ at)
    (subst (λ (v : Claim). ChangesOwn (Takes v.lane lane v.bundle) x y) (sym told) own) none)
    (subst (λ (v : Claim). SetsLinks v.lane 0 LinksStay x y × KnowsLink a k v.bundle.epoch link x) (sym told) (
      take-sets claim.lane lane claim.bundle x y own,
      take-knows a w k x f claim.lane claim.bundle.epoch lane link own.own.sets.in_it knows,
    ))
