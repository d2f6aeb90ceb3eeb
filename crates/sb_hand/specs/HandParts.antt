-- What a hand is made of.
use Rattle.std.specs.Prelude.{◌≡◌}
use Rattle.sb_hand.specs.declared.hand.HandParts.{HandParts}
use Rattle.sb_hand.specs.Hands.{HandView}

-- the hand has these parts
pub record IsMadeOf (parts : HandParts) (h : HandView) : Type 0 where
  pub plan : parts.plan ≡ h.plan
  pub bundle : parts.bundle ≡ h.bundle
  pub pending : parts.pending ≡ h.pending
  pub nodes : parts.nodes.items ≡ h.nodes
  pub tray : parts.tray.items ≡ h.tray
  pub spent : parts.spent ≡ h.spent
