-- Receipts: what a receipt keeps of the claim that it stands for.
use Rattle.std.specs.Prelude.{◌≡◌, ℕ}
use Rattle.sb_work.specs.declared.claim.Claim.{Claim}

-- these are the node and the lane of a claim, and the number, the epoch and the floor of its bundle
pub record IsReceiptOf (claim : Claim) (node lane number epoch floor : ℕ) : Type 0 where
  pub node_is : node ≡ claim.node
  pub lane_is : lane ≡ claim.lane
  pub number_is : number ≡ claim.bundle.number
  pub epoch_is : epoch ≡ claim.bundle.epoch
  pub floor_is : floor ≡ claim.bundle.floor
