-- The passes of those who help.
use Rattle.std.specs.Prelude.{◌≡◌, ℕ}
use Rattle.sb_cascade.specs.declared.cascade.Cascade.{Cascade}
use Rattle.sb_cascade.specs.declared.pass.CascadePass.{CascadePass}
use Rattle.sb_cascade.specs.Calls.{IsEmptyHanded, IsFeeder, IsReady, hands, passes_out}
use Rattle.sb_cascade.specs.shared.Views.{no_feed}

-- the pass of a helper, with nothing in hand
pub record IsHelper (c : Cascade) (p : CascadePass) : Type 0 where
  pub ready : IsReady c p
  pub empty : IsEmptyHanded p
  pub feeds : (hands p).feed ≡ no_feed

-- the feeder's pass, with nothing in hand, while so many others are out
pub record IsFirst (c : Cascade) (count : ℕ) (p : CascadePass) : Type 0 where
  pub ready : IsReady c p
  pub feeder : IsFeeder p
  pub empty : IsEmptyHanded p
  pub out : passes_out p ≡ count
