-- What stays as it is of the feeder's pass of a cascade, call after call: that it may be used.
use Rattle.std.specs.Prelude.{◌≡◌}
use Rattle.std.proofs.Common.{refl, ap, subst, ◌∙◌}
use Rattle.sb_worker.specs.cascade.declared.cascade.Cascade.{Cascade}
use Rattle.sb_worker.specs.cascade.declared.pass.CascadePass.{CascadePass}
use Rattle.sb_worker.specs.cascade.Calls.{IsReady, plan_of, setting_of}
use Rattle.sb_engines.specs.Feeders.{IsStill}

-- the pass may still be used
pub still_here : (c : Cascade) (p : CascadePass) → IsReady c p → IsStill c p p
still_here c p ready = record { ready = ready; out = refl; feeder = λ f. f }

pub still_then : (c : Cascade) (p q r : CascadePass) → IsStill c p q → IsStill c q r → IsStill c p r
still_then c p q r first then = record {
  ready = then.ready;
  out = then.out ∙ first.out;
  feeder = λ f. then.feeder (first.feeder f);
}

-- also of a cascade that is the same
pub still_of_same : (c d : Cascade) (p q r : CascadePass) → d ≡ c → IsStill c p q → IsStill d q r → IsStill c p r
still_of_same c d p q r same first then = still_then c p q r first (subst (λ x. IsStill x q r) same then)

pub plan_of_same : (c d : Cascade) → d ≡ c → plan_of d ≡ plan_of c
plan_of_same c d same = ap plan_of same

pub bundle_of_same : (c d : Cascade) → d ≡ c → (setting_of d).bundle ≡ (setting_of c).bundle
bundle_of_same c d same = ap (λ (x : Cascade). (setting_of x).bundle) same
