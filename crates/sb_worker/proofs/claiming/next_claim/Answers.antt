use Rattle.std.proofs.Common.{length}
use Rattle.std.proofs.lemmas.Option.{IfSome_then}
use Rattle.sb_cascade.specs.Calls.{plan_of}
use Rattle.sb_worker.specs.Steps.{IsBareAndIdle, IsClaiming, IsIdle, IsShelfBare}
use Rattle.sb_worker.proofs.Claims.{claiming-after, if-none}
use Rattle.sb_worker.proofs.Doing.{bare-and-idle}
use Rattle.sb_worker.proofs.Gaining.{gains-then}
use Rattle.sb_worker.proofs.claiming.next_claim.Goals as goal

pub returns-clause-some : goal.returns-clause-some
returns-clause-some g c =
    let p = c.args.pass.now in
    let q = c.shelved_claim.new.pass in
    let r = c.waiting_claim.new.pass in
    let bare = c.in_default.ensures.none.1 in
    IfSome_then c.waiting_claim.result c.waiting_claim.ensures.some (λ claim s. (s.0, s.1, gains-then p q r IsShelfBare IsClaiming IsClaiming (λ a b x y. claiming-after a b x.0 y) bare s.2))

pub returns-clause-none : goal.returns-clause-none
returns-clause-none g c =
    let sink = length (plan_of c.args.cascade.now).steps in
    let p = c.args.pass.now in
    let q = c.shelved_claim.new.pass in
    let r = c.waiting_claim.new.pass in
    let bare = c.in_default.ensures.none.1 in
    if-none c.waiting_claim.result _ _ (λ s. (s.0, gains-then p q r IsShelfBare (IsIdle sink) (IsBareAndIdle sink) (bare-and-idle sink) bare s.1)) c.waiting_claim.ensures.none
