use Rattle.std.proofs.Common.{rules, ◌≡◌, ap, subst, List, ℕ}
use Rattle.std.specs.List.Sorted.{IsPermutation}
use Rattle.sb_turn.specs.Passes.{about}
use Rattle.turn_uses.specs.InHand.{hand}
use Rattle.turn_uses.proofs.Keeps.{at_end}
use Rattle.turn_uses.proofs.lay_and_claim.Goals as goal

pub returns : goal.returns
returns c = let all : about c.in-Ok-new.turns ≡ c.args.numbers.now = search rules in let knows : c.claim_all.new.pass.me.0.client ≡ hand c.claim_all.new.out.items = search rules in
    let e = c.close.ensures in subst (λ (l : List ℕ). IsPermutation l c.claim_all.new.out.items) (ap (λ v. v.items) all) (at_end _ c.claim_all.new.out.items c.claim_all.new.pass.me.0.client e.3 e.8 knows)
