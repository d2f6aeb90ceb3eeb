use Rattle.std.proofs.Common.{rules, ◌≡◌, ap, inr, None, subst}
use Rattle.sb_shared.specs.turn.Passes.{about}
use Rattle.sb_shared.specs.declared.telling.Piece.{Piece}
use Rattle.sb_shared.specs.declared.telling.Setting.{Setting}
use Rattle.sb_shared.specs.Found.{IsLaid}
use Rattle.sb_shared.proofs.lives.Claims.{claimed}
use Rattle.sb_cascade.proofs.leavings.Handing.{keeps-none}
use Rattle.sb_shared.proofs.lives.Shelving.{takes_by}
use Rattle.sb_cascade.proofs.cascade.Cascade.claim.Goals as goal

pub claim-requires-clause-rule : goal.claim-requires-clause-rule
claim-requires-clause-rule c =
    let p = c.args.pass.now in
    let none : p.kept ≡ None = search rules in
    takes_by (about c.args.self.now.turns) p.seat.id p.seat.me.0.client (keeps-none p c.requires.pass.1 none).held

pub returns-in-Some-claim-clause-some : goal.returns-in-Some-claim-clause-some
returns-in-Some-claim-clause-some c =
    let p = c.args.pass.now in
    let none : p.kept ≡ None = search rules in
    let kept : c.take.new.self ≡ None = search rules in
    let same : about c.args.self.now.turns ≡ c.args.self.now.setting = search rules in
    let piece : Piece = c.in-Some-claim.field-0 in
    let found = c.in-Some-claim.ensures.claimed in (
      claimed c.args.self.now.setting piece (subst (λ (a : Setting). IsLaid a piece) same c.in-Some-claim.ensures.fits),
      (ap (λ v. v.client.held) found.3, kept),
      inr (none, (found.0, found.1, ap (λ v. v.trace) found.3)),
    )
