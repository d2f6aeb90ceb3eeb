use Rattle.std.proofs.Common.{◌++◌, sym, ap, ◌∙◌, append-nil}
use Rattle.sb_shared.specs.turn.Passes.{about}
use Rattle.sb_shared.specs.turn.Turning.{looks_from}
use Rattle.sb_shared.specs.declared.telling.Piece.{Piece}
use Rattle.sb_cascade.proofs.leavings.Handing.{looks-search}
use Rattle.sb_shared.proofs.lives.Shelving.{lays_by}
use Rattle.sb_cascade.proofs.cascade.Cascade.lay.Goals as goal

pub put-requires-clause-rule : goal.put-requires-clause-rule
put-requires-clause-rule c =
    let piece : Piece = record { claim = c.args.claim; link = c.args.pass.now.link } in
    lays_by (about c.args.self.now.turns) c.args.pass.now.seat.id c.args.pass.now.seat.me.0.client piece c.requires.pass.1.0 (sym c.requires.pass.0.knows.link)

pub returns-in-None-clause-laid : goal.returns-in-None-clause-laid
returns-in-None-clause-laid c =
    let laid = c.in-None.ensures.laid in
    let old = c.args.pass.now.seat.me.0 in (
      record { held = ap (λ v. v.client.held) laid.3; link = ap (λ v. v.client.link) laid.3; kept = c.requires.pass.1.1 },
      (looks_from 0 laid.0, looks-search 0 laid.0, ap (λ v. v.trace) laid.3 ∙ ap (λ l. old.trace ++ l) (sym (append-nil (looks_from 0 laid.0)))),
    )
