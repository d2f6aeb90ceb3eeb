use Rattle.std.proofs.Common.{◌+◌, ◌∷◌, take, sym, ap, ◌∙◌}
use Rattle.std.proofs.lemmas.List.{take_rest}
use Rattle.sb_checkpoint.specs.Texts.{pieces}
use Rattle.sb_checkpoint.proofs.Pieces.{no-feed, at-feed}
use Rattle.sb_checkpoint.proofs.reading.first_line.Goals as goal

pub returns-in_err-end-clause-none : goal.returns-in_err-end-clause-none
returns-in_err-end-clause-none c = rw c.from_residual.ensures (no-feed c.args.text.now c.in_err-end.ensures)

pub returns-clause-some : goal.returns-clause-some
returns-clause-some c =
    (at-feed c.args.text.now c.in_ok-end.end c.in_ok-end.ensures).1
    ∙ ap (λ l. take c.in_ok-end.end c.args.text.now ∷ pieces l) (sym (take_rest c.args.text.now (c.in_ok-end.end + 1)))
