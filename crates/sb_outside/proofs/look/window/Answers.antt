use Rattle.std.proofs.Common.{arith, ap, take, ◌≡◌, ◌∙◌, length, min}
use Rattle.std.proofs.lemmas.List.{take_min}
use Rattle.sb_outside.proofs.look.window.Goals as goal

pub returns : goal.returns
returns c =
    let bytes = c.args.bytes.now in
    let turned : c.min.result ≡ min 130 (length bytes) = omega (arith, c.min.ensures) in
    ap (λ n. take n bytes) turned ∙ take_min 130 bytes
