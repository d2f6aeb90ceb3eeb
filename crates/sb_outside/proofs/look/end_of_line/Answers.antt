use Rattle.std.proofs.Common.{◌∙◌, subst, ap, length, List, ℕ, Some, None}
use Rattle.memchr.specs.Find.{IsFirstByte, is_byte}
use Rattle.sb_outside.proofs.Ends.{found_len, no_found_len}
use Rattle.sb_outside.proofs.look.end_of_line.Goals as goal

pub returns-in-Some : goal.returns-in-Some
returns-in-Some c = found_len c.args.bytes.now c.in-Some.at (subst (λ (l : List ℕ). IsFirstByte (is_byte 10) l (Some c.in-Some.at)) c.window-window.ensures c.in-Some.ensures)

pub returns-in-None : goal.returns-in-None
returns-in-None c = ap length c.window-window.ensures ∙ no_found_len c.args.bytes.now (subst (λ (l : List ℕ). IsFirstByte (is_byte 10) l None) c.window-window.ensures c.in-None.ensures)
