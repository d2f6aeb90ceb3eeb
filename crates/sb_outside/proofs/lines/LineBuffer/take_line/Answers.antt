use Rattle.std.proofs.Common.{◌≡◌, ◌∙◌, ◌+◌, ◌≤◌, ℕ, List, length, take, drop, ap, arith}
use Rattle.std.specs.List.{slice_range}
use Rattle.sb_outside.specs.Buffers.{pending_bytes}
use Rattle.sb_outside.specs.Readings.{Held}
use Rattle.sb_outside.proofs.AtHand.{goes_on_with}
use Rattle.sb_outside.proofs.Searches.{line_part}
use Rattle.sb_outside.proofs.lines.LineBuffer.take_line.Goals as goal

pub take-requires : goal.take-requires
take-requires c =
    let h = c.args.self.now in
    let (goes, begins) = goes_on_with h.halt h.at_hand c.args.len c.requires in
    omega (arith, begins.within, ap (λ (v : Held). length v.at_hand) c.self.view_is)

pub returns : goal.returns
returns c =
    let h = c.args.self.now in
    let len = c.args.len in
    let b = c.self.inside.buffer in
    let (goes, begins) = goes_on_with h.halt h.at_hand len c.requires in
    let hand : pending_bytes b ≡ h.at_hand = ap (λ (v : Held). v.at_hand) c.self.view_is in
    let fits : len ≤ length (pending_bytes b) = omega (arith, begins.within, ap (λ (l : List ℕ). length l) hand) in
    let left = c.take.ensures.held ∙ ap (λ (l : List ℕ). drop (len + 1) l) hand in
    let shown = ap (λ (l : List ℕ). slice_range l b.start (b.start + len)) c.take.ensures.bytes ∙ line_part b.bytes b.start b.end len fits ∙ ap (λ (l : List ℕ). take len l) hand in
    let on = ap (λ (v : Held). v.halt) c.self.view_is ∙ goes in
    λ i. record { at_hand = left i; line = shown i; halt = on i }
