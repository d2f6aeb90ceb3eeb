use Rattle.std.proofs.Common.{◌≡◌, drop}
use Rattle.sb_turn.specs.Passes.{IsFree}
use Rattle.turn_uses.specs.InHand.{hand}
use Rattle.turn_uses.proofs.lay_all.Given as goal

abbrev pub invariant-loop-i : goal.invariant-loop-i
invariant-loop-i l = (l.pass.table_id ≡ l.initial.pass.table_id) × (l.pass.id ≡ l.initial.pass.id) × IsFree l.pass × (l.pass.me.0.count ≡ l.initial.pass.me.0.count) × (l.pass.me.0.client ≡ hand (drop l.i l.numbers.items))
