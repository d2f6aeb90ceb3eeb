use Rattle.std.proofs.Common.{◌≡◌, ℕ}
use Rattle.sb_turn.specs.Turning.{tried_view}
use Rattle.sb_turn.proofs.turns.Turns.wait.Given as goal

abbrev pub ghosts-attempt : goal.ghosts-attempt
ghosts-attempt g a = record { fact = g.K.Keep.finds a.self.now.table.shared.key }

abbrev pub invariant-loop : goal.invariant-loop
invariant-loop g l = (l.pass.table_id ≡ l.initial.pass.table_id) × (l.pass.id ≡ l.initial.pass.id) × (l.pass.me.1 ≡ l.initial.pass.me.1) × ((n : ℕ) × (l.pass.me.0 ≡ tried_view l.node n l.initial.pass.me.0))
