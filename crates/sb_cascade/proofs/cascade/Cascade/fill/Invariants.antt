use Rattle.std.proofs.Common.{[]}
use Rattle.sb_cascade.specs.Calls.{IsEmptyHanded, IsReady, IsSame}
use Rattle.sb_cascade.specs.Shelving.{EndsWith}
use Rattle.sb_cascade.proofs.cascade.Cascade.fill.Given as goal

abbrev pub invariant-loop : goal.invariant-loop
invariant-loop g l = (IsReady l.self l.pass × IsSame l.initial.pass l.pass) × IsEmptyHanded l.pass × IsEmptyHanded l.initial.pass × EndsWith [] l.initial.pass l.pass
