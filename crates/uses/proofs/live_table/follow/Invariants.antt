use Rattle.std.proofs.Common.{◌≡◌, false}
use Rattle.sb_cli.specs.live.Lasts.{last_of}
use Rattle.sb_cli.specs.live.Rising.{IsNoEarlier}
use Rattle.uses.proofs.live_table.follow.Given as goal

abbrev pub invariant-loop : goal.invariant-loop
invariant-loop g l = record {
  steady : l.fell ≡ false;
  seen : IsNoEarlier l.before (last_of l.key l.reader);
}
