use Rattle.std.proofs.Common.{◌-◌, ◌≡◌, ◌+◌, ◌*◌, ◌^◌, ◌<◌, ◌≤◌}
use Rattle.std.specs.List.{AllByRecursion}
use Rattle.sb_window.specs.declared.keyed_window.KeyedWindow.{KeyedWindow}
use Rattle.sb_window.specs.Gatherings.{joined_value}
use Rattle.sb_runs.specs.Runs.{found, spread_value}
use Rattle.sb_runs.proofs.panes.spread.Given as goal

abbrev pub invariant-doubled : goal.invariant-doubled
invariant-doubled g l = let join = g.J.Joiner.joined l.joiner in record {
  some : 1 ≤ l.rest;
  width : l.rest * l.step < 2 ^ 64;
  ends : AllByRecursion (λ e. e.0.end + (l.rest - 1) * l.step < 2 ^ 64) l.run;
  same : (q : KeyedWindow) → joined_value join (spread_value join l.step l.rest l.run q) (found l.behind q) ≡ spread_value join l.every l.count l.fn.panes q;
}

abbrev pub decreases-doubled : goal.decreases-doubled
decreases-doubled g l = l.rest - 1
