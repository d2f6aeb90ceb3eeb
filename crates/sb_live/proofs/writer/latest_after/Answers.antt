use Rattle.std.proofs.Common.{ap, ◌+◌, ◌∙◌}
use Rattle.std.specs.Option.{option_map_or}
use Rattle.sb_live.specs.Rising.{next_after}
use Rattle.sb_live.proofs.Earlier.{next_time-at}
use Rattle.sb_live.proofs.writer.latest_after.Goals as goal

pub returns-in-Some : goal.returns-in-Some
returns-in-Some c = ap (λ o. option_map_or (λ r. r.time + 1) o (next_after c.args.latest)) c.in-Some.ensures.value ∙ next_time-at (next_after c.args.latest) c.args.rows.now

pub returns-in-None : goal.returns-in-None
returns-in-None c = ap (λ o. option_map_or (λ r. r.time + 1) o (next_after c.args.latest)) c.in-None.ensures.value ∙ next_time-at (next_after c.args.latest) c.args.rows.now
