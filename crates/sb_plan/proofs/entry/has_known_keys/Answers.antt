use Rattle.std.proofs.Common.{◌∙◌}
use Rattle.sb_plan.specs.Entries.{is_key_of}
use Rattle.sb_plan.proofs.AllKeys.{all_keys_view}
use Rattle.sb_plan.proofs.entry.has_known_keys.Goals as goal

pub returns : goal.returns
returns c = c.are_known_keys.ensures ∙ all_keys_view (is_key_of c.args.kind) c.args.table.now.entries
