use Rattle.std.proofs.Common.{sym}
use Rattle.toml.specs.View.{table_view}
use Rattle.sb_plan.proofs.Naming.{kind_at-named}
use Rattle.sb_plan.proofs.entry.entry_at.Goals as goal

pub transform_at-requires : goal.transform_at-requires
transform_at-requires g c = record { named = kind_at-named (table_view c.args.table.now) c.in_ok-kind_name.kind_name (sym c.in_ok-kind_name.ensures) }
