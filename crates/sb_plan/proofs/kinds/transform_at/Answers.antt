use Rattle.std.proofs.Common.{IfOk, sym, subst}
use Rattle.toml.specs.View.{table_view}
use Rattle.sb_plan.specs.Soundness.{IsOfKind}
use Rattle.sb_plan.specs.Words.{IsNamed}
use Rattle.sb_pipeline.specs.windowed.Aggregates.{GivesOne}
use Rattle.sb_plan.proofs.OfKinds.{filter-valid, map-valid, group-valid, top-valid, session-valid, join-valid, expanded-valid}
use Rattle.sb_plan.proofs.kinds.transform_at.Goals as goal

pub returns-in-Expand-clause-valid : goal.returns-in-Expand-clause-valid
returns-in-Expand-clause-valid g c = subst (λ name. IfOk c.expand_at.result (IsOfKind name)) (sym c.in-Expand.is) (expanded-valid (table_view c.args.table.now) c.expand_at.result c.expand_at.ensures.exact)

pub returns-in_ok-filter_at-in-Filter-clause-valid : goal.returns-in_ok-filter_at-in-Filter-clause-valid
returns-in_ok-filter_at-in-Filter-clause-valid g c = subst (λ name. IsOfKind name c.in_ok-filter_at-in-Filter.field-0) (sym c.in-Filter.is) (filter-valid c.args.keys (table_view c.args.table.now) c.in_ok-filter_at-in-Filter.field-0 (sym c.in_ok-filter_at-in-Filter.ensures))

pub returns-in_ok-map_at-in-Map-clause-valid : goal.returns-in_ok-map_at-in-Map-clause-valid
returns-in_ok-map_at-in-Map-clause-valid g c = subst (λ name. IsOfKind name c.in_ok-map_at-in-Map.field-0) (sym c.in-Map.is) (map-valid c.args.keys (table_view c.args.table.now) c.in_ok-map_at-in-Map.field-0 (sym c.in_ok-map_at-in-Map.ensures))

pub returns-in_ok-group_at-in-Group-clause-valid : goal.returns-in_ok-group_at-in-Group-clause-valid
returns-in_ok-group_at-in-Group-clause-valid g c =
    let one : GivesOne c.in-Group.agg = subst IsNamed c.in-Group.is c.requires.named in
    subst (λ name. IsOfKind name c.in_ok-group_at-in-Group.field-0) (sym c.in-Group.is) (group-valid c.in-Group.agg (table_view c.args.table.now) c.in_ok-group_at-in-Group.field-0 one (sym c.in_ok-group_at-in-Group.ensures))

pub returns-in_ok-top_at-in-Top-clause-valid : goal.returns-in_ok-top_at-in-Top-clause-valid
returns-in_ok-top_at-in-Top-clause-valid g c = subst (λ name. IsOfKind name c.in_ok-top_at-in-Top.field-0) (sym c.in-Top.is) (top-valid (table_view c.args.table.now) c.in_ok-top_at-in-Top.field-0 (sym c.in_ok-top_at-in-Top.ensures))

pub returns-in_ok-join_at-in-Join-clause-valid : goal.returns-in_ok-join_at-in-Join-clause-valid
returns-in_ok-join_at-in-Join-clause-valid g c = subst (λ name. IsOfKind name c.in_ok-join_at-in-Join.field-0) (sym c.in-Join.is) (join-valid (table_view c.args.table.now) c.in_ok-join_at-in-Join.field-0 (sym c.in_ok-join_at-in-Join.ensures))

pub returns-in_ok-session_at-in-Session-clause-valid : goal.returns-in_ok-session_at-in-Session-clause-valid
returns-in_ok-session_at-in-Session-clause-valid g c = subst (λ name. IsOfKind name c.in_ok-session_at-in-Session.field-0) (sym c.in-Session.is) (session-valid (table_view c.args.table.now) c.in_ok-session_at-in-Session.field-0 (sym c.in_ok-session_at-in-Session.ensures))
