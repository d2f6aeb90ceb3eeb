-- What a grouping is at the start, and what it stays.
use Rattle.std.proofs.Common.{◌≡◌, ℕ, [], refl, sym, ap, subst, ◌∙◌}
use Rattle.std.specs.Prelude.{sum_by}
use Rattle.sb_work.specs.base.records.Elements.{all_records}
use Rattle.sb_work.specs.base.windowed.declared.aggregate.Agg.{Agg}
use Rattle.sb_work.specs.aggregate.Groups.{Absorbed, Grouped, IsLike}
use Rattle.sb_work.specs.base.windowed.Sessions.{session_rows}
use Rattle.sb_work.proofs.join.KeptLaws.{fresh-all}
use Rattle.sb_work.specs.base.pipeline.Operators.{Operator}
use Rattle.sb_work.specs.base.pipeline.Operators.Operator.{ParDo, Windowed, Sink}
use Rattle.sb_work.specs.base.pipeline.Operators.WindowOperator.{Aggregated, Sessions, Joined}
use Rattle.sb_session.specs.SessionStates.{SessionState, fresh}
use Rattle.sb_node.specs.declared.kept.Kept.TheVariants as kept
use Rattle.sb_node.specs.Keeping.{IsMadeFor, ShowsKept}

-- sessions of which nothing was taken show that nothing came
pub session-fresh : (agg : Agg) (gap : ℕ) (g : SessionState) (op : Operator) → g ≡ fresh agg gap → op ≡ Windowed (Sessions agg gap) → ShowsKept op (kept.Session g) []
session-fresh agg gap g op is does =
    subst (λ (s : SessionState). ShowsKept op (kept.Session s) []) (sym is)
    (subst (λ (o : Operator). ShowsKept o (kept.Session (fresh agg gap)) []) (sym does)
    (λ l _ f. ap (sum_by f) (sym (fresh-all (session_rows agg gap (all_records l))))))

-- an aggregate whose parts still fit is made for the same nodes
pub aggregate-stays : (g h : Absorbed) → ((p : Grouped) → IsLike g p → IsLike h p) → (op : Operator) → IsMadeFor op (kept.Aggregate g) → IsMadeFor op (kept.Aggregate h)
aggregate-stays g h fits (ParDo op) made = absurd made
aggregate-stays g h fits (Windowed (Aggregated agg windows)) made =
    let like : IsLike h (record { agg = g.agg; windows = g.windows; records = [] }) = fits (record { agg = g.agg; windows = g.windows; records = [] }) (record { agg = refl; windows = refl }) in
    (sym like.agg ∙ made.0, sym like.windows ∙ made.1)
aggregate-stays g h fits (Windowed (Sessions agg gap)) made = absurd made
aggregate-stays g h fits (Windowed (Joined combine windows)) made = absurd made
aggregate-stays g h fits Sink made = absurd made
