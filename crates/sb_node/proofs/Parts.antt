-- What a part that a node takes in is to its grouping.
use Rattle.std.proofs.Common.{◌≡◌, ◌<◌, ℕ, zero, suc, List, append-nil, refl, sym, ap, subst, ◌∙◌, arith}
use Rattle.std.specs.Prelude.{sum_by, OnOk}
use Rattle.std.specs.declared.result.Result.{Result}
use Rattle.std.specs.declared.vec.Vec.{Vec}
use Rattle.sb_work.specs.base.records.declared.element.KeptRec.{KeptRec}
use Rattle.sb_work.specs.base.records.declared.item.NoMemory.{NoMemory}
use Rattle.sb_work.specs.base.records.declared.item.Record.{Record}
use Rattle.sb_work.specs.base.records.Elements.{all_records, on_lane}
use Rattle.sb_work.proofs.base.records.OnLanes.{all_records-on_lane}
use Rattle.sb_work.specs.base.window.Groupings.{IsFrom, Adds}
use Rattle.sb_work.specs.aggregate.Groups as aggregate
use Rattle.sb_sink.specs.Sinks as sink
use Rattle.sb_work.specs.join.Kept as join
use Rattle.sb_session.specs.SessionStates as session
use Rattle.sb_work.specs.base.pipeline.Operators.{Operator, lanes_of}
use Rattle.sb_work.specs.base.pipeline.Operators.Operator.{ParDo, Windowed, Sink}
use Rattle.sb_work.specs.base.pipeline.Operators.WindowOperator.{Aggregated, Sessions, Joined}
use Rattle.sb_work.specs.declared.outputs.Part.{Part}
use Rattle.sb_work.specs.declared.outputs.Part.TheVariants as part
use Rattle.sb_work.specs.Processing.{IsPart, side_of}
use Rattle.sb_node.specs.declared.kept.Kept.{Kept}
use Rattle.sb_node.specs.declared.kept.Kept.TheVariants as kept
use Rattle.sb_node.specs.Keeping.{IsSpent, IsMadeFor, IsPartFor, closed_mark, gives}

-- what taking in a part makes of a grouping, and that it was made for the same nodes
abbrev pub AddsPart : Kept → Part → Kept → Type 0
AddsPart old p new = (lane : ℕ) (records : List Record) → IsPartFor old p lane records → Adds (closed_mark old) (gives old) (gives new) (on_lane lane records)

abbrev pub StaysMade : Kept → Part → Kept → Type 0
StaysMade old p new = (op : Operator) → IsMadeFor op old → IsMadeFor op new

-- what holds of the variants holds of what is equal to them
pub carried : (P : Kept → Part → Kept → Type 0) {old old_is new new_is : Kept} {p p_is : Part} {r r_is : Result (Unit {0}) NoMemory}
    → old ≡ old_is → p ≡ p_is → new ≡ new_is → r ≡ r_is → OnOk r_is (P old_is p_is new_is) → OnOk r (P old p new)
carried P {old} {old_is} {new} {new_is} {p} {p_is} {r} old_same p_same new_same r_same h =
    subst (λ (x : Kept). OnOk r (P x p new)) (sym old_same)
    (subst (λ (x : Part). OnOk r (P old_is x new)) (sym p_same)
    (subst (λ (x : Kept). OnOk r (P old_is p_is x)) (sym new_same)
    (subst (λ (x : Result (Unit {0}) NoMemory). OnOk x (P old_is p_is new_is)) (sym r_same) h)))

-- ---- aggregates
-- the records of the part are those that came
records_are : (op : Operator) (g : aggregate.Absorbed) (p : aggregate.Grouped) (lane : ℕ) (records : List Record) → IsMadeFor op (kept.Aggregate g) → IsPart op lane records (part.Agg p) → p.records ≡ records
records_are (ParDo op) g p lane records made is = absurd made
records_are (Windowed (Aggregated agg windows)) g p lane records made is = ap (λ (x : aggregate.Grouped). x.records) is
records_are (Windowed (Sessions agg gap)) g p lane records made is = absurd made
records_are (Windowed (Joined combine windows)) g p lane records made is = absurd made
records_are Sink g p lane records made is = absurd made

pub all_records-of : (lane : ℕ) (records : List Record) → all_records (on_lane lane records) ≡ records
all_records-of lane records = ap all_records (sym (append-nil (on_lane lane records))) ∙ all_records-on_lane lane records

pub aggregate-adds : (g h : aggregate.Absorbed) (p : aggregate.Grouped) → ((es : List KeptRec) → aggregate.IsMadeOf p es → IsFrom g.closed es → Adds g.closed (aggregate.given g) (aggregate.given h) es)
    → AddsPart (kept.Aggregate g) (part.Agg p) (kept.Aggregate h)
aggregate-adds g h p adds lane records is =
    adds (on_lane lane records) (λ f. ap (sum_by f) (records_are is.operator g p lane records is.made is.is_part ∙ sym (all_records-of lane records))) is.from

-- the part stands for the elements that came on its lane
pub aggregate-stands : {old : Kept} {p : Part} (g : aggregate.Absorbed) (q : aggregate.Grouped) → old ≡ kept.Aggregate g → p ≡ part.Agg q
    → ((IsSpent old → ⊥) → (lane : ℕ) × (records : List Record) × IsPartFor old p lane records)
    → (IsSpent (kept.Aggregate g) → ⊥) → (es : List KeptRec) × aggregate.IsMadeOf q es × IsFrom g.closed es
aggregate-stands {old} {p} g q old_is p_is takes unspent =
    let of_part = subst (λ (x : Part). (IsSpent old → ⊥) → (lane : ℕ) × (records : List Record) × IsPartFor old x lane records) p_is takes in
    let of_both = subst (λ (x : Kept). (IsSpent x → ⊥) → (lane : ℕ) × (records : List Record) × IsPartFor x (part.Agg q) lane records) old_is of_part in
    let came = of_both unspent in
    (on_lane came.0 came.1, (λ f. ap (sum_by f) (records_are came.2.operator g q came.0 came.1 came.2.made came.2.is_part ∙ sym (all_records-of came.0 came.1))), came.2.from)

-- ---- sessions
-- lane 0 is the only one
rows_are : (op : Operator) (g : session.SessionState) (rows : Vec Record _) (lane : ℕ) (records : List Record) → IsMadeFor op (kept.Session g) → lane < lanes_of op → IsPart op lane records (part.Rows rows) → on_lane lane records ≡ on_lane 0 rows.items
rows_are (ParDo op) g rows lane records made one is = absurd made
rows_are (Windowed (Aggregated agg windows)) g rows lane records made one is = absurd made
rows_are (Windowed (Sessions agg gap)) g rows lane records made one is =
    let zero : lane ≡ 0 = omega arith in
    ap (λ l. on_lane l records) zero ∙ ap (on_lane 0) (sym is)
rows_are (Windowed (Joined combine windows)) g rows lane records made one is = absurd made
rows_are Sink g rows lane records made one is = absurd made

pub session-adds : (g h : session.SessionState) (rows : Vec Record _) → ((es : List KeptRec) → es ≡ on_lane 0 rows.items → IsFrom g.closed es → Adds g.closed (session.gives g) (session.gives h) es)
    → AddsPart (kept.Session g) (part.Rows rows) (kept.Session h)
session-adds g h rows adds lane records is =
    adds (on_lane lane records) (rows_are is.operator g rows lane records is.made is.is_lane is.is_part) is.from

-- ---- joins
-- the side of a lane is the part's
lane_of-side_of : (lane : ℕ) → lane < 2 → join.lane_of (side_of lane) ≡ lane
lane_of-side_of zero h = refl
lane_of-side_of (suc zero) h = refl
lane_of-side_of (suc (suc lane)) h = absurd (omega arith)

side_is : (op : Operator) (g : join.JoinState) (p : join.OneSided) (lane : ℕ) (records : List Record) → IsMadeFor op (kept.Join g) → lane < lanes_of op → IsPart op lane records (part.Join p)
    → on_lane lane records ≡ on_lane (join.lane_of p.side) p.records
side_is (ParDo op) g p lane records made two is = absurd made
side_is (Windowed (Aggregated agg windows)) g p lane records made two is = absurd made
side_is (Windowed (Sessions agg gap)) g p lane records made two is = absurd made
side_is (Windowed (Joined combine windows)) g p lane records made two is =
    ap (λ l. on_lane l records) (sym (ap (λ (x : join.OneSided). join.lane_of x.side) is ∙ lane_of-side_of lane two)) ∙ ap (λ (x : join.OneSided). on_lane (join.lane_of p.side) x.records) (sym is)
side_is Sink g p lane records made two is = absurd made

pub join-adds : (g h : join.JoinState) (p : join.OneSided) → ((es : List KeptRec) → join.StandsFor p.side p.records es → IsFrom g.closed es → Adds g.closed (join.gives g) (join.gives h) es)
    → AddsPart (kept.Join g) (part.Join p) (kept.Join h)
join-adds g h p adds lane records is =
    adds (on_lane lane records) (λ f. ap (sum_by f) (side_is is.operator g p lane records is.made is.is_lane is.is_part)) is.from

-- ---- the sink
given_are : (op : Operator) (g : sink.SinkState) (rows : Vec Record _) (lane : ℕ) (records : List Record) → IsMadeFor op (kept.Sink g) → IsPart op lane records (part.Rows rows) → rows.items ≡ records
given_are (ParDo op) g rows lane records made is = absurd made
given_are (Windowed (Aggregated agg windows)) g rows lane records made is = absurd made
given_are (Windowed (Sessions agg gap)) g rows lane records made is = absurd made
given_are (Windowed (Joined combine windows)) g rows lane records made is = absurd made
given_are Sink g rows lane records made is = is

pub sink-adds : (g h : sink.SinkState) (rows : Vec Record _) → ((es : List KeptRec) → sink.StandsFor rows.items es → IsFrom g.closed es → Adds g.closed (sink.gives g) (sink.gives h) es)
    → AddsPart (kept.Sink g) (part.Rows rows) (kept.Sink h)
sink-adds g h rows adds lane records is =
    adds (on_lane lane records) (λ f. ap (sum_by f) (all_records-of lane records ∙ sym (given_are is.operator g rows lane records is.made is.is_part))) is.from
