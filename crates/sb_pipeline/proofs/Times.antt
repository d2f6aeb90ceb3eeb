-- How late records can be at each node: each node adds at most the greatest size of windows.
use Rattle.std.proofs.Common.{◌≡◌, ◌≤◌, ◌<◌, ℕ, suc, ◌+◌, ◌*◌, Bool, true, false, cond, eqb, List, [], ◌∷◌, ◌++◌, length, Option, Some, None, refl, sym, ap, subst, ◌∙◌, arith}
use Rattle.std.specs.List.{slice_get, AllByRecursion}
use Rattle.std.proofs.lemmas.Bool.{eqb-true}
use Rattle.std.proofs.lemmas.Bool.Decides.{nat_tests}
use Rattle.std.proofs.lemmas.Option.{slice_get_past}
use Rattle.sb_windowed.specs.records.declared.item.Record.{Record}
use Rattle.sb_windowed.specs.records.declared.item.Stream.{Stream}
use Rattle.sb_windowed.specs.records.declared.item.Stream.TheVariants.{A, B}
use Rattle.sb_windowed.specs.records.declared.item.TheConstants.{MAX_TIME, END_MARK}
use Rattle.sb_windowed.specs.records.Records.{before, sorted_records}
use Rattle.sb_windowed.proofs.records.Elements.{every, All-join, All-flat_map}
use Rattle.sb_windowed.specs.window.declared.windows.TheConstants.{MAX_SIZE}
use Rattle.sb_pardo.specs.Outputs.{outputs_of}
use Rattle.sb_pardo.proofs.Keeping.{outputs_keep_time}
use Rattle.sb_windowed.proofs.SessionRows.{session_rows-times}
use Rattle.sb_windowed.proofs.AggregateTimes.{aggregate_rows-times}
use Rattle.sb_windowed.proofs.JoinTimes.{join_rows-times}
use Rattle.sb_pipeline.specs.declared.transform.Down.{Down}
use Rattle.sb_windowed.specs.records.declared.element.KeptRec.{KeptRec}
use Rattle.sb_pipeline.specs.declared.transform.Kind.{Kind}
use Rattle.sb_pipeline.specs.declared.transform.Kind.TheVariants.{Do, Group, Join, Session}
use Rattle.sb_pipeline.specs.declared.transform.Step.{Step}
use Rattle.sb_windowed.specs.records.Elements.{on_lane, all_records, of_lane}
use Rattle.sb_pipeline.specs.Operators.{operator_of, operator_at, output}
use Rattle.sb_pipeline.specs.Shapes.{Shape}
use Rattle.sb_pipeline.specs.Plans.{IsPlan, IsValidKind}
use Rattle.sb_pipeline.specs.Flow.{Sent, arrivals_at, from_stream, from_streams, from_step, sent_from}
use Rattle.sb_pipeline.specs.Results.{output_at, output_of, all_rows}
use Rattle.sb_windowed.proofs.records.OnLanes.{All-on_lane, All-all_records, All-of_lane}
use Rattle.sb_pipeline.proofs.Steps.{kind-at}

-- the latest time of what arrives at a node
abbrev pub latest : ℕ → ℕ
latest k = MAX_TIME + MAX_SIZE * k

-- no record is later than its node allows
abbrev pub IsTimely : Sent → Type 0
IsTimely s = AllByRecursion (λ r. r.time ≤ latest s.down.node) s.records

abbrev pub AreTimely : List Sent → Type 0
AreTimely sent = AllByRecursion IsTimely sent

-- records of a stream
abbrev pub IsInTime : List Record → Type 0
IsInTime records = AllByRecursion (λ r. r.time ≤ MAX_TIME) records

-- what a transform gives is at most a size of windows later than what it takes
pub output-times : (kind : Kind) → IsValidKind kind → (bound : ℕ) (elements : List KeptRec) → AllByRecursion (λ e. e.rec.time ≤ bound) elements → AllByRecursion (λ r. r.time ≤ bound + MAX_SIZE) (output (operator_of kind) elements)
output-times (Do op) valid bound elements low =
    All-flat_map (λ r. r.time ≤ bound) (λ r. r.time ≤ bound + MAX_SIZE) (outputs_of op)
    (λ r h. every (λ o same. omega (arith, h, same)) (outputs_of op r) (outputs_keep_time op r)) (all_records elements) (All-all_records (λ r. r.time ≤ bound) elements low)
output-times (Group agg windows) valid bound elements low =
    every (λ r h. omega (arith, h, valid.1.most_size)) (output (operator_of (Group agg windows)) elements)
    (aggregate_rows-times agg windows bound (all_records elements) (All-all_records (λ r. r.time ≤ bound) elements low))
output-times (Session agg gap) valid bound elements low =
    every (λ r h. omega (arith, h, valid.1.1)) (output (operator_of (Session agg gap)) elements)
    (session_rows-times agg gap bound (all_records elements) valid.1.0 (All-all_records (λ r. r.time ≤ bound) elements low))
output-times (Join combine windows) valid bound elements low =
    every (λ r h. omega (arith, h, valid.0.most_size)) (output (operator_of (Join combine windows)) elements)
    (join_rows-times combine windows bound (of_lane 0 elements) (of_lane 1 elements) (All-of_lane (λ r. r.time ≤ bound) 0 elements low))

-- what arrives at a node
pub arriving-times : (k : ℕ) (sent : List Sent) → AreTimely sent → AllByRecursion (λ e. e.rec.time ≤ latest k) (arrivals_at k sent)
arriving-times k sent timely = All-flat_map IsTimely (λ e. e.rec.time ≤ latest k) (λ s. cond (eqb s.down.node k) (on_lane s.down.lane s.records) []) (λ s h. by_case s (eqb s.down.node k) refl h) sent timely
  where
    by_case : (s : Sent) (b : Bool) → eqb s.down.node k ≡ b → IsTimely s → AllByRecursion (λ e. e.rec.time ≤ latest k) (cond b (on_lane s.down.lane s.records) [])
    by_case s true e h = All-on_lane (λ r. r.time ≤ latest k) s.down.lane s.records (subst (λ n. AllByRecursion (λ r. r.time ≤ latest n) s.records) (eqb-true s.down.node k e) h)
    by_case s false e h = tt

-- what one transform sends
pub from_step-timely : (plan : Shape) → IsPlan plan → (k : ℕ) (s : Step) → slice_get plan.steps k ≡ Some s → (sent : List Sent) → AreTimely sent → IsTimely (from_step s (output_at plan k (arrivals_at k sent)))
from_step-timely plan is k s at sent timely =
    let later : k < s.down.node = is.further k s at in
    every (λ r h. omega (arith, h, later)) (output_at plan k (arrivals_at k sent))
    (subst (λ o. AllByRecursion (λ r. r.time ≤ latest k + MAX_SIZE) (output (operator_at o) (arrivals_at k sent))) (sym at)
    (output-times s.kind (kind-at plan is k s at) (latest k) (arrivals_at k sent) (arriving-times k sent timely)))

-- one step of the flow
pub sent-step-timely : (plan : Shape) → IsPlan plan → (k : ℕ) (s : Step) → slice_get plan.steps k ≡ Some s → (sent : List Sent) → AreTimely sent → AreTimely (sent ++ from_step s (output_at plan k (arrivals_at k sent)) ∷ [])
sent-step-timely plan is k s at sent timely = All-join IsTimely sent (from_step s (output_at plan k (arrivals_at k sent)) ∷ []) timely (from_step-timely plan is k s at sent timely, tt)

-- what the streams send
pub from_streams-timely : (plan : Shape) (streams : Stream → List Record) → ((s : Stream) → IsInTime (streams s)) → AreTimely (from_streams plan streams)
from_streams-timely plan streams in_time =
    All-join IsTimely (from_stream plan.source_a (streams A)) (from_stream plan.source_b (streams B)) (of plan.source_a (streams A) (in_time A)) (of plan.source_b (streams B) (in_time B))
  where
    of : (source : Option Down) (records : List Record) → IsInTime records → AreTimely (from_stream source records)
    of None records h = tt
    of (Some down) records h = (every (λ r low. omega (arith, low)) records h, tt)

-- all that is sent
pub sent_from-timely : (plan : Shape) → IsPlan plan → (k : ℕ) (steps : List Step) → ((i : ℕ) (s : Step) → slice_get steps i ≡ Some s → slice_get plan.steps (k + i) ≡ Some s)
    → (sent : List Sent) → AreTimely sent → AreTimely (sent_from (output_at plan) k steps sent)
sent_from-timely plan is k [] at sent timely = timely
sent_from-timely plan is k (s ∷ steps) at sent timely =
    sent_from-timely plan is (k + 1) steps later (sent ++ from_step s (output_at plan k (arrivals_at k sent)) ∷ []) (sent-step-timely plan is k s here sent timely)
  where
    here : slice_get plan.steps k ≡ Some s
    here = let z : k + 0 ≡ k = omega arith in ap (slice_get plan.steps) (sym z) ∙ at 0 s refl

    later : (i : ℕ) (t : Step) → slice_get steps i ≡ Some t → slice_get plan.steps (k + 1 + i) ≡ Some t
    later i t h = let e : k + 1 + i ≡ k + suc i = omega arith in ap (slice_get plan.steps) e ∙ at (suc i) t h

-- what a plan gives is before the watermark of the end
pub output_of-times : (plan : Shape) → IsPlan plan → (streams : Stream → List Record) → ((s : Stream) → IsInTime (streams s)) → AllByRecursion (λ r. r.time < END_MARK) (output_of plan streams)
output_of-times plan is streams in_time =
    let n : ℕ = length plan.steps in
    let sent : List Sent = sent_from (output_at plan) 0 plan.steps (from_streams plan streams) in
    let timely : AreTimely sent = sent_from-timely plan is 0 plan.steps from_first (from_streams plan streams) (from_streams-timely plan streams in_time) in
    subst (λ o. AllByRecursion (λ r. r.time < END_MARK) (output (operator_at o) (arrivals_at n sent))) (sym (slice_get_past plan.steps n (omega arith)))
    (All-all_records (λ r. r.time < END_MARK) (arrivals_at n sent) (every (λ e h. omega (arith, h, is.most)) (arrivals_at n sent) (arriving-times n sent timely)))
  where
    from_first : (i : ℕ) (s : Step) → slice_get plan.steps i ≡ Some s → slice_get plan.steps (0 + i) ≡ Some s
    from_first i s h = let e : 0 + i ≡ i = omega arith in ap (slice_get plan.steps) e ∙ h

-- so the rows of all windows are all that the plan gives
pub all_rows-sorted : (plan : Shape) → IsPlan plan → (streams : Stream → List Record) → ((s : Stream) → IsInTime (streams s)) → all_rows plan streams ≡ sorted_records (output_of plan streams)
all_rows-sorted plan is streams in_time = ap sorted_records (none_late (output_of plan streams) (output_of-times plan is streams in_time))
  where
    none_late : (l : List Record) → AllByRecursion (λ r. r.time < END_MARK) l → before END_MARK l ≡ l
    none_late [] low = refl
    none_late (r ∷ l) low = let e : before END_MARK l ≡ l = none_late l low.1 in grind (arith, nat_tests)
