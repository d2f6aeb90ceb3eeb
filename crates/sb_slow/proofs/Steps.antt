-- The flow of a plan, one transform further.
use Rattle.std.proofs.Common.{◌≡◌, ◌≤◌, ◌<◌, ℕ, ◌+◌, List, [], ◌∷◌, ◌++◌, All, drop, length, Some, ap, sym, subst, ◌∙◌, arith}
use Rattle.std.specs.List.{slice_get}
use Rattle.std.specs.Option.{option_map}
use Rattle.std.proofs.NetLemmas.Options.{map_some}
use Rattle.std.proofs.lemmas.Option.{slice_get_past, slice_get_within, get_or_from_slice_get}
use Rattle.std.proofs.lemmas.List.{drop_more}
use Rattle.std.proofs.lemmas.List.Elements.{All-from_recursion, recursion_from_All}
use Rattle.sb_base.specs.records.declared.item.Record.{Record}
use Rattle.sb_base.specs.records.declared.item.Stream.{Stream}
use Rattle.sb_base.specs.records.declared.item.Stream.TheVariants.{A, B}
use Rattle.sb_base.specs.records.declared.item.TheConstants.{MAX_TIME, END_MARK}
use Rattle.sb_base.proofs.records.Elements.{every}
use Rattle.sb_base.specs.pipeline.declared.transform.Down.{Down}
use Rattle.sb_base.specs.records.declared.element.KeptRec.{KeptRec}
use Rattle.sb_base.specs.pipeline.declared.transform.Step.{Step}
use Rattle.sb_base.specs.records.Elements.{all_records}
use Rattle.sb_base.specs.pipeline.Flow.{Sent, arrivals_at, from_streams, sent_from}
use Rattle.sb_base.specs.pipeline.Operators.{operator_at, output}
use Rattle.sb_base.specs.pipeline.Plans.{IsPlan}
use Rattle.sb_base.specs.pipeline.Results.{output_at, output_of}
use Rattle.sb_base.specs.pipeline.Shapes.{Shape}
use Rattle.sb_base.proofs.pipeline.Times.{AreTimely, IsInTime, arriving-times, from_streams-timely, sent-step-timely, output_of-times}

-- the transform at this place, by where it sends
step-at : (steps : List Step) (k : ℕ) (down : Down) → option_map (λ s. s.down) (slice_get steps k) ≡ Some down → (s : Step) × (slice_get steps k ≡ Some s) × (s.down ≡ down)
step-at steps k down at = map_some (λ s. s.down) (slice_get steps k) down at (λ s there same. (s, there, same))

-- what is sent once a transform more has given what it gives
pub sent_from-more : (plan : Shape) (k : ℕ) (down : Down) (sent : List Sent) → option_map (λ s. s.down) (slice_get plan.steps k) ≡ Some down
    → sent_from (output_at plan) (k + 1) (drop (k + 1) plan.steps) (sent ++ record { down = down; records = output_at plan k (arrivals_at k sent) } ∷ []) ≡ sent_from (output_at plan) k (drop k plan.steps) sent
sent_from-more plan k down sent at =
    let step = step-at plan.steps k down at in
    let here : k < length plan.steps = slice_get_within plan.steps k step.0 step.1 in
    let rest : drop k plan.steps ≡ step.0 ∷ drop (k + 1) plan.steps = drop_more plan.steps k step.0 here ∙ ap (λ s. s ∷ drop (k + 1) plan.steps) (get_or_from_slice_get plan.steps k step.0 step.0 step.1) in
    ap (λ d. sent_from (output_at plan) (k + 1) (drop (k + 1) plan.steps) (sent ++ record { down = d; records = output_at plan k (arrivals_at k sent) } ∷ [])) (sym step.2)
    ∙ ap (λ steps. sent_from (output_at plan) k steps sent) (sym rest)

pub sent_from-timely_more : (plan : Shape) → IsPlan plan → (k : ℕ) (down : Down) (sent : List Sent) → option_map (λ s. s.down) (slice_get plan.steps k) ≡ Some down → AreTimely sent
    → AreTimely (sent ++ record { down = down; records = output_at plan k (arrivals_at k sent) } ∷ [])
sent_from-timely_more plan is k down sent at timely =
    let step = step-at plan.steps k down at in
    subst (λ (d : Down). AreTimely (sent ++ record { down = d; records = output_at plan k (arrivals_at k sent) } ∷ [])) step.2 (sent-step-timely plan is k step.0 step.1 sent timely)

-- what arrives at a node is before the watermark of the end
pub arriving-before_end : (plan : Shape) → IsPlan plan → (k : ℕ) → k ≤ length plan.steps → (sent : List Sent) → AreTimely sent → All (λ e. e.rec.time < END_MARK) (arrivals_at k sent)
arriving-before_end plan is k within sent timely =
    All-from_recursion (λ (e : KeptRec). e.rec.time < END_MARK) (arrivals_at k sent) (every (λ e h. omega (arith, h, is.most, within)) (arrivals_at k sent) (arriving-times k sent timely))

-- the records of both streams, by the bound of each
both : (streams : Stream → List Record) → All (λ r. r.time ≤ MAX_TIME) (streams A) → All (λ r. r.time ≤ MAX_TIME) (streams B) → (s : Stream) → IsInTime (streams s)
both streams a b A = recursion_from_All (λ (r : Record). r.time ≤ MAX_TIME) (streams A) a
both streams a b B = recursion_from_All (λ (r : Record). r.time ≤ MAX_TIME) (streams B) b

pub from_streams-in_time : (plan : Shape) (streams : Stream → List Record) → All (λ r. r.time ≤ MAX_TIME) (streams A) → All (λ r. r.time ≤ MAX_TIME) (streams B) → AreTimely (from_streams plan streams)
from_streams-in_time plan streams a b = from_streams-timely plan streams (both streams a b)

pub output_of-before_end : (plan : Shape) → IsPlan plan → (streams : Stream → List Record) → All (λ r. r.time ≤ MAX_TIME) (streams A) → All (λ r. r.time ≤ MAX_TIME) (streams B) → All (λ r. r.time < END_MARK) (output_of plan streams)
output_of-before_end plan is streams a b = All-from_recursion (λ r. r.time < END_MARK) (output_of plan streams) (output_of-times plan is streams (both streams a b))

-- what arrives at the sink is what the plan gives
pub arriving-output_of : (plan : Shape) (streams : Stream → List Record) (sent : List Sent) → sent ≡ sent_from (output_at plan) 0 plan.steps (from_streams plan streams) → all_records (arrivals_at (length plan.steps) sent) ≡ output_of plan streams
arriving-output_of plan streams sent all =
    ap (λ l. all_records (arrivals_at (length plan.steps) l)) all
    ∙ ap (λ o. output (operator_at o) (arrivals_at (length plan.steps) (sent_from (output_at plan) 0 plan.steps (from_streams plan streams)))) (sym (slice_get_past plan.steps (length plan.steps) (omega arith)))
