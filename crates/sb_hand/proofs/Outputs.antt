-- What becomes of a bundle, by what its node does.
use Rattle.std.proofs.Common.{◌≡◌, ◌<◌, ℕ, true, false, List, length, refl, ap, sym, ◌∙◌, ⊎_elim}
use Rattle.std.specs.List.{slice_get}
use Rattle.std.proofs.lemmas.Bool.{cases_lt}
use Rattle.std.proofs.lemmas.Option.{slice_get_past}
use Rattle.sb_shown.specs.base.records.declared.item.Record.{Record}
use Rattle.sb_shown.specs.core.Closings.{delivery, is_pardo}
use Rattle.sb_shown.specs.base.pipeline.Operators.{Operator, operator_at}
use Rattle.sb_shown.specs.base.pipeline.Operators.Operator.{ParDo, Windowed, Sink}
use Rattle.sb_shown.specs.base.pipeline.declared.transform.Step.{Step}
use Rattle.sb_shown.specs.work.Processing.{IsOutput, IsPart}
use Rattle.sb_shown.specs.work.declared.outputs.Output.{Output}
use Rattle.sb_shown.specs.work.declared.outputs.Output.TheVariants as output

abbrev pub Comes : Operator → ℕ → List Record → Output → Type 0
Comes op lane records (output.Records given) = (is_pardo op ≡ true) × (given.items ≡ delivery op records)
Comes op lane records (output.Part part) = (is_pardo op ≡ false) × IsPart op lane records part

pub comes : (op : Operator) (lane : ℕ) (records : List Record) (x : Output) → IsOutput op lane records x → Comes op lane records x
comes (ParDo op) lane records (output.Records given) h = (refl, h)
comes (ParDo op) lane records (output.Part part) h = absurd h
comes (Windowed g) lane records (output.Records given) h = absurd h
comes (Windowed g) lane records (output.Part part) h = (refl, h)
comes Sink lane records (output.Records given) h = absurd h
comes Sink lane records (output.Part part) h = (refl, h)

-- a node that transforms single records is not the sink
pub pardo-within : (steps : List Step) (k : ℕ) → is_pardo (operator_at (slice_get steps k)) ≡ true → k < length steps
pardo-within steps k h = ⊎_elim
    (λ lt. lt)
    (λ le. let e : false ≡ true = sym (ap (λ o. is_pardo (operator_at o)) (slice_get_past steps k le)) ∙ h in cc)
    (cases_lt k (length steps))
