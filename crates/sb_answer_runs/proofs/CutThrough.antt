-- How a run over a first part of an input ends, said in other words.
use Rattle.std.proofs.Common.{ℕ, List, Option, Some, None}
use Rattle.sb_answers.specs.base.records.declared.intake.Refusal.{Refusal}
use Rattle.sb_answers.specs.base.records.declared.item.Dropped.{Dropped}
use Rattle.sb_answers.specs.base.records.declared.item.Record.{Record}
use Rattle.sb_answers.specs.base.pipeline.Shapes.{Shape}
use Rattle.sb_run.specs.declared.cut.cut_end.CutEnd.{CutEnd}
use Rattle.sb_run.specs.declared.cut.cut_end.CutEnd.TheVariants.{Done, Refused, Input, Output, Memory}
use Rattle.sb_run.specs.CutEnds.{EndsCut, EndsCutEarly, PartEnds}

-- what is said of an output by two relations is said by two others that follow from them
module _ {O P : Type 0} (after part : O → List Record → O → Type 0) (after' part' : P → List Record → P → Type 0) (o p : O) (o' p' : P)
    (whole : (l : List Record) → after o l p → after' o' l p') (some : (l : List Record) → part o l p → part' o' l p')
    (plan : Shape) (left left' : Option (List ℕ)) (dropped dropped' : List Dropped) where
  abbrev at_stop : (refused : Option Refusal) → EndsCut plan refused left left' after o p dropped dropped' → EndsCut plan refused left left' after' o' p' dropped dropped'
  at_stop refused e = record { given = e.given; refused_is = e.refused_is; wrote = whole _ e.wrote; listed = e.listed }

  abbrev early : EndsCutEarly plan left left' part o p dropped dropped' → EndsCutEarly plan left left' part' o' p' dropped dropped'
  early e = record { given = e.given; rows = e.rows; first = e.first; wrote = some e.rows e.wrote; late = e.late; first_late = e.first_late; listed = e.listed }

  pub part_through : (end : CutEnd) → PartEnds plan left left' after part o p dropped dropped' end → PartEnds plan left left' after' part' o' p' dropped dropped' end
  part_through Done e = (at_stop None e.0, e.1)
  part_through (Refused refusal) e = at_stop (Some refusal) e
  part_through Input e = (at_stop None e.0, e.1)
  part_through Output e = early e
  part_through Memory e = early e

-- what follows both from all that was written and from a part of it
module _ {O X : Type 0} (after part : O → List Record → O → Type 0) (o p : O) (whole : (l : List Record) → after o l p → X) (some : (l : List Record) → part o l p → X)
    (plan : Shape) (left left' : Option (List ℕ)) (dropped dropped' : List Dropped) where
  pub in_part : (end : CutEnd) → PartEnds plan left left' after part o p dropped dropped' end → X
  in_part Done e = whole _ e.0.wrote
  in_part (Refused refusal) e = whole _ e.wrote
  in_part Input e = whole _ e.0.wrote
  in_part Output e = some _ e.wrote
  in_part Memory e = some _ e.wrote
