-- How a run over two files ends, said in other words.
use Rattle.std.proofs.Common.{◌≡◌, ℕ, List, Option}
use Rattle.sb_answers.specs.base.records.declared.intake.Stop.{Stop}
use Rattle.sb_answers.specs.base.records.declared.item.Dropped.{Dropped}
use Rattle.sb_answers.specs.base.records.declared.item.Record.{Record}
use Rattle.sb_answers.specs.base.records.declared.item.Stream.{Stream}
use Rattle.sb_answers.specs.base.pipeline.Shapes.{Shape}
use Rattle.sb_answers.specs.emit.LentLaws.{After, Part}
use Rattle.sb_answers.specs.emit.Taps.{TapState}
use Rattle.sb_answers.specs.alone.declared.two_end.TwoEnd.{TwoEnd}
use Rattle.sb_answers.specs.alone.declared.two_end.TwoEnd.TheVariants.{Done, Refused, Output, Tap, Memory}
use Rattle.sb_answers.specs.alone.declared.sizes.Sizes.{Sizes}
use Rattle.sb_run.specs.TwoEnds.{FilesEndAt, FilesEndEarly, TwoEnds}
use Rattle.sb_answers.specs.Answers.{Wrote, WrotePrefix}

-- what is said of an output by two relations is said by two others that follow from them
module _ {O P : Type 0} (after part : O → List Record → O → Type 0) (after' part' : P → List Record → P → Type 0) (o p : O) (o' p' : P)
    (whole : (l : List Record) → after o l p → after' o' l p') (some : (l : List Record) → part o l p → part' o' l p')
    (plan : Shape) (files : Stream → List ℕ) (taps taps' : List TapState) (dropped dropped' : Stream → List Dropped) where
  abbrev at_stop : (at : Stop) → FilesEndAt at plan files after o p taps taps' dropped dropped' → FilesEndAt at plan files after' o' p' taps taps' dropped dropped'
  at_stop at e = record { wrote = whole _ e.wrote; offered = e.offered; listed = e.listed }

  early : (Said : O → List Record → O → Type 0) (Said' : P → List Record → P → Type 0) → ((l : List Record) → Said o l p → Said' o' l p') → (Offered : List Record → Type 0)
      → FilesEndEarly plan files Said o p Offered dropped dropped' → FilesEndEarly plan files Said' o' p' Offered dropped dropped'
  early Said Said' so Offered e =
      record { rows = e.rows; first = e.first; wrote = so e.rows e.wrote; offered = e.offered; late = e.late; first_late = e.first_late; listed = e.listed }

  pub files_through : (sizes : Sizes) (end : TwoEnd) → TwoEnds plan sizes files after part o p taps taps' dropped dropped' end
      → TwoEnds plan sizes files after' part' o' p' taps taps' dropped dropped' end
  files_through sizes (Done hand) e = (e.0, at_stop _ e.1, e.2)
  files_through sizes (Refused stream refusal) e = (e.0, at_stop _ e.1)
  files_through sizes Output e = early part part' some _ e
  files_through sizes (Tap place) e = early after after' whole _ e
  files_through sizes Memory e = early part part' some _ e

-- what follows both from all that was written and from a part of it
module _ {O X : Type 0} (after part : O → List Record → O → Type 0) (o p : O) (whole : (l : List Record) → after o l p → X) (some : (l : List Record) → part o l p → X)
    (plan : Shape) (files : Stream → List ℕ) (taps taps' : List TapState) (dropped dropped' : Stream → List Dropped) where
  pub in_files : (sizes : Sizes) (end : TwoEnd) → TwoEnds plan sizes files after part o p taps taps' dropped dropped' end → X
  in_files sizes (Done hand) e = whole _ e.1.wrote
  in_files sizes (Refused stream refusal) e = whole _ e.1.wrote
  in_files sizes Output e = some _ e.wrote
  in_files sizes (Tap place) e = whole _ e.wrote
  in_files sizes Memory e = some _ e.wrote

-- a sink that is lent keeps its name, and what it has taken is what was written
module _ {N : Type 0} where
  pub name_kept : (n n' : N) (a b : Option (List ℕ)) (l : List Record) → After n n' a b l → n' ≡ n
  name_kept n n' a b l h = h.0

  pub name_kept_early : (n n' : N) (a b : Option (List ℕ)) (l : List Record) → Part n n' a b l → n' ≡ n
  name_kept_early n n' a b l h = h.0

  pub wrote_all : (n n' : N) (a b : Option (List ℕ)) (l : List Record) → After n n' a b l → Wrote a b l
  wrote_all n n' a b l h = h.1

  pub wrote_part : (n n' : N) (a b : Option (List ℕ)) (l : List Record) → Part n n' a b l → WrotePrefix a b l
  wrote_part n n' a b l h = h.1
