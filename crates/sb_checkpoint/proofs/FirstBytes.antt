-- What a run gives that has read only the first bytes of a checkpoint's lines.
use Rattle.std.proofs.Common.{◌≡◌, ◌≤◌, ℕ, Bool, true, false, cond, eqb, List, [], ◌∷◌, ◌++◌, map, length, None, Result, Ok, Err, refl, sym, ap, subst, ◌∙◌, arith}
use Rattle.std.specs.Prelude.{nat_lt}
use Rattle.std.specs.List.{AllByRecursion}
use Rattle.std.proofs.lemmas.Bool.Decides.{nat_tests}
use Rattle.sb_outside.specs.Lines.{is_too_long, lines, lines_from, without_cr}
use Rattle.sb_outside.proofs.FirstLines.{begun_too_long}
use Rattle.sb_pipeline.specs.records.declared.item.Item.{Item}
use Rattle.sb_pipeline.specs.records.declared.item.Streams.{Streams}
use Rattle.sb_pipeline.specs.records.declared.intake.LatePolicy.{LatePolicy}
use Rattle.sb_pipeline.specs.records.declared.intake.Refusal.{Refusal}
use Rattle.sb_pipeline.specs.records.declared.key.Keys.{Keys}
use Rattle.sb_pipeline.specs.records.Inputs.{Accepted, accepted_after, accepted_if, progress_of}
use Rattle.sb_pipeline.specs.records.Intake.{answer_to, low}
use Rattle.sb_pipeline.specs.records.Records.{at_least}
use Rattle.sb_pipeline.specs.records.Streams.{dropped_of}
use Rattle.sb_pipeline.specs.Results.{output_of, rows_below}
use Rattle.sb_pipeline.specs.Shapes.{Shape, streams_of}
use Rattle.sb_checkpoint.specs.Reach.{HasNoSession}
use Rattle.sb_checkpoint.specs.Texts.{item_text, items_text}
use Rattle.sb_checkpoint.specs.Checkpoints.{low_of, resumed_items, streams_in}
use Rattle.sb_checkpoint.specs.Laws.{Resumes, accepted_in, resumed_lines}
use Rattle.sb_checkpoint.proofs.LinesAhead.{none_of_both}
use Rattle.sb_checkpoint.proofs.LinesOfTexts.{own-lines}
use Rattle.sb_checkpoint.proofs.ReadAgain.{IsFit, accepted-resumed-fit, resumed-accepted, text-short}
use Rattle.sb_checkpoint.proofs.Resuming.{none-later}
use Rattle.sb_checkpoint.proofs.Runs.{dropped-resumed, progress-resumed}
use Rattle.sb_checkpoint.proofs.Whole.{cut-runs}

-- ---- the lines of the first bytes
-- no line is too long
abbrev pub AreShort : List (List ℕ) → Type 0
AreShort ls = AllByRecursion (λ line. is_too_long line ≡ false) ls

-- the lines of bytes that go on with a line begun are the first of those of these bytes and a rest
abbrev pub AreFirst : List ℕ → List ℕ → List ℕ → Type 0
AreFirst begun bytes rest = (more : List (List ℕ)) × (lines_from false begun (bytes ++ rest) ≡ lines_from false begun bytes ++ more)

-- a line begun is no line yet, where it is not too long
begun-first : (begun rest : List ℕ) → AreShort (lines_from false begun rest) → AreFirst begun [] rest
begun-first begun rest short = by_case (is_too_long (without_cr begun)) refl
  where
    by_case : (b : Bool) → is_too_long (without_cr begun) ≡ b → AreFirst begun [] rest
    by_case true long =
        let first = begun_too_long rest false begun long in
        let all : AreShort (first.line ∷ first.others) = subst AreShort first.first short in
        absurd (let bad : true ≡ false = sym first.long ∙ all.0 in cc bad)
    by_case false other = (lines_from false begun rest, ap (λ l. l ++ lines_from false begun rest) (sym none))
      where
        none : lines_from false begun [] ≡ []
        none = λ i. cond (other i) (without_cr begun ∷ []) []

lines-first : (begun bytes rest : List ℕ) → AreShort (lines_from false begun (bytes ++ rest)) → AreFirst begun bytes rest
lines-first begun [] rest short = begun-first begun rest short
lines-first begun (b ∷ bytes) rest short = by_case (eqb b 10) short (lines-first [] bytes rest) (lines-first (begun ++ b ∷ []) bytes rest)
  where
    by_case : (ends : Bool) → AreShort (cond ends (without_cr begun ∷ lines false (bytes ++ rest)) (lines_from false (begun ++ b ∷ []) (bytes ++ rest)))
        → (AreShort (lines false (bytes ++ rest)) → AreFirst [] bytes rest)
        → (AreShort (lines_from false (begun ++ b ∷ []) (bytes ++ rest)) → AreFirst (begun ++ b ∷ []) bytes rest)
        → (more : List (List ℕ)) × (cond ends (without_cr begun ∷ lines false (bytes ++ rest)) (lines_from false (begun ++ b ∷ []) (bytes ++ rest))
        ≡ cond ends (without_cr begun ∷ lines false bytes) (lines_from false (begun ++ b ∷ []) bytes) ++ more)
    by_case true all ended goes_on = let (more, are) = ended all.1 in (more, ap (λ l. without_cr begun ∷ l) are)
    by_case false all ended goes_on = goes_on all

-- the texts of fit items are short
items-short : (streams : Streams) (keys : Keys) (items : List Item) → AllByRecursion (IsFit streams keys) items → AreShort (map item_text items)
items-short streams keys [] all = tt
items-short streams keys (i ∷ items) all =
    let one : nat_lt 128 (length (item_text i)) ≡ false = let s = text-short streams keys i all.0 in grind (arith, nat_tests) in
    (one, items-short streams keys items all.1)

-- ---- what is accepted of the first lines
-- where no line is refused, none of the first is
none-refused : (streams : Streams) (late : LatePolicy) (keys : Keys) (items : List Item) (first more : List (List ℕ)) → (accepted_after streams late keys items (first ++ more)).refused ≡ None
    → (accepted_after streams late keys items first).refused ≡ None
none-refused streams late keys items [] more none = refl
none-refused streams late keys items (line ∷ first) more none =
    by_result (answer_to (progress_of streams late keys items) line) none (λ i. none-refused streams late keys (items ++ i ∷ []) first more)
  where
    by_result : (r : Result Item Refusal) → (accepted_if r items (λ next. accepted_after streams late keys next (first ++ more))).refused ≡ None
        → ((i : Item) → (accepted_after streams late keys (items ++ i ∷ []) (first ++ more)).refused ≡ None → (accepted_after streams late keys (items ++ i ∷ []) first).refused ≡ None)
        → (accepted_if r items (λ next. accepted_after streams late keys next first)).refused ≡ None
    by_result (Ok i) none on = on i none
    by_result (Err x) none on = cc

-- ---- the first bytes of a checkpoint's lines
-- no line is refused, no record is dropped, and no row is from the checkpoint's low watermark on
pub record GivesNothing (plan : Shape) (low : ℕ) (read : Accepted) : Type 0 where
  pub refused : read.refused ≡ None
  pub dropped : dropped_of read.items ≡ []
  pub rows : at_least low (rows_below (low_of plan read.items) plan (streams_in read.items)) ≡ []

module _ (plan : Shape) (free : HasNoSession plan) (ls : List (List ℕ)) (bytes rest : List ℕ) (is : items_text (resumed_items plan (accepted_in plan ls).items) ≡ bytes ++ rest) where
  -- what the checkpoint is of, and what it has
  abbrev part : List Item
  part = (accepted_in plan ls).items

  abbrev kept : List Item
  kept = resumed_items plan part

  -- what is accepted of the first bytes
  abbrev read : Accepted
  read = accepted_in plan (lines false bytes)

  fits : AllByRecursion (IsFit (streams_of plan) plan.keys) kept
  fits = accepted-resumed-fit plan ls

  all-lines : lines false (bytes ++ rest) ≡ map item_text kept
  all-lines = ap (lines false) (sym is) ∙ own-lines (streams_of plan) plan.keys kept fits

  first : AreFirst [] bytes rest
  first = lines-first [] bytes rest (subst AreShort (sym all-lines) (items-short (streams_of plan) plan.keys kept fits))

  abbrev whole : Accepted
  whole = accepted_in plan (lines false bytes ++ first.0)

  accepts : whole ≡ record { items = kept; refused = None }
  accepts = ap (accepted_in plan) (sym first.1 ∙ all-lines) ∙ resumed-accepted plan ls

  none : read.refused ≡ None
  none = none-refused (streams_of plan) plan.late plan.keys [] (lines false bytes) first.0 (ap (λ (a : Accepted). a.refused) accepts)

  abbrev again : Accepted
  again = accepted_in plan (resumed_lines plan (lines false bytes) ++ first.0)

  goes-on : Resumes plan read.items whole again
  goes-on = cut-runs plan free (lines false bytes) first.0 none

  not-further : low_of plan read.items ≤ low_of plan part
  not-further = subst (λ n. low_of plan read.items ≤ n) (ap (λ (a : Accepted). low_of plan a.items) accepts ∙ sym (ap low (progress-resumed plan part))) goes-on.later

  pub first-bytes : GivesNothing plan (low_of plan part) read
  first-bytes = record {
    refused = none;
    dropped = (none_of_both (dropped_of read.items) (dropped_of again.items) (sym goes-on.dropped ∙ ap (λ (a : Accepted). dropped_of a.items) accepts ∙ dropped-resumed plan part)).0;
    rows = none-later (low_of plan read.items) (low_of plan part) (output_of plan (streams_in read.items)) not-further;
  }
