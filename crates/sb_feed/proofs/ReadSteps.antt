-- What one line more says of where reading stops.
use Rattle.std.proofs.Common.{◌≡◌, ℕ, ◌++◌, List, [], ◌∷◌, Bool, true, false, Some, None, Err, Option, refl, sym, ap, subst, ◌∙◌, inl, inr, Ok, append-nil, append_assoc}
use Rattle.std.specs.Prelude.{nat_le, IfSome}
use Rattle.std.specs.Io.KnownBytes.{IsAtEnd}
use Rattle.std.proofs.lemmas.Bool.{cases_Bool}
use Rattle.sb_base.specs.records.declared.item.Item.{Item}
use Rattle.sb_base.specs.records.declared.intake.Refusal.{Refusal}
use Rattle.sb_base.specs.records.declared.intake.Stop.TheVariants.{Refused}
use Rattle.sb_base.specs.records.Progress.{Progress}
use Rattle.sb_base.specs.records.Intake.{answer_to, too_long, after}
use Rattle.sb_outside.specs.Lines.{lines, is_too_long}
use Rattle.sb_outside.specs.declared.lines.Halt.{Halt}
use Rattle.sb_outside.specs.declared.lines.Halt.TheVariants as halt
use Rattle.sb_outside.specs.declared.lines.Step.TheVariants as step
use Rattle.sb_outside.specs.Readings.{Reading, Advances, MayCome, rest_of_lines}
use Rattle.sb_feed.specs.Reads.{IsGoing, StopsReading, TakesItem}

-- where a reader that gave a line stands, its source has ended
abbrev pub ended_by : Option Halt → Bool
ended_by None = false
ended_by (Some h) = true

pub may_end : (h : Option Halt) → MayCome h (ended_by h) []
may_end None = tt
may_end (Some h) = (refl, refl)

pub ended_there : (h : Option Halt) (left : Option (List ℕ)) → IfSome h (λ x. (x ≡ halt.End) × IsAtEnd left) → ended_by h ≡ true → IsAtEnd left
ended_there None left last e = cc
ended_there (Some h) left last e = last.1

-- a line of more than 128 bytes is refused
pub too_long_tested : (p : Progress) (line : List ℕ) → is_too_long line ≡ true → answer_to p line ≡ Err (too_long p)
too_long_tested p line long = elim (cases_Bool (nat_le 4294967295 p.lines)) [ inl many ↦ rw many refl | inr few ↦ rw (few, long) refl ]

-- a reader that gave a line goes on, or its source has ended
pub goes_on : (h : Option Halt) (left : Option (List ℕ)) → IfSome h (λ x. (x ≡ halt.End) × IsAtEnd left) → IsGoing h left
goes_on None left last = tt
goes_on (Some halt.End) left last = last.1
goes_on (Some halt.TooLong) left last = cc last.0
goes_on (Some halt.Fault) left last = cc last.0

module _ {S : Type 0} (left : S → Option (List ℕ)) (faults : S → ℕ) where
  -- an accepted line gives its item
  pub accepted_taken : (s : Option Halt) (old new : Reading S) (p p' : Progress) (item : Item) → old.halt ≡ s → IsGoing s (left old.source) → Advances left faults s old new step.Line
      → answer_to p new.line ≡ Ok item → p' ≡ after item p → TakesItem left old new p p' item
  accepted_taken None old new p p' item none going on good is =
      let gives = on.tells.0 in
      record {
        more = on.more;
        given = on.given;
        line = new.line;
        first = λ ended later may. (
          subst (λ h. MayCome h ended (on.more ++ later)) (sym none) tt,
          ap (λ h. rest_of_lines h old.at_hand ended (on.more ++ later)) none ∙ ap (lines ended) (sym (append_assoc old.at_hand on.more later)) ∙ gives.first ended later may,
        );
        tests = good;
        progress = is;
        going = goes_on new.halt (left new.source) gives.last;
      }
  accepted_taken (Some halt.End) old new p p' item none going on good is = cc on.1
  accepted_taken (Some halt.TooLong) old new p p' item none going on good is = absurd going
  accepted_taken (Some halt.Fault) old new p p' item none going on good is = absurd going

  -- a refused line stops the reading
  pub refused_stops : (s : Option Halt) (old new : Reading S) (p p' : Progress) (refusal : Refusal) → old.halt ≡ s → IsGoing s (left old.source) → Advances left faults s old new step.Line
      → answer_to p new.line ≡ Err refusal → p' ≡ p → StopsReading left old new p p' (Refused refusal)
  refused_stops None old new p p' refusal none going on bad same =
      let gives = on.tells.0 in
      let e = ended_by new.halt in
      let first : lines e (old.at_hand ++ on.more) ≡ new.line ∷ rest_of_lines new.halt new.at_hand e [] =
      ap (lines e) (sym (append-nil (old.at_hand ++ on.more))) ∙ gives.first e [] (may_end new.halt) in
      record {
        more = on.more;
        given = on.given;
        ended = e;
        at_end = ended_there new.halt (left new.source) gives.last;
        may = subst (λ h. MayCome h e on.more) (sym none) tt;
        why = (new.line, rest_of_lines new.halt new.at_hand e [], ap (λ h. rest_of_lines h old.at_hand e on.more) none ∙ first, bad);
        progress = same;
      }
  refused_stops (Some halt.End) old new p p' refusal none going on bad same = cc on.1
  refused_stops (Some halt.TooLong) old new p p' refusal none going on bad same = absurd going
  refused_stops (Some halt.Fault) old new p p' refusal none going on bad same = absurd going

  -- a line that is too long stops it too
  pub too_long_stops : (s : Option Halt) (old new : Reading S) (p p' : Progress) → old.halt ≡ s → IsGoing s (left old.source) → Advances left faults s old new step.TooLong
      → p' ≡ p → StopsReading left old new p p' (Refused (too_long p))
  too_long_stops None old new p p' none going on same =
      let begins = on.tells.0 false [] in
      let first : lines false (old.at_hand ++ on.more) ≡ begins.line ∷ begins.others =
      ap (lines false) (sym (append-nil (old.at_hand ++ on.more))) ∙ begins.first in
      record {
        more = on.more;
        given = on.given;
        ended = false;
        at_end = λ e. absurd (cc e);
        may = subst (λ h. MayCome h false on.more) (sym none) tt;
        why = (begins.line, begins.others, ap (λ h. rest_of_lines h old.at_hand false on.more) none ∙ first, too_long_tested p begins.line begins.long);
        progress = same;
      }
  too_long_stops (Some halt.End) old new p p' none going on same = cc on.1
  too_long_stops (Some halt.TooLong) old new p p' none going on same = absurd going
  too_long_stops (Some halt.Fault) old new p p' none going on same = absurd going
