-- How far the reading of a diary text has come, and what one line more says of where it stops.
use Rattle.std.proofs.Common.{◌≡◌, ℕ, ◌+◌, ◌≤◌, ◌++◌, List, [], ◌∷◌, Bool, true, false, length, Some, None, Option, refl, sym, ap, subst, ◌∙◌, arith, append-nil, append_assoc}
use Rattle.std.specs.Prelude.{nat_lt, if◌then◌else◌}
use Rattle.std.proofs.lemmas.Bool.{ltb-true}
use Rattle.std.specs.Io.KnownBytes.{Consumes}
use Rattle.std.proofs.KnownBytes.{Consumes-nil, Consumes-trans}
use Rattle.sb_feed.specs.base.records.declared.intake.TheConstants.{MAX_LINES}
use Rattle.sb_diary.specs.declared.audit.AuditEnd.{AuditEnd}
use Rattle.sb_diary.specs.declared.audit.AuditFault.{AuditFault}
use Rattle.sb_diary.specs.declared.audit.AuditFault.TheVariants as fault
use Rattle.sb_diary.specs.declared.audit.AuditStop.{AuditStop}
use Rattle.sb_diary.specs.declared.audit.AuditStop.TheVariants as stop
use Rattle.sb_diary.specs.Audits.{TextAudit, Auditing, AreLegalTexts, IsFaultAt, IsLegalText, IsStopAt, first_text_audit, end_of, lines_in, first_auditing, too_long}
use Rattle.sb_diary.proofs.TextLines.{legal-more, lines-more}
use Rattle.sb_feed.specs.outside.Lines.{lines, is_too_long}
use Rattle.sb_feed.specs.outside.declared.lines.Halt.{Halt}
use Rattle.sb_feed.specs.outside.declared.lines.Halt.TheVariants as halt
use Rattle.sb_feed.specs.outside.declared.lines.Step.TheVariants as step
use Rattle.sb_feed.specs.outside.Readings.{Held, Reading, Advances, MayCome, reading, rest_of_lines}
use Rattle.sb_told.specs.declared.diary_input.DiaryHalt.{DiaryHalt}
use Rattle.sb_told.specs.declared.diary_input.DiaryHalt.TheVariants.{End, Refused, Fault, Memory}
use Rattle.sb_told.specs.DiaryReads.{GaveLine, GaveRest, IsReadUpTo, IsRefusedLine, ReadsDiary, StopsDiaryAt}
use Rattle.sb_feed.specs.Reads.{IsGoing}
use Rattle.sb_feed.proofs.ReadSteps.{ended_by, ended_there, goes_on, may_end}

module _ {S : Type 0} (left : S → Option (List ℕ)) (faults : S → ℕ) where
  -- a line was given
  pub gave_line : (s : Option Halt) (old new : Reading S) → old.halt ≡ s → IsGoing s (left old.source) → Advances left faults s old new step.Line → GaveLine left old new new.line
  gave_line None old new none going on =
      let gives = on.tells.0 in
      record {
        more = on.more;
        given = on.given;
        first = λ ended later may. (
          subst (λ h. MayCome h ended (on.more ++ later)) (sym none) tt,
          ap (λ h. rest_of_lines h old.at_hand ended (on.more ++ later)) none ∙ ap (lines ended) (sym (append_assoc old.at_hand on.more later)) ∙ gives.first ended later may,
        );
        going = goes_on new.halt (left new.source) gives.last;
      }
  gave_line (Some halt.End) old new none going on = cc on.1
  gave_line (Some halt.TooLong) old new none going on = absurd going
  gave_line (Some halt.Fault) old new none going on = absurd going

  -- it is the first of those that were left
  pub gave_refused : (P : Bool → List (List ℕ) → Type 0) (s : Option Halt) (old new : Reading S) → old.halt ≡ s → IsGoing s (left old.source) → Advances left faults s old new step.Line
      → ((ended : Bool) (others : List (List ℕ)) → P ended (new.line ∷ others)) → GaveRest left old new P
  gave_refused P None old new none going on holds =
      let gives = on.tells.0 in
      let e = ended_by new.halt in
      let first : lines e (old.at_hand ++ on.more) ≡ new.line ∷ rest_of_lines new.halt new.at_hand e [] =
      ap (lines e) (sym (append-nil (old.at_hand ++ on.more))) ∙ gives.first e [] (may_end new.halt) in
      record {
        more = on.more;
        given = on.given;
        ended = e;
        at_end = ended_there new.halt (left new.source) gives.last;
        may = subst (λ h. MayCome h e on.more) (sym none) tt;
        rest = subst (P e) (sym (ap (λ h. rest_of_lines h old.at_hand e on.more) none ∙ first)) (holds e (rest_of_lines new.halt new.at_hand e []));
      }
  gave_refused P (Some halt.End) old new none going on holds = cc on.1
  gave_refused P (Some halt.TooLong) old new none going on holds = absurd going
  gave_refused P (Some halt.Fault) old new none going on holds = absurd going

  -- the first of them is too long
  pub gave_long : (P : Bool → List (List ℕ) → Type 0) (s : Option Halt) (old new : Reading S) → old.halt ≡ s → IsGoing s (left old.source) → Advances left faults s old new step.TooLong
      → ((ended : Bool) (line : List ℕ) (others : List (List ℕ)) → is_too_long line ≡ true → P ended (line ∷ others)) → GaveRest left old new P
  gave_long P None old new none going on holds =
      let begins = on.tells.0 false [] in
      let first : lines false (old.at_hand ++ on.more) ≡ begins.line ∷ begins.others =
      ap (lines false) (sym (append-nil (old.at_hand ++ on.more))) ∙ begins.first in
      record {
        more = on.more;
        given = on.given;
        ended = false;
        at_end = λ e. absurd (cc e);
        may = subst (λ h. MayCome h false on.more) (sym none) tt;
        rest = subst (P false) (sym (ap (λ h. rest_of_lines h old.at_hand false on.more) none ∙ first)) (holds false begins.line begins.others begins.long);
      }
  gave_long P (Some halt.End) old new none going on holds = cc on.1
  gave_long P (Some halt.TooLong) old new none going on holds = absurd going
  gave_long P (Some halt.Fault) old new none going on holds = absurd going

-- ---- why a line is refused
pub not_long : (line : List ℕ) → length line ≤ 128 → is_too_long line ≡ false
not_long line h = grind arith

pub refused_line : (t : TextAudit) (line : List ℕ) (why : AuditStop) (f : AuditFault) → why ≡ stop.Fault f → is_too_long line ≡ false
    → IsStopAt t line why → IsRefusedLine t line f
refused_line t line why f is short h = by_fault f (subst (IsStopAt t line) is h)
  where
    by_fault : (f : AuditFault) → IsFaultAt t line f → IsRefusedLine t line f
    by_fault fault.TooMany h = h
    by_fault (fault.TooLong number) h = absurd h
    by_fault (fault.Malformed number) h = (short, h)
    by_fault (fault.NotLegal number) h = (short, h)

pub long_line : (t : TextAudit) (line : List ℕ) (f : AuditFault) → lines_in t ≤ MAX_LINES → f ≡ too_long t → is_too_long line ≡ true → IsRefusedLine t line f
long_line t line f most is long = subst (IsRefusedLine t line) (sym is) (by_test (nat_lt (lines_in t) MAX_LINES) refl)
  where
    full : (n : ℕ) → n ≤ MAX_LINES → nat_lt n MAX_LINES ≡ false → n ≡ MAX_LINES
    full n most e = grind arith

    by_test : (b : Bool) → nat_lt (lines_in t) MAX_LINES ≡ b → IsRefusedLine t line (if b then fault.TooLong (lines_in t + 1) else fault.TooMany)
    by_test true e = (record { room = ltb-true (lines_in t) MAX_LINES e; number_is = refl }, long)
    by_test false e = full (lines_in t) most e

-- the lines so far are legal, and the reader has the others still to give
pub record TakingDiary (left left' : Option (List ℕ)) (held : Held) (a : Auditing) (faults faults' : ℕ) : Type 0 where
  pub bytes : List ℕ
  pub given : Consumes left left' bytes
  pub going : IsGoing held.halt left'
  pub before : List (List ℕ)
  pub splits : (ended : Bool) (later : List ℕ) → MayCome held.halt ended later
      → lines ended (bytes ++ later) ≡ before ++ rest_of_lines held.halt held.at_hand ended later
  pub legal : AreLegalTexts first_text_audit before a.text
  pub takes : a.stop ≡ None
  pub room : lines_in a.text ≤ MAX_LINES
  pub no_fault : faults' ≡ faults

-- before the first line
pub diary-starts : (left : Option (List ℕ)) (faults : ℕ) → TakingDiary left left (record { at_hand = []; line = []; halt = None }) first_auditing faults faults
diary-starts left faults = record {
  bytes = [];
  given = Consumes-nil left;
  going = tt;
  before = [];
  splits = λ ended later may. refl;
  legal = refl;
  takes = refl;
  room = omega arith;
  no_fault = refl;
}

module _ {S : Type 0} (left_of : S → Option (List ℕ)) where
  -- one line more
  pub diary-more : (left : Option (List ℕ)) (source source' : S) (held held' : Held) (a a' : Auditing) (line : List ℕ) (faults faults' faults2 : ℕ)
      → TakingDiary left (left_of source) held a faults faults' → GaveLine left_of (reading source held) (reading source' held') line
      → IsLegalText a.text line a'.text → a'.stop ≡ None → faults2 ≡ faults' → TakingDiary left (left_of source') held' a' faults faults2
  diary-more left source source' held held' a a' line faults faults' faults2 t gave legal takes same =
      record {
        bytes = t.bytes ++ gave.more;
        given = Consumes-trans left (left_of source) (left_of source') t.bytes gave.more t.given gave.given;
        going = gave.going;
        before = t.before ++ line ∷ [];
        splits = λ ended later may.
            let (may_come, first) = gave.first ended later may in
            ap (lines ended) (append_assoc t.bytes gave.more later)
            ∙ t.splits ended (gave.more ++ later) may_come
            ∙ ap (λ ls. t.before ++ ls) first
            ∙ sym (append_assoc t.before (line ∷ []) (rest_of_lines held'.halt held'.at_hand ended later));
        legal = legal-more first_text_audit a.text a'.text t.before line t.legal legal;
        takes = takes;
        room = let one = lines-more a.text a'.text legal.line legal.legal in omega (arith, one, legal.room);
        no_fault = same ∙ t.no_fault;
      }

  -- reading stops
  pub diary-stops : (left : Option (List ℕ)) (source source' : S) (held held' : Held) (a a' : Auditing) (why : DiaryHalt) (said : AuditEnd) (faults faults' : ℕ)
      → TakingDiary left (left_of source) held a faults faults' → GaveRest left_of (reading source held) (reading source' held') (StopsDiaryAt a.text why)
      → a'.text ≡ a.text → said ≡ end_of a'.text → ReadsDiary left (left_of source') (record { said = said; halt = why })
  diary-stops left source source' held held' a a' why said faults faults' t gave same is =
      record {
        given = record {
          bytes = t.bytes ++ gave.more;
          were_left = Consumes-trans left (left_of source) (left_of source') t.bytes gave.more t.given gave.given;
          ended = gave.ended;
          at_end = gave.at_end;
        };
        text = a.text;
        said = is ∙ ap end_of same;
        read = subst (IsReadUpTo a.text why gave.ended) (sym (t.splits gave.ended gave.more gave.may)) (by_why why (rest_of_lines held.halt held.at_hand gave.ended gave.more) gave.rest);
      }
    where
      by_why : (why : DiaryHalt) (ls : List (List ℕ)) → StopsDiaryAt a.text why gave.ended ls → IsReadUpTo a.text why gave.ended (t.before ++ ls)
      by_why End ls (none, ended) = (subst (λ l. AreLegalTexts first_text_audit l a.text) (sym (append-nil t.before) ∙ ap (λ l. t.before ++ l) (sym none)) t.legal, ended)
      by_why Fault ls (none, ended) = (subst (λ l. AreLegalTexts first_text_audit l a.text) (sym (append-nil t.before) ∙ ap (λ l. t.before ++ l) (sym none)) t.legal, ended)
      by_why (Refused fault) ls (line, others, are, refused) = record {
        before = t.before;
        line = line;
        others = others;
        split = ap (λ l. t.before ++ l) are;
        text = a.text;
        legal = t.legal;
        why = refused;
      }
      by_why Memory ls none = tt
