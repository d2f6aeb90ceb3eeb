-- What one more line does to the lines of a text.
use Rattle.std.proofs.Common.{◌≡◌, ℕ, ◌+◌, Bool, true, false, List, [], ◌∷◌, ◌++◌, Some, None, Option, refl, sym, ap, subst, ◌∙◌, arith}
use Rattle.std.specs.Prelude.{◌==◌}
use Rattle.std.proofs.lemmas.Option.{same_Some}
use Rattle.sb_record.specs.Reading.{◌>>=◌}
use Rattle.sb_record.proofs.Numbers.{bind_some}
use Rattle.sb_diary.specs.declared.text.DiaryLine.{DiaryLine}
use Rattle.sb_diary.specs.declared.text.DiaryLine.TheVariants.{Head, Event}
use Rattle.sb_diary.specs.Legal.{when, after_line}
use Rattle.sb_diary.specs.Audits.{TextAudit, IsLegalText, AreLegalTexts, after_diary_line, lines_in}

-- it is counted
pub lines-more : (t u : TextAudit) (line : DiaryLine) → after_diary_line t line ≡ Some u → lines_in u ≡ lines_in t + 1
lines-more t u (Head node lanes) h = by_test (node == t.transforms) _ (omega arith) h
  where
    by_test : (b : Bool) (v : TextAudit) → lines_in v ≡ lines_in t + 1 → when b v ≡ Some u → lines_in u ≡ lines_in t + 1
    by_test true v is e = sym (ap lines_in (same_Some v u e)) ∙ is
    by_test false v is e = cc
lines-more t u (Event e) h =
    let (a, there, next) = bind_some t.diary _ u h in
    let (b, after, last) = bind_some (after_line a e) _ u next in
    let more : t.transforms + (t.events + 1) ≡ t.transforms + t.events + 1 = omega arith in
    sym (ap lines_in (same_Some _ u last)) ∙ more

-- it stands behind those before it
pub legal-more : (t u v : TextAudit) (texts : List (List ℕ)) (text : List ℕ) → AreLegalTexts t texts u → IsLegalText u text v → AreLegalTexts t (texts ++ text ∷ []) v
legal-more t u v [] text is next = (v, subst (λ t. IsLegalText t text v) is next, refl)
legal-more t u v (first ∷ texts) text (w, is, rest) next = (w, is, legal-more w u v texts text rest next)
