-- The laws of diaries, from what their lines tell.
use Rattle.std.proofs.Common.{◌≡◌, true, [], ◌∷◌, length, Some, None, Option, refl, sym, ap, subst, ◌∙◌}
use Rattle.std.specs.Prelude.{is_some}
use Rattle.std.specs.List.{AllByRecursion}
use Rattle.std.proofs.lemmas.List.{length-map}
use Rattle.sb_diary.specs.Lines.{Sized, arrivals, finishes}
use Rattle.sb_diary.specs.Legal.{Came, Audit, after_line, after_lines, fresh_audit, audit_of}
use Rattle.sb_diary.specs.Laws.{LegalLineByLine, FinishedOnesCame, IsOneOf}
use Rattle.sb_diary.proofs.Telling.{after_lines-append, bind_cong, one-line, lane_in, told}

pub line_by_line : LegalLineByLine
line_by_line lanes diary e =
    after_lines-append diary (e ∷ []) (fresh_audit lanes)
    ∙ bind_cong (audit_of lanes diary) (λ a. after_lines (e ∷ []) a) (λ a. after_line a e) (λ a. one-line (after_line a e))

the-audit : (o : Option Audit) → is_some o ≡ true → (a : Audit) × (o ≡ Some a)
the-audit None h = cc
the-audit (Some a) h = (a, refl)

pub ones_came : FinishedOnesCame
ones_came lanes diary legal l =
    let a = the-audit (audit_of lanes diary) legal in
    let t = told lanes diary a.0 a.1 l in
    let many : length (lane_in a.0 l).came ≡ length (arrivals l diary) =
    sym (length-map (lane_in a.0 l).came (λ (c : Came). c.epoch)) ∙ ap length t.came_is ∙ length-map (arrivals l diary) (λ (b : Sized). b.epoch) in
    subst (λ n. AllByRecursion (IsOneOf n) (finishes l diary)) many t.done_is
