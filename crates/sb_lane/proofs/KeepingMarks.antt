-- What a lane keeps of its marks, when a mark more comes and when an epoch more ends.
use Rattle.std.proofs.Common.{◌≡◌, ℕ, ◌+◌, ◌-◌, ◌<◌, List, [], ◌∷◌, ◌++◌, length, drop, get_or, sym, ap, ◌∙◌, arith, length-append}
use Rattle.std.proofs.lemmas.List.{drop-drop}
use Rattle.std.proofs.Math.Seq.{get_or-append_seam}
use Rattle.sb_containers.specs.Marks.{last_of_first}
use Rattle.sb_containers.proofs.Begun.{drop-snoc, last_of_first-longer}
use Rattle.sb_lane.specs.KeptMarks.{AreKeptMarks}

module _ (marks : List ℕ) (sealed ended last_mark closed_mark : ℕ) (ahead : List ℕ) (kept : AreKeptMarks marks sealed ended last_mark closed_mark ahead) where
  pub one-sealed : (mark : ℕ) → AreKeptMarks (marks ++ mark ∷ []) (sealed + 1) ended mark closed_mark (ahead ++ mark ∷ [])
  one-sealed mark = record {
    sealed_is = omega (arith, kept.sealed_is, longer);
    ended_in = omega (arith, kept.ended_in, longer);
    last_is = sym (ap (λ n. get_or (marks ++ mark ∷ []) n 0) at_end ∙ get_or-append_seam marks mark [] 0);
    closed_is = kept.closed_is ∙ sym (last_of_first-longer ended mark marks kept.ended_in);
    ahead_is = ap (λ l. l ++ mark ∷ []) kept.ahead_is ∙ sym (drop-snoc ended mark marks kept.ended_in);
  }
    where
      longer : length (marks ++ mark ∷ []) ≡ length marks + 1
      longer = length-append marks (mark ∷ [])

      at_end : length (marks ++ mark ∷ []) - 1 ≡ length marks
      at_end = omega (arith, longer)

  pub one-ended : ended < length marks → AreKeptMarks marks sealed (ended + 1) last_mark (last_of_first (ended + 1) marks) (drop 1 ahead)
  one-ended more = record {
    sealed_is = kept.sealed_is;
    ended_in = omega (arith, more);
    last_is = kept.last_is;
    closed_is = λ i. last_of_first (ended + 1) marks;
    ahead_is = ap (drop 1) kept.ahead_is ∙ drop-drop 1 ended marks;
  }
