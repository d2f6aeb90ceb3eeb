use Rattle.std.proofs.Common.{◌≡◌, ◌<◌, ◌^◌, ◌++◌, ℕ, List, length, take, drop}
use Rattle.std.specs.List.{AllByRecursion}
use Rattle.sb_diary.specs.Texts.{spaced_text}
use Rattle.sb_diary.specs.Reading.{AreNumbers}
use Rattle.sb_diary.proofs.reading.numbers.Given as goal

abbrev pub invariant-loop-i : goal.invariant-loop-i
invariant-loop-i g l = record {
  size : length l.numbers ≡ g.row.N;
  fit : AllByRecursion (λ n. n < 2 ^ 64) l.numbers;
  read : spaced_text (take l.i l.numbers) ++ l.rest ≡ l.bytes;
  left : (ns : List ℕ) → AreNumbers g.row.N ns l.bytes → spaced_text (drop l.i ns) ≡ l.rest;
}
