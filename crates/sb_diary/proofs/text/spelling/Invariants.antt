use Rattle.std.proofs.Common.{◌≡◌, ◌≤◌, ◌+◌, ◌*◌, ◌++◌, length, take}
use Rattle.sb_diary.specs.Texts.{spaced_text}
use Rattle.sb_diary.proofs.text.spelling.Given as goal

abbrev pub invariant-loop-number : goal.invariant-loop-number
invariant-loop-number l = record {
  text : l.text ≡ l.fn.word ++ spaced_text (take l.number-index l.numbers);
  room : length l.text ≤ 9 + 21 * l.number-index;
}
