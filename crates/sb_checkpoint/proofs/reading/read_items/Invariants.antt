use Rattle.std.proofs.Common.{◌≡◌, [], length}
use Rattle.sb_checkpoint.specs.Saved.{items_in}
use Rattle.sb_checkpoint.specs.Texts.{pieces, read_lines}
use Rattle.sb_checkpoint.proofs.reading.read_items.Given as goal

abbrev pub invariant-lines : goal.invariant-lines
invariant-lines l = record {
  lines : l.checkpoint.lines ≡ l.initial.checkpoint.lines;
  low : l.checkpoint.low ≡ l.initial.checkpoint.low;
  reach : l.reach ≡ l.initial.reach;
  read : read_lines l.plan l.initial.checkpoint.lines l.initial.checkpoint.low [] (pieces l.initial.rest) ≡ read_lines l.plan l.checkpoint.lines l.checkpoint.low (items_in l.checkpoint) (pieces l.rest);
}

abbrev pub decreases-lines : goal.decreases-lines
decreases-lines l = length l.rest
