use Rattle.std.proofs.Common.{◌≡◌}
use Rattle.std.specs.Prelude.{replicate}
use Rattle.sb_diary.specs.Legal.{fresh_lane}
use Rattle.sb_diary.proofs.node_book.NodeBook.new.Given as goal

abbrev pub invariant-loop-lane : goal.invariant-loop-lane
invariant-loop-lane l = l.books.items ≡ replicate l._lane fresh_lane
