use Rattle.std.proofs.Common.{◌≡◌, sym, rules}
use Rattle.std.specs.FinMap.{insert}
use Rattle.sb_pardo.proofs.TableEntries.{entry_taken, row_refused, rows_over}
use Rattle.sb_pardo.proofs.table_file.take_row.Goals as goal

pub returns-then-not-found : goal.returns-then-not-found
returns-then-not-found c = λ rows had. rows_over _ _ _ rows (rw c.if-not-found.true at c.in-Ok.ensures rows had)

pub returns-in-Err : goal.returns-in-Err
returns-in-Err c = λ rows had.
    let (rest, is, more) = rw c.if-not-found.false at c.in-Ok.ensures rows had in
    row_refused _ _ _ rows _ rest _ c.requires is (sym c.in-Err.ensures.value)

pub returns : goal.returns
returns c = λ rows had.
    let (rest, is, more) = rw c.if-not-found.false at c.in-Ok.ensures rows had in
    let put : c.insert.new.self ≡ insert c.args.table.now c.in-Ok-entry_of.entry.0 c.in-Ok-entry_of.entry.1 = search rules in
    (rest, more, entry_taken _ _ _ _ rows _ rest c.in-Ok-entry_of.entry c.requires is (sym c.in-Ok-entry_of.ensures.value) put)
