use Rattle.std.proofs.Common.{◌≡◌, List}
use Rattle.sb_pardo.specs.TableFiles.{Fields, table_from, table_of}
use Rattle.sb_pardo.specs.TableReading.{HasRows}
use Rattle.sb_pardo.proofs.table.Table.read.Given as goal

abbrev pub invariant-loop-number : goal.invariant-loop-number
invariant-loop-number l = (rows : List Fields) × HasRows l.reader rows × (table_of l.keys l.fn.bytes ≡ table_from l.keys l.number l.table rows)
