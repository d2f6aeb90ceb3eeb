use Rattle.csv.specs.Records.{fields_of}
use Rattle.sb_pardo.proofs.TableRows.{finds_row}
use Rattle.sb_pardo.proofs.table_rows.next_row.Goals as goal

pub returns : goal.returns
returns c = λ rows had.
    finds_row c.args.reader.now c.read_byte_record.new.self c.in-Ok.found (fields_of c.read_byte_record.new.row)
    (c.in-Ok.ensures.reads had.trims had.ready) (c.in-Ok.ensures.ready had.trims) rows had
