use Rattle.std.proofs.Common.{Bor, List, ℕ, arith}
use Rattle.csv.specs.Records.{fields_of}
use Rattle.sb_pardo.proofs.TableEntries.{two_columns, zip_map}
use Rattle.sb_pardo.proofs.table_rows.columns_of.Goals as goal

pub returns : goal.returns
returns c = rw (c.zip.ensures, two_columns (fields_of c.args.row.now) (omega arith), ← c.get.ensures.value, ← c.get-2.ensures.value) (zip_map (λ (field : Bor (List ℕ)). field.now) c.get.result c.get-2.result)
