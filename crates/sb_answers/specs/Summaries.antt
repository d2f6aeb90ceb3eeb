-- What `work` makes, and what it writes of it.
use Rattle.std.specs.Prelude.{ℕ, ◌%◌, ◌^◌, List, [], ◌∷◌, ◌++◌, length, sum_by, decimal, codes}
use Rattle.std.specs.Fmt.{signed_decimal}
use Rattle.std.specs.Int.{cast_signed, w64}
use Rattle.sb_alone.specs.base.records.declared.item.Record.{Record}
use Rattle.sb_alone.specs.base.pipeline.Shapes.{sum_shape}
use Rattle.sb_alone.specs.emit.Summaries.{Sums, check_of, value_of}
use Rattle.sb_generator.specs.Generated.{generated_items}
use Rattle.sb_answers.specs.declared.limits.TheConstants.{WORK_WINDOW}
use Rattle.sb_answers.specs.Pipelines.{all_rows}

-- the rows of sums over windows of one size over the first of the records that are made
abbrev pub work_rows : ℕ → List Record
work_rows records = all_rows (sum_shape WORK_WINDOW) (generated_items records)

-- a line of a name and a number
abbrev pub number_line : List ℕ → List ℕ → List ℕ
number_line name number = name ++ number ++ 10 ∷ []

-- a number modulo 2 ^ 64, as an unsigned and as a signed one
abbrev pub unsigned_text : ℕ → List ℕ
unsigned_text n = decimal (n % 2 ^ 64)

abbrev pub signed_text : ℕ → List ℕ
signed_text n = signed_decimal (cast_signed w64 (n % 2 ^ 64))

-- how many records, and the numbers of some rows
abbrev pub sums_text : ℕ → Sums → List ℕ
sums_text records sums =
    number_line (codes "records ") (decimal records)
    ++ number_line (codes "rows ") (unsigned_text sums.count)
    ++ number_line (codes "sum ") (signed_text sums.sum)
    ++ number_line (codes "check ") (signed_text sums.check)

-- the numbers of rows: how many, the sum of their values, and the sum of each row's end times its value
abbrev pub sums_of : List Record → Sums
sums_of rows = record { count = length rows; sum = sum_by value_of rows; check = sum_by check_of rows }

-- four lines: how many records, how many rows they give, and both sums, which wrap as signed numbers of 64 bits
abbrev pub summary_text : ℕ → List Record → List ℕ
summary_text records rows = sums_text records (sums_of rows)
