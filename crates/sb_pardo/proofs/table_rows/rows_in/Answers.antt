use Rattle.std.proofs.Common.{◌∙◌, refl, inr, ◌+◌, length, arith}
use Rattle.csv.specs.Reading.{strip_bom}
use Rattle.csv.specs.declared.parser.State.TheVariants as st
use Rattle.sb_pardo.specs.TableFiles.{rows_of}
use Rattle.sb_pardo.proofs.TableRows.{all_records}
use Rattle.sb_pardo.proofs.table_rows.rows_in.Goals as goal

pub returns : goal.returns
unfolding rows_of
returns c =
    let made = c.from_reader.ensures in
    let flexible = c.flexible.ensures in
    let headers = c.has_headers.ensures in
    let left = strip_bom c.args.text.now in
    record {
      trims = rw (flexible, headers) at made.trim ∙ c.new.ensures.trim;
      ready = inr (inr (rw (flexible, headers) at made.has_headers, made.headers));
      config = rw (flexible, headers) at made.config ∙ c.new.ensures.config;
      left = left;
      source = made.source;
      given = rw made.state (all_records (length left + 1) st.StartRecord left refl (omega arith));
    }
