use Rattle.sb_pardo.proofs.TableEntries.{number_in_range, number_is}
use Rattle.sb_pardo.proofs.table_rows.number_of.Goals as goal

pub returns-clause-value : goal.returns-clause-value
returns-clause-value c = number_is c.read_number.result c.args.field.now c.read_number.ensures.exact

pub returns-clause-range : goal.returns-clause-range
returns-clause-range c = number_in_range c.read_number.result c.args.field.now c.read_number.ensures.exact
