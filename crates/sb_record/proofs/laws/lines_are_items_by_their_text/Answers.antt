use Rattle.sb_record.proofs.Grammar.{item_some, item_reads}
use Rattle.sb_record.proofs.laws.lines_are_items_by_their_text.Goals as goal

pub returns : goal.returns
returns c = λ keys line item. (item_some keys line item, item_reads keys item line)
