use Rattle.sb_pardo.proofs.Tables.{no_images, none_listed}
use Rattle.sb_pardo.proofs.table.Table.new.Goals as goal

pub invariant_of-result : goal.invariant_of-result
invariant_of-result c = rw (c.new.ensures.empty, c.new-2.ensures.items) (no_images, none_listed)
