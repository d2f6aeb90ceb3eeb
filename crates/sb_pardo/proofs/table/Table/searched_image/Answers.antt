use Rattle.std.proofs.Common.{ap, sym, ◌∙◌}
use Rattle.std.specs.FinMap as map
use Rattle.sb_pardo.proofs.Tables.{get_image}
use Rattle.sb_pardo.proofs.table.Table.searched_image.Goals as goal

pub returns : goal.returns
returns c = c.copied.ensures ∙ c.get.ensures.value ∙ sym (get_image c.self.inside.images.entries c.args.key.now) ∙ ap (λ m. map.get m c.args.key.now) c.self.view_is
