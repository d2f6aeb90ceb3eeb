use Rattle.std.proofs.Common.{ap, sym, ◌∙◌}
use Rattle.std.specs.FinMap as map
use Rattle.sb_pardo.proofs.Tables.{get_image, images_with, listed_beside, on_any, one_set}
use Rattle.sb_pardo.proofs.table.Table.insert_unlisted.Goals as goal

pub returns-in_err-insert-clause-new_key : goal.returns-in_err-insert-clause-new_key
returns-in_err-insert-clause-new_key c = on_any c.from_residual.result (sym (ap (λ m. map.get m c.args.key) c.self.view_is) ∙ get_image c.self.inside.images.entries c.args.key ∙ c.in_err-insert.ensures.absent)

pub invariant_of-self-2 : goal.invariant_of-self-2
invariant_of-self-2 c =
    rw (one_set c.self.inside.images.entries c.insert.new.self.entries c.args.key c.args.image c.in_ok-insert.ensures.updates.0) (
      images_with _ c.args.key c.args.image c.self.invariant.0 c.requires.key,
      listed_beside _ _ c.args.key c.args.image c.requires.unlisted c.self.invariant.1,
    )

pub returns-clause-before : goal.returns-clause-before
returns-clause-before c = c.in_ok-insert.ensures.old ∙ sym (get_image c.self.inside.images.entries c.args.key) ∙ ap (λ m. map.get m c.args.key) c.self.view_is

pub returns-clause-ok : goal.returns-clause-ok
returns-clause-ok c = one_set c.self.inside.images.entries c.insert.new.self.entries c.args.key c.args.image c.in_ok-insert.ensures.updates.0 ∙ ap (λ m. map.insert m c.args.key c.args.image) c.self.view_is
