use Rattle.std.proofs.Common.{ap, sym, ◌∙◌}
use Rattle.std.specs.FinMap as map
use Rattle.sb_record.specs.declared.key.Key.TheVariants.{Number}
use Rattle.sb_pardo.proofs.Tables.{get_image, images_with, listed_with, on_any, one_set}
use Rattle.sb_pardo.proofs.table.Table.insert_listed.Goals as goal

pub returns-in_err-before-clause-new_key : goal.returns-in_err-before-clause-new_key
returns-in_err-before-clause-new_key c = on_any c.from_residual-in_err-before.result (sym (ap (λ m. map.get m (Number c.args.number)) c.self.view_is) ∙ get_image c.self.inside.images.entries (Number c.args.number) ∙ c.in_err-before.ensures.absent)

pub invariant_of-self-2 : goal.invariant_of-self-2
invariant_of-self-2 c =
    rw (one_set c.self.inside.images.entries c.insert.new.self.entries (Number c.args.number) c.args.image.now c.in_ok-before.ensures.updates.0) (
      images_with _ (Number c.args.number) c.args.image.now c.self.invariant.0 c.requires.key,
      listed_with c.reach.new.listed.items _ c.args.number c.args.image.now c.in_ok-reach.ensures.reached (λ n small. c.reach.ensures.same n ∙ c.self.invariant.1 n small),
    )

pub returns-clause-before : goal.returns-clause-before
returns-clause-before c = c.in_ok-before.ensures.old ∙ sym (get_image c.self.inside.images.entries (Number c.args.number)) ∙ ap (λ m. map.get m (Number c.args.number)) c.self.view_is

pub returns-clause-ok : goal.returns-clause-ok
returns-clause-ok c = one_set c.self.inside.images.entries c.insert.new.self.entries (Number c.args.number) c.args.image.now c.in_ok-before.ensures.updates.0 ∙ ap (λ m. map.insert m (Number c.args.number) c.args.image.now) c.self.view_is
