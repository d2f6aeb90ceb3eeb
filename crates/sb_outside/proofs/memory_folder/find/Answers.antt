use Rattle.std.proofs.Common.{◌∙◌, sym, ap, Some, option_copied, option_map}
use Rattle.sb_outside.proofs.Folders.{found}
use Rattle.sb_outside.proofs.memory_folder.find.Goals as goal

pub returns-in-Some : goal.returns-in-Some
returns-in-Some c = ap Some c.as_slice.ensures.value ∙ ap (λ r. option_map (λ v. v.items) (option_copied r)) (sym c.in-Some.is) ∙ ap (option_map (λ v. v.items)) c.get.ensures.value ∙ sym (found c.args.files.now.entries c.args.name.now)

pub returns-in-None : goal.returns-in-None
returns-in-None c = ap (λ r. option_map (λ v. v.items) (option_copied r)) (sym c.in-None.is) ∙ ap (option_map (λ v. v.items)) c.get.ensures.value ∙ sym (found c.args.files.now.entries c.args.name.now)
