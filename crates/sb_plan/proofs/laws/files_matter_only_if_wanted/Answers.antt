use Rattle.std.proofs.Common.{refl, sym, inl, inr}
use Rattle.sb_plan.specs.Wants.{no_files}
use Rattle.sb_plan.proofs.Absent.{plan-fewer}
use Rattle.sb_plan.proofs.laws.files_matter_only_if_wanted.Goals as goal

pub returns : goal.returns
returns c = λ files text wants. elim (plan-fewer no_files files (λ name. inr refl) text) [ inl same ↦ sym same | inr none ↦ absurd (wants none) ]
