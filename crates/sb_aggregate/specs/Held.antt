-- The lists that sets of values, partial values, and runs of these are seen as.
use Rattle.std.specs.Prelude.{ℤ, List, [], ◌∷◌}
use Rattle.sb_aggregate.specs.declared.partial.Held.{Held}
use Rattle.sb_aggregate.specs.declared.partial.Held.TheVariants.{One, Different, Several}
use Rattle.sb_aggregate.specs.declared.partials.Partials.{Partials}
use Rattle.sb_aggregate.specs.declared.partials.Partials.TheVariants.{Single, Any}
use Rattle.sb_aggregate.specs.declared.partials.KeptPartials.{KeptPartials}
use Rattle.sb_aggregate.specs.declared.partials.KeptPartials.TheVariants.{Single as KeptSingle, Any as KeptAny}
use Rattle.sb_aggregate.specs.declared.value_set.ValueSet.{ValueSet}
use Rattle.sb_aggregate.specs.declared.value_set.ValueSet.TheVariants.{Listed, Grown}
use Rattle.sb_aggregate.specs.Partials.{PartialValues}

-- the values of a set, least first
abbrev pub set_values : ValueSet → List ℤ
set_values (Listed vs) = vs
set_values (Grown vs) = vs.keys

abbrev pub held_values : Held → List ℤ
held_values (One v) = v ∷ []
held_values (Different vs) = set_values vs
held_values (Several vs) = vs.items

-- the partial values of a part, whatever form they are kept in
abbrev pub run_of : Partials → PartialValues
run_of (Single run) = run
run_of (Any run) = run

-- those that a node keeps
abbrev pub runs_of : KeptPartials → List PartialValues
runs_of (KeptSingle runs) = runs
runs_of (KeptAny runs) = runs
