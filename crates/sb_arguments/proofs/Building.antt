-- The command that is built by clap, one addition after another.
use Rattle.std.proofs.Common.{◌≡◌, Ok, Result, ap, ap₂, false, refl, subst, true, ◌∙◌}
use Rattle.clap.specs.Words.{AddsArg, AddsSubcommand, App, Rule, Text, app_of, new_rule, rule_of, with_rule, with_subcommand}
use Rattle.clap.specs.declared.Arg.{Arg}
use Rattle.clap.specs.declared.Command.{Command}
use Rattle.clap.specs.declared.Command.TheViews.{out-Command}
use Rattle.sb_arguments.specs.Clapped.{IsAs, IsBuilt}

-- one argument more
pub adds_argument : (old new : Command) (a : Arg) (app : App) (rule : Rule) → IsAs old app → rule_of a ≡ rule → a.global ≡ false → AddsArg old a new
    → IsAs new (with_rule app rule)
adds_argument old new a app rule as_app is local added =
    let before = as_app.local in
    record { is = added.shape local ∙ ap₂ with_rule as_app.is is; local = added.globals ∙ rw (before, local) refl }

-- one subcommand more
pub adds_subcommand : (old sub new : Command) (app below : App) → IsAs old app → IsAs sub below → AddsSubcommand old sub new
    → IsAs new (with_subcommand app below.top)
adds_subcommand old sub new app below as_app as_below added =
    let before = as_app.local in
    let inside = as_below.local in
    record {
      is = added.shape as_below.local ∙ ap₂ with_subcommand as_app.is (ap (λ (a : App). a.top) as_below.is);
      local = added.globals ∙ rw (before, inside) refl;
    }

-- a command that is there is built
pub built : {E : Type 0} (command : Command) (app : App) → app_of command ≡ app → (out-Command command).has_globals ≡ false → IsBuilt {E = E} (Ok command) app
built command app is local = record { is = record { is = is; local = local } }

-- the same with the argument said in other words
pub ruled : {E : Type 0} (so_far : Result Command E) (app : App) (a b : Rule) → a ≡ b → IsBuilt so_far (with_rule app a) → IsBuilt so_far (with_rule app b)
ruled so_far app a b e is = subst (λ r. IsBuilt so_far (with_rule app r)) e is

-- an argument that is made to be required
pub required : (old new : Arg) (id : Text) → new ≡ record old { required = true } → rule_of old ≡ new_rule id
    → rule_of new ≡ record (new_rule id) { required = true }
required old new id is rule = ap rule_of is ∙ ap (λ (r : Rule). record r { required = true }) rule
