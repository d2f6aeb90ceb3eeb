-- The command as clap has it.
use Rattle.std.specs.Prelude.{◌≡◌, IfOk, Result, Some, true, false, codes}
use Rattle.clap.specs.Words.{App, Rule, Text, app_of, new_app, new_rule, with_rule, with_subcommand}
use Rattle.clap.specs.declared.Command.{Command}
use Rattle.clap.specs.declared.Command.TheViews.{out-Command}
use Rattle.clap.specs.declared.builder.ArgAction.TheVariants.{SetTrue}

-- the command is this one
pub record IsAs (command : Command) (app : App) : Type 0 where
  pub is : app_of command ≡ app
  pub local : (out-Command command).has_globals ≡ false

-- what is built so far is this one, unless memory ran out
pub record IsBuilt {E : Type 0} (so_far : Result Command E) (app : App) : Type 0 where
  pub is : IfOk so_far (λ command. IsAs command app)

-- an option with a value, and one without
abbrev pub option : Text → Rule
option name = record (new_rule name) { long = Some name }

abbrev pub flag : Text → Rule
flag name = record (new_rule name) { long = Some name; action = Some SetTrue }

-- the command with one argument more, which has a place
abbrev pub with_argument : Text → App → App
with_argument name app = with_rule app (record (new_rule name) { required = true })

-- the command of this name with one argument, with two, and with three
abbrev pub of_one : Text → App
of_one name = with_argument (codes "argument") (new_app name)

abbrev pub of_two : Text → App
of_two name = with_argument (codes "second") (of_one name)

abbrev pub of_three : Text → App
of_three name = with_argument (codes "third") (of_two name)

-- the command with the options of `sum` and `run`. Commands that take fewer have them for clap, too: what words they
-- take of them is said of commands
abbrev pub with_options : App → App
with_options app =
    with_rule (with_rule (with_rule (with_rule (with_rule app (option (codes "workers"))) (option (codes "bundle")))
    (option (codes "pending"))) (flag (codes "diary"))) (flag (codes "taps"))

-- the command itself, without its subcommands
abbrev pub bare : App
bare = let app = new_app (codes "streambox") in record app {
  top = record app.top {
    no_binary_name = true;
    disable_help_flag = true;
    disable_help_subcommand = true;
    subcommand_required = true;
  };
}

-- the command with the subcommands over a number
abbrev pub with_numbers : App → App
with_numbers app =
    with_subcommand (with_subcommand app (with_options (of_one (codes "sum"))).top)
    (with_options (of_one (codes "work"))).top

-- the command with the subcommands over a plan and its whole input
abbrev pub with_plans : App → App
with_plans app =
    with_subcommand (with_subcommand (with_subcommand (with_subcommand app (with_options (of_one (codes "run"))).top)
    (of_one (codes "slow")).top) (with_options (of_two (codes "watch"))).top)
    (with_options (of_three (codes "feeds"))).top

-- the command with the subcommands over a plan and a part of its input
abbrev pub with_parts : App → App
with_parts app =
    with_subcommand (with_subcommand (with_subcommand app (with_options (of_one (codes "part"))).top)
    (of_one (codes "save")).top) (with_options (of_two (codes "resume"))).top

abbrev pub program : App
program = with_subcommand (with_parts (with_plans (with_numbers bare))) (new_app (codes "audit")).top
