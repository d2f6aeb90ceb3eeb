-- Clap takes every command.
use Rattle.std.proofs.Common.{◌≡◌, ◌<◌, ℕ, List, [], ◌∷◌, ◌++◌, true, false, Some, refl, sym, ap, subst, ◌∙◌, arith, append-nil, append_assoc, map}
use Rattle.std.specs.Prelude.{bytes_eq, codes, decimal, find, fold}
use Rattle.std.specs.List.{AllByRecursion, IsDistinct, flat_map}
use Rattle.clap.specs.Simple.{App, Shape, built, built_leaf, inherited, label_of, names_of, subcommand_of}
use Rattle.clap.specs.Takes.{is_given, level_passes, takes, turn_passes, walk_passes}
use Rattle.clap.specs.Walk.{Names, Row, Text, Walk, answers_to, first_of, nothing_held, rows_after, settled, walk_from, walked}
use Rattle.clap.specs.Walk.Waiting.{idle}
use Rattle.clap.proofs.OnLiterals.{clap_on_literals}
use Rattle.sb_arguments.specs.Clapped.{bare, of_one, program}
use Rattle.sb_words.specs.Options.{AreOptions, IsSetting, name_of, words_of_option}
use Rattle.sb_words.specs.declared.options.Options.{Options}
use Rattle.sb_words.specs.declared.setting.Setting.{Setting}
use Rattle.sb_arguments.specs.Readings.{AreRead, IsReadAs}
use Rattle.sb_words.specs.Words.{Asked, IsCommand, IsFileName, IsKeyWord}
use Rattle.sb_words.specs.Words.Asked.{Sum, Run, Slow, Audit, Work, Watch, Feeds, Part, Save, Resume}
use Rattle.sb_arguments.proofs.Taking.{ArePlain, Arguments, IsPlainWord, built_of, is_plain, number_is_plain, rows_of_words, rules, texts_of, words_taken}
use Rattle.sb_arguments.proofs.Taking.Arguments.{one, two, three}
use Rattle.sb_arguments.proofs.Completing.{HasArguments, all_given, are_read, argument_given, arguments_read, both_given, complete, in_range}

abbrev top : App
top = built program

-- where a subcommand was met
abbrev halted : Text → List Text → Walk
halted name words = record { held = nothing_held; waiting = idle; position = 1; is_trailing = false; stopped = Some (name, words) }

-- the words behind the name of a subcommand are its own
record Halts (s : Shape) (names : Names) (w : Walk) (words : List Text) (after : Walk) : Type 0 where
  pub passes : walk_passes s names w words ≡ true
  pub ends : fold (walked s.rules names) w words ≡ after

halts : (s : Shape) (names : Names) (name : Text) (before words : List Text) → Halts s names (halted name before) words (halted name (before ++ words))
unfolding walk_passes walked
halts s names name before [] = record { passes = refl; ends = ap (halted name) (sym (append-nil before)) }
halts s names name before (word ∷ words) =
    let more = halts s names name (before ++ word ∷ []) words in
    record { passes = more.passes; ends = more.ends ∙ ap (halted name) (append_assoc before (word ∷ []) words) }

-- a name of a subcommand
record IsNamed (name : Text) (s : Shape) : Type 0 where
  pub passes : turn_passes top.top (names_of top) (walk_from nothing_held) name ≡ true
  pub next : walked top.top.rules (names_of top) (walk_from nothing_held) name ≡ halted name []
  pub found : find (λ sub. answers_to name (label_of sub)) top.subs ≡ Some s

from_name : (name : Text) (s : Shape) → IsNamed name s → (words : List Text) → Halts top.top (names_of top) (walk_from nothing_held) (name ∷ words) (halted name words)
unfolding walk_passes
from_name name s named words =
    let more = halts top.top (names_of top) name [] words in
    let passes = named.passes in
    let next = named.next in
    record { passes = rw (passes, next) more.passes; ends = ap (λ w. fold (walked top.top.rules (names_of top)) w words) next ∙ more.ends }

enters : (name : Text) (s : Shape) → IsNamed name s → (words : List Text) → level_passes s [] nothing_held words false ≡ true → takes program (name ∷ words) ≡ true
enters name s named words below =
    let at = from_name name s named words in
    let ends = at.ends in
    let passes = at.passes in
    let found = named.found in
    rw (ends, passes, found, below) refl

-- a command with one argument and no options
abbrev alone : Text → Shape
alone name = built_leaf (inherited bare.top (of_one name).top)

sum_named : (argument : Text) → IsNamed (codes "sum") (built_of (one argument) (codes "sum"))
unfolding clap_on_literals
sum_named argument = record { passes = refl; next = refl; found = refl }

run_named : (argument : Text) → IsNamed (codes "run") (built_of (one argument) (codes "run"))
unfolding clap_on_literals
run_named argument = record { passes = refl; next = refl; found = refl }

work_named : (argument : Text) → IsNamed (codes "work") (built_of (one argument) (codes "work"))
unfolding clap_on_literals
work_named argument = record { passes = refl; next = refl; found = refl }

slow_named : IsNamed (codes "slow") (alone (codes "slow"))
unfolding clap_on_literals
slow_named = record { passes = refl; next = refl; found = refl }

watch_named : (argument second : Text) → IsNamed (codes "watch") (built_of (two argument second) (codes "watch"))
unfolding clap_on_literals
watch_named argument second = record { passes = refl; next = refl; found = refl }

feeds_named : (argument second third : Text) → IsNamed (codes "feeds") (built_of (three argument second third) (codes "feeds"))
unfolding clap_on_literals
feeds_named argument second third = record { passes = refl; next = refl; found = refl }

part_named : (argument : Text) → IsNamed (codes "part") (built_of (one argument) (codes "part"))
unfolding clap_on_literals
part_named argument = record { passes = refl; next = refl; found = refl }

save_named : IsNamed (codes "save") (alone (codes "save"))
unfolding clap_on_literals
save_named = record { passes = refl; next = refl; found = refl }

resume_named : (argument second : Text) → IsNamed (codes "resume") (built_of (two argument second) (codes "resume"))
unfolding clap_on_literals
resume_named argument second = record { passes = refl; next = refl; found = refl }

alone_taken : (name argument : Text) → IsPlainWord argument → level_passes (alone name) [] nothing_held (argument ∷ []) false ≡ true
unfolding clap_on_literals
alone_taken name argument is = let x = is.long in let y = is.short in let z = is.dashes in simp (x, y, z)

alone_rows : (name argument : Text) → IsPlainWord argument → first_of (codes "argument") (rows_after (alone name).rules [] (argument ∷ [])) ≡ Some argument
unfolding clap_on_literals
alone_rows name argument is = let x = is.long in let y = is.short in let z = is.dashes in simp (x, y, z)

audit_taken : takes program (codes "audit" ∷ []) ≡ true
unfolding clap_on_literals
audit_taken = refl

audit_rows : subcommand_of program (codes "audit" ∷ []) ≡ Some (codes "audit", [])
unfolding clap_on_literals
audit_rows = refl

-- the words of arguments are plain
size_is_plain : (n : ℕ) (word : Text) → word ≡ decimal n → n < 18446744073709551616 → IsPlainWord word
size_is_plain n word is fits = subst IsPlainWord (sym is) (number_is_plain n fits)

name_is_plain : (name word : Text) → word ≡ name → IsFileName name → IsPlainWord word
name_is_plain [] word is file = absurd file
name_is_plain (byte ∷ bytes) word is file = subst IsPlainWord (sym is) (is_plain byte bytes file)

key_is_plain : (key word : Text) → word ≡ key → IsKeyWord key → IsPlainWord word
key_is_plain [] word is key = absurd key
key_is_plain (byte ∷ bytes) word is key = subst IsPlainWord (sym is) (is_plain byte bytes key.0)

-- clap takes arguments and options behind the name of a command
level_taken : (arguments : Arguments) (name : Text) → ArePlain arguments → (settings : List Setting) → AllByRecursion IsSetting settings → IsDistinct bytes_eq (map name_of settings)
    → level_passes (built_of arguments name) [] nothing_held (texts_of arguments ++ flat_map words_of_option settings) false ≡ true
level_taken (one argument) name is settings range once =
    let arguments = one argument in
    let taken = words_taken arguments name is settings range once in
    let a = taken.passes in
    let b = taken.settles in
    let given : is_given (codes "argument") (complete arguments (settled (rules arguments) (fold (walked (rules arguments) []) (walk_from nothing_held) (argument ∷ flat_map words_of_option settings)).held).rows) ≡ true =
    ap (λ rows. is_given (codes "argument") (complete arguments rows)) taken.rows ∙ argument_given argument settings in
    rw (a, b, given) refl
level_taken (two argument second) name is settings range once =
    let arguments = two argument second in
    let words = argument ∷ second ∷ flat_map words_of_option settings in
    let taken = words_taken arguments name is settings range once in
    let a = taken.passes in
    let b = taken.settles in
    let both = both_given argument second settings in
    let given : is_given (codes "argument") (complete arguments (settled (rules arguments) (fold (walked (rules arguments) []) (walk_from nothing_held) words).held).rows) ≡ true =
    ap (λ rows. is_given (codes "argument") (complete arguments rows)) taken.rows ∙ both.0 in
    let other : is_given (codes "second") (complete arguments (settled (rules arguments) (fold (walked (rules arguments) []) (walk_from nothing_held) words).held).rows) ≡ true =
    ap (λ rows. is_given (codes "second") (complete arguments rows)) taken.rows ∙ both.1 in
    rw (a, b, given, other) refl
level_taken (three argument second third) name is settings range once =
    let arguments = three argument second third in
    let words = argument ∷ second ∷ third ∷ flat_map words_of_option settings in
    let taken = words_taken arguments name is settings range once in
    let a = taken.passes in
    let b = taken.settles in
    let all = all_given argument second third settings in
    let given : is_given (codes "argument") (complete arguments (settled (rules arguments) (fold (walked (rules arguments) []) (walk_from nothing_held) words).held).rows) ≡ true =
    ap (λ rows. is_given (codes "argument") (complete arguments rows)) taken.rows ∙ all.0 in
    let other : is_given (codes "second") (complete arguments (settled (rules arguments) (fold (walked (rules arguments) []) (walk_from nothing_held) words).held).rows) ≡ true =
    ap (λ rows. is_given (codes "second") (complete arguments rows)) taken.rows ∙ all.1 in
    let last : is_given (codes "third") (complete arguments (settled (rules arguments) (fold (walked (rules arguments) []) (walk_from nothing_held) words).held).rows) ≡ true =
    ap (λ rows. is_given (codes "third") (complete arguments rows)) taken.rows ∙ all.2 in
    rw (a, b, given, other, last) refl

-- and has these rows
level_rows : (arguments : Arguments) (name : Text) → ArePlain arguments → (settings : List Setting) → AllByRecursion IsSetting settings → IsDistinct bytes_eq (map name_of settings)
    → rows_after (rules arguments) [] (texts_of arguments ++ flat_map words_of_option settings) ≡ complete arguments (rows_of_words arguments settings)
level_rows arguments name is settings range once = ap (complete arguments) (words_taken arguments name is settings range once).rows

-- the rows of a subcommand that clap enters
enters_rows : (name : Text) (s : Shape) → IsNamed name s → (words : List Text) → subcommand_of program (name ∷ words) ≡ Some (s.name, rows_after s.rules [] words)
enters_rows name s named words =
    let at = from_name name s named words in
    let ends = at.ends in
    let found = named.found in
    rw (ends, found) refl

-- clap takes the words of a command with options
options_taken : (arguments : Arguments) (name : Text) → IsNamed name (built_of arguments name) → ArePlain arguments
    → (command : Text) → command ≡ name → (options : Options) (words : List Text) → AreOptions options words
    → takes program (command ∷ texts_of arguments ++ words) ≡ true
options_taken arguments name named plain command is options words given =
    ap (λ (ws : List Text). takes program ws) (λ i. is i ∷ texts_of arguments ++ given.exactly i)
    ∙ enters name (built_of arguments name) named (texts_of arguments ++ flat_map words_of_option given.settings)
    (level_taken arguments name plain given.settings given.in_range given.once)

-- clap takes the words of every command
pub command_taken : (wanted : Asked) (words : List (List ℕ)) → IsCommand wanted words → takes program words ≡ true
command_taken (Sum size options) (command ∷ argument ∷ words) is =
    options_taken (one argument) (codes "sum") (sum_named argument) (size_is_plain size argument is.1 (omega (arith, is.2.1))) command is.0 options words is.3
command_taken (Run name options) (command ∷ argument ∷ words) is =
    options_taken (one argument) (codes "run") (run_named argument) (name_is_plain name argument is.1 is.2) command is.0 options words is.3
command_taken (Slow name) (command ∷ argument ∷ []) is =
    let taken = enters (codes "slow") (alone (codes "slow")) slow_named (argument ∷ []) (alone_taken (codes "slow") argument (name_is_plain name argument is.1 is.2)) in
    rw is.0 taken
command_taken Audit (command ∷ []) is = rw is audit_taken
command_taken (Work records options) (command ∷ argument ∷ words) is =
    options_taken (one argument) (codes "work") (work_named argument) (size_is_plain records argument is.1 (omega (arith, is.2.1))) command is.0 options words is.3
command_taken (Watch name key options) (command ∷ argument ∷ second ∷ words) is =
    options_taken (two argument second) (codes "watch") (watch_named argument second) (name_is_plain name argument is.1 is.2, key_is_plain key second is.3 is.4) command is.0 options words is.5
command_taken (Feeds name file_a file_b options) (command ∷ argument ∷ second ∷ third ∷ words) is =
    options_taken (three argument second third) (codes "feeds") (feeds_named argument second third)
    (name_is_plain name argument is.1 is.2, name_is_plain file_a second is.3 is.4, name_is_plain file_b third is.5 is.6) command is.0 options words is.7
command_taken (Part name options) (command ∷ argument ∷ words) is =
    options_taken (one argument) (codes "part") (part_named argument) (name_is_plain name argument is.1 is.2) command is.0 options words is.3
command_taken (Save name) (command ∷ argument ∷ []) is =
    let taken = enters (codes "save") (alone (codes "save")) save_named (argument ∷ []) (alone_taken (codes "save") argument (name_is_plain name argument is.1 is.2)) in
    rw is.0 taken
command_taken (Resume name checkpoint options) (command ∷ argument ∷ second ∷ words) is =
    options_taken (two argument second) (codes "resume") (resume_named argument second) (name_is_plain name argument is.1 is.2, name_is_plain checkpoint second is.3 is.4) command is.0 options words is.5
command_taken wanted words is = absurd is

-- the rows that clap has of the words of a command with options
record IsEntered (arguments : Arguments) (name : Text) (options : Options) (words : List Text) : Type 0 where
  pub rows : List Row
  pub entered : subcommand_of program words ≡ Some (name, rows)
  pub given : HasArguments arguments rows
  pub set : AreRead options rows

options_read : (arguments : Arguments) (name : Text) → IsNamed name (built_of arguments name) → ArePlain arguments
    → (command : Text) → command ≡ name → (options : Options) (words : List Text) → AreOptions options words
    → IsEntered arguments name options (command ∷ texts_of arguments ++ words)
options_read arguments name named plain command is options words given =
    let settings = given.settings in
    record {
      rows = complete arguments (rows_of_words arguments settings);
      entered = ap (λ (ws : List Text). subcommand_of program ws) (λ i. is i ∷ texts_of arguments ++ given.exactly i)
          ∙ enters_rows name (built_of arguments name) named (texts_of arguments ++ flat_map words_of_option settings)
          ∙ ap (λ (r : List Row). Some (name, r)) (level_rows arguments name plain settings given.in_range given.once);
      given = arguments_read arguments settings;
      set = subst (λ o. AreRead o (complete arguments (rows_of_words arguments settings))) (sym given.given)
          (are_read arguments settings (in_range settings given.in_range));
    }

-- the rows that clap has of a command with one argument alone
alone_read : (name : Text) → IsNamed name (alone name) → (command : Text) → command ≡ name → (argument : Text)
    → subcommand_of program (command ∷ argument ∷ []) ≡ Some (name, rows_after (alone name).rules [] (argument ∷ []))
alone_read name named command is argument =
    ap (λ (w : Text). subcommand_of program (w ∷ argument ∷ [])) is ∙ enters_rows name (alone name) named (argument ∷ [])

-- what clap reads in the words of a command is what they ask for
pub command_read : (wanted : Asked) (words : List (List ℕ)) → IsCommand wanted words → IsReadAs wanted (subcommand_of program words)
command_read (Sum size options) (command ∷ argument ∷ words) is =
    let read = options_read (one argument) (codes "sum") (sum_named argument) (size_is_plain size argument is.1 (omega (arith, is.2.1))) command is.0 options words is.3 in
    subst (IsReadAs (Sum size options)) (sym read.entered) (refl, read.given ∙ ap (λ t. Some t) is.1, is.2, read.set)
command_read (Run name options) (command ∷ argument ∷ words) is =
    let read = options_read (one argument) (codes "run") (run_named argument) (name_is_plain name argument is.1 is.2) command is.0 options words is.3 in
    subst (IsReadAs (Run name options)) (sym read.entered) (refl, read.given ∙ ap (λ t. Some t) is.1, read.set)
command_read (Slow name) (command ∷ argument ∷ []) is =
    subst (IsReadAs (Slow name)) (sym (alone_read (codes "slow") slow_named command is.0 argument))
    (refl, alone_rows (codes "slow") argument (name_is_plain name argument is.1 is.2) ∙ ap (λ t. Some t) is.1)
command_read Audit (command ∷ []) is =
    let rows : subcommand_of program (command ∷ []) ≡ Some (codes "audit", []) = ap (λ (w : Text). subcommand_of program (w ∷ [])) is ∙ audit_rows in
    subst (IsReadAs Audit) (sym rows) refl
command_read (Work records options) (command ∷ argument ∷ words) is =
    let read = options_read (one argument) (codes "work") (work_named argument) (size_is_plain records argument is.1 (omega (arith, is.2.1))) command is.0 options words is.3 in
    subst (IsReadAs (Work records options)) (sym read.entered) (refl, read.given ∙ ap (λ t. Some t) is.1, is.2, read.set)
command_read (Watch name key options) (command ∷ argument ∷ second ∷ words) is =
    let read = options_read (two argument second) (codes "watch") (watch_named argument second) (name_is_plain name argument is.1 is.2, key_is_plain key second is.3 is.4) command is.0 options words is.5 in
    subst (IsReadAs (Watch name key options)) (sym read.entered)
    (refl, read.given.0 ∙ ap (λ t. Some t) is.1, read.given.1 ∙ ap (λ t. Some t) is.3, read.set)
command_read (Feeds name file_a file_b options) (command ∷ argument ∷ second ∷ third ∷ words) is =
    let read = options_read (three argument second third) (codes "feeds") (feeds_named argument second third)
    (name_is_plain name argument is.1 is.2, name_is_plain file_a second is.3 is.4, name_is_plain file_b third is.5 is.6) command is.0 options words is.7 in
    subst (IsReadAs (Feeds name file_a file_b options)) (sym read.entered)
    (refl, read.given.0 ∙ ap (λ t. Some t) is.1, read.given.1 ∙ ap (λ t. Some t) is.3, read.given.2 ∙ ap (λ t. Some t) is.5, read.set)
command_read (Part name options) (command ∷ argument ∷ words) is =
    let read = options_read (one argument) (codes "part") (part_named argument) (name_is_plain name argument is.1 is.2) command is.0 options words is.3 in
    subst (IsReadAs (Part name options)) (sym read.entered) (refl, read.given ∙ ap (λ t. Some t) is.1, read.set)
command_read (Save name) (command ∷ argument ∷ []) is =
    subst (IsReadAs (Save name)) (sym (alone_read (codes "save") save_named command is.0 argument))
    (refl, alone_rows (codes "save") argument (name_is_plain name argument is.1 is.2) ∙ ap (λ t. Some t) is.1)
command_read (Resume name checkpoint options) (command ∷ argument ∷ second ∷ words) is =
    let read = options_read (two argument second) (codes "resume") (resume_named argument second) (name_is_plain name argument is.1 is.2, name_is_plain checkpoint second is.3 is.4) command is.0 options words is.5 in
    subst (IsReadAs (Resume name checkpoint options)) (sym read.entered)
    (refl, read.given.0 ∙ ap (λ t. Some t) is.1, read.given.1 ∙ ap (λ t. Some t) is.3, read.set)
command_read wanted words is = absurd is
