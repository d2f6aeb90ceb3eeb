-- Options are taken by clap.
use Rattle.std.proofs.Common.{◌≡◌, ◌≢◌, ℕ, ◌<◌, ◌≤◌, ◌==◌, ◌&&◌, ◌||◌, List, [], ◌∷◌, ◌++◌, Bool, true, false, not, Option, Some, None, refl, sym, ap, subst, ◌∙◌, arith, map, append-nil, append_assoc}
use Rattle.std.specs.Prelude.{bytes_eq, codes, decimal, fold}
use Rattle.std.specs.List.{AllByRecursion, IsDistinct, flat_map}
use Rattle.std.proofs.lemmas.Bool.{ne_eqb}
use Rattle.std.proofs.lemmas.List.Folds.{list_any-append}
use Rattle.clap.specs.Lexer.{long_of, short_of}
use Rattle.clap.specs.Simple.{App, Shape, built_leaf, inherited}
use Rattle.clap.specs.Takes.{settle_passes, turn_passes, walk_passes}
use Rattle.clap.specs.Walk.{Names, Row, Rule, Text, Walk, has_row, nothing_held, settled, walk_from, walked, with_values, without}
use Rattle.clap.specs.declared.parser.matches.ValueSource.TheVariants.{CommandLine}
use Rattle.clap.specs.declared.builder.value_parser.Reading.TheVariants.{AsWritten}
use Rattle.clap.specs.Walk.Waiting.{idle, option}
use Rattle.clap.proofs.OnLiterals.{clap_on_literals}
use Rattle.sb_words.specs.declared.setting.Setting.{Setting}
use Rattle.sb_words.specs.declared.setting.Setting.TheVariants.{Workers, Bundle, Pending, Diary, Taps}
use Rattle.sb_arguments.specs.Clapped.{bare, of_one, of_two, of_three, with_options}
use Rattle.sb_words.specs.Options.{IsSetting, name_of, words_of_option}
use Rattle.sb_words.proofs.Naming.{decimal_begins}
use Rattle.sb_arguments.proofs.Rows.{row, used_new}

-- the arguments of a command
pub data Arguments : Type 0 where
  one : (argument : Text) → Arguments
  two : (argument second : Text) → Arguments
  three : (argument second third : Text) → Arguments

-- a command with arguments and options, as clap has built it
abbrev with_arguments : Arguments → App
with_arguments (one argument) = of_one []
with_arguments (two argument second) = of_two []
with_arguments (three argument second third) = of_three []

abbrev unnamed : Arguments → Shape
unnamed arguments = built_leaf (inherited bare.top (with_options (with_arguments arguments)).top)

abbrev pub built_of : Arguments → Text → Shape
built_of arguments name = record (unnamed arguments) { name = name }

abbrev pub rules : Arguments → List Rule
rules arguments = (unnamed arguments).rules

-- the place behind the arguments
abbrev pub place : Arguments → ℕ
place (one argument) = 2
place (two argument second) = 3
place (three argument second third) = 4

abbrev Awaited : Type 0
Awaited = Option (Text × List Text)

-- between two options
abbrev pub between : Arguments → List Row → Awaited → ℕ → Walk
between arguments rows pending skip = record {
  held = record { rows = rows; pending = pending; skip = skip };
  waiting = idle;
  position = place arguments;
  is_trailing = false;
  stopped = None;
}

-- behind an option that waits for its value
abbrev pub behind : Arguments → Text → List Row → ℕ → Walk
behind arguments id rows skip = record {
  held = record { rows = rows; pending = Some (id, []); skip = skip };
  waiting = option id;
  position = place arguments;
  is_trailing = false;
  stopped = None;
}

-- what is pending can be used
abbrev pub Settles : Arguments → List Row → Awaited → ℕ → Type 0
Settles arguments rows pending skip = settle_passes (rules arguments) false (between arguments rows pending skip).held ≡ true

-- the word is no option and no `--`
pub record IsPlainWord (w : Text) : Type 0 where
  pub long : long_of w ≡ None
  pub short : short_of w ≡ None
  pub dashes : bytes_eq w (45 ∷ 45 ∷ []) ≡ false

use_of : (a x : Bool) → a ≡ true → x ≡ false → ((a && ((not x || false) && true)) && true) ≡ true
use_of a x is new = rw (is, new) refl

new_use : (x : Bool) → x ≡ false → ((not x || false) && true) ≡ true
new_use x new = rw new refl

and_true : (a : Bool) → a ≡ true → (a && true) ≡ true
and_true a is = rw is refl

-- the options without a value, and those with one
data Flag : Type 0 where
  diary : Flag
  taps : Flag

data Kind : Type 0 where
  workers : Kind
  bundle : Kind
  pending : Kind

abbrev flag_id : Flag → Text
flag_id diary = codes "diary"
flag_id taps = codes "taps"

abbrev flag_word : Flag → Text
flag_word diary = codes "--diary"
flag_word taps = codes "--taps"

abbrev kind_id : Kind → Text
kind_id workers = codes "workers"
kind_id bundle = codes "bundle"
kind_id pending = codes "pending"

abbrev kind_word : Kind → Text
kind_word workers = codes "--workers"
kind_word bundle = codes "--bundle"
kind_word pending = codes "--pending"

-- the rows that are settled
abbrev pub rows_at : Arguments → List Row → Awaited → ℕ → List Row
rows_at arguments rows held skip = (settled (rules arguments) (between arguments rows held skip).held).rows

flag_passes : (arguments : Arguments) (flag : Flag) (name : Text) (rows : List Row) (held : Awaited) (skip : ℕ) → Settles arguments rows held skip
    → has_row (flag_id flag) (rows_at arguments rows held skip) ≡ false
    → turn_passes (built_of arguments name) [] (between arguments rows held skip) (flag_word flag) ≡ true
unfolding clap_on_literals
flag_passes (one a) diary name rows held skip settles new = use_of (settle_passes (rules (one a)) false (between (one a) rows held skip).held) (has_row (codes "diary") (rows_at (one a) rows held skip)) settles new
flag_passes (one a) taps name rows held skip settles new = use_of (settle_passes (rules (one a)) false (between (one a) rows held skip).held) (has_row (codes "taps") (rows_at (one a) rows held skip)) settles new
flag_passes (two a b) diary name rows held skip settles new = use_of (settle_passes (rules (two a b)) false (between (two a b) rows held skip).held) (has_row (codes "diary") (rows_at (two a b) rows held skip)) settles new
flag_passes (two a b) taps name rows held skip settles new = use_of (settle_passes (rules (two a b)) false (between (two a b) rows held skip).held) (has_row (codes "taps") (rows_at (two a b) rows held skip)) settles new
flag_passes (three a b d) diary name rows held skip settles new = use_of (settle_passes (rules (three a b d)) false (between (three a b d) rows held skip).held) (has_row (codes "diary") (rows_at (three a b d) rows held skip)) settles new
flag_passes (three a b d) taps name rows held skip settles new = use_of (settle_passes (rules (three a b d)) false (between (three a b d) rows held skip).held) (has_row (codes "taps") (rows_at (three a b d) rows held skip)) settles new

abbrev flag_rows : Flag → List Row → List Row
flag_rows flag base = with_values (flag_id flag) AsWritten CommandLine (codes "true" ∷ []) (without (flag_id flag) base)

flag_next : (arguments : Arguments) (flag : Flag) (rows : List Row) (held : Awaited) (skip : ℕ)
    → walked (rules arguments) [] (between arguments rows held skip) (flag_word flag) ≡ between arguments (flag_rows flag (rows_at arguments rows held skip)) None skip
unfolding clap_on_literals
flag_next (one a) diary rows held skip = refl
flag_next (one a) taps rows held skip = refl
flag_next (two a b) diary rows held skip = refl
flag_next (two a b) taps rows held skip = refl
flag_next (three a b d) diary rows held skip = refl
flag_next (three a b d) taps rows held skip = refl

name_passes : (arguments : Arguments) (kind : Kind) (name : Text) (rows : List Row) (held : Awaited) (skip : ℕ) → Settles arguments rows held skip
    → turn_passes (built_of arguments name) [] (between arguments rows held skip) (kind_word kind) ≡ true
unfolding clap_on_literals
name_passes (one a) workers name rows held skip settles = and_true (settle_passes (rules (one a)) false (between (one a) rows held skip).held) settles
name_passes (one a) bundle name rows held skip settles = and_true (settle_passes (rules (one a)) false (between (one a) rows held skip).held) settles
name_passes (one a) pending name rows held skip settles = and_true (settle_passes (rules (one a)) false (between (one a) rows held skip).held) settles
name_passes (two a b) workers name rows held skip settles = and_true (settle_passes (rules (two a b)) false (between (two a b) rows held skip).held) settles
name_passes (two a b) bundle name rows held skip settles = and_true (settle_passes (rules (two a b)) false (between (two a b) rows held skip).held) settles
name_passes (two a b) pending name rows held skip settles = and_true (settle_passes (rules (two a b)) false (between (two a b) rows held skip).held) settles
name_passes (three a b d) workers name rows held skip settles = and_true (settle_passes (rules (three a b d)) false (between (three a b d) rows held skip).held) settles
name_passes (three a b d) bundle name rows held skip settles = and_true (settle_passes (rules (three a b d)) false (between (three a b d) rows held skip).held) settles
name_passes (three a b d) pending name rows held skip settles = and_true (settle_passes (rules (three a b d)) false (between (three a b d) rows held skip).held) settles

name_next : (arguments : Arguments) (kind : Kind) (rows : List Row) (held : Awaited) (skip : ℕ)
    → walked (rules arguments) [] (between arguments rows held skip) (kind_word kind) ≡ behind arguments (kind_id kind) (rows_at arguments rows held skip) skip
unfolding clap_on_literals
name_next (one a) workers rows held skip = refl
name_next (one a) bundle rows held skip = refl
name_next (one a) pending rows held skip = refl
name_next (two a b) workers rows held skip = refl
name_next (two a b) bundle rows held skip = refl
name_next (two a b) pending rows held skip = refl
name_next (three a b d) workers rows held skip = refl
name_next (three a b d) bundle rows held skip = refl
name_next (three a b d) pending rows held skip = refl

value_passes : (arguments : Arguments) (kind : Kind) (name : Text) (rows : List Row) (skip : ℕ) (value : Text) → IsPlainWord value
    → turn_passes (built_of arguments name) [] (behind arguments (kind_id kind) rows skip) value ≡ true
unfolding clap_on_literals
value_passes (one a) workers name rows skip value is = let x = is.long in let y = is.short in let z = is.dashes in simp (x, y, z)
value_passes (one a) bundle name rows skip value is = let x = is.long in let y = is.short in let z = is.dashes in simp (x, y, z)
value_passes (one a) pending name rows skip value is = let x = is.long in let y = is.short in let z = is.dashes in simp (x, y, z)
value_passes (two a b) workers name rows skip value is = let x = is.long in let y = is.short in let z = is.dashes in simp (x, y, z)
value_passes (two a b) bundle name rows skip value is = let x = is.long in let y = is.short in let z = is.dashes in simp (x, y, z)
value_passes (two a b) pending name rows skip value is = let x = is.long in let y = is.short in let z = is.dashes in simp (x, y, z)
value_passes (three a b d) workers name rows skip value is = let x = is.long in let y = is.short in let z = is.dashes in simp (x, y, z)
value_passes (three a b d) bundle name rows skip value is = let x = is.long in let y = is.short in let z = is.dashes in simp (x, y, z)
value_passes (three a b d) pending name rows skip value is = let x = is.long in let y = is.short in let z = is.dashes in simp (x, y, z)

value_next : (arguments : Arguments) (kind : Kind) (rows : List Row) (skip : ℕ) (value : Text) → IsPlainWord value
    → walked (rules arguments) [] (behind arguments (kind_id kind) rows skip) value ≡ between arguments rows (Some (kind_id kind, value ∷ [])) skip
unfolding clap_on_literals
value_next (one a) workers rows skip value is = let x = is.long in let y = is.short in let z = is.dashes in simp (x, y, z)
value_next (one a) bundle rows skip value is = let x = is.long in let y = is.short in let z = is.dashes in simp (x, y, z)
value_next (one a) pending rows skip value is = let x = is.long in let y = is.short in let z = is.dashes in simp (x, y, z)
value_next (two a b) workers rows skip value is = let x = is.long in let y = is.short in let z = is.dashes in simp (x, y, z)
value_next (two a b) bundle rows skip value is = let x = is.long in let y = is.short in let z = is.dashes in simp (x, y, z)
value_next (two a b) pending rows skip value is = let x = is.long in let y = is.short in let z = is.dashes in simp (x, y, z)
value_next (three a b d) workers rows skip value is = let x = is.long in let y = is.short in let z = is.dashes in simp (x, y, z)
value_next (three a b d) bundle rows skip value is = let x = is.long in let y = is.short in let z = is.dashes in simp (x, y, z)
value_next (three a b d) pending rows skip value is = let x = is.long in let y = is.short in let z = is.dashes in simp (x, y, z)

value_settles : (arguments : Arguments) (kind : Kind) (rows : List Row) (skip : ℕ) (value : Text) → has_row (kind_id kind) rows ≡ false
    → Settles arguments rows (Some (kind_id kind, value ∷ [])) skip
value_settles (one a) workers rows skip value new = new_use (has_row (codes "workers") rows) new
value_settles (one a) bundle rows skip value new = new_use (has_row (codes "bundle") rows) new
value_settles (one a) pending rows skip value new = new_use (has_row (codes "pending") rows) new
value_settles (two a b) workers rows skip value new = new_use (has_row (codes "workers") rows) new
value_settles (two a b) bundle rows skip value new = new_use (has_row (codes "bundle") rows) new
value_settles (two a b) pending rows skip value new = new_use (has_row (codes "pending") rows) new
value_settles (three a b d) workers rows skip value new = new_use (has_row (codes "workers") rows) new
value_settles (three a b d) bundle rows skip value new = new_use (has_row (codes "bundle") rows) new
value_settles (three a b d) pending rows skip value new = new_use (has_row (codes "pending") rows) new

value_rows : (arguments : Arguments) (kind : Kind) (rows : List Row) (skip : ℕ) (value : Text)
    → rows_at arguments rows (Some (kind_id kind, value ∷ [])) skip ≡ with_values (kind_id kind) AsWritten CommandLine (value ∷ []) (without (kind_id kind) rows)
value_rows (one a) workers rows skip value = refl
value_rows (one a) bundle rows skip value = refl
value_rows (one a) pending rows skip value = refl
value_rows (two a b) workers rows skip value = refl
value_rows (two a b) bundle rows skip value = refl
value_rows (two a b) pending rows skip value = refl
value_rows (three a b d) workers rows skip value = refl
value_rows (three a b d) bundle rows skip value = refl
value_rows (three a b d) pending rows skip value = refl

-- the words come to where another walk stands before the rest of them
pub record Comes (s : Shape) (names : Names) (w : Walk) (words : List Text) (after : Walk) (rest : List Text) : Type 0 where
  pub passes : walk_passes s names w words ≡ walk_passes s names after rest
  pub ends : fold (walked s.rules names) w words ≡ fold (walked s.rules names) after rest

-- one word that passes
pub one_word : (s : Shape) (names : Names) (w : Walk) (word : Text) (after : Walk) (rest : List Text)
    → turn_passes s names w word ≡ true → walked s.rules names w word ≡ after
    → Comes s names w (word ∷ rest) after rest
unfolding walk_passes
one_word s names w word after rest passes next = record {
  passes = rw (passes, next) refl;
  ends = ap (λ v. fold (walked s.rules names) v rest) next;
}

then : (s : Shape) (names : Names) (u v w : Walk) (words more rest : List Text) → Comes s names u words v more → Comes s names v more w rest → Comes s names u words w rest
then s names u v w words more rest a b = record { passes = a.passes ∙ b.passes; ends = a.ends ∙ b.ends }

-- where clap stands after an option, with these rows
record After (arguments : Arguments) (name : Text) (base : List Row) (w : Walk) (words rest : List Text) : Type 0 where
  pub rows : List Row
  pub held : Awaited
  pub skip : ℕ
  pub settles : Settles arguments rows held skip
  pub becomes : rows_at arguments rows held skip ≡ base
  pub comes : Comes (built_of arguments name) [] w words (between arguments rows held skip) rest

flag_after : (arguments : Arguments) (flag : Flag) (name : Text) (rows : List Row) (held : Awaited) (skip : ℕ) → Settles arguments rows held skip
    → (base : List Row) → rows_at arguments rows held skip ≡ base → has_row (flag_id flag) base ≡ false → (rest : List Text)
    → After arguments name (base ++ row (flag_id flag) (codes "true" ∷ []) ∷ []) (between arguments rows held skip) (flag_word flag ∷ rest) rest
flag_after arguments flag name rows held skip settles base now new rest = record {
  rows = flag_rows flag (rows_at arguments rows held skip);
  held = None;
  skip = skip;
  settles = refl;
  becomes = ap (flag_rows flag) now ∙ used_new (flag_id flag) (codes "true" ∷ []) base new;
  comes = one_word (built_of arguments name) [] (between arguments rows held skip) (flag_word flag) _ rest (flag_passes arguments flag name rows held skip settles (ap (has_row (flag_id flag)) now ∙ new)) (flag_next arguments flag rows held skip);
}

value_after : (arguments : Arguments) (kind : Kind) (name : Text) (rows : List Row) (held : Awaited) (skip : ℕ) → Settles arguments rows held skip
    → (base : List Row) → rows_at arguments rows held skip ≡ base → has_row (kind_id kind) base ≡ false
    → (value : Text) → IsPlainWord value → (rest : List Text)
    → After arguments name (base ++ row (kind_id kind) (value ∷ []) ∷ []) (between arguments rows held skip) (kind_word kind ∷ value ∷ rest) rest
value_after arguments kind name rows held skip settles base now new value is rest = record {
  rows = rows_at arguments rows held skip;
  held = Some (kind_id kind, value ∷ []);
  skip = skip;
  settles = value_settles arguments kind (rows_at arguments rows held skip) skip value (ap (has_row (kind_id kind)) now ∙ new);
  becomes = value_rows arguments kind (rows_at arguments rows held skip) skip value
      ∙ ap (λ b. with_values (kind_id kind) AsWritten CommandLine (value ∷ []) (without (kind_id kind) b)) now
      ∙ used_new (kind_id kind) (value ∷ []) base new;
  comes = then (built_of arguments name) [] (between arguments rows held skip) _ _ (kind_word kind ∷ value ∷ rest) (value ∷ rest) rest
      (one_word (built_of arguments name) [] (between arguments rows held skip) (kind_word kind) _ (value ∷ rest) (name_passes arguments kind name rows held skip settles) (name_next arguments kind rows held skip))
      (one_word (built_of arguments name) [] (behind arguments (kind_id kind) (rows_at arguments rows held skip) skip) value _ rest
      (value_passes arguments kind name (rows_at arguments rows held skip) skip value is) (value_next arguments kind (rows_at arguments rows held skip) skip value is));
}

-- a word that does not begin with a dash
pub is_plain : (byte : ℕ) (bytes : List ℕ) → byte ≢ 45 → IsPlainWord (byte ∷ bytes)
is_plain byte bytes other =
    let no_dash : (byte == 45) ≡ false = ne_eqb byte 45 other in
    record { long = rw no_dash refl; short = rw no_dash refl; dashes = rw no_dash refl }

-- a number
pub number_is_plain : (n : ℕ) → n < 18446744073709551616 → IsPlainWord (decimal n)
number_is_plain n fits =
    let begins = decimal_begins n fits in
    let digit : 48 ≤ begins.0 = begins.3 in
    let plain : IsPlainWord (begins.0 ∷ begins.1) = is_plain begins.0 begins.1 (λ e. omega arith) in
    subst IsPlainWord (sym begins.2) plain

-- the argument of an option for clap, and the row that its use leaves
abbrev pub setting_id : Setting → Text
setting_id (Workers n) = codes "workers"
setting_id (Bundle n) = codes "bundle"
setting_id (Pending n) = codes "pending"
setting_id Diary = codes "diary"
setting_id Taps = codes "taps"

abbrev pub setting_values : Setting → List Text
setting_values (Workers n) = decimal n ∷ []
setting_values (Bundle n) = decimal n ∷ []
setting_values (Pending n) = decimal n ∷ []
setting_values Diary = codes "true" ∷ []
setting_values Taps = codes "true" ∷ []

abbrev pub setting_row : Setting → Row
setting_row setting = row (setting_id setting) (setting_values setting)

setting_after : (setting : Setting) → IsSetting setting → (arguments : Arguments) (name : Text) (rows : List Row) (held : Awaited) (skip : ℕ) → Settles arguments rows held skip
    → (base : List Row) → rows_at arguments rows held skip ≡ base → has_row (setting_id setting) base ≡ false → (rest : List Text)
    → After arguments name (base ++ setting_row setting ∷ []) (between arguments rows held skip) (words_of_option setting ++ rest) rest
setting_after (Workers n) is arguments name rows held skip settles base now new rest = value_after arguments workers name rows held skip settles base now new (decimal n) (number_is_plain n (omega arith)) rest
setting_after (Bundle n) is arguments name rows held skip settles base now new rest = value_after arguments bundle name rows held skip settles base now new (decimal n) (number_is_plain n (omega arith)) rest
setting_after (Pending n) is arguments name rows held skip settles base now new rest = value_after arguments pending name rows held skip settles base now new (decimal n) (number_is_plain n (omega arith)) rest
setting_after Diary is arguments name rows held skip settles base now new rest = flag_after arguments diary name rows held skip settles base now new rest
setting_after Taps is arguments name rows held skip settles base now new rest = flag_after arguments taps name rows held skip settles base now new rest

-- options of different names are different for clap
ids_apart : (s t : Setting) → bytes_eq (name_of s) (name_of t) ≡ false → bytes_eq (setting_id s) (setting_id t) ≡ false
ids_apart (Workers m) (Workers n) e = absurd (cc e)
ids_apart (Bundle m) (Bundle n) e = absurd (cc e)
ids_apart (Pending m) (Pending n) e = absurd (cc e)
ids_apart Diary Diary e = absurd (cc e)
ids_apart Taps Taps e = absurd (cc e)
ids_apart s t e = refl

-- none of the options has a row
abbrev pub AreNew : List Row → List Setting → Type 0
AreNew base settings = AllByRecursion (λ s. has_row (setting_id s) base ≡ false) settings

stay_new : (base : List Row) (setting : Setting) (settings : List Setting) → AreNew base settings
    → AllByRecursion (λ name. bytes_eq (name_of setting) name ≡ false) (map name_of settings) → AreNew (base ++ setting_row setting ∷ []) settings
stay_new base setting [] new apart = tt
stay_new base setting (s ∷ settings) new apart =
    let before = new.0 in
    let other = ids_apart setting s apart.0 in
    (list_any-append (λ (r : Row). bytes_eq r.id (setting_id s)) base (setting_row setting ∷ []) ∙ rw (before, other) refl, stay_new base setting settings new.1 apart.1)

-- clap takes options, can use what is pending at their end, and has these rows
pub record Taken (arguments : Arguments) (name : Text) (base : List Row) (w : Walk) (words : List Text) : Type 0 where
  pub passes : walk_passes (built_of arguments name) [] w words ≡ true
  pub settles : settle_passes (rules arguments) false (fold (walked (rules arguments) []) w words).held ≡ true
  pub rows : (settled (rules arguments) (fold (walked (rules arguments) []) w words).held).rows ≡ base

comes_taken : (arguments : Arguments) (name : Text) (base : List Row) (w after : Walk) (words rest : List Text) → Comes (built_of arguments name) [] w words after rest → Taken arguments name base after rest → Taken arguments name base w words
comes_taken arguments name base w after words rest comes taken = record {
  passes = comes.passes ∙ taken.passes;
  settles = ap (λ (v : Walk). settle_passes (rules arguments) false v.held) comes.ends ∙ taken.settles;
  rows = ap (λ (v : Walk). (settled (rules arguments) v.held).rows) comes.ends ∙ taken.rows;
}

settings_taken : (arguments : Arguments) (name : Text) (settings : List Setting) → AllByRecursion IsSetting settings → IsDistinct bytes_eq (map name_of settings)
    → (rows : List Row) (held : Awaited) (skip : ℕ) → Settles arguments rows held skip → (base : List Row) → rows_at arguments rows held skip ≡ base → AreNew base settings
    → Taken arguments name (base ++ map setting_row settings) (between arguments rows held skip) (flat_map words_of_option settings)
unfolding walk_passes IsDistinct
settings_taken arguments name [] range once rows held skip settles base now new = record { passes = refl; settles = settles; rows = now ∙ sym (append-nil base) }
settings_taken arguments name (setting ∷ settings) range once rows held skip settles base now new =
    let after = setting_after setting range.0 arguments name rows held skip settles base now new.0 (flat_map words_of_option settings) in
    let more = settings_taken arguments name settings range.1 once.1 after.rows after.held after.skip after.settles (base ++ setting_row setting ∷ []) after.becomes
    (stay_new base setting settings new.1 once.0) in
    comes_taken arguments name (base ++ map setting_row (setting ∷ settings)) (between arguments rows held skip) (between arguments after.rows after.held after.skip) (words_of_option setting ++ flat_map words_of_option settings) (flat_map words_of_option settings)
    after.comes (subst (λ all. Taken arguments name all (between arguments after.rows after.held after.skip) (flat_map words_of_option settings)) (append_assoc base (setting_row setting ∷ []) (map setting_row settings)) more)

-- the words of arguments, which are plain, and their rows
abbrev pub texts_of : Arguments → List Text
texts_of (one argument) = argument ∷ []
texts_of (two argument second) = argument ∷ second ∷ []
texts_of (three argument second third) = argument ∷ second ∷ third ∷ []

abbrev pub ArePlain : Arguments → Type 0
ArePlain (one argument) = IsPlainWord argument
ArePlain (two argument second) = IsPlainWord argument × IsPlainWord second
ArePlain (three argument second third) = IsPlainWord argument × IsPlainWord second × IsPlainWord third

abbrev pub rows_of_arguments : Arguments → List Row
rows_of_arguments (one argument) = row (codes "argument") (argument ∷ []) ∷ []
rows_of_arguments (two argument second) = row (codes "argument") (argument ∷ []) ∷ row (codes "second") (second ∷ []) ∷ []
rows_of_arguments (three argument second third) =
    row (codes "argument") (argument ∷ []) ∷ row (codes "second") (second ∷ []) ∷ row (codes "third") (third ∷ []) ∷ []

-- the rows of arguments and options
abbrev pub rows_of_words : Arguments → List Setting → List Row
rows_of_words arguments settings = rows_of_arguments arguments ++ map setting_row settings

all_new : (arguments : Arguments) (settings : List Setting) → AreNew (rows_of_arguments arguments) settings
all_new (one a) settings = one_new settings
  where
    one_new : (settings : List Setting) → AreNew (rows_of_arguments (one a)) settings
    one_new [] = tt
    one_new (Workers n ∷ settings) = (refl, one_new settings)
    one_new (Bundle n ∷ settings) = (refl, one_new settings)
    one_new (Pending n ∷ settings) = (refl, one_new settings)
    one_new (Diary ∷ settings) = (refl, one_new settings)
    one_new (Taps ∷ settings) = (refl, one_new settings)
all_new (two a b) settings = two_new settings
  where
    two_new : (settings : List Setting) → AreNew (rows_of_arguments (two a b)) settings
    two_new [] = tt
    two_new (Workers n ∷ settings) = (refl, two_new settings)
    two_new (Bundle n ∷ settings) = (refl, two_new settings)
    two_new (Pending n ∷ settings) = (refl, two_new settings)
    two_new (Diary ∷ settings) = (refl, two_new settings)
    two_new (Taps ∷ settings) = (refl, two_new settings)
all_new (three a b d) settings = three_new settings
  where
    three_new : (settings : List Setting) → AreNew (rows_of_arguments (three a b d)) settings
    three_new [] = tt
    three_new (Workers n ∷ settings) = (refl, three_new settings)
    three_new (Bundle n ∷ settings) = (refl, three_new settings)
    three_new (Pending n ∷ settings) = (refl, three_new settings)
    three_new (Diary ∷ settings) = (refl, three_new settings)
    three_new (Taps ∷ settings) = (refl, three_new settings)

argument_passes : (arguments : Arguments) (name argument : Text) → IsPlainWord argument → turn_passes (built_of arguments name) [] (walk_from nothing_held) argument ≡ true
unfolding clap_on_literals
argument_passes (one a) name argument is = let x = is.long in let y = is.short in let z = is.dashes in simp (x, y, z)
argument_passes (two a b) name argument is = let x = is.long in let y = is.short in let z = is.dashes in simp (x, y, z)
argument_passes (three a b d) name argument is = let x = is.long in let y = is.short in let z = is.dashes in simp (x, y, z)

-- behind the first argument
abbrev behind_first : Text → Walk
behind_first argument = record {
  held = record { rows = []; pending = Some (codes "argument", argument ∷ []); skip = 0 };
  waiting = idle;
  position = 2;
  is_trailing = false;
  stopped = None;
}

argument_next : (arguments : Arguments) (argument : Text) → IsPlainWord argument → walked (rules arguments) [] (walk_from nothing_held) argument ≡ behind_first argument
unfolding clap_on_literals
argument_next (one a) argument is = let x = is.long in let y = is.short in let z = is.dashes in simp (x, y, z)
argument_next (two a b) argument is = let x = is.long in let y = is.short in let z = is.dashes in simp (x, y, z)
argument_next (three a b d) argument is = let x = is.long in let y = is.short in let z = is.dashes in simp (x, y, z)

second_passes : (name argument second : Text) → IsPlainWord second → turn_passes (built_of (two argument second) name) [] (behind_first argument) second ≡ true
unfolding clap_on_literals
second_passes name argument second is = let x = is.long in let y = is.short in let z = is.dashes in simp (x, y, z)

second_next : (argument second : Text) → IsPlainWord second
    → walked (rules (two argument second)) [] (behind_first argument) second
    ≡ between (two argument second) (row (codes "argument") (argument ∷ []) ∷ []) (Some (codes "second", second ∷ [])) 0
unfolding clap_on_literals
second_next argument second is = let x = is.long in let y = is.short in let z = is.dashes in simp (x, y, z)

-- behind the second of three arguments
abbrev behind_second : Text → Text → Walk
behind_second argument second = record {
  held = record { rows = row (codes "argument") (argument ∷ []) ∷ []; pending = Some (codes "second", second ∷ []); skip = 0 };
  waiting = idle;
  position = 3;
  is_trailing = false;
  stopped = None;
}

middle_passes : (name argument second third : Text) → IsPlainWord second
    → turn_passes (built_of (three argument second third) name) [] (behind_first argument) second ≡ true
unfolding clap_on_literals
middle_passes name argument second third is = let x = is.long in let y = is.short in let z = is.dashes in simp (x, y, z)

middle_next : (argument second third : Text) → IsPlainWord second
    → walked (rules (three argument second third)) [] (behind_first argument) second ≡ behind_second argument second
unfolding clap_on_literals
middle_next argument second third is = let x = is.long in let y = is.short in let z = is.dashes in simp (x, y, z)

third_passes : (name argument second third : Text) → IsPlainWord third
    → turn_passes (built_of (three argument second third) name) [] (behind_second argument second) third ≡ true
unfolding clap_on_literals
third_passes name argument second third is = let x = is.long in let y = is.short in let z = is.dashes in simp (x, y, z)

third_next : (argument second third : Text) → IsPlainWord third
    → walked (rules (three argument second third)) [] (behind_second argument second) third
    ≡ between (three argument second third) (row (codes "argument") (argument ∷ []) ∷ row (codes "second") (second ∷ []) ∷ [])
    (Some (codes "third", third ∷ [])) 0
unfolding clap_on_literals
third_next argument second third is = let x = is.long in let y = is.short in let z = is.dashes in simp (x, y, z)

-- clap takes the words of arguments and options, and has their rows
pub words_taken : (arguments : Arguments) (name : Text) → ArePlain arguments → (settings : List Setting) → AllByRecursion IsSetting settings → IsDistinct bytes_eq (map name_of settings)
    → Taken arguments name (rows_of_words arguments settings) (walk_from nothing_held) (texts_of arguments ++ flat_map words_of_option settings)
words_taken (one argument) name is settings range once =
    comes_taken (one argument) name (rows_of_words (one argument) settings) (walk_from nothing_held) (behind_first argument) (argument ∷ flat_map words_of_option settings) (flat_map words_of_option settings)
    (one_word (built_of (one argument) name) [] (walk_from nothing_held) argument _ (flat_map words_of_option settings) (argument_passes (one argument) name argument is) (argument_next (one argument) argument is))
    (settings_taken (one argument) name settings range once [] (Some (codes "argument", argument ∷ [])) 0 refl (rows_of_arguments (one argument)) refl (all_new (one argument) settings))
words_taken (two argument second) name is settings range once =
    let arguments = two argument second in
    let rest = flat_map words_of_option settings in
    comes_taken arguments name (rows_of_words arguments settings) (walk_from nothing_held) _ (argument ∷ second ∷ rest) rest
    (then (built_of arguments name) [] (walk_from nothing_held) _ _ (argument ∷ second ∷ rest) (second ∷ rest) rest
    (one_word (built_of arguments name) [] (walk_from nothing_held) argument _ (second ∷ rest) (argument_passes arguments name argument is.0) (argument_next arguments argument is.0))
    (one_word (built_of arguments name) [] (behind_first argument) second _ rest (second_passes name argument second is.1) (second_next argument second is.1)))
    (settings_taken arguments name settings range once (row (codes "argument") (argument ∷ []) ∷ []) (Some (codes "second", second ∷ [])) 0 refl (rows_of_arguments arguments) refl (all_new arguments settings))
words_taken (three argument second third) name is settings range once =
    let arguments = three argument second third in
    let rest = flat_map words_of_option settings in
    comes_taken arguments name (rows_of_words arguments settings) (walk_from nothing_held) _ (argument ∷ second ∷ third ∷ rest) rest
    (then (built_of arguments name) [] (walk_from nothing_held) (behind_second argument second) _ (argument ∷ second ∷ third ∷ rest) (third ∷ rest) rest
    (then (built_of arguments name) [] (walk_from nothing_held) _ _ (argument ∷ second ∷ third ∷ rest) (second ∷ third ∷ rest) (third ∷ rest)
    (one_word (built_of arguments name) [] (walk_from nothing_held) argument _ (second ∷ third ∷ rest) (argument_passes arguments name argument is.0) (argument_next arguments argument is.0))
    (one_word (built_of arguments name) [] (behind_first argument) second _ (third ∷ rest) (middle_passes name argument second third is.1) (middle_next argument second third is.1)))
    (one_word (built_of arguments name) [] (behind_second argument second) third _ rest (third_passes name argument second third is.2) (third_next argument second third is.2)))
    (settings_taken arguments name settings range once (row (codes "argument") (argument ∷ []) ∷ row (codes "second") (second ∷ []) ∷ [])
    (Some (codes "third", third ∷ [])) 0 refl (rows_of_arguments arguments) refl (all_new arguments settings))
