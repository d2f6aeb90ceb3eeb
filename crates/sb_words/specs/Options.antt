-- The options of a command, and the words that give them.
use Rattle.std.specs.Prelude.{◌≡◌, ◌≤◌, ℕ, true, false, List, [], ◌∷◌, map, decimal, codes}
use Rattle.std.specs.List.{AllByRecursion, IsDistinct, flat_map}
use Rattle.std.specs.Str.{bytes_eq}
use Rattle.sb_bundle.specs.declared.bundle.TheConstants.{MAX_BUNDLE}
use Rattle.sb_words.specs.declared.options.Options.{Options}
use Rattle.sb_words.specs.declared.options.TheConstants.{MAX_WORKERS, MAX_PENDING, DEFAULT_WORKERS, DEFAULT_BUNDLE, DEFAULT_PENDING}
use Rattle.sb_words.specs.declared.setting.Setting.{Setting}
use Rattle.sb_words.specs.declared.setting.Setting.TheVariants.{Workers, Bundle, Pending, Diary, Taps}

-- the values that an option may have
abbrev pub IsSetting : Setting → Type 0
IsSetting (Workers n) = (1 ≤ n) × (n ≤ MAX_WORKERS)
IsSetting (Bundle n) = (1 ≤ n) × (n ≤ MAX_BUNDLE)
IsSetting (Pending n) = (1 ≤ n) × (n ≤ MAX_PENDING)
IsSetting Diary = Unit {0}
IsSetting Taps = Unit {0}

-- the word that names an option
abbrev pub name_of : Setting → List ℕ
name_of (Workers n) = codes "--workers"
name_of (Bundle n) = codes "--bundle"
name_of (Pending n) = codes "--pending"
name_of Diary = codes "--diary"
name_of Taps = codes "--taps"

-- the word of its value, if it has one
abbrev pub value_of : Setting → List (List ℕ)
value_of (Workers n) = decimal n ∷ []
value_of (Bundle n) = decimal n ∷ []
value_of (Pending n) = decimal n ∷ []
value_of Diary = []
value_of Taps = []

-- the words of an option
abbrev pub words_of_option : Setting → List (List ℕ)
words_of_option setting = name_of setting ∷ value_of setting

-- the options if none is given
abbrev pub defaults : Options
defaults = record {
  workers = DEFAULT_WORKERS;
  bundle = DEFAULT_BUNDLE;
  pending = DEFAULT_PENDING;
  diary = false;
  taps = false;
}

-- the same options with one of them set
abbrev pub with_setting : Setting → Options → Options
with_setting (Workers n) options = record options { workers = n }
with_setting (Bundle n) options = record options { bundle = n }
with_setting (Pending n) options = record options { pending = n }
with_setting Diary options = record options { diary = true }
with_setting Taps options = record options { taps = true }

-- the options if these are given
abbrev pub options_of : List Setting → Options
options_of [] = defaults
options_of (setting ∷ settings) = with_setting setting (options_of settings)

-- these words, and no others, give these options: the words of some settings one after another, in any order, no option
-- twice and each value in its range
pub record AreOptions (options : Options) (words : List (List ℕ)) : Type 0 where
  pub settings : List Setting
  pub in_range : AllByRecursion IsSetting settings
  pub once : IsDistinct bytes_eq (map name_of settings)
  pub exactly : words ≡ flat_map words_of_option settings
  pub given : options ≡ options_of settings

-- the values that options may have
pub record AreInRange (options : Options) : Type 0 where
  pub some_worker : 1 ≤ options.workers
  pub workers : options.workers ≤ MAX_WORKERS
  pub some_record : 1 ≤ options.bundle
  pub bundle : options.bundle ≤ MAX_BUNDLE
  pub some_bundle : 1 ≤ options.pending
  pub pending : options.pending ≤ MAX_PENDING
