-- The options that words give, option by option.
use Rattle.std.proofs.Common.{◌≡◌, ◌≢◌, ◌↔◌, ℕ, ◌⊎◌, inl, inr, List, [], ◌∷◌, ◌++◌, map, Some, None, Option, true, false, refl, sym, ap, ◌∙◌, arith, length}
use Rattle.std.specs.Prelude.{String, string_bytes}
use Rattle.std.specs.List.{AllByRecursion, IsDistinct, flat_map, list_any}
use Rattle.std.specs.Str.{bytes_eq}
use Rattle.std.proofs.lemmas.Option.{same_Some}
use Rattle.sb_words.specs.declared.options.Options.{Options}
use Rattle.sb_words.specs.declared.setting.Setting.{Setting}
use Rattle.sb_words.specs.Options.{AreOptions, IsSetting, defaults, name_of, options_of, words_of_option, with_setting}
use Rattle.sb_words.specs.Texts.{texts}
use Rattle.sb_words.proofs.Settings.{first_is_one}
use Rattle.sb_words.proofs.Naming.{any_text, named, none_passes, passes_none}

-- words that give options and begin with one of them
pub record StartsWith (options : Options) (words : List (List ℕ)) : Type 0 where
  pub setting : Setting
  pub others : List Setting
  pub is : IsSetting setting
  pub in_range : AllByRecursion IsSetting others
  pub apart : AllByRecursion (λ name. bytes_eq (name_of setting) name ≡ false) (map name_of others)
  pub once : IsDistinct bytes_eq (map name_of others)
  pub exactly : words ≡ words_of_option setting ++ flat_map words_of_option others
  pub given : options ≡ with_setting setting (options_of others)

-- words that give options are none, or begin with one
view_of : (options : Options) (words : List (List ℕ)) (settings : List Setting) → AllByRecursion IsSetting settings
    → IsDistinct bytes_eq (map name_of settings) → words ≡ flat_map words_of_option settings → options ≡ options_of settings
    → ((words ≡ []) × (options ≡ defaults)) ⊎ StartsWith options words
unfolding IsDistinct
view_of options words [] range once exactly given = inl (exactly, given)
view_of options words (setting ∷ others) range once exactly given = inr record {
  setting = setting;
  others = others;
  is = range.0;
  in_range = range.1;
  apart = once.0;
  once = once.1;
  exactly = exactly;
  given = given;
}

view : (options : Options) (words : List (List ℕ)) → AreOptions options words → ((words ≡ []) × (options ≡ defaults)) ⊎ StartsWith options words
view options words are = view_of options words are.settings are.in_range are.once are.exactly are.given

-- the way back
unview : (options : Options) (words : List (List ℕ)) → StartsWith options words → AreOptions options words
unfolding IsDistinct
unview options words starts = record {
  settings = starts.setting ∷ starts.others;
  in_range = (starts.is, starts.in_range);
  once = (starts.apart, starts.once);
  exactly = starts.exactly;
  given = starts.given;
}

no_texts : {Y : Type 0} (words : List (String Y)) → length words ≡ 0 → texts words ≡ []
no_texts [] none = refl
no_texts (word ∷ words) none = absurd (omega arith)

-- no words give the defaults
pub no_words : {Y : Type 0} (given : Options) → given ≡ defaults → (words : List (String Y)) → length words ≡ 0
    → (options : Options) → (◌≡◌ {A = Option Options} (Some given) (Some options)) ↔ AreOptions options (texts words)
unfolding IsDistinct
no_words given are words none options = (
  λ e. record { settings = []; in_range = tt; once = tt; exactly = no_texts words none; given = sym (same_Some given options e) ∙ are },
  λ is. elim (view options (texts words) is) [
    | inl v ↦ ap (λ o. Some o) (are ∙ sym v.1)
    | inr v ↦ let nothing : words_of_option v.setting ++ flat_map words_of_option v.others ≡ [] = sym v.exactly ∙ no_texts words none in absurd cc
  ],
)

no_words_of : {Y : Type 0} (words : List (String Y)) → texts words ≡ [] → length words ≡ 0
no_words_of [] none = refl
no_words_of (word ∷ words) none = absurd cc

-- words that begin with no option give none
pub no_option : {Y : Type 0} (words : List (String Y)) → (length words ≡ 0 → ⊥) → ((setting : Setting) (rest : List (List ℕ)) → IsSetting setting → texts words ≢ words_of_option setting ++ rest)
    → (options : Options) → AreOptions options (texts words) → ⊥
no_option words some none options is = elim (view options (texts words) is) [
  | inl v ↦ some (no_words_of words v.0)
  | inr v ↦ none v.setting (flat_map words_of_option v.others) v.is v.exactly
]

-- the options behind the first, if options begin with one
after_first : (setting : Setting) (words rest : List (List ℕ)) → IsSetting setting → words ≡ words_of_option setting ++ rest
    → (options : Options) → (v : StartsWith options words) → (v.setting ≡ setting) × (flat_map words_of_option v.others ≡ rest)
after_first setting words rest is begins options v = first_is_one v.setting setting _ _ v.is is (sym v.exactly ∙ begins)

-- words that give an option twice are no options
pub twice : {Y : Type 0} (setting : Setting) (words : List (List ℕ)) (rest : List (String Y)) → IsSetting setting → words ≡ words_of_option setting ++ texts rest
    → (name : List ℕ) → name ≡ name_of setting → list_any (λ w. bytes_eq name (string_bytes w)) rest ≡ true
    → (options : Options) → AreOptions options words → ⊥
twice setting words rest is begins name names again options are = elim (view options words are) [
  | inl v ↦ let nothing : words_of_option setting ++ texts rest ≡ [] = sym begins ∙ v.0 in absurd cc
  | inr v ↦
      let same = after_first setting words (texts rest) is begins options v in
      let none : list_any (bytes_eq (name_of v.setting)) (texts rest) ≡ false =
      rw (← same.1) (named v.setting v.others v.in_range ∙ none_passes (bytes_eq (name_of v.setting)) (map name_of v.others) v.apart) in
      let some : list_any (bytes_eq (name_of v.setting)) (texts rest) ≡ true =
      rw (same.0, ← names) (sym (any_text (bytes_eq name) rest) ∙ again) in
      absurd (cc (sym none ∙ some))
]

-- if what stands behind the first option gives no options, all of it gives none
pub no_others : {Y : Type 0} (setting : Setting) (words : List (List ℕ)) (rest : List (String Y)) → IsSetting setting → words ≡ words_of_option setting ++ texts rest
    → ((options : Options) → AreOptions options (texts rest) → ⊥)
    → (options : Options) → AreOptions options words → ⊥
unfolding IsDistinct
no_others setting words rest is begins none options are = elim (view options words are) [
  | inl v ↦ let nothing : words_of_option setting ++ texts rest ≡ [] = sym begins ∙ v.0 in absurd cc
  | inr v ↦
      let same = after_first setting words (texts rest) is begins options v in
      none (options_of v.others) record {
        settings = v.others;
        in_range = v.in_range;
        once = v.once;
        exactly = sym same.1;
        given = refl;
      }
]

-- the same in the form in which it is asked
pub none_gives : (r : Option Options) → r ≡ None → (words : List (List ℕ)) → ((options : Options) → AreOptions options words → ⊥)
    → (options : Options) → (r ≡ Some options) ↔ AreOptions options words
none_gives r is words none options = (λ e. absurd (cc (sym is ∙ e)), λ are. absurd (none options are))

-- options, and one more in front of them
pub one_more : {Y : Type 0} (setting : Setting) (words : List (List ℕ)) (rest : List (String Y)) → IsSetting setting → words ≡ words_of_option setting ++ texts rest
    → (name : List ℕ) → name ≡ name_of setting → list_any (λ w. bytes_eq name (string_bytes w)) rest ≡ false
    → (others : Options) → ((options : Options) → (◌≡◌ {A = Option Options} (Some others) (Some options)) ↔ AreOptions options (texts rest))
    → (given : Options) → given ≡ with_setting setting others
    → (options : Options) → (◌≡◌ {A = Option Options} (Some given) (Some options)) ↔ AreOptions options words
unfolding IsDistinct
one_more setting words rest is begins name names new others exact given is_with options = (
  λ e.
      let o = (exact others).0 refl in
      let apart : list_any (bytes_eq (name_of setting)) (map name_of o.settings) ≡ false =
      sym (named setting o.settings o.in_range) ∙ ap (list_any (bytes_eq (name_of setting))) (sym o.exactly)
      ∙ rw (← names) (sym (any_text (bytes_eq name) rest) ∙ new) in
      record {
        settings = setting ∷ o.settings;
        in_range = (is, o.in_range);
        once = (passes_none (bytes_eq (name_of setting)) (map name_of o.settings) apart, o.once);
        exactly = begins ∙ ap (λ ws. words_of_option setting ++ ws) o.exactly;
        given = sym (same_Some given options e) ∙ is_with ∙ ap (with_setting setting) o.given;
      },
  λ are. elim (view options words are) [
    | inl v ↦ let nothing : words_of_option setting ++ texts rest ≡ [] = sym begins ∙ v.0 in absurd cc
    | inr v ↦
        let same = after_first setting words (texts rest) is begins options v in
        let o : AreOptions (options_of v.others) (texts rest) = record {
          settings = v.others;
          in_range = v.in_range;
          once = v.once;
          exactly = sym same.1;
          given = refl;
        } in
        let e = same_Some others (options_of v.others) ((exact (options_of v.others)).1 o) in
        ap (λ k. Some k) (sym (v.given ∙ rw (same.0, ← e) (sym is_with)))
  ],
)
