-- Options that set sizes alone.
use Rattle.std.proofs.Common.{◌≡◌, ◌↔◌, ℕ, List, Some, None, Option, sym, subst, ◌∙◌}
use Rattle.std.proofs.lemmas.Option.{same_Some}
use Rattle.sb_words.specs.declared.options.Options.{Options}
use Rattle.sb_words.specs.Options.{AreOptions}
use Rattle.sb_words.specs.Words.{AreSizesAlone}

-- these words give options, if any do, as they are answered
abbrev pub AreAnswered : Option Options → List (List ℕ) → Type 0
AreAnswered answer words = (options : Options) → (answer ≡ Some options) ↔ AreOptions options words

-- the same of options that set sizes alone
abbrev pub AreSizesAnswered : Option Options → List (List ℕ) → Type 0
AreSizesAnswered answer words = (options : Options) → (answer ≡ Some options) ↔ (AreOptions options words × AreSizesAlone options)

-- words that give no options give none of these
pub no_sizes : (r : Option Options) → r ≡ None → (words : List (List ℕ)) → AreAnswered None words → AreSizesAnswered r words
no_sizes r is words none options = (λ e. absurd (cc (sym is ∙ e)), λ are. absurd (cc ((none options).1 are.0)))

-- nor do words that give others
pub other_sizes : (given : Options) (words : List (List ℕ)) → AreAnswered (Some given) words → (AreSizesAlone given → ⊥) → AreSizesAnswered None words
other_sizes given words exact more options = (
  λ e. absurd (cc e),
  λ are. absurd (more (subst AreSizesAlone (sym (same_Some given options ((exact options).1 are.0))) are.1)),
)

pub are_sizes : (given : Options) (words : List (List ℕ)) → AreAnswered (Some given) words → AreSizesAlone given → AreSizesAnswered (Some given) words
are_sizes given words exact alone options = (
  λ e. ((exact options).0 e, subst AreSizesAlone (same_Some given options e) alone),
  λ are. (exact options).1 are.0,
)
