use Rattle.std.proofs.Common.{◌≡◌, false, refl, rules}
use Rattle.sb_words.proofs.Sizes.{are_sizes, no_sizes, other_sizes}
use Rattle.sb_words.proofs.options.read_sizes.Goals as goal
use Rattle.sb_words.proofs.options.read_sizes.Goals.{then-options-via-then-options, then-options-via-else-options+then-options-2}

pub returns-in_err-options-clause-exact : goal.returns-in_err-options-clause-exact
returns-in_err-options-clause-exact c = no_sizes _ c.from_residual.ensures _ c.in_err-options.ensures.exact

pub returns-then-options-clause-exact : goal.returns-then-options-clause-exact
returns-then-options-clause-exact c =
    other_sizes c.in_ok-options.options _ c.in_ok-options.ensures.exact
    (λ alone. elim c.then-options.branch [
      | then-options-via-then-options w ↦ let none = alone.no_diary in search (rules, w.if-options, none)
      | then-options-via-else-options+then-options-2 w ↦ let none = alone.no_taps in search (rules, w.if-options-2, none)
    ])

pub returns-clause-exact : goal.returns-clause-exact
returns-clause-exact c =
    let no_diary : c.in_ok-options.options.diary ≡ false = search rules in
    let no_taps : c.in_ok-options.options.taps ≡ false = search rules in
    are_sizes c.in_ok-options.options _ c.in_ok-options.ensures.exact (record { no_diary = no_diary; no_taps = no_taps })

pub returns-clause-valid : goal.returns-clause-valid
returns-clause-valid c =
    let no_diary : c.in_ok-options.options.diary ≡ false = search rules in
    let no_taps : c.in_ok-options.options.taps ≡ false = search rules in
    (c.in_ok-options.ensures.valid, record { no_diary = no_diary; no_taps = no_taps })
