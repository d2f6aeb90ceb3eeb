use Rattle.std.proofs.Common.{◌≡◌, length, arith, refl, sym}
use Rattle.sb_words.proofs.Given.{no_words, no_option, none_gives, no_others, one_more, twice}
use Rattle.sb_words.proofs.options.+read_options.Goals as goal

pub returns-then-is_empty-clause-exact : goal.returns-then-is_empty-clause-exact
returns-then-is_empty-clause-exact t c =
    let nothing : length c.args.words.now ≡ 0 = grind arith in
    no_words c.default.result c.default.ensures c.args.words.now nothing

pub returns-in_err-setting-clause-exact : goal.returns-in_err-setting-clause-exact
returns-in_err-setting-clause-exact t c =
    let some : length c.args.words.now ≡ 0 → ⊥ = λ none. grind arith in
    none_gives _ c.from_residual.ensures _ (no_option c.args.words.now some (c.in_err-setting.ensures.none refl))

pub returns-then-has_word-clause-exact : goal.returns-then-has_word-clause-exact
returns-then-has_word-clause-exact t c =
    let first = c.in_ok-setting.ensures.some in
    none_gives _ refl _ (twice c.in_ok-setting.setting _ c.in_ok-setting.rest.now first.0 first.1 c.name.result.now c.name.ensures (sym c.if-has_word.ensures))

pub returns-in_err-options-clause-exact : goal.returns-in_err-options-clause-exact
returns-in_err-options-clause-exact t c =
    let first = c.in_ok-setting.ensures.some in
    none_gives _ c.from_residual-in_err-options.ensures _
    (no_others c.in_ok-setting.setting _ c.in_ok-setting.rest.now first.0 first.1 (λ options are. absurd (cc ((c.in_err-options.ensures.exact options).1 are))))

pub returns-clause-exact : goal.returns-clause-exact
returns-clause-exact t c =
    let first = c.in_ok-setting.ensures.some in
    one_more c.in_ok-setting.setting _ c.in_ok-setting.rest.now first.0 first.1 c.name.result.now c.name.ensures (sym c.if-has_word.ensures)
    c.in_ok-options.options c.in_ok-options.ensures.exact c.with.result c.with.ensures
