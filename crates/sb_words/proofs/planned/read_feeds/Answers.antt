use Rattle.std.proofs.Common.{◌≡◌, ◌∷◌, ap, rules, ◌∙◌}
use Rattle.sb_words.specs.Texts.{texts}
use Rattle.sb_words.specs.Words.{IsFileName}
use Rattle.sb_words.proofs.Commands.{is_feeds, no_answer, no_feeds}
use Rattle.sb_words.proofs.planned.read_feeds.Goals as goal

pub returns-in_err-options-clause-exact : goal.returns-in_err-options-clause-exact
returns-in_err-options-clause-exact c =
    let words : texts c.args.rest.now ≡ c.as_str-file_a.result.now ∷ c.as_str-file_b.result.now ∷ texts c.in_ok-second.others.now = search rules in
    no_answer _ c.from_residual-in_err-options.ensures _
    (no_feeds c.args.plan.now c.as_str-file_a.result.now c.as_str-file_b.result.now _ _ words c.in_err-options.ensures.exact)

pub returns-clause-exact : goal.returns-clause-exact
returns-clause-exact c =
    let words : texts c.args.rest.now ≡ c.as_str-file_a.result.now ∷ c.as_str-file_b.result.now ∷ texts c.in_ok-second.others.now = search rules in
    let named_a : IsFileName c.as_str-file_a.result.now = search rules in
    let named_b : IsFileName c.as_str-file_b.result.now = search rules in
    is_feeds c.args.plan.now c.as_str-file_a.result.now c.as_str-file_b.result.now _ _ words c.requires named_a named_b
    c.in_ok-options.options c.in_ok-options.ensures.exact
