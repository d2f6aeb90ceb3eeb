use Rattle.std.proofs.Common.{◌≡◌, ◌∷◌, ap, rules, ◌∙◌}
use Rattle.sb_words.specs.Texts.{texts}
use Rattle.sb_words.specs.Words.{IsKeyWord}
use Rattle.sb_words.proofs.Commands.{is_watch, no_answer, no_watch}
use Rattle.sb_words.proofs.planned.read_watch.Goals as goal

pub returns-in_err-options-clause-exact : goal.returns-in_err-options-clause-exact
returns-in_err-options-clause-exact c =
    let words : texts c.args.rest.now ≡ c.as_str-key.result.now ∷ texts c.in_ok-first.others.now = search rules in
    no_answer _ c.from_residual-in_err-options.ensures _ (no_watch c.args.plan.now c.as_str-key.result.now _ _ words c.in_err-options.ensures.exact)

pub returns-clause-exact : goal.returns-clause-exact
returns-clause-exact c =
    let words : texts c.args.rest.now ≡ c.as_str-key.result.now ∷ texts c.in_ok-first.others.now = search rules in
    let named : IsKeyWord c.as_str-key.result.now = search rules in
    is_watch c.args.plan.now c.as_str-key.result.now _ _ words c.requires named c.in_ok-options.options c.in_ok-options.ensures.exact
