use Rattle.std.proofs.Common.{◌≡◌, ◌∙◌, sym, ap, Some, None, Ok}
use Rattle.std.specs.Result.{result_ok}
use Rattle.sb_record.proofs.Grammar.{item_some, item_reads}
use Rattle.std.proofs.lemmas.Option.{same_Some}
use Rattle.sb_record.specs.declared.item.Item.{Item}
use Rattle.std.specs.Prelude.{Option}
use Rattle.sb_record.proofs.line.read_line.Goals as goal

pub returns-in-Some-clause-exact : goal.returns-in-Some-clause-exact
returns-in-Some-clause-exact c i = (
  λ e. item_some c.args.keys c.args.line.now i (sym c.in-Some.ensures ∙ ap result_ok e),
  λ text. let e : ◌≡◌ {A = Option Item} (Some c.in-Some.item) (Some i) = c.in-Some.ensures ∙ item_reads c.args.keys i c.args.line.now text in ap (λ item. Ok item) (same_Some c.in-Some.item i e),
)

pub returns-in-None-clause-exact : goal.returns-in-None-clause-exact
returns-in-None-clause-exact c i = (
  λ e. cc,
  λ text. let e : ◌≡◌ {A = Option Item} None (Some i) = c.in-None.ensures ∙ item_reads c.args.keys i c.args.line.now text in cc,
)
