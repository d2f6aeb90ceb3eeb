use Rattle.std.proofs.Common.{◌∙◌}
use Rattle.sb_plan.specs.PlanFiles.{is_document_key}
use Rattle.sb_plan.proofs.AllKeys.{all_keys_view}
use Rattle.sb_plan.proofs.plan_text.has_document_keys.Goals as goal

pub returns : goal.returns
returns c = c.are_document_keys.ensures ∙ all_keys_view is_document_key c.args.document.now.entries
