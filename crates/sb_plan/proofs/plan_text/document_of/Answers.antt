use Rattle.std.proofs.Common.{rules}
use Rattle.sb_plan.proofs.Documents.{document_of-read, document_of-refused}
use Rattle.sb_plan.proofs.plan_text.document_of.Goals as goal

pub returns-in-Ok-clause-ok : goal.returns-in-Ok-clause-ok
returns-in-Ok-clause-ok c = document_of-read _ _ c.in-Ok.ensures.ok.0 c.in-Ok.ensures.ok.1

pub returns-else-is_memory-clause-not_toml : goal.returns-else-is_memory-clause-not_toml
returns-else-is_memory-clause-not_toml c _ = document_of-refused _ (c.in-Err.ensures.refused (search rules))
