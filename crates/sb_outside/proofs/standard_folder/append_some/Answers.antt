use Rattle.std.proofs.Common.{◌+◌, ◌∙◌, sym, ap, drop}
use Rattle.sb_outside.proofs.Folders.{first_appended}
use Rattle.sb_outside.proofs.standard_folder.append_some.Goals as goal

pub returns-in-Ok-clause-ok : goal.returns-in-Ok-clause-ok
returns-in-Ok-clause-ok g c = (
  drop c.len-start.result c.read_to_end.new.buf.items,
  first_appended _ _ _ (c.len-start.ensures ∙ c.args.into.now.ok.0) c.in-Ok.ensures.appends
      (sym c.read_to_end.new.buf.ok.0 ∙ c.in-Ok.ensures.ok ∙ ap (λ n. n + c.in-Ok.count) (sym c.len-start.ensures)) c.min.ensures c.truncate.ensures.items,
)
