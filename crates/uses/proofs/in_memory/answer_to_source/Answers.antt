use Rattle.std.proofs.Common.{Some, ap, ◌∙◌}
use Rattle.sb_cli.specs.outside.MemoryFolders.{file_named}
use Rattle.sb_cli.specs.words.Words.Asked.{Sum}
use Rattle.uses.proofs.Sums.{sums_written}
use Rattle.uses.proofs.in_memory.answer_to_source.Goals as goal

pub returns : goal.returns
returns g c = λ size options text is told done.
    let answer = c.streambox-status.ensures.answer (Sum size options) is in
    let written = sums_written size options text (Some (file_named c.new-folder.result.files)) (g.S.Source.left c.args.input.now) (g.S.Source.left c.streambox-status.new.input)
    c.new-out.result.taken c.streambox-status.new.out.taken c.streambox-status.result answer.0 answer.1 answer.2 told (ap (λ m. m.taken) c.new-out.ensures) done in
    c.in_ok-rows.ensures.items ∙ c.taken.ensures ∙ written
