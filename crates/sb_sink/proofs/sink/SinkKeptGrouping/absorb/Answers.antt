use Rattle.std.proofs.Common.{◌+◌, ◌++◌, length, sym, ap, ◌∙◌, length-append}
use Rattle.sb_window.proofs.Marks.{length-reordered}
use Rattle.sb_sink.specs.Runs.{records_in}
use Rattle.sb_sink.proofs.sink.SinkKeptGrouping.absorb.Goals as goal

pub invariant_of-self : goal.invariant_of-self
invariant_of-self c =
    let old = records_in c.self.inside.runs.items in
    let part = c.args.part.items in
    let now = records_in c.add_rows.new.runs.items in
    c.in-Ok.ensures.held ∙ ap (λ n. n + length part) c.self.invariant ∙ sym (length-append old part) ∙ sym (length-reordered now (old ++ part) c.in-Ok.ensures.adds)
