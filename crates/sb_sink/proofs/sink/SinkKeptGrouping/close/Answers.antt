use Rattle.std.proofs.Common.{length, subst, ap, ◌∙◌, arith}
use Rattle.sb_window.specs.Groupings.{Closes}
use Rattle.sb_sink.specs.Runs.{records_in}
use Rattle.sb_sink.specs.Sinks.{SinkState, gives}
use Rattle.sb_sink.proofs.SinkLaws.{closes, lengths}
use Rattle.sb_sink.proofs.sink.SinkKeptGrouping.close.Goals as goal

pub overflow_sub-self : goal.overflow_sub-self
overflow_sub-self c =
    let old = records_in c.self.inside.runs.items in
    let later = records_in c.take_below.new.runs.items in
    let all = lengths old later c.in-Ok.rows.items c.args.mark c.in-Ok.ensures.rows c.in-Ok.ensures.kept in
    omega (arith, all, c.self.invariant, c.len.ensures, c.in-Ok.rows.ok)

pub invariant_of-self : goal.invariant_of-self
invariant_of-self c =
    let old = records_in c.self.inside.runs.items in
    let later = records_in c.take_below.new.runs.items in
    let all = lengths old later c.in-Ok.rows.items c.args.mark c.in-Ok.ensures.rows c.in-Ok.ensures.kept in
    omega (arith, all, c.self.invariant, c.len.ensures, c.in-Ok.rows.ok)

pub returns-in-Ok-clause-closes : goal.returns-in-Ok-clause-closes
returns-in-Ok-clause-closes c =
    let later = records_in c.take_below.new.runs.items in
    let s : SinkState = record { kept = records_in c.self.inside.runs.items; closed = c.self.inside.closed; is_spent = c.self.inside.is_spent } in
    let t : SinkState = record { kept = later; closed = c.args.mark; is_spent = c.self.inside.is_spent } in
    subst (λ (x : SinkState). Closes c.args.mark (gives x) c.in-Ok.rows.items (gives t)) c.self.view_is
    (closes s t c.args.mark c.in-Ok.rows.items c.in-Ok.ensures.rows c.in-Ok.ensures.kept)

pub returns-in-Ok-clause-count : goal.returns-in-Ok-clause-count
returns-in-Ok-clause-count c =
    let old = records_in c.self.inside.runs.items in
    let later = records_in c.take_below.new.runs.items in
    lengths old later c.in-Ok.rows.items c.args.mark c.in-Ok.ensures.rows c.in-Ok.ensures.kept ∙ ap (λ (x : SinkState). length x.kept) c.self.view_is
