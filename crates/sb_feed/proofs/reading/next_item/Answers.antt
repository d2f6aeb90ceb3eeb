use Rattle.std.proofs.Common.{◌<◌, sym, ap, ◌∙◌, subst}
use Rattle.std.specs.Prelude.{OnOk}
use Rattle.sb_base.specs.records.declared.intake.TheConstants.{MAX_LINES}
use Rattle.sb_base.specs.records.Progress.{Progress}
use Rattle.sb_outside.specs.Readings.{Held, reading}
use Rattle.sb_feed.specs.Reads.{TakesNext}
use Rattle.sb_feed.proofs.reading.next_item.Goals as goal

pub returns-in-Some-clause-takes : goal.returns-in-Some-clause-takes
returns-in-Some-clause-takes g c = rw c.record.ensures c.in-Some.ensures.takes

pub returns-in-Some-clause-end : goal.returns-in-Some-clause-end
returns-in-Some-clause-end g c = λ before now. absurd (cc (c.in-Some.ensures.on, now))

pub returns-in-None-clause-takes : goal.returns-in-None-clause-takes
returns-in-None-clause-takes g c =
    let now = reading c.next_other.new.source c.next_other.new.lines in
    subst (λ (p : Progress). TakesNext g.S.Source.left (reading c.args.source.now c.args.lines.now) now p c.next_other.new.intake c.next_other.result) c.in-None.ensures.intake
    (subst (λ (h : Held). TakesNext g.S.Source.left (reading c.args.source.now h) now c.next_usual.new.intake c.next_other.new.intake c.next_other.result) c.in-None.ensures.lines c.next_other.ensures.takes)

pub returns-in-None-clause-room : goal.returns-in-None-clause-room
returns-in-None-clause-room g c = subst (λ (p : Progress). OnOk c.next_other.result (p.lines < MAX_LINES)) c.in-None.ensures.intake c.next_other.ensures.room

pub returns-in-None-clause-end : goal.returns-in-None-clause-end
returns-in-None-clause-end g c = λ before. c.next_other.ensures.end (λ e. before (sym (ap (λ (h : Held). h.halt) c.in-None.ensures.lines) ∙ e))
