use Rattle.std.proofs.Common.{refl, sym, ap, ◌∙◌}
use Rattle.sb_base.specs.records.Intake.{answer_to}
use Rattle.sb_outside.specs.Readings.{reading}
use Rattle.sb_feed.proofs.ReadSteps.{accepted_taken, refused_stops, too_long_stops}
use Rattle.sb_feed.proofs.reading.line_item.Goals as goal

pub returns-in-Err-clause-takes : goal.returns-in-Err-clause-takes
returns-in-Err-clause-takes g c =
    refused_stops g.S.Source.left g.S.Source.faults c.args.lines.now.halt (reading c.args.source.now c.args.lines.now) (reading c.advance.new.source c.advance.new.self) c.args.intake.now c.accept.new.self c.in-Err.refusal
    refl c.requires c.in-Line.ensures.advances (ap (answer_to c.args.intake.now) (sym c.line.ensures) ∙ sym c.in-Err.ensures.value) c.in-Err.ensures.err

pub returns-in-TooLong-clause-takes : goal.returns-in-TooLong-clause-takes
returns-in-TooLong-clause-takes g c =
    rw c.too_long.ensures (
    too_long_stops g.S.Source.left g.S.Source.faults c.args.lines.now.halt (reading c.args.source.now c.args.lines.now) (reading c.advance.new.source c.advance.new.self) c.args.intake.now c.args.intake.now
    refl c.requires c.in-TooLong.ensures.advances refl)

pub returns-in-Ok-clause-takes : goal.returns-in-Ok-clause-takes
returns-in-Ok-clause-takes g c =
    accepted_taken g.S.Source.left g.S.Source.faults c.args.lines.now.halt (reading c.args.source.now c.args.lines.now) (reading c.advance.new.source c.advance.new.self) c.args.intake.now c.accept.new.self c.in-Ok.item
    refl c.requires c.in-Line.ensures.advances (ap (answer_to c.args.intake.now) (sym c.line.ensures) ∙ sym c.in-Ok.ensures.value) c.in-Ok.ensures.ok
