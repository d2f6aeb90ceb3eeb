use Rattle.std.proofs.Common.{◌≡◌, ◌↔◌, ◌<◌, true, rules, arith, Some, Option, ap, subst}
use Rattle.sb_record.specs.declared.front.FrontLine.{FrontLine}
use Rattle.sb_record.specs.declared.intake.TheConstants.{MAX_LINES}
use Rattle.sb_record.specs.declared.key.Keys.{Keys}
use Rattle.sb_record.specs.Fronts.{IsFront}
use Rattle.sb_record.specs.FrontReading.{is_in_time, usual_line}
use Rattle.sb_record.specs.Progress.{Progress}
use Rattle.sb_record.proofs.FrontAccepts.{timely_front}
use Rattle.sb_record.proofs.intake.Intake.usual.Goals as goal

pub returns-then-is_in_time-clause-exact : goal.returns-then-is_in_time-clause-exact
returns-then-is_in_time-clause-exact c =
    let lines = ap (λ (p : Progress). p.lines) c.self.view_is in
    let few : c.args.self.now.lines < MAX_LINES = omega (arith, lines) in
    let good : is_in_time c.args.self.now c.in-Some.record.stream c.in-Some.record.time ≡ true = search rules in
    timely_front c.args.self.now c.args.bytes.now (usual_line c.in-Some.record) few
    (subst (λ (k : Keys). (f : FrontLine) → (◌≡◌ {A = Option FrontLine} (Some (usual_line c.in-Some.record)) (Some f)) ↔ IsFront k f.item f.len c.args.bytes.now) (ap (λ (p : Progress). p.keys) c.self.view_is) c.in-Some.ensures)
    good
