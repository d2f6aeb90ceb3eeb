use Rattle.std.proofs.Common.{◌≡◌, ◌↔◌, ◌<◌, ◌≤◌, true, false, rules, arith, Some, None, Option, ap, subst}
use Rattle.sb_record.specs.declared.front.FrontLine.{FrontLine}
use Rattle.sb_record.specs.declared.intake.TheConstants.{MAX_LINES}
use Rattle.sb_record.specs.declared.key.Keys.{Keys}
use Rattle.sb_record.specs.Fronts.{IsFront}
use Rattle.sb_record.specs.FrontReading.{is_timely}
use Rattle.sb_record.specs.Progress.{Progress}
use Rattle.sb_record.proofs.FrontAccepts.{timely_front, late_front, no_line_in_front, no_more_lines}
use Rattle.sb_record.proofs.intake.Intake.front.Goals as goal

pub returns-then-self-ge-MAX_LINES-clause-exact : goal.returns-then-self-ge-MAX_LINES-clause-exact
returns-then-self-ge-MAX_LINES-clause-exact c =
    let lines = ap (λ (p : Progress). p.lines) c.self.view_is in
    let many : MAX_LINES ≤ c.args.self.now.lines = omega (arith, lines) in
    no_more_lines c.args.self.now c.args.bytes.now many

pub returns-in_default-clause-exact : goal.returns-in_default-clause-exact
returns-in_default-clause-exact c =
    no_line_in_front c.args.self.now c.args.bytes.now
    (subst (λ (k : Keys). (f : FrontLine) → (◌≡◌ {A = Option FrontLine} None (Some f)) ↔ IsFront k f.item f.len c.args.bytes.now) (ap (λ (p : Progress). p.keys) c.self.view_is) c.in_default.ensures)

pub returns-then-not-is_timely-clause-exact : goal.returns-then-not-is_timely-clause-exact
returns-then-not-is_timely-clause-exact c =
    let lines = ap (λ (p : Progress). p.lines) c.self.view_is in
    let few : c.args.self.now.lines < MAX_LINES = omega (arith, lines) in
    let late : is_timely c.args.self.now c.in-Some.front.item ≡ false = search rules in
    late_front c.args.self.now c.args.bytes.now c.in-Some.front few
    (subst (λ (k : Keys). (f : FrontLine) → (◌≡◌ {A = Option FrontLine} (Some c.in-Some.front) (Some f)) ↔ IsFront k f.item f.len c.args.bytes.now) (ap (λ (p : Progress). p.keys) c.self.view_is) c.in-Some.ensures)
    late

pub returns-clause-exact : goal.returns-clause-exact
returns-clause-exact c =
    let lines = ap (λ (p : Progress). p.lines) c.self.view_is in
    let few : c.args.self.now.lines < MAX_LINES = omega (arith, lines) in
    let good : is_timely c.args.self.now c.in-Some.front.item ≡ true = search rules in
    timely_front c.args.self.now c.args.bytes.now c.in-Some.front few
    (subst (λ (k : Keys). (f : FrontLine) → (◌≡◌ {A = Option FrontLine} (Some c.in-Some.front) (Some f)) ↔ IsFront k f.item f.len c.args.bytes.now) (ap (λ (p : Progress). p.keys) c.self.view_is) c.in-Some.ensures)
    good
