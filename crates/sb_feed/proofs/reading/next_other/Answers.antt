use Rattle.std.proofs.Common.{◌≡◌, ◌<◌, List, ℕ, take, Ok, refl, sym, ap, subst}
use Rattle.std.specs.Prelude.{OnOk}
use Rattle.sb_base.specs.records.declared.intake.TheConstants.{MAX_LINES}
use Rattle.sb_base.specs.records.Intake.{answer_to}
use Rattle.sb_base.specs.records.Progress.{Progress}
use Rattle.sb_outside.specs.AtHand.{BeginsWithLine}
use Rattle.sb_outside.specs.Readings.{Held, reading}
use Rattle.sb_feed.specs.Reads.{TakesNext}
use Rattle.sb_feed.proofs.FrontTakes.{front_begins, front_taken}
use Rattle.sb_feed.proofs.reading.next_other.Goals as goal

pub take_line-requires : goal.take_line-requires
take_line-requires g c =
    let next = (c.in-Some.ensures.exact c.in-Some.front).0 refl in
    subst (λ (l : List ℕ). BeginsWithLine c.in-Some.front.len l) c.at_hand.ensures (front_begins _ _ _ _ next.front)

pub returns-in-Some-clause-takes : goal.returns-in-Some-clause-takes
returns-in-Some-clause-takes g c =
    let front = c.in-Some.front in
    let p = c.args.intake.now in
    let next = (c.in-Some.ensures.exact front).0 refl in
    front_taken g.S.Source.left c.args.source.now p c.accept_front.new.self front.item front.len c.in-Some.ensures.some c.args.lines.now c.take_line.new.self
    (subst (λ (l : List ℕ). BeginsWithLine front.len l) c.at_hand.ensures (front_begins _ _ _ _ next.front))
    (subst (λ (l : List ℕ). answer_to p (take front.len l) ≡ Ok front.item) c.at_hand.ensures next.accepted)
    c.take_line.ensures

pub returns-in-Some-clause-end : goal.returns-in-Some-clause-end
returns-in-Some-clause-end g c = λ before now. absurd (cc (sym (ap (λ (h : Held). h.halt) c.take_line.ensures), now))

pub returns-in-None-clause-takes : goal.returns-in-None-clause-takes
returns-in-None-clause-takes g c =
    subst (λ (p : Progress). TakesNext g.S.Source.left (reading c.args.source.now c.args.lines.now) (reading c.line_item.new.source c.line_item.new.lines) p c.line_item.new.intake c.line_item.result) c.in-None.ensures.none c.line_item.ensures.takes

pub returns-in-None-clause-room : goal.returns-in-None-clause-room
returns-in-None-clause-room g c = subst (λ (p : Progress). OnOk c.line_item.result (p.lines < MAX_LINES)) c.in-None.ensures.none c.line_item.ensures.room
