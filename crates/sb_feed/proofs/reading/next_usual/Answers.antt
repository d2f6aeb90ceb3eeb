use Rattle.std.proofs.Common.{◌≡◌, List, ℕ, take, Ok, subst}
use Rattle.sb_base.specs.records.declared.item.Item.TheVariants.{Rec}
use Rattle.sb_base.specs.records.FrontReading.{usual_record}
use Rattle.sb_base.specs.records.Intake.{answer_to}
use Rattle.sb_outside.specs.AtHand.{BeginsWithLine}
use Rattle.sb_feed.proofs.FrontTakes.{front_begins, front_taken}
use Rattle.sb_feed.proofs.reading.next_usual.Goals as goal

pub take_line-requires : goal.take_line-requires
take_line-requires g c = subst (λ (l : List ℕ). BeginsWithLine c.in-Some.usual.len l) c.at_hand.ensures (front_begins _ _ _ _ c.in-Some.ensures.accepted.front)

pub returns-in-Some-clause-takes : goal.returns-in-Some-clause-takes
returns-in-Some-clause-takes g c =
    let usual = c.in-Some.usual in
    let p = c.args.intake.now in
    front_taken g.S.Source.left c.args.source.now p c.accept_usual.new.self (Rec usual.stream (usual_record usual)) usual.len c.in-Some.ensures.some c.args.lines.now c.take_line.new.self
    (subst (λ (l : List ℕ). BeginsWithLine usual.len l) c.at_hand.ensures (front_begins _ _ _ _ c.in-Some.ensures.accepted.front))
    (subst (λ (l : List ℕ). answer_to p (take usual.len l) ≡ Ok (Rec usual.stream (usual_record usual))) c.at_hand.ensures c.in-Some.ensures.accepted.accepted)
    c.take_line.ensures
