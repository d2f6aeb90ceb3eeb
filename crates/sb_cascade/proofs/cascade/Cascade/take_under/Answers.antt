use Rattle.std.proofs.Common.{ℕ, false, [], ◌∷◌, ◌++◌, Some, sym, ap, ◌∙◌, refl, subst}
use Rattle.sb_hand.specs.node.Changes.{Takes}
use Rattle.sb_shared.specs.turn.declared.turns.Entry.TheVariants as entry
use Rattle.sb_hand.specs.work.declared.claim.Claim.{Claim}
use Rattle.sb_shared.specs.declared.telling.Change.TheVariants.{Take}
use Rattle.sb_shared.specs.Doings.{work_of}
use Rattle.sb_shared.specs.Found.{IsFound}
use Rattle.sb_shared.specs.SharedNodes.{ChangesOwn, SharedView, lines_of}
use Rattle.sb_shared.specs.Views.{as_list}
use Rattle.sb_shared.proofs.lives.Claims.{taken}
use Rattle.sb_shared.proofs.entered.FoundLanes.{lanes_few}
use Rattle.sb_shared.proofs.entered.Taken.{takes-told}
use Rattle.sb_cascade.proofs.cascade.Cascade.take_under.Goals as goal

pub take-requires : goal.take-requires
take-requires c =
    record { few = (lanes_few c.args.self.now.setting c.args.pass.now.seat.me.0.client c.args.node c.args.guard.state c.requires.pass.0.found).1 }

pub leave-requires-clause-does : goal.leave-requires-clause-does
leave-requires-clause-does c =
    let me = c.args.pass.now.seat.me.0 in
    let g = c.args.guard in
    let y : SharedView = c.take.new.self in
    let claim : Claim = record { node = c.args.node; lane = c.in-Some.field-0.lane; bundle = c.in-Some.field-0.bundle } in
    let took = c.in-Some.ensures.some in
    let own : ChangesOwn (Takes claim.lane took.0 claim.bundle) g.state y = took.2 in
    takes-told c.args.self.now.setting me.client me.seen g.node g.found.value y
    (subst (λ z. z) (λ i. IsFound c.args.self.now.setting me.client (sym c.requires.guard.0 i) (sym c.requires.guard.1 i)) c.requires.pass.0.found)
    claim c.of-told.result c.in-Some.field-0.link took.0
    c.of-told.ensures (sym c.requires.guard.0)
    (subst (λ (x : SharedView). ChangesOwn (Takes claim.lane took.0 claim.bundle) x y) (sym c.requires.guard.1) own)
    took.3
    (ap as_list c.requires.pass.1.held)

pub returns-in-Some-clause-some : goal.returns-in-Some-clause-some
returns-in-Some-clause-some c =
    let g = c.args.guard in
    let me = c.args.pass.now.seat.me.0 in
    let y : SharedView = c.take.new.self in
    let claim : Claim = record { node = c.args.node; lane = c.in-Some.field-0.lane; bundle = c.in-Some.field-0.bundle } in
    let took = c.in-Some.ensures.some in
    let turn = c.leave.ensures.turn in (
      refl,
      taken c.args.self.now.setting me.client c.args.node g.state c.requires.pass.0.found claim refl took.0 y took.2,
      (ap (λ m. m.0.client.held) turn ∙ ap (λ (v : Claim). Some (work_of v false)) c.of-told.ensures, c.requires.pass.1.kept),
      record {
        lines = lines_of y;
        change = Take c.of-told.result c.in-Some.field-0.link;
        is = (c.of-told.result, c.in-Some.field-0.link, refl, c.of-told.ensures);
        trace = ap (λ m. m.0.trace) turn ∙ ap (λ (k : ℕ). me.trace ++ entry.Left k (lines_of y) (Take c.of-told.result c.in-Some.field-0.link) ∷ []) c.requires.guard.0;
      },
    )
