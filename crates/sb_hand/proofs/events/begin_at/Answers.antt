use Rattle.std.proofs.Common.{◌≡◌, set, ap, ◌∙◌}
use Rattle.sb_shown.specs.node.declared.closing.Closing.{Closing}
use Rattle.sb_shown.specs.lane.LaneView.{LaneView}
use Rattle.sb_shown.specs.node.LinkChanges.{LinksStay}
use Rattle.sb_hand.proofs.Answering.{from-two, two-ok}
use Rattle.sb_hand.proofs.AtNodes.{begins, goes, has-lane, lane-there, own-there}
use Rattle.sb_hand.proofs.events.begin_at.Goals as goal

pub begin-requires-clause-lane : goal.begin-requires-clause-lane
begin-requires-clause-lane c = let at = c.requires.at.0 in let h = c.requires.at.1 in (at, (has-lane c.args.nodes.now.items c.args.node c.args.lane c.index_mut-own.result.now at h c.index_mut-own.ensures.value))

pub begin-requires-clause-looks : goal.begin-requires-clause-looks
begin-requires-clause-looks c = λ at there. c.requires.looks at (lane-there c.args.nodes.now.items c.args.node c.args.lane c.index_mut-own.result.now c.requires.at.0 c.requires.at.1 c.index_mut-own.ensures.value at there)

pub begin-requires-clause-few : goal.begin-requires-clause-few
begin-requires-clause-few c = c.requires.few c.index_mut-own.result.now (own-there c.args.nodes.now.items c.args.node c.index_mut-own.result.now c.requires.at.1.own c.requires.at.1.there c.index_mut-own.ensures.value)

pub begin-requires-clause-rises : goal.begin-requires-clause-rises
begin-requires-clause-rises c = λ unspent. c.requires.rises c.index_mut-own.result.now (own-there c.args.nodes.now.items c.args.node c.index_mut-own.result.now c.requires.at.1.own c.requires.at.1.there c.index_mut-own.ensures.value)

pub returns-clause-begins : goal.returns-clause-begins
returns-clause-begins c =
    let own = c.index_mut-own.result.now in
    let nodes = c.args.nodes.now.items in
    let own_is = c.index_mut-own.ensures.value in
    from-two c.begin.result (λ (closing : Closing) names begun at h.
    begins nodes c.args.node c.args.lane own at h own_is c.reserve.new.self _ c.in_ok-reserve.ensures.ok _ closing names.0 names.1 (begun at (has-lane nodes c.args.node c.args.lane own at h own_is))) c.begin.ensures.names c.begin.ensures.begins

pub returns-clause-links : goal.returns-clause-links
returns-clause-links c =
    let own = c.index_mut-own.result.now in
    let lane : (closing : Closing) → closing.lane ≡ c.args.lane → (now : LaneView) → set own.lanes.items closing.lane now ≡ set own.lanes.items c.args.lane now = λ closing e now. ap (λ l. set own.lanes.items l now) e in
    two-ok c.begin.result (λ closing names begun. goes c.args.nodes.now.items c.args.node c.args.lane own _ c.index_mut-own.ensures.value LinksStay (λ at there. let t = begun at there in (t.now, t.sets.lanes ∙ lane closing names.1 t.now, t.linked))) c.begin.ensures.names c.begin.ensures.begins
