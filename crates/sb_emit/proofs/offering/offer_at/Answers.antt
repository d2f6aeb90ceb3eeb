use Rattle.sb_emit.proofs.Places.{stays_at, goes_at, refuses_at, wants_more, wants_none}
use Rattle.sb_emit.proofs.offering.offer_at.Goals as goal

pub returns-in-Ok-More : goal.returns-in-Ok-More
returns-in-Ok-More g c =
    let said = c.in-Ok-More.ensures in
    stays_at _ c.args.row.now c.args.taps.now.items c.args.place c.index_mut.result.now c.offer_one.new.tap c.requires.place c.index_mut.ensures.value said.0 (wants_more _ _ said.1 c.in-Ok-More.field-0-is)

pub returns-in-Ok-Enough : goal.returns-in-Ok-Enough
returns-in-Ok-Enough g c =
    let said = c.in-Ok-Enough.ensures in
    goes_at _ c.args.row.now c.args.taps.now.items _ c.args.place c.index_mut.result.now c.offer_one.new.tap c.requires.place c.index_mut.ensures.value (wants_none _ _ said.1 c.in-Ok-Enough.field-0-is) c.remove.ensures.items

pub returns-in-Err : goal.returns-in-Err
returns-in-Err g c =
    refuses_at _ c.args.row.now c.args.taps.now.items c.args.place c.index_mut.result.now c.offer_one.new.tap c.in-Err.fault c.requires.place c.index_mut.ensures.value c.in-Err.ensures
