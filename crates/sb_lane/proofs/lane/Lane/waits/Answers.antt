use Rattle.std.proofs.Common.{ap, ◌∙◌}
use Rattle.std.specs.Prelude.{is_some}
use Rattle.sb_lane.specs.LaneView.{LaneView}
use Rattle.sb_lane.specs.Placed.{conts_of}
use Rattle.sb_lane.specs.Taking.{take_first}
use Rattle.sb_lane.proofs.Firsts.{waits-is}
use Rattle.sb_lane.proofs.lane.Lane.waits.Goals as goal

pub returns : goal.returns
returns c =
    let e = c.first_waiting.ensures in
    c.is_some.ensures ∙ waits-is c.first_waiting.result c.self.inside.containers e.within e.waits e.before e.none ∙ ap (λ (s : LaneView). is_some (take_first (conts_of s.containers))) c.self.view_is
