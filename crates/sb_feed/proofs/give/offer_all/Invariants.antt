use Rattle.std.proofs.Common.{map, take, length, ◌≤◌}
use Rattle.sb_feed.specs.TapLists.{LeavesThoseThatStay}
use Rattle.sb_feed.proofs.give.offer_all.Given as goal

abbrev pub invariant-rows : goal.invariant-rows
invariant-rows g l =
    LeavesThoseThatStay (take l.row-index l.rows) (map (λ t. (goal.Tap-dyn g (t.vtable, t.value)).tap_state t.value) l.fn.taps.items) (map (λ t. (goal.Tap-dyn g (t.vtable, t.value)).tap_state t.value) l.taps.items)
    × (length l.taps.items ≤ length l.fn.taps.items)
