use Rattle.std.proofs.Common.{rules, ◌≡◌, Bool, true, false, refl}
use Rattle.std.specs.Option.{IsSome}
use Rattle.std.specs.Ordering.{is_lt}
use Rattle.std.specs.BTreeMap.{get}
use Rattle.sb_session.specs.declared.keyed_time.KeyedTime.{KeyedTime}
use Rattle.sb_session.specs.Kept.{keyed_time_cmp}
use Rattle.sb_session.proofs.KeyedTimes.{in-range, not-after}
use Rattle.sb_session.proofs.times.next_from.Goals as goal

pub returns-in-Some-clause-least : goal.returns-in-Some-clause-least
returns-in-Some-clause-least c = λ q some from. let h = (c.range.ensures.in_range tt).2 q (in-range c.args.at q from, tt) some in not-after c.in-Some.next.now q (search (rules, h, c.in-Some.ensures.steps))

pub returns-in-None-clause-none : goal.returns-in-None-clause-none
returns-in-None-clause-none c = λ q some. by_case q some (is_lt (keyed_time_cmp q c.args.at)) refl
  where
    by_case : (q : KeyedTime) → IsSome (get keyed_time_cmp c.args.times.now q) → (b : Bool) → is_lt (keyed_time_cmp q c.args.at) ≡ b → b ≡ true
    by_case q some true e = refl
    by_case q some false e = let h = (c.range.ensures.in_range tt).5 (search (rules, c.in-None.ensures.steps)) q (in-range c.args.at q e, tt) in search (rules, h, some)

pub returns-in-Some-clause-from : goal.returns-in-Some-clause-from
returns-in-Some-clause-from c = not-after c.args.at c.in-Some.next.now (search (rules, (c.range.ensures.in_range tt).1, c.in-Some.ensures.steps))
