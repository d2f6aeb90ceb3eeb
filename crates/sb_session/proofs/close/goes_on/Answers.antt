use Rattle.std.proofs.Common.{◌≡◌, ◌+◌, ◌-◌, true, sym, subst, ◌∙◌, arith, Option, Some, None}
use Rattle.std.specs.Prelude.{IfSome, IsSome}
use Rattle.std.specs.Option.{is_some}
use Rattle.std.specs.BTreeMap.{get}
use Rattle.sb_session.specs.declared.keyed_time.KeyedTime.{KeyedTime}
use Rattle.sb_session.specs.Kept.{keyed_time_cmp, IsBetween}
use Rattle.sb_session.specs.Closings.{GoesOn}
use Rattle.sb_session.proofs.close.goes_on.Goals as goal

pub returns-clause-yes : goal.returns-clause-yes
returns-clause-yes c = λ h. found c.first_between.result (c.first_between.ensures.some) (sym c.is_some.ensures ∙ h)
  where
    found : (o : Option KeyedTime) → IfSome o (IsBetween c.args.times.now (c.args.session.now.end - c.args.gap + 1) c.args.session.now) → is_some o ≡ true → GoesOn c.args.gap c.args.times.now c.args.session.now
    found (Some at) (key, low, high, some) h =
        (at.time, omega (arith, low, c.requires.fits), high, subst (λ k. IsSome (get keyed_time_cmp c.args.times.now (record { key = k; time = at.time }))) key some)
    found None are h = cc
