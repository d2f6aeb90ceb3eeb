use Rattle.std.proofs.Common.{◌≡◌, ◌+◌, [], ◌∷◌, ◌++◌, length, take, refl, sym, ap, subst, ◌∙◌}
use Rattle.std.specs.Prelude.{is_err}
use Rattle.std.proofs.lemmas.Option.{slice_get_read}
use Rattle.std.proofs.lemmas.List.{take_all}
use Rattle.sb_core.specs.declared.event.Event.{Event}
use Rattle.sb_core.specs.Events
use Rattle.sb_core.specs.Exactness.{IsExact}
use Rattle.sb_core.specs.Laws.{records_fed_by}
use Rattle.sb_machine.proofs.Becoming.{refused-same}
use Rattle.sb_machine.proofs.Nodewise.{take_more}
use Rattle.sb_machine.proofs.Stepping.{run-more, records_fed_by-more}
use Rattle.sb_machine.proofs.machine.run.Goals as goal

pub loop-at-preserved : goal.loop-at-preserved
loop-at-preserved c =
    let plan = c.args.plan.now in
    let events = c.args.events.now in
    let at = c.loop-at.at in
    let event : Event = c.in-Ok.event in
    let here = slice_get_read events (length events) at c.index-events-at.result refl c.loop-at-test.true c.index-events-at.is in
    let taken : take (at + 1) events ≡ take at events ++ event ∷ [] = take_more events at c.index-events-at.result here ∙ ap (λ e. take at events ++ e ∷ []) (sym c.in-Ok.ensures.value) in
    record {
      done = ap (λ l. Events.run plan l c.args.moment.now) taken ∙ run-more plan (take at events) event c.args.moment.now c.loop-at.moment c.step.new.moment c.loop-at.invariant.done c.in_default.ensures.becomes;
      sound = c.step.ensures.sound;
      exact = λ fed exact.
          subst (λ f. IsExact plan c.step.new.moment f) (sym (ap (λ l. records_fed_by l fed) taken ∙ records_fed_by-more (take at events) event fed))
          (c.in_default.ensures.exact (records_fed_by (take at events) fed) (c.loop-at.invariant.exact fed exact));
    }

pub returns-clause-exact : goal.returns-clause-exact
returns-clause-exact c =
    λ fed exact.
    subst (λ l. IsExact c.args.plan.now c.loop-at.moment (records_fed_by l fed)) (take_all c.loop-at.at c.args.events.now c.loop-at-test.false) (c.loop-at.invariant.exact fed exact)

pub returns-in-Err-step-clause-exact : goal.returns-in-Err-step-clause-exact
returns-in-Err-step-clause-exact c =
    λ fed exact.
    subst (λ m. IsExact c.args.plan.now m (records_fed_by (take c.loop-at.at c.args.events.now) fed))
    (sym (refused-same _ c.loop-at.moment c.step.new.moment c.step.result (ap is_err c.in-Err-step.is) c.step.ensures.becomes))
    (c.loop-at.invariant.exact fed exact)
