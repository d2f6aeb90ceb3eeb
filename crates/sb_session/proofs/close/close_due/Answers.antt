use Rattle.std.proofs.Common.{rules, ◌≡◌, ◌≤◌, List, [], ◌∷◌, refl, sym, subst}
use Rattle.std.specs.List.{AllByRecursion}
use Rattle.std.proofs.lemmas.List.{nil_from_length}
use Rattle.std.proofs.lemmas.List.Elements.{recursion_from_All}
use Rattle.sb_windowed.specs.window.declared.keyed_window.KeyedWindow.{KeyedWindow}
use Rattle.sb_session.specs.Kept.{kept_of}
use Rattle.sb_session.proofs.Going.{IsGoing, closes-full, first-going, step-going, last-going}
use Rattle.sb_session.proofs.close.close_due.Goals as goal

pub loop-session-init : goal.loop-session-init
loop-session-init c =
    let is : c.into_iter-session-iterator.result.rest.items ≡ c.args.due.items = c.into_iter-session-iterator.ensures.into_iter_gives.0 in
    record {
      fits = subst (AllByRecursion (λ (q : KeyedWindow). c.args.gap ≤ q.end)) (sym is) (recursion_from_All (λ (q : KeyedWindow). c.args.gap ≤ q.end) c.args.due.items c.requires.fits);
      going = λ mark are full. subst (λ (rest : List KeyedWindow). IsGoing c.args.agg c.args.gap mark (kept_of c.args.times.now.entries) c.args.due.items c.new-rows.result.items rest c.args.times.now) (sym is)
          (first-going c.args.agg c.args.gap mark (kept_of c.args.times.now.entries) c.args.due.items c.new-rows.result.items c.args.times.now c.new-rows.ensures.items refl are full);
      full = λ full. full;
    }

pub close_one-requires-clause-fits : goal.close_one-requires-clause-fits
close_one-requires-clause-fits c = (subst (AllByRecursion (λ (q : KeyedWindow). c.args.gap ≤ q.end)) c.in-Some.ensures.steps.0 c.loop-session.invariant.fits).0

pub loop-session-preserved : goal.loop-session-preserved
loop-session-preserved c =
    let fits : AllByRecursion (λ (q : KeyedWindow). c.args.gap ≤ q.end) (c.in-Some.session ∷ c.next.new.self.rest.items) = subst (AllByRecursion (λ (q : KeyedWindow). c.args.gap ≤ q.end)) c.in-Some.ensures.steps.0 c.loop-session.invariant.fits in
    record {
      fits = fits.1;
      going = λ mark are full.
          let going : IsGoing c.args.agg c.args.gap mark (kept_of c.args.times.now.entries) c.args.due.items c.loop-session.rows.items (c.in-Some.session ∷ c.next.new.self.rest.items) c.loop-session.times =
          subst (λ (rest : List KeyedWindow). IsGoing c.args.agg c.args.gap mark (kept_of c.args.times.now.entries) c.args.due.items c.loop-session.rows.items rest c.loop-session.times) c.in-Some.ensures.steps.0 (c.loop-session.invariant.going mark are full) in
          step-going c.args.agg c.args.gap mark (kept_of c.args.times.now.entries) c.args.due.items c.requires.some c.in-Some.session c.next.new.self.rest.items fits.0 c.loop-session.rows.items c.close_one.new.rows.items c.loop-session.times c.close_one.new.times
          c.in_ok-close_one.ensures.ordered going c.in_ok-close_one.ensures.closes;
      full = λ full. closes-full c.args.agg c.args.gap c.loop-session.times c.close_one.new.times c.in-Some.session c.loop-session.rows.items c.close_one.new.rows.items c.in_ok-close_one.ensures.closes (c.loop-session.invariant.full full);
    }

pub returns-clause-closed : goal.returns-clause-closed
returns-clause-closed c =
    let none : c.loop-session.session-iterator.rest.items ≡ [] = nil_from_length c.loop-session.session-iterator.rest.items (search (rules, c.in-None.ensures.steps.0)) in
    λ mark are full. last-going c.args.agg c.args.gap mark (kept_of c.args.times.now.entries) c.args.due.items c.loop-session.rows.items c.loop-session.times
    (subst (λ (rest : List KeyedWindow). IsGoing c.args.agg c.args.gap mark (kept_of c.args.times.now.entries) c.args.due.items c.loop-session.rows.items rest c.loop-session.times) none (c.loop-session.invariant.going mark are full))
