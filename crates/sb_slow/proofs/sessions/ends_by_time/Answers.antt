use Rattle.std.proofs.Common.{rules, ◌≡◌, ◌<◌, cond, List, [], ◌∷◌, Some, None, sym, subst, ap, ◌∙◌}
use Rattle.std.specs.BTreeMap.{get, is_at}
use Rattle.std.proofs.lemmas.List.{nil_from_length}
use Rattle.std.proofs.lemmas.List.Elements.{recursion_from_All}
use Rattle.sb_base.specs.records.declared.item.Record.{Record}
use Rattle.sb_base.specs.records.declared.item.TheConstants.{END_MARK}
use Rattle.sb_slow.specs.declared.sessions.KeyedTime.{KeyedTime}
use Rattle.sb_slow.specs.SessionEnds as spec
use Rattle.sb_slow.proofs.Walking.{IsWalked, first-walked, step-walked, walked-all, has-before}
use Rattle.sb_slow.proofs.sessions.ends_by_time.Goals as goal

pub loop-at-init : goal.loop-at-init
loop-at-init c =
    subst (λ (ts : List KeyedTime). IsWalked c.args.gap c.args.records.now ts None c.new-ends.result) (sym c.into_iter-at-iterator.ensures.into_iter_gives.0)
    (first-walked c.args.gap c.args.records.now c.in_ok-times.times.items c.new-ends.result c.in_ok-times.ensures)

pub end_before-end-requires-clause-time : goal.end_before-end-requires-clause-time
end_before-end-requires-clause-time c =
    let walked : IsWalked c.args.gap c.args.records.now (c.in-Some.at ∷ c.next.new.self.rest.items) c.loop-at.later c.loop-at.ends =
    subst (λ (ts : List KeyedTime). IsWalked c.args.gap c.args.records.now ts c.loop-at.later c.loop-at.ends) c.in-Some.ensures.steps.0 c.loop-at.invariant in
    has-before c.in-Some.at.key c.in-Some.at.time END_MARK c.args.records.now (recursion_from_All (λ (r : Record). r.time < END_MARK) c.args.records.now c.requires.times) walked.there.0

pub loop-at-preserved : goal.loop-at-preserved
loop-at-preserved c =
    let walked : IsWalked c.args.gap c.args.records.now (c.in-Some.at ∷ c.next.new.self.rest.items) c.loop-at.later c.loop-at.ends =
    subst (λ (ts : List KeyedTime). IsWalked c.args.gap c.args.records.now ts c.loop-at.later c.loop-at.ends) c.in-Some.ensures.steps.0 c.loop-at.invariant in
    let inserted : (q : KeyedTime) → get spec.keyed_time_cmp c.insert.new.self q ≡ cond (is_at (spec.keyed_time_cmp c.in-Some.at) q) (Some c.end_before-end.result) (get spec.keyed_time_cmp c.loop-at.ends q) = search rules in
    subst (λ e. IsWalked c.args.gap c.args.records.now c.next.new.self.rest.items (Some (record { at = c.in-Some.at; end = e })) c.insert.new.self) (sym c.end_before-end.ensures)
    (step-walked c.args.gap c.args.records.now c.in-Some.at c.next.new.self.rest.items c.loop-at.later c.loop-at.ends c.insert.new.self walked
    (λ q. inserted q ∙ ap (λ e. cond (is_at (spec.keyed_time_cmp c.in-Some.at) q) (Some e) (get spec.keyed_time_cmp c.loop-at.ends q)) c.end_before-end.ensures))

pub returns : goal.returns
returns c =
    let none : c.loop-at.at-iterator.rest.items ≡ [] = nil_from_length c.loop-at.at-iterator.rest.items (search (rules, c.in-None.ensures.steps.0)) in
    walked-all c.args.gap c.args.records.now c.loop-at.later c.loop-at.ends (subst (λ (ts : List KeyedTime). IsWalked c.args.gap c.args.records.now ts c.loop-at.later c.loop-at.ends) none c.loop-at.invariant)
