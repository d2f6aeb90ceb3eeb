use Rattle.std.proofs.Common.{List, subst}
use Rattle.sb_runs.specs.records.declared.element.KeptRec.{KeptRec}
use Rattle.sb_runs.specs.records.Elements.{on_lane}
use Rattle.sb_runs.specs.records.Reorderings.{IsReordered}
use Rattle.sb_runs.specs.window.Groupings.{IsFrom, Adds}
use Rattle.sb_join.specs.Entries.{entries_of}
use Rattle.sb_join.specs.Kept.{JoinState, gives, lane_of}
use Rattle.sb_join.proofs.KeptLaws.{gives_of, adds, added-kept, added-values, part-from, part-values}
use Rattle.sb_join.proofs.KeptValues.{entries-run, entries-open}
use Rattle.sb_join.proofs.Sides.{append-grouped}
use Rattle.sb_join.proofs.kept.JoinKeptGrouping.absorb.Goals as goal

pub push-requires : goal.push-requires
push-requires c = append-grouped

pub invariant_of-self-2 : goal.invariant_of-self-2
invariant_of-self-2 c =
    let s = c.self.inside in
    let part = c.args.part in
    let values = c.part.inside.values in
    let from = part-from _ c.args.self.now (lane_of part.side) part.records c.self.view_is c.if-self.false c.requires.from in
    let has = part-values _ c.args.self.now _ part values c.self.view_is c.if-self.false c.part.view_is c.requires.fits c.part.invariant in (
      c.self.invariant.0,
      λ _. added-kept s.windows s.closed part.side part.records s.values c.push.new.self values has c.in_ok-push.ensures from (c.self.invariant.1 c.if-self.false),
    )

pub returns-clause-adds : goal.returns-clause-adds
returns-clause-adds c =
    let s = c.self.inside in
    let part = c.args.part in
    let values = c.part.inside.values in
    let fixed = c.self.invariant.0 in
    let kept = c.self.invariant.1 c.if-self.false in
    let from = part-from _ c.args.self.now (lane_of part.side) part.records c.self.view_is c.if-self.false c.requires.from in
    let has = part-values _ c.args.self.now _ part values c.self.view_is c.if-self.false c.part.view_is c.requires.fits c.part.invariant in
    let later = added-kept s.windows s.closed part.side part.records s.values c.push.new.self values has c.in_ok-push.ensures from kept in
    subst (λ (x : JoinState). (es : List KeptRec) → IsReordered es (on_lane (lane_of c.args.part.side) c.args.part.records) → IsFrom x.closed es → Adds x.closed (gives x) (gives_of s.combine s.windows fixed s.closed (entries_of c.push.new.self)) es) c.self.view_is
    (λ es same from.
    adds s.combine s.windows fixed s.closed (on_lane (lane_of part.side) part.records) (entries_of s.values) (entries_of c.push.new.self) (entries-run s.values) (entries-open s.windows s.closed s.values kept)
    (entries-run c.push.new.self) (entries-open s.windows s.closed c.push.new.self later)
    (added-values s.windows s.closed part.side part.records s.values c.push.new.self values has c.in_ok-push.ensures) es same)
