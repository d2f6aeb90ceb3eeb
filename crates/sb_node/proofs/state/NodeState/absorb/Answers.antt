use Rattle.std.proofs.Common.{sym, ap, subst, ◌∙◌}
use Rattle.sb_work.specs.base.records.Elements.{on_lane}
use Rattle.sb_work.specs.base.window.Groupings.{Adds}
use Rattle.sb_node.specs.declared.kept.Kept.{Kept}
use Rattle.sb_node.specs.Keeping.{IsMadeFor, IsSpent, closed_mark, gives}
use Rattle.sb_node.proofs.state.NodeState.absorb.Goals as goal

pub returns-clause-absorbs : goal.returns-clause-absorbs
returns-clause-absorbs c = λ at h.
    let t = c.finish.ensures at h in
    let taken = c.in_ok-absorb.ensures in
    record {
      now = t.now;
      sets = record { in_it = h; lanes = t.sets.lanes; limit = t.sets.limit; diary = t.sets.diary };
      closings = t.rest.closings;
      is = t.is;
      linked = t.linked;
      was = taken.was;
      unspent = λ spent. taken.is (subst IsSpent t.rest.kept spent);
      made = λ op made. subst (IsMadeFor op) (sym t.rest.kept) (taken.made op made);
      closed = ap closed_mark t.rest.kept ∙ taken.closed;
      adds = λ records is_part. subst (λ (k : Kept). Adds (closed_mark c.args.self.now.kept) (gives c.args.self.now.kept) (gives k) (on_lane c.args.lane records)) (sym t.rest.kept) (taken.adds c.args.lane records is_part);
    }
