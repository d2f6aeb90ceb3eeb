use Rattle.std.proofs.Common.{cond, None, length, sym, ap, ◌∙◌, arith}
use Rattle.std.specs.Prelude.{nat_lt}
use Rattle.sb_window.specs.Gatherings.{joined_value}
use Rattle.sb_runs.specs.Runs.{found, found_in}
use Rattle.sb_runs.proofs.FoundIn.{found_in-with_run, closed-more, opened-more}
use Rattle.sb_runs.proofs.runs.split_all.Goals as goal

pub runs-preserved : goal.runs-preserved
runs-preserved g c =
    let join = g.J.Joiner.joined c.args.joiner.now in
    let first = c.in-Some.ensures.items in
    record {
      closed = λ q.
          closed-more join c.requires (nat_lt c.args.mark q.end) (found_in join c.runs.closed.items q) (found_in join c.keep.new.runs.items q) (found c.in_ok-part.part q) c.in-Some.run' c.pop_front.new.self.items q
          (c.in_ok-part.ensures.closed q) (ap (λ rs. found_in join rs q) c.in_ok-keep.ensures.items ∙ found_in-with_run join c.requires c.runs.closed.items c.in_ok-part.part q)
          ∙ ap (λ rs. joined_value join (found_in join c.runs.closed.items q) (cond (nat_lt c.args.mark q.end) None (found_in join rs q))) (sym first)
          ∙ c.runs.invariant.closed q;
      opened = λ q.
          opened-more join c.requires (nat_lt c.args.mark q.end) (found_in join c.runs.open.items q) (found_in join c.keep-in-Some.new.runs.items q) (found c.in_ok-part.others q) c.in-Some.run' c.pop_front.new.self.items q
          (c.in_ok-part.ensures.opened q) (ap (λ rs. found_in join rs q) c.in_ok-keep-2.ensures.items ∙ found_in-with_run join c.requires c.runs.open.items c.in_ok-part.others q)
          ∙ ap (λ rs. joined_value join (found_in join c.runs.open.items q) (cond (nat_lt c.args.mark q.end) (found_in join rs q) None)) (sym first)
          ∙ c.runs.invariant.opened q;
      bound = let left = ap length first in omega (arith, left, c.in_ok-keep-2.ensures.bound, c.runs.invariant.bound);
    }
