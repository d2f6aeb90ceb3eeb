use Rattle.std.proofs.Common.{ap, ◌∙◌}
use Rattle.std.specs.VecDeque.{deque_items}
use Rattle.sb_window.specs.Gatherings.{joined_value}
use Rattle.sb_runs.specs.Runs.{found, found_in}
use Rattle.sb_runs.proofs.FoundIn.{found_in-push}
use Rattle.sb_runs.proofs.runs.Runs.push.Goals as goal

pub returns : goal.returns
returns g c q =
    let join = g.J.Joiner.joined c.args.joiner.now in
    ap (λ rs. found_in join rs q) c.in_ok-push_back.ensures.items
    ∙ found_in-push join c.requires c.in_ok-runs.runs.items c.args.run q
    ∙ ap (λ o. joined_value join o (found c.args.run q))
    (c.in_ok-runs.ensures.same q ∙ ap (λ d. found_in join (deque_items d) q) c.replace-runs.ensures.value ∙ ap (λ rs. found_in join rs q) c.self.view_is)
