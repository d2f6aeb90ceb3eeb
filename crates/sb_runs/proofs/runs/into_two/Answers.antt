use Rattle.std.proofs.Common.{sym, ap, ◌∙◌}
use Rattle.sb_window.specs.Gatherings.{joined_value}
use Rattle.sb_runs.specs.Runs.{found, found_in}
use Rattle.sb_runs.proofs.FoundIn.{found_in-push}
use Rattle.sb_runs.proofs.runs.into_two.Goals as goal

pub returns : goal.returns
returns g c q =
    let join = g.J.Joiner.joined c.args.joiner.now in
    ap (λ o. joined_value join o (found c.in-Some.last q)) (c.in_ok-into_one.ensures q ∙ c.in_ok-stack.ensures.same q)
    ∙ sym (found_in-push join c.requires c.pop_back.new.self.items c.in-Some.last q)
    ∙ ap (λ rs. found_in join rs q) (sym c.in-Some.ensures.items)
