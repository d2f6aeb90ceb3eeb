use Rattle.std.proofs.Common.{List, [], ◌∷◌, refl, sym, subst, ap, ◌∙◌}
use Rattle.sb_window.specs.declared.keyed_window.KeyedWindow.{KeyedWindow}
use Rattle.sb_window.specs.Gatherings.{joined_value}
use Rattle.sb_runs.specs.Runs.{IsRun, found}
use Rattle.sb_runs.proofs.Found.{run-none, found-apart}
use Rattle.sb_runs.proofs.run.Run.add.Goals as goal

pub invariant_of-self-then-is_behind : goal.invariant_of-self-then-is_behind
invariant_of-self-then-is_behind g c =
    subst (λ (es : List (KeyedWindow × g.row.J-Value.Denot)). IsRun es) (sym c.in_ok-push.ensures.added) (c.if-is_behind.ensures refl)

pub returns-then-is_behind : goal.returns-then-is_behind
returns-then-is_behind g c q =
    let join = g.J.Joiner.joined c.args.joiner.now in
    let e = g.J.Joiner.seen c.args.entry in
    ap (λ (es : List (KeyedWindow × g.row.J-Value.Denot)). found es q) c.in_ok-push.ensures.added
    ∙ sym (found-apart join c.self.inside.entries (e ∷ []) (c.if-is_behind.ensures refl) q)
    ∙ ap (λ (es : List (KeyedWindow × g.row.J-Value.Denot)). joined_value join (found es q) (found (e ∷ []) q)) c.self.view_is

pub invariant_of-self-in_err-self-inside : goal.invariant_of-self-in_err-self-inside
invariant_of-self-in_err-self-inside g c =
    rw c.replace-entries.ensures.after (subst (λ (es : List (KeyedWindow × g.row.J-Value.Denot)). IsRun es) (sym c.new.ensures) run-none)
