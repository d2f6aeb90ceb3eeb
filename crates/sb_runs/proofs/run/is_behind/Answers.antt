use Rattle.std.proofs.Common.{◌≡◌, ◌<◌, true, false, List, [], ◌∷◌, ◌++◌, length, IsTrue, refl, sym, subst, ap, ◌∙◌, arith}
use Rattle.std.specs.Ordering.{is_lt}
use Rattle.sb_window.specs.declared.keyed_window.KeyedWindow.{KeyedWindow}
use Rattle.sb_runs.specs.Runs.{IsRun}
use Rattle.sb_runs.proofs.Found.{run-behind, run-one}
use Rattle.sb_runs.proofs.run.is_behind.Goals as goal

pub returns-in-Some : goal.returns-in-Some
returns-in-Some g c before =
    let e = g.J.Joiner.seen c.args.entry.now in
    let last = g.J.Joiner.seen c.in-Some.last.now in
    let some : 0 < length c.args.entries.now = c.in-Some.ensures.variant.0 refl in
    run-behind c.args.entries.now (e ∷ []) (length c.args.entries.now) last e refl some c.in-Some.ensures.lookup refl (omega arith)
    (subst IsTrue (c.is_lt.ensures ∙ ap is_lt c.compare.ensures) before) c.requires (run-one e)

none : {A : Type 0} (es : List A) → (0 < length es → false ≡ true) → es ≡ []
none [] h = refl
none (e ∷ es) h = let k : false ≡ true = h (omega arith) in cc

pub returns-in-None : goal.returns-in-None
returns-in-None g c _ =
    let e = g.J.Joiner.seen c.args.entry.now in
    subst (λ (es : List (KeyedWindow × g.row.J-Value.Denot)). IsRun (es ++ e ∷ [])) (sym (none c.args.entries.now c.in-None.ensures.variant.1)) (run-one e)
