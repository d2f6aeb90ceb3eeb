use Rattle.std.proofs.Common.{◌≡◌, List, [], ◌∷◌, ◌++◌, append-nil, sym, subst, ap, ◌∙◌}
use Rattle.std.proofs.lemmas.Result.{IfOk-weaker}
use Rattle.sb_window.specs.declared.keyed_window.KeyedWindow.{KeyedWindow}
use Rattle.sb_window.specs.Gatherings.{joined_value}
use Rattle.sb_runs.specs.Merged.{merged}
use Rattle.sb_runs.specs.Runs.{IsRun, found}
use Rattle.sb_runs.proofs.Found.{run-one, pushed-run, pushed-joined, joined-last, last-run}
use Rattle.sb_runs.proofs.Merging.{merged-is-run, merged-has}
use Rattle.sb_runs.proofs.run.with_entry.Goals as goal

pub returns-in_default-clause-run : goal.returns-in_default-clause-run
returns-in_default-clause-run g c =
    let e = g.J.Joiner.seen c.args.entry in
    subst (λ (es : List (KeyedWindow × g.row.J-Value.Denot)). IsRun es) (sym (c.in_ok-push.ensures.added ∙ ap (λ es. es ++ e ∷ []) c.in_default.ensures.none)) (run-one e)

pub returns-in_default-clause-joined : goal.returns-in_default-clause-joined
returns-in_default-clause-joined g c q =
    let join = g.J.Joiner.joined c.args.joiner.now in
    let e = g.J.Joiner.seen c.args.entry in
    let none : c.args.entries ≡ [] = c.in_default.ensures.last ∙ append-nil c.pop_last.new.self ∙ c.in_default.ensures.none in
    ap (λ (es : List (KeyedWindow × g.row.J-Value.Denot)). found es q) (c.in_ok-push.ensures.added ∙ ap (λ es. es ++ e ∷ []) c.in_default.ensures.none)
    ∙ ap (λ (es : List (KeyedWindow × g.row.J-Value.Denot)). joined_value join (found es q) (found (e ∷ []) q)) (sym none)

pub returns-in_ok-push-in-Less-2-clause-run : goal.returns-in_ok-push-in-Less-2-clause-run
returns-in_ok-push-in-Less-2-clause-run g c =
    let e = g.J.Joiner.seen c.args.entry in
    let last = g.J.Joiner.seen c.in-Some.last in
    pushed-run c.pop_last.new.self c.args.entries c.push-in-Less-2.new.self last e c.in-Some.ensures.last c.requires
    (sym c.compare.ensures ∙ c.in-Less.is) (c.in_ok-push-in-Less-2.ensures.added ∙ ap (λ es. es ++ e ∷ []) c.in_ok-push-in-Less.ensures.added)

pub returns-in_ok-push-in-Less-2-clause-joined : goal.returns-in_ok-push-in-Less-2-clause-joined
returns-in_ok-push-in-Less-2-clause-joined g c =
    let e = g.J.Joiner.seen c.args.entry in
    let last = g.J.Joiner.seen c.in-Some.last in
    pushed-joined (g.J.Joiner.joined c.args.joiner.now) c.pop_last.new.self c.args.entries c.push-in-Less-2.new.self last e c.in-Some.ensures.last c.requires
    (sym c.compare.ensures ∙ c.in-Less.is) (c.in_ok-push-in-Less-2.ensures.added ∙ ap (λ es. es ++ e ∷ []) c.in_ok-push-in-Less.ensures.added)

pub returns-in_ok-push-in-Equal-clause-run : goal.returns-in_ok-push-in-Equal-clause-run
returns-in_ok-push-in-Equal-clause-run g c =
    let join = g.J.Joiner.joined c.args.joiner.now in
    let e = g.J.Joiner.seen c.args.entry in
    let last = g.J.Joiner.seen c.in-Some.last in
    subst (λ (es : List (KeyedWindow × g.row.J-Value.Denot)). IsRun es) (sym (c.in_ok-push-in-Equal.ensures.added ∙ ap (λ x. c.pop_last.new.self ++ x ∷ []) c.in_ok-join-in-Equal.ensures))
    (last-run join c.pop_last.new.self last.0 last.1 e.1 (subst (λ (es : List (KeyedWindow × g.row.J-Value.Denot)). IsRun es) c.in-Some.ensures.last c.requires))

pub returns-in_ok-push-in-Equal-clause-joined : goal.returns-in_ok-push-in-Equal-clause-joined
returns-in_ok-push-in-Equal-clause-joined g c =
    let join = g.J.Joiner.joined c.args.joiner.now in
    let e = g.J.Joiner.seen c.args.entry in
    let last = g.J.Joiner.seen c.in-Some.last in
    joined-last join c.pop_last.new.self c.args.entries c.push-in-Equal.new.self last.0 e.0 last.1 e.1 c.in-Some.ensures.last c.requires
    (sym c.compare.ensures ∙ c.in-Equal.is) (c.in_ok-push-in-Equal.ensures.added ∙ ap (λ x. c.pop_last.new.self ++ x ∷ []) c.in_ok-join-in-Equal.ensures)

pub invariant_of-merge-in-Greater : goal.invariant_of-merge-in-Greater
invariant_of-merge-in-Greater g c =
    let e = g.J.Joiner.seen c.args.entry in
    subst (λ (es : List (KeyedWindow × g.row.J-Value.Denot)). IsRun es) (sym (c.in_ok-push-in-Greater-2.ensures.added ∙ ap (λ es. es ++ e ∷ []) c.new-one.ensures)) (run-one e)

pub returns-in_ok-push-in-Greater-2-clause-run : goal.returns-in_ok-push-in-Greater-2-clause-run
returns-in_ok-push-in-Greater-2-clause-run g c =
    let join = g.J.Joiner.joined c.args.joiner.now in
    let e = g.J.Joiner.seen c.args.entry in
    let all : c.push-in-Greater.new.self ≡ c.args.entries = c.in_ok-push-in-Greater.ensures.added ∙ sym c.in-Some.ensures.last in
    let one : c.push-in-Greater-2.new.self ≡ e ∷ [] = c.in_ok-push-in-Greater-2.ensures.added ∙ ap (λ es. es ++ e ∷ []) c.new-one.ensures in
    IfOk-weaker c.merge.result _ _ (λ x h. subst (λ (es : List (KeyedWindow × g.row.J-Value.Denot)). IsRun es) (sym (h ∙ (λ i. merged join (all i) (one i)))) (merged-is-run join c.args.entries (e ∷ []) c.requires (run-one e))) c.merge.ensures

pub returns-in_ok-push-in-Greater-2-clause-joined : goal.returns-in_ok-push-in-Greater-2-clause-joined
returns-in_ok-push-in-Greater-2-clause-joined g c =
    let join = g.J.Joiner.joined c.args.joiner.now in
    let e = g.J.Joiner.seen c.args.entry in
    let all : c.push-in-Greater.new.self ≡ c.args.entries = c.in_ok-push-in-Greater.ensures.added ∙ sym c.in-Some.ensures.last in
    let one : c.push-in-Greater-2.new.self ≡ e ∷ [] = c.in_ok-push-in-Greater-2.ensures.added ∙ ap (λ es. es ++ e ∷ []) c.new-one.ensures in
    IfOk-weaker c.merge.result _ _ (λ x h q. ap (λ es. found es q) (h ∙ (λ i. merged join (all i) (one i))) ∙ merged-has join c.args.entries (e ∷ []) c.requires (run-one e) q) c.merge.ensures
