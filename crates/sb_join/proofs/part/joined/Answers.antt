use Rattle.std.proofs.Common.{◌≡◌, ℤ, [], ◌∷◌, ◌++◌, rules, take, sym, ap, ◌∙◌, arith}
use Rattle.std.proofs.lemmas.List.{take_more}
use Rattle.sb_runs.specs.Placed.{placed_value}
use Rattle.sb_runs.specs.Runs.{found}
use Rattle.sb_runs.proofs.Placed.{placed-more}
use Rattle.sb_runs.specs.window.declared.keyed_window.KeyedWindow.{KeyedWindow}
use Rattle.sb_runs.specs.window.Gatherings.{joined_value}
use Rattle.sb_join.proofs.Sides.{append, on_side, on_side-append}
use Rattle.sb_join.proofs.part.joined.Goals as goal

pub loop-entry-preserved : goal.loop-entry-preserved
loop-entry-preserved c q =
    let side = c.args.side in
    let i = c.loop-entry.entry-index in
    let placed = c.args.placed.now in
    let x : KeyedWindow × ℤ = c.entry-item.result in
    let one : c.of_one-value.result ≡ on_side c.args.side (c.entry-item.result.1 ∷ []) = search rules in
    c.in_ok-add.ensures q
    ∙ (λ j. joined_value append (c.loop-entry.invariant q j) (found ((x.0, one j) ∷ []) q))
    ∙ sym (placed-more (on_side side) append (λ v w vs ws. on_side-append side (v ∷ vs) (w ∷ ws)) (take i placed) x.0 x.1 q)
    ∙ ap (λ y. placed_value (on_side side) (take i placed ++ y ∷ []) q) c.entry-item.is
    ∙ ap (λ l. placed_value (on_side side) l q) (sym (take_more placed i x (omega arith)))
