-- The partial values of a part: those of its panes, spread to the windows.
use Rattle.std.proofs.Common.{◌≡◌, ℕ, ℤ, ◌+◌, ◌*◌, ◌/◌, ◌^◌, ◌≤◌, ◌<◌, List, ◌∷◌, ◌∙◌, ap, arith}
use Rattle.std.specs.List.{flat_map, AllByRecursion}
use Rattle.sb_runs.specs.records.declared.item.Record.{Record}
use Rattle.sb_runs.specs.records.declared.item.TheConstants.{END_MARK}
use Rattle.sb_runs.specs.records.Reorderings.{IsReordered}
use Rattle.sb_runs.proofs.records.Elements.{every as each}
use Rattle.sb_runs.specs.window.declared.keyed_window.KeyedWindow.{KeyedWindow}
use Rattle.sb_runs.specs.window.Spacing.{Spacing, AreWindows, fixed_windows}
use Rattle.sb_runs.specs.Placed.{placed_first, placed_value}
use Rattle.sb_runs.specs.Runs.{found, spread_value}
use Rattle.sb_runs.proofs.PaneEnds.{whole-panes, every-small}
use Rattle.sb_runs.proofs.Placed.{placed-reordered, placed-gathered}
use Rattle.sb_runs.proofs.Spreading.{spread-gathered, placed-panes, ends-bounded}
use Rattle.sb_windowed.specs.declared.aggregate.Agg.{Agg}
use Rattle.sb_aggregate.specs.Partials.{PartialValues, partial_values, join_values, partial_at}
use Rattle.sb_aggregate.proofs.PartialValues.{partials-orderless, partials-joined}

-- a run of the values that are placed at panes, in some order
module _ (agg : Agg) (windows : Spacing) (are : AreWindows windows) (l : List Record) (sorted placed : List (KeyedWindow × ℤ)) (same : IsReordered sorted placed) (is : placed ≡ flat_map (placed_first windows) l) (run : PartialValues) (has : (q : KeyedWindow) → found run q ≡ placed_value (partial_values agg) sorted q) (size every : ℕ) (size_is : size ≡ windows.size) (every_is : every ≡ windows.every) where
  panes-partials : (q : KeyedWindow) → found run q ≡ partial_at agg (fixed_windows windows.every) l q
  panes-partials q =
      has q
      ∙ placed-reordered (partial_values agg) (partials-orderless agg) sorted placed same q
      ∙ ap (λ ps. placed_value (partial_values agg) ps q) (is ∙ placed-panes windows are l)
      ∙ placed-gathered (partial_values agg) (fixed_windows windows.every) l q

  -- it leaves room for the panes of a window
  pub part-room : AllByRecursion (λ r. r.time < END_MARK) l → AllByRecursion (λ e. e.0.end + size / every * every < 2 ^ 64) run
  part-room early =
      let small : windows.every ≤ windows.size = every-small windows are in
      let whole : size / every * every ≡ windows.size = (λ i. size_is i / every_is i * every_is i) ∙ whole-panes windows are in
      each (λ e low. omega (arith, low, small, whole, are.most_size)) run (ends-bounded (partial_values agg) (fixed_windows windows.every) l END_MARK run panes-partials early)

  -- it is spread to what each window has
  pub part-spread : (q : KeyedWindow) → spread_value (join_values agg) every (size / every) run q ≡ partial_at agg windows l q
  part-spread q =
      (λ i. spread_value (join_values agg) (every_is i) (size_is i / every_is i) run q)
      ∙ spread-gathered (partial_values agg) (join_values agg) (λ v w vs ws. partials-joined agg (v ∷ vs) (w ∷ ws)) (partials-orderless agg) windows are l run panes-partials q
