-- The rows of a join do not depend on the order of records.
use Rattle.std.proofs.Common.{◌≡◌, ℤ, true, not, List, map, refl, sym, ap, ◌∙◌}
use Rattle.std.specs.List.{flat_map, sum_by}
use Rattle.sb_window.specs.records.declared.item.Record.{Record}
use Rattle.sb_window.specs.records.Reorderings.{IsReordered}
use Rattle.sb_window.specs.ElementLemmas.{filter_all}
use Rattle.sb_window.specs.SumLemmas.{IsReordered-map, IsReordered-flat_map_each, any_reordered}
use Rattle.sb_window.specs.declared.keyed_window.KeyedWindow.{KeyedWindow}
use Rattle.sb_window.specs.Spacing.{Spacing}
use Rattle.sb_window.specs.Windows.{is_in, keyed_windows, values_in}
use Rattle.sb_window.proofs.Rows.{row, values_in-reordered, keyed_windows-same}
use Rattle.sb_windowed.specs.declared.join.Combine.{Combine}
use Rattle.sb_windowed.specs.Joins.{pair_value, pair_values, pairs, join_rows}

module _ (combine : Combine) (windows : Spacing) where
  pub reordered_pair_values : (xs ws ys zs : List ℤ) → IsReordered xs ws → IsReordered ys zs
      → IsReordered (pair_values combine xs ys) (pair_values combine ws zs)
  reordered_pair_values xs ws ys zs h k =
      IsReordered-flat_map_each (λ x. map (pair_value combine x) ys) (λ x. map (pair_value combine x) zs)
      (λ x. IsReordered-map (pair_value combine x) ys zs k) xs ws h

  pairs-reordered : (q : KeyedWindow) (l m r s : List Record) → IsReordered l m → IsReordered r s
      → IsReordered (pairs combine windows l r q) (pairs combine windows m s q)
  pairs-reordered q l m r s h k =
      IsReordered-map (row q) (pair_values combine (values_in windows q l) (values_in windows q r))
      (pair_values combine (values_in windows q m) (values_in windows q s))
      (reordered_pair_values (values_in windows q l) (values_in windows q m)
      (values_in windows q r) (values_in windows q s)
      (values_in-reordered windows q l m h) (values_in-reordered windows q r s k))

  keyed_windows-reordered : (l m : List Record) → IsReordered l m → keyed_windows windows l ≡ keyed_windows windows m
  keyed_windows-reordered l m h =
      sym (filter_all (keyed_windows windows l))
      ∙ keyed_windows-same windows (λ _. true) l m (λ q e. any_reordered (is_in windows q) l m h)
      ∙ filter_all (keyed_windows windows m)

  pub join_rows-reordered : (l m r s : List Record) → IsReordered l m → IsReordered r s
      → IsReordered (join_rows combine windows l r) (join_rows combine windows m s)
  join_rows-reordered l m r s h k f =
      IsReordered-flat_map_each (pairs combine windows l r) (pairs combine windows m s)
      (λ q. pairs-reordered q l m r s h k) (keyed_windows windows l) (keyed_windows windows l) (λ g. refl) f
      ∙ ap (λ qs. sum_by f (flat_map (pairs combine windows m s) qs)) (keyed_windows-reordered l m h)
