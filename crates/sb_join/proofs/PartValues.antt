-- The run of a bundle has the values of its records.
use Rattle.std.proofs.Common.{◌≡◌, ℕ, ℤ, Bool, true, false, cond, eqb, List, [], ◌∷◌, map, Some, None, sym, refl, ap, ◌∙◌}
use Rattle.std.specs.Prelude.{sum_by}
use Rattle.std.specs.List.{filter, flat_map, list_any}
use Rattle.std.specs.Option.{is_some}
use Rattle.sb_runs.specs.Placed.{placed_of, placed_first, is_placed, values_at as values_placed_at, placed_value}
use Rattle.sb_runs.specs.Runs.{found}
use Rattle.sb_runs.proofs.Placed.{any_placed, values_placed}
use Rattle.sb_runs.specs.records.declared.item.Record.{Record}
use Rattle.sb_runs.specs.records.Elements.{on_lane, of_lane}
use Rattle.sb_runs.specs.records.Reorderings.{IsReordered}
use Rattle.sb_runs.proofs.records.Sums.{IsReordered-map, IsReordered-filter, any_reordered, none_pass}
use Rattle.sb_runs.specs.window.declared.keyed_window.KeyedWindow.{KeyedWindow}
use Rattle.sb_runs.specs.window.Spacing.{Spacing}
use Rattle.sb_runs.specs.window.Windows.{is_in, values_in}
use Rattle.sb_windowed.specs.declared.join.Side.{Side}
use Rattle.sb_windowed.specs.declared.join.Side.TheVariants.{Left, Right}
use Rattle.sb_join.specs.Kept.{lane_of}
use Rattle.sb_join.specs.Entries.{Sided, same_side, of_side, values_at, HasPart}
use Rattle.sb_join.proofs.Fixed.{placed-once}
use Rattle.sb_join.proofs.Sides.{on_side, of_side-on_side}

-- ---- the records of a side that all came on one
of_lane-same : (lane : ℕ) → eqb lane lane ≡ true → (l : List Record) → of_lane lane (on_lane lane l) ≡ l
of_lane-same lane same [] = refl
of_lane-same lane same (r ∷ l) =
    ap (λ b. map (λ e. e.rec) (cond b (record { lane = lane; rec = r } ∷ filter (λ e. eqb e.lane lane) (on_lane lane l)) (filter (λ e. eqb e.lane lane) (on_lane lane l)))) same
    ∙ ap (λ m. r ∷ m) (of_lane-same lane same l)

of_lane-other : (lane other : ℕ) → eqb other lane ≡ false → (l : List Record) → of_lane lane (on_lane other l) ≡ []
of_lane-other lane other not_same [] = refl
of_lane-other lane other not_same (r ∷ l) =
    ap (λ b. map (λ e. e.rec) (cond b (record { lane = other; rec = r } ∷ filter (λ e. eqb e.lane lane) (on_lane other l)) (filter (λ e. eqb e.lane lane) (on_lane other l)))) not_same
    ∙ of_lane-other lane other not_same l

pub of_lane-on_lane : (s side : Side) (l : List Record) → of_lane (lane_of s) (on_lane (lane_of side) l) ≡ cond (same_side s side) l []
of_lane-on_lane Left Left l = of_lane-same 0 refl l
of_lane-on_lane Left Right l = of_lane-other 0 1 refl l
of_lane-on_lane Right Left l = of_lane-other 1 0 refl l
of_lane-on_lane Right Right l = of_lane-same 1 refl l

-- ---- a run of the values that are placed, in some order
module _ (windows : Spacing) (fixed : windows.size ≡ windows.every) (side : Side) (records : List Record) (sorted placed : List (KeyedWindow × ℤ)) (same : IsReordered sorted placed) (is : placed ≡ flat_map (placed_first windows) records) (run : List (KeyedWindow × Sided)) (has : (q : KeyedWindow) → found run q ≡ placed_value (on_side side) sorted q) where
  all_placed : placed ≡ flat_map (placed_of windows) records
  all_placed = is ∙ placed-once windows fixed records

  -- where there are none, none is placed
  at_placed : (s : Side) (q : KeyedWindow) → values_at s (placed_value (on_side side) sorted q) ≡ of_side s (on_side side (values_placed_at q sorted))
  at_placed s q = by_case (list_any (is_placed q) sorted) refl
    where
      by_case : (b : Bool) → list_any (is_placed q) sorted ≡ b → values_at s (cond b (Some (on_side side (values_placed_at q sorted))) None) ≡ of_side s (on_side side (values_placed_at q sorted))
      by_case true h = refl
      by_case false h = sym (ap (λ ps. of_side s (on_side side (map (λ (p : KeyedWindow × ℤ). p.1) ps))) (none_pass (is_placed q) sorted h))

  some-placed : (q : KeyedWindow) → list_any (is_placed q) sorted ≡ list_any (is_in windows q) records
  some-placed q = any_reordered (is_placed q) sorted placed same ∙ ap (list_any (is_placed q)) all_placed ∙ any_placed windows records q

  values-same : (q : KeyedWindow) → IsReordered (values_placed_at q sorted) (values_in windows q records)
  values-same q f =
      IsReordered-map (λ (p : KeyedWindow × ℤ). p.1) (filter (is_placed q) sorted) (filter (is_placed q) placed) (IsReordered-filter (is_placed q) sorted placed same) f
      ∙ ap (λ ps. sum_by f (values_placed_at q ps)) all_placed ∙ ap (sum_by f) (values_placed windows records q)

  pub has-part : HasPart windows side records run
  has-part = record {
    values = λ s q f.
        ap (λ o. sum_by f (values_at s o)) (has q) ∙ ap (sum_by f) (at_placed s q ∙ of_side-on_side s side (values_placed_at q sorted))
        ∙ by_case (same_side s side) q f
        ∙ sym (ap (λ rs. sum_by f (values_in windows q rs)) (of_lane-on_lane s side records));
    within = λ q some. sym (some-placed q) ∙ sym (is_some-cond (list_any (is_placed q) sorted) (on_side side (values_placed_at q sorted))) ∙ ap is_some (sym (has q)) ∙ some;
  }
    where
      by_case : (b : Bool) (q : KeyedWindow) → IsReordered (cond b (values_placed_at q sorted) []) (values_in windows q (cond b records []))
      by_case true q = values-same q
      by_case false q = λ f. refl

      is_some-cond : (b : Bool) (v : Sided) → is_some (cond b (Some v) None) ≡ b
      is_some-cond true v = refl
      is_some-cond false v = refl
