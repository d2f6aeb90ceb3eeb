-- The entries of a run that has what is gathered of records, and their rows.
use Rattle.std.proofs.Common.{◌≡◌, ℕ, ℤ, ◌-◌, Bool, true, false, cond, List, map, Option, Some, None, sym, refl, ap, ◌∙◌}
use Rattle.std.specs.Prelude.{◌&&◌}
use Rattle.std.specs.List.{filter, list_any}
use Rattle.std.proofs.lemmas.List.Folds.{flat_map-map}
use Rattle.sb_window.specs.records.declared.item.Record.{Record}
use Rattle.sb_window.specs.declared.keyed_window.KeyedWindow.{KeyedWindow}
use Rattle.sb_window.specs.Spacing.{Spacing}
use Rattle.sb_window.specs.Windows.{keyed_windows, is_in, values_in}
use Rattle.sb_window.specs.Aggregations.{rows_by}
use Rattle.sb_window.specs.Gatherings.{gathered_value, rows_of_entries}
use Rattle.sb_window.proofs.Gathering.{entries-passing}
use Rattle.sb_window.proofs.Rows.{when, when-rows}
use Rattle.sb_runs.specs.Runs.{IsRun, found}

-- the rows of a run that has what is gathered in the keyed windows whose rows are of some times
pub rows-when : {V : Type 0} (made : List ℤ → V) (values : V → List ℤ) (windows : Spacing) (t : ℕ → Bool) (l : List Record) (es : List (KeyedWindow × V)) → IsRun es
    → ((q : KeyedWindow) → found es q ≡ cond (t (q.end - 1)) (gathered_value made windows l q) None) → rows_of_entries values es ≡ when t (rows_by (λ vs. values (made vs)) windows l)
rows-when {V} made values windows t l es run at =
    ap (rows_of_entries values) (entries-passing windows (λ q. t (q.end - 1)) l (λ q. made (values_in windows q l)) es run (λ q. at q ∙ both (t (q.end - 1)) (list_any (is_in windows q) l) (made (values_in windows q l))))
    ∙ flat_map-map (λ (e : KeyedWindow × V). map (λ v. record { time = e.0.end - 1; key = e.0.key; value = v }) (values e.1)) (λ q. (q, made (values_in windows q l))) (filter (λ q. t (q.end - 1)) (keyed_windows windows l))
    ∙ sym (when-rows t (λ q. values (made (values_in windows q l))) (keyed_windows windows l))
  where
    both : (a b : Bool) (v : V) → cond {A = Option V} a (cond b (Some v) None) None ≡ cond (a && b) (Some v) None
    both true b v = refl
    both false b v = refl
