-- The values of sessions, record by record, and the rows of a map of them.
use Rattle.std.proofs.Common.{◌≡◌, ℕ, ℤ, ◌-◌, Bool, true, false, cond, eqb, List, [], ◌∷◌, ◌++◌, map, Option, Some, None, append-nil, sym, refl, ap, ◌∙◌}
use Rattle.std.specs.Prelude.{◌||◌}
use Rattle.std.specs.List.{filter, list_any, AllByRecursion}
use Rattle.std.specs.Option.{is_some}
use Rattle.std.specs.Map.{keys_of}
use Rattle.std.specs.BTreeMap.{BTreeMap, IsOrdered, get, is_at}
use Rattle.std.proofs.Math.Bool.{and_comm}
use Rattle.std.proofs.lemmas.Bool.{eqb-true, and_parts}
use Rattle.std.proofs.lemmas.List.{map-append}
use Rattle.std.proofs.lemmas.List.Elements.{filter-append, recursion_from_All}
use Rattle.std.proofs.lemmas.List.Folds.{list_any-append, flat_map-map}
use Rattle.std.proofs.lemmas.Option.{cond_some}
use Rattle.std.proofs.lemmas.Map.Views.{All-found, tells_apart}
use Rattle.std.proofs.lemmas.Map.Made.{is_some-lookup}
use Rattle.std.proofs.lemmas.Map.Lookups.{btree_set_from_contains}
use Rattle.sb_base.specs.records.declared.item.Record.{Record}
use Rattle.sb_base.specs.records.Keys.{same_key}
use Rattle.sb_base.proofs.records.KeyOrder.{exact_keys}
use Rattle.sb_base.proofs.records.Sums.{none_pass}
use Rattle.sb_base.proofs.records.Distinct.{distinct-sorted}
use Rattle.sb_base.specs.window.declared.keyed_window.KeyedWindow.{KeyedWindow}
use Rattle.sb_base.specs.window.Windows.{keyed_window_cmp}
use Rattle.sb_base.specs.window.Gatherings.{rows_of_entries}
use Rattle.sb_base.proofs.window.Rows.{keyed_windows_total, exact_keyed_windows, same_keyed_window}
use Rattle.sb_base.specs.windowed.declared.aggregate.Agg.{Agg}
use Rattle.sb_base.specs.windowed.Aggregates.{aggregate_values}
use Rattle.sb_base.specs.windowed.Sessions.{session_end, session_of, sessions_of, is_in_session, values_in_session, session_rows}
use Rattle.sb_base.proofs.windowed.SessionRows.{any_sessions}
use Rattle.sb_slow.specs.Gathered.{values_with, session_values_at}

-- one record more
pub session_values-more : (gap : ℕ) (l m : List Record) (r : Record) (q : KeyedWindow)
    → session_values_at gap l (m ++ r ∷ []) q ≡ cond (is_at (keyed_window_cmp (session_of gap l r)) q) (values_with (session_values_at gap l m (session_of gap l r)) (Some (r.value ∷ []))) (session_values_at gap l m q)
session_values-more gap l m r q =
    (λ i. cond (list_any-append (is_in_session gap l q) m (r ∷ []) i) (Some (values-append i)) None)
    ∙ by_case (is_in_session gap l q r) (list_any (is_in_session gap l q) m) refl refl
    ∙ ap (λ b. cond b (values_with (session_values_at gap l m (session_of gap l r)) (Some (r.value ∷ []))) (session_values_at gap l m q)) (sym (same_keyed_window (session_of gap l r) q ∙ and_comm (eqb (session_end gap l r) q.end) (same_key r.key q.key)))
  where
    values-append : map (λ (r : Record). r.value) (filter (is_in_session gap l q) (m ++ r ∷ [])) ≡ map (λ r. r.value) (filter (is_in_session gap l q) m) ++ map (λ r. r.value) (filter (is_in_session gap l q) (r ∷ []))
    values-append = ap (map (λ (r : Record). r.value)) (filter-append (is_in_session gap l q) m (r ∷ [])) ∙ map-append (λ (r : Record). r.value) (filter (is_in_session gap l q) m) (filter (is_in_session gap l q) (r ∷ []))

    vs : List ℤ
    vs = map (λ r. r.value) (filter (is_in_session gap l q) m)

    here : is_in_session gap l q r ≡ true → q ≡ session_of gap l r
    here e = λ i. record { end = sym (eqb-true (session_end gap l r) q.end (and_parts (same_key r.key q.key) _ e).1) i; key = sym (tells_apart exact_keys r.key q.key (and_parts (same_key r.key q.key) _ e).0) i }

    by_case : (a b : Bool) → is_in_session gap l q r ≡ a → list_any (is_in_session gap l q) m ≡ b
        → cond {A = Option (List ℤ)} (b || (a || false)) (Some (map (λ r. r.value) (filter (is_in_session gap l q) m) ++ map (λ (r : Record). r.value) (cond a (r ∷ []) []))) None
        ≡ cond a (values_with (session_values_at gap l m (session_of gap l r)) (Some (r.value ∷ []))) (cond b (Some (map (λ r. r.value) (filter (is_in_session gap l q) m))) None)
    by_case true true e f = ap (λ o. values_with o (Some (r.value ∷ []))) (sym (ap (λ b. cond {A = Option (List ℤ)} b (Some (map (λ r. r.value) (filter (is_in_session gap l q) m))) None) f) ∙ ap (session_values_at gap l m) (here e))
    by_case true false e f =
        ap (λ (xs : List Record). Some (map (λ (r : Record). r.value) xs ++ r.value ∷ [])) (none_pass (is_in_session gap l q) m f)
        ∙ ap (λ o. values_with o (Some (r.value ∷ []))) (sym (ap (λ b. cond {A = Option (List ℤ)} b (Some (map (λ r. r.value) (filter (is_in_session gap l q) m))) None) f) ∙ ap (session_values_at gap l m) (here e))
    by_case false true e f = ap (λ xs. Some xs) (append-nil (map (λ (r : Record). r.value) (filter (is_in_session gap l q) m)))
    by_case false false e f = refl

-- the rows of a map that has the values of each session
pub rows_of_entries-sessions : (agg : Agg) (gap : ℕ) (l : List Record) (m : BTreeMap KeyedWindow (List ℤ)) → IsOrdered keyed_window_cmp m
    → ((q : KeyedWindow) → get keyed_window_cmp m q ≡ session_values_at gap l l q) → rows_of_entries (aggregate_values agg) m.entries ≡ session_rows agg gap l
rows_of_entries-sessions agg gap l m ordered at =
    ap (rows_of_entries (aggregate_values agg)) entries
    ∙ flat_map-map (λ (e : KeyedWindow × List ℤ). map (λ v. record { time = e.0.end - 1; key = e.0.key; value = v }) (aggregate_values agg e.1)) (λ q. (q, values_in_session gap l q)) (sessions_of gap l)
  where
    is_some-cond : (b : Bool) (v : List ℤ) → is_some (cond b (Some v) None) ≡ b
    is_some-cond true v = refl
    is_some-cond false v = refl

    same_keys : sessions_of gap l ≡ keys_of m.entries
    same_keys = btree_set_from_contains keyed_windows_total (record { keys = sessions_of gap l }) (record { keys = keys_of m.entries })
        (distinct-sorted keyed_windows_total (map (session_of gap l) l)) ordered
        (λ q. any_sessions gap q l ∙ sym (is_some-cond (list_any (is_in_session gap l q) l) (values_in_session gap l q)) ∙ ap is_some (sym (at q)) ∙ is_some-lookup (is_at (keyed_window_cmp q)) m.entries)
        exact_keyed_windows

    each : (es : List (KeyedWindow × List ℤ)) → AllByRecursion (λ (e : KeyedWindow × List ℤ). get keyed_window_cmp m e.0 ≡ Some e.1) es → map (λ q. (q, values_in_session gap l q)) (keys_of es) ≡ es
    each [] all = refl
    each (e ∷ es) all = λ i. (e.0, (cond_some (list_any (is_in_session gap l e.0) l) (values_in_session gap l e.0) e.1 (sym (at e.0) ∙ all.0)).1 i) ∷ each es all.1 i

    entries : m.entries ≡ map (λ q. (q, values_in_session gap l q)) (sessions_of gap l)
    entries =
        sym (each m.entries (recursion_from_All (λ (e : KeyedWindow × List ℤ). get keyed_window_cmp m e.0 ≡ Some e.1) m.entries (All-found keyed_windows_total m ordered)))
        ∙ ap (map (λ q. (q, values_in_session gap l q))) (sym same_keys)
