-- The rows of a closing are those of the sessions that end by the mark.
use Rattle.std.proofs.Common.{◌≡◌, ℕ, ◌+◌, ◌-◌, ◌<◌, ◌≤◌, Bool, true, false, cond, eqb, List, [], ◌∷◌, ◌++◌, map, sym, refl, ap, subst, ◌∙◌, arith}
use Rattle.std.specs.Prelude.{◌&&◌, nat_lt}
use Rattle.std.specs.List.{filter, flat_map, list_any}
use Rattle.std.specs.Ordering.{eq_by_cmp}
use Rattle.std.proofs.lemmas.Bool.{lt-ltb, ltb-true, eqb-true, and_parts}
use Rattle.std.proofs.lemmas.List.Kept.{IsStrictlySortedBy-filter}
use Rattle.std.proofs.lemmas.Map.Lookups.{btree_set_from_contains}
use Rattle.std.proofs.lemmas.Map.Views.{any-filter_same, tells_apart}
use Rattle.sb_windowed.specs.records.declared.item.Record.{Record}
use Rattle.sb_windowed.specs.records.Keys.{same_key}
use Rattle.sb_windowed.proofs.records.KeyOrder.{exact_keys}
use Rattle.sb_windowed.specs.records.Records.{before}
use Rattle.sb_windowed.proofs.records.Elements.{All-any}
use Rattle.sb_windowed.proofs.records.Sums.{any_filtered, none_pass}
use Rattle.sb_windowed.proofs.records.Distinct.{distinct-sorted}
use Rattle.sb_windowed.specs.window.declared.keyed_window.KeyedWindow.{KeyedWindow}
use Rattle.sb_windowed.specs.window.Windows.{keyed_window_cmp}
use Rattle.sb_windowed.proofs.window.Rows.{keyed_windows_total, exact_keyed_windows, when-rows}
use Rattle.sb_windowed.specs.declared.aggregate.Agg.{Agg}
use Rattle.sb_windowed.specs.Aggregates.{aggregate_values}
use Rattle.sb_windowed.specs.Sessions.{session_end, session_of, sessions_of, is_in_session, values_in_session, rows_in_session, session_rows}
use Rattle.sb_windowed.proofs.SessionRows.{any_sessions}
use Rattle.sb_windowed.proofs.SessionLaws.{end-after}
use Rattle.sb_windowed.proofs.SessionEnds.{has_time}
use Rattle.sb_session.specs.Candidates.{AreDue}
use Rattle.sb_session.specs.Closings.{rows_of}
use Rattle.sb_session.proofs.Closing.{all-have, same_bool}
use Rattle.sb_session.proofs.Going.{rows_in}

module _ (agg : Agg) (gap : ℕ) (l : List Record) where
  is_real : KeyedWindow → Bool
  is_real q = list_any (is_in_session gap l q) l

  one : (q : KeyedWindow) → rows_in agg gap l q ≡ cond (list_any (is_in_session gap l q) l) (rows_in_session agg gap l q) []
  one q = by_case (list_any (is_in_session gap l q) l) refl
    where
      by_list : (rs : List Record) → filter (is_in_session gap l q) l ≡ rs → list_any (is_in_session gap l q) l ≡ true → rows_of agg q (map (λ r. r.value) rs) ≡ map (λ v. record { time = q.end - 1; key = q.key; value = v }) (aggregate_values agg (map (λ r. r.value) rs))
      by_list [] none h = let k : true ≡ false = sym h ∙ any_filtered (is_in_session gap l q) l [] none in cc
      by_list (r ∷ rs) is h = refl

      by_case : (b : Bool) → list_any (is_in_session gap l q) l ≡ b → rows_of agg q (values_in_session gap l q) ≡ cond b (rows_in_session agg gap l q) []
      by_case true e = by_list (filter (is_in_session gap l q) l) refl e
      by_case false e = ap (λ rs. rows_of agg q (map (λ (r : Record). r.value) rs)) (none_pass (is_in_session gap l q) l e)

  all_rows : (due : List KeyedWindow) → flat_map (rows_in agg gap l) due ≡ flat_map (rows_in_session agg gap l) (filter (λ q. list_any (is_in_session gap l q) l) due)
  all_rows [] = refl
  all_rows (q ∷ due) = (λ i. one q i ++ all_rows due i) ∙ by_case (list_any (is_in_session gap l q) l)
    where
      by_case : (b : Bool) → cond b (rows_in_session agg gap l q) [] ++ flat_map (rows_in_session agg gap l) (filter (λ q. list_any (is_in_session gap l q) l) due)
          ≡ flat_map (rows_in_session agg gap l) (cond b (q ∷ filter (λ q. list_any (is_in_session gap l q) l) due) (filter (λ q. list_any (is_in_session gap l q) l) due))
      by_case true = refl
      by_case false = refl

  among : (p : KeyedWindow → Bool) (s : KeyedWindow) (qs : List KeyedWindow) → list_any (eq_by_cmp keyed_window_cmp s) (filter p qs) ≡ (p s && list_any (eq_by_cmp keyed_window_cmp s) qs)
  among p s qs = any-filter_same (eq_by_cmp keyed_window_cmp s) p (p s) (λ x same. ap p (sym (tells_apart exact_keyed_windows s x same))) qs

  pub closed-rows : (mark : ℕ) (due : List KeyedWindow) → 1 ≤ gap → AreDue gap mark l due → flat_map (rows_in agg gap l) due ≡ before mark (session_rows agg gap l)
  closed-rows mark due some are =
      all_rows due
      ∙ ap (flat_map (rows_in_session agg gap l)) same
      ∙ sym (when-rows (λ x. nat_lt x mark) (λ q. aggregate_values agg (values_in_session gap l q)) (sessions_of gap l))
    where
      in_due : (s : KeyedWindow) → (list_any (is_in_session gap l s) l && list_any (eq_by_cmp keyed_window_cmp s) due) ≡ (nat_lt (s.end - 1) mark && list_any (is_in_session gap l s) l)
      in_due s = same_bool _ _
          (λ h. let parts = and_parts (list_any (is_in_session gap l s) l) (list_any (eq_by_cmp keyed_window_cmp s) due) h in
          let low : s.end ≤ mark = All-any (λ q. q.end ≤ mark) (s.end ≤ mark) (eq_by_cmp keyed_window_cmp s) (λ q k e. subst (λ (q : KeyedWindow). q.end ≤ mark) (sym (tells_apart exact_keyed_windows s q e)) k) due are.by_mark parts.1 in
          let up : 1 ≤ s.end = All-any (λ r. has_time r.key l r.time ≡ true) (1 ≤ s.end) (is_in_session gap l s)
          (λ r _ e. let end : session_end gap l r ≡ s.end = eqb-true (session_end gap l r) s.end (and_parts (same_key r.key s.key) _ e).1 in
          let after : r.time + gap ≤ session_end gap l r = end-after gap r.key l r.time in omega (arith, end, after, some)) l (all-have l) parts.0 in
          λ i. lt-ltb (s.end - 1) mark (omega (arith, low, up)) i && parts.0 i)
          (λ h. let parts = and_parts (nat_lt (s.end - 1) mark) (list_any (is_in_session gap l s) l) h in
          let low : s.end - 1 < mark = ltb-true (s.end - 1) mark parts.0 in
          λ i. parts.1 i && All-any (λ r. has_time r.key l r.time ≡ true) (list_any (eq_by_cmp keyed_window_cmp s) due ≡ true) (is_in_session gap l s)
          (λ r has e. let same = and_parts (same_key r.key s.key) (eqb (session_end gap l r) s.end) e in
          let end : session_end gap l r ≡ s.end = eqb-true (session_end gap l r) s.end same.1 in
          subst (λ (q : KeyedWindow). list_any (eq_by_cmp keyed_window_cmp q) due ≡ true) (λ i. record { end = end i; key = tells_apart exact_keys r.key s.key same.0 i }) (are.all r has (omega (arith, end, low)))) l (all-have l) parts.1 i)

      same : filter (λ q. list_any (is_in_session gap l q) l) due ≡ filter (λ q. nat_lt (q.end - 1) mark) (sessions_of gap l)
      same = btree_set_from_contains keyed_windows_total (record { keys = filter (λ q. list_any (is_in_session gap l q) l) due }) (record { keys = filter (λ q. nat_lt (q.end - 1) mark) (sessions_of gap l) })
          (IsStrictlySortedBy-filter keyed_window_cmp (λ q. list_any (is_in_session gap l q) l) due are.sorted)
          (IsStrictlySortedBy-filter keyed_window_cmp (λ q. nat_lt (q.end - 1) mark) (sessions_of gap l) (distinct-sorted keyed_windows_total (map (session_of gap l) l)))
          (λ s. among (λ q. list_any (is_in_session gap l q) l) s due ∙ in_due s ∙ ap (λ b. nat_lt (s.end - 1) mark && b) (sym (any_sessions gap s l)) ∙ sym (among (λ q. nat_lt (q.end - 1) mark) s (sessions_of gap l)))
          exact_keyed_windows
