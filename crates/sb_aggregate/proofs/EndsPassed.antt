-- Which keyed windows a mark closes, and what is left of them.
use Rattle.std.proofs.Common.{◌≡◌, ℕ, ℤ, ◌-◌, ◌≤◌, ◌<◌, Bool, true, false, not, cond, List, ◌∷◌, ◌++◌, Option, Some, None, sym, refl, ap, ◌∙◌, arith, ⊎_elim}
use Rattle.std.specs.Prelude.{◌&&◌, nat_lt}
use Rattle.std.specs.List.{list_any, AllByRecursion}
use Rattle.std.proofs.lemmas.Bool.{lt-ltb, le-ltb, ltb-true, cases_lt}
use Rattle.sb_runs.specs.records.declared.item.Record.{Record}
use Rattle.sb_runs.proofs.records.Elements.{All-any, All-anything}
use Rattle.sb_runs.specs.window.declared.keyed_window.KeyedWindow.{KeyedWindow}
use Rattle.sb_runs.specs.window.Spacing.{Spacing}
use Rattle.sb_runs.specs.window.Windows.{is_in, values_in}
use Rattle.sb_runs.specs.window.Gatherings.{joined_value}
use Rattle.sb_runs.proofs.window.Gathering.{gathered-append}
use Rattle.sb_runs.proofs.window.Rows.{end-of}
use Rattle.sb_runs.proofs.window.Closing.{is_between, none_late}
use Rattle.sb_windowed.specs.declared.aggregate.Agg.{Agg}
use Rattle.sb_aggregate.specs.Partials.{partial_values, join_values, partial_at, partial_from}
use Rattle.sb_aggregate.proofs.PartialValues.{partials-joined}

-- ---- absorbing
pub partial_at-append : (agg : Agg) (windows : Spacing) (l m : List Record) (q : KeyedWindow) → partial_at agg windows (l ++ m) q ≡ joined_value (join_values agg) (partial_at agg windows l q) (partial_at agg windows m q)
partial_at-append agg windows l m q = gathered-append (partial_values agg) (join_values agg) (λ v w vs ws. partials-joined agg (v ∷ vs) (w ∷ ws)) windows q l m

-- what comes from the mark on is joined to the windows whose rows are from the mark on
pub partial_from-append : (agg : Agg) (windows : Spacing) (mark : ℕ) (l m : List Record) → AllByRecursion (λ r. mark ≤ r.time) m → (q : KeyedWindow)
    → joined_value (join_values agg) (partial_from agg windows mark l q) (partial_at agg windows m q) ≡ partial_from agg windows mark (l ++ m) q
partial_from-append agg windows mark l m late q = by_case (nat_lt (q.end - 1) mark) refl
  where
    by_case : (b : Bool) → nat_lt (q.end - 1) mark ≡ b → joined_value (join_values agg) (cond b None (partial_at agg windows l q)) (partial_at agg windows m q) ≡ cond b None (partial_at agg windows (l ++ m) q)
    by_case true e = ap (λ b. cond b (Some (partial_values agg (values_in windows q m))) None) (none_late windows mark q (ltb-true (q.end - 1) mark e) m late)
    by_case false e = sym (partial_at-append agg windows l m q)

-- ---- closing
module _ (agg : Agg) (windows : Spacing) (closed mark : ℕ) (within : closed ≤ mark) (l : List Record) where
  -- a keyed window with records ends above 0
  ends_later : (q : KeyedWindow) → list_any (is_in windows q) l ≡ true → 0 < q.end
  ends_later q some = All-any (λ r. Unit {0}) (0 < q.end) (is_in windows q) (λ r h is. let e = end-of windows q r is in omega (arith, e.0)) l (All-anything l) some

  pub partials-closed : (q : KeyedWindow) → cond (nat_lt mark q.end) None (partial_from agg windows closed l q) ≡ cond (is_between closed mark (q.end - 1)) (partial_at agg windows l q) None
  partials-closed q = by_case (list_any (is_in windows q) l) refl
    where
      both : (a b d : Bool) (o : Option (List ℤ)) → a ≡ not d → cond a None (cond b None o) ≡ cond (not b && d) o None
      both true true true o e = refl
      both true true false o e = refl
      both true false true o e = cc
      both true false false o e = refl
      both false true true o e = refl
      both false true false o e = cc
      both false false true o e = refl
      both false false false o e = cc

      all_none : (a b d : Bool) → cond {A = Option (List ℤ)} a None (cond b None None) ≡ cond (not b && d) None None
      all_none true true d = refl
      all_none true false true = refl
      all_none true false false = refl
      all_none false true d = refl
      all_none false false true = refl
      all_none false false false = refl

      by_case : (b : Bool) → list_any (is_in windows q) l ≡ b
          → cond (nat_lt mark q.end) None (cond (nat_lt (q.end - 1) closed) None (cond b (Some (partial_values agg (values_in windows q l))) None))
          ≡ cond (not (nat_lt (q.end - 1) closed) && nat_lt (q.end - 1) mark) (cond b (Some (partial_values agg (values_in windows q l))) None) None
      by_case true some =
          both (nat_lt mark q.end) (nat_lt (q.end - 1) closed) (nat_lt (q.end - 1) mark) (Some (partial_values agg (values_in windows q l))) (same (ends_later q some))
        where
          same : 0 < q.end → nat_lt mark q.end ≡ not (nat_lt (q.end - 1) mark)
          same low = ⊎_elim
              (λ h. lt-ltb mark q.end h ∙ sym (ap not (le-ltb (q.end - 1) mark (omega arith))))
              (λ h. le-ltb mark q.end h ∙ sym (ap not (lt-ltb (q.end - 1) mark (omega arith)))) (cases_lt mark q.end)
      by_case false none = all_none (nat_lt mark q.end) (nat_lt (q.end - 1) closed) (nat_lt (q.end - 1) mark)

  pub partials-open : (q : KeyedWindow) → cond (nat_lt mark q.end) (partial_from agg windows closed l q) None ≡ partial_from agg windows mark l q
  partials-open q = by_case (list_any (is_in windows q) l) refl
    where
      all_none : (a b d : Bool) → cond {A = Option (List ℤ)} a (cond b None None) None ≡ cond d None None
      all_none true true true = refl
      all_none true true false = refl
      all_none true false true = refl
      all_none true false false = refl
      all_none false b true = refl
      all_none false b false = refl

      by_case : (b : Bool) → list_any (is_in windows q) l ≡ b
          → cond (nat_lt mark q.end) (cond (nat_lt (q.end - 1) closed) None (cond b (Some (partial_values agg (values_in windows q l))) None)) None
          ≡ cond (nat_lt (q.end - 1) mark) None (cond b (Some (partial_values agg (values_in windows q l))) None)
      by_case true some = same (ends_later q some)
        where
          same : 0 < q.end → cond (nat_lt mark q.end) (cond (nat_lt (q.end - 1) closed) None (Some (partial_values agg (values_in windows q l)))) None ≡ cond (nat_lt (q.end - 1) mark) None (Some (partial_values agg (values_in windows q l)))
          same low = ⊎_elim
              (λ h. (λ i. cond (lt-ltb mark q.end h i) (cond (le-ltb (q.end - 1) closed (omega arith) i) None (Some (partial_values agg (values_in windows q l)))) None)
              ∙ sym (ap (λ b. cond b None (Some (partial_values agg (values_in windows q l)))) (le-ltb (q.end - 1) mark (omega arith))))
              (λ h. ap (λ b. cond b (cond (nat_lt (q.end - 1) closed) None (Some (partial_values agg (values_in windows q l)))) None) (le-ltb mark q.end h)
              ∙ sym (ap (λ b. cond b None (Some (partial_values agg (values_in windows q l)))) (lt-ltb (q.end - 1) mark (omega arith)))) (cases_lt mark q.end)
      by_case false none = all_none (nat_lt mark q.end) (nat_lt (q.end - 1) closed) (nat_lt (q.end - 1) mark)
