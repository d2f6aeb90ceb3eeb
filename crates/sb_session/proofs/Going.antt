-- The loop of a closing over its candidates.
use Rattle.std.proofs.Common.{◌≡◌, ℕ, ℤ, ◌+◌, ◌-◌, ◌<◌, ◌≤◌, Bool, true, false, eqb, List, [], ◌∷◌, ◌++◌, map, append_assoc, append-nil, Option, Some, sym, refl, ap, subst, ◌∙◌, arith, ⊎_elim, inl}
use Rattle.std.specs.Prelude.{◌||◌, ◌&&◌, sum_by}
use Rattle.std.specs.List.{filter, flat_map, list_any, AllByRecursion}
use Rattle.std.specs.List.Sorted.{IsStrictlySortedBy}
use Rattle.std.specs.Option.{is_some, IsSome}
use Rattle.std.specs.BTreeMap.{BTreeMap, get, IsOrdered}
use Rattle.std.specs.Ordering.{eq_by_cmp}
use Rattle.std.proofs.lemmas.Bool.{lt-ltb, cases_lt}
use Rattle.std.proofs.lemmas.List.Elements.{recursion_from_All}
use Rattle.std.proofs.lemmas.List.Sums.{sum_by-cons}
use Rattle.std.proofs.lemmas.Map.Views.{All-found}
use Rattle.sb_windowed.specs.records.declared.item.Record.{Record}
use Rattle.sb_windowed.specs.records.Keys.{same_key}
use Rattle.sb_windowed.proofs.records.Elements.{every}
use Rattle.sb_windowed.proofs.records.Sums.{any_reordered}
use Rattle.sb_windowed.specs.window.declared.keyed_window.KeyedWindow.{KeyedWindow}
use Rattle.sb_windowed.specs.window.Windows.{keyed_window_cmp}
use Rattle.sb_windowed.specs.records.Reorderings.{IsReordered}
use Rattle.sb_windowed.specs.declared.aggregate.Agg.{Agg}
use Rattle.sb_windowed.specs.Sessions.{session_end, session_of, is_in_session, is_session_open, values_in_session}
use Rattle.sb_windowed.proofs.SessionEnds.{has_time}
use Rattle.sb_windowed.proofs.Orderless.{aggregates-orderless}
use Rattle.sb_session.specs.declared.keyed_time.KeyedTime.{KeyedTime}
use Rattle.sb_session.specs.Kept.{keyed_time_cmp, kept_of, AreFull}
use Rattle.sb_session.specs.Candidates.{AreDue}
use Rattle.sb_session.specs.Closings.{rows_of, IsClosed, ClosesOne, GoesOn, Ends}
use Rattle.sb_session.proofs.KeyedTimes.{keyed_times_total}
use Rattle.sb_session.proofs.Maps.{kept-has, filter-whole, filter-none}
use Rattle.sb_session.proofs.Closing.{keeps, IsPending, silence-whole, pending-less, goes_on-same, none-goes_on, step-values, step-left, all-have}

abbrev pub rows_in : Agg → ℕ → List Record → KeyedWindow → List Record
rows_in agg gap l q = rows_of agg q (values_in_session gap l q)

pub record IsGoing (agg : Agg) (gap mark : ℕ) (l : List Record) (due : List KeyedWindow) (rows : List Record) (rest : List KeyedWindow) (times : BTreeMap KeyedTime (List ℤ)) : Type 0 where
  pub sorted : IsStrictlySortedBy keyed_window_cmp rest
  pub by_mark : AllByRecursion (λ q. q.end ≤ mark) rest
  pub pending : IsPending gap mark l rest
  pub full : AreFull times
  pub left : IsReordered (kept_of times.entries) (filter (keeps gap mark l rest) l)
  pub rows_are : rows ++ flat_map (rows_in agg gap l) rest ≡ flat_map (rows_in agg gap l) due

rows_of-order : (agg : Agg) (q : KeyedWindow) (vs ws : List ℤ) → IsReordered vs ws → rows_of agg q vs ≡ rows_of agg q ws
rows_of-order agg q [] [] h = refl
rows_of-order agg q [] (w ∷ ws) h = absurd (omega (arith, h (λ _. 1), sum_by-cons (λ (x : ℤ). 1) w ws))
rows_of-order agg q (v ∷ vs) [] h = absurd (omega (arith, h (λ _. 1), sum_by-cons (λ (x : ℤ). 1) v vs))
rows_of-order agg q (v ∷ vs) (w ∷ ws) h = ap (map (λ v. record { time = q.end - 1; key = q.key; value = v })) (aggregates-orderless agg (v ∷ vs) (w ∷ ws) h)

-- a step leaves a value at each time
pub closes-full : (agg : Agg) (gap : ℕ) (times new : BTreeMap KeyedTime (List ℤ)) (q : KeyedWindow) (rows more : List Record) → ClosesOne agg gap times q rows new more → AreFull times → AreFull new
closes-full agg gap times new q rows more closes full = ⊎_elim (λ on. subst AreFull (sym on.1.0) full) (λ ends. ends.full full) closes

some-true : {X : Type 0} (o : Option X) → IsSome o → is_some o ≡ true
some-true o h = h

or_false : (b : Bool) → (b || false) ≡ b
or_false true = refl
or_false false = refl

module _ (agg : Agg) (gap mark : ℕ) (l : List Record) (due : List KeyedWindow) where
  pub first-going : (rows : List Record) (times : BTreeMap KeyedTime (List ℤ)) → rows ≡ [] → kept_of times.entries ≡ l → AreDue gap mark l due → AreFull times → IsGoing agg gap mark l due rows due times
  first-going rows times none same are full = record {
    sorted = are.sorted;
    by_mark = are.by_mark;
    pending = λ r has closed. inl (are.all r has closed);
    full = full;
    left = λ f. ap (sum_by f) (same ∙ sym (filter-whole (keeps gap mark l due) l (every (λ r has. kept r has) l (all-have l))));
    rows_are = ap (λ rows. rows ++ flat_map (rows_in agg gap l) due) none;
  }
    where
      kept : (r : Record) → has_time r.key l r.time ≡ true → keeps gap mark l due r ≡ true
      kept r has = ⊎_elim (λ open_. ap (λ b. b || list_any (eq_by_cmp keyed_window_cmp (session_of gap l r)) due) (lt-ltb mark (session_end gap l r) open_))
          (λ closed. ap (λ b. is_session_open gap mark l r || b) (are.all r has closed) ∙ or_true (is_session_open gap mark l r)) (cases_lt mark (session_end gap l r))
        where
          or_true : (b : Bool) → (b || true) ≡ true
          or_true true = refl
          or_true false = refl

  pub last-going : (rows : List Record) (times : BTreeMap KeyedTime (List ℤ)) → IsGoing agg gap mark l due rows [] times → IsClosed agg gap mark l due rows (kept_of times.entries)
  last-going rows times going = record {
    rows_are = sym (append-nil rows) ∙ going.rows_are;
    left_are = λ f. going.left f ∙ (λ i. sum_by f (filter (λ r. or_false (is_session_open gap mark l r) i) l));
  }

  module _ (some : 1 ≤ gap) (q : KeyedWindow) (rest : List KeyedWindow) (fits : gap ≤ q.end) (rows more : List Record) (times new : BTreeMap KeyedTime (List ℤ)) (ordered : IsOrdered keyed_time_cmp times) (going : IsGoing agg gap mark l due rows (q ∷ rest) times) where
    there : (u : ℕ) → q.end < u + gap → is_some (get keyed_time_cmp times (record { key = q.key; time = u })) ≡ has_time q.key l u
    there u after =
        sym (kept-has (record { key = q.key; time = u }) times.entries
        (every (λ e found. going.full e.0 e.1 found) times.entries (recursion_from_All (λ (e : KeyedTime × List ℤ). get keyed_time_cmp times e.0 ≡ Some e.1) times.entries (All-found keyed_times_total times ordered))))
        ∙ any_reordered (λ r. same_key r.key q.key && eqb r.time u) (kept_of times.entries) (filter (keeps gap mark l (q ∷ rest)) l) going.left
        ∙ silence-whole gap mark l q rest going.pending u after

    pub step-going : ClosesOne agg gap times q rows new more → IsGoing agg gap mark l due more rest new
    unfolding IsStrictlySortedBy
    step-going closes = ⊎_elim on ends closes
      where
        on : GoesOn gap times q × ((new ≡ times) × (more ≡ rows)) → IsGoing agg gap mark l due more rest new
        on ((u, a, b, is), (same, same_rows)) =
            let has : has_time q.key l u ≡ true = sym (there u a) ∙ some-true (get keyed_time_cmp times (record { key = q.key; time = u })) is in
            record {
              sorted = going.sorted.1;
              by_mark = going.by_mark.1;
              pending = pending-less gap mark l q rest going.sorted.0 going.pending;
              full = subst AreFull (sym same) going.full;
              left = λ f. ap (λ (m : BTreeMap KeyedTime (List ℤ)). sum_by f (kept_of m.entries)) same ∙ going.left f ∙ (λ i. sum_by f (filter (λ r. goes_on-same gap mark l some q rest going.by_mark.0 going.sorted.0 u a b has r i) l));
              rows_are = ap (λ rows. rows ++ flat_map (rows_in agg gap l) rest) same_rows
                  ∙ ap (λ vs. rows ++ (rows_of agg q vs ++ flat_map (rows_in agg gap l) rest)) (sym (ap (map (λ (r : Record). r.value)) (filter-none (is_in_session gap l q) l (every (λ r _. none-goes_on gap mark l some q rest going.by_mark.0 going.sorted.0 u a b has r) l (all-have l)))))
                  ∙ going.rows_are;
            }

        ends : Ends agg gap times q rows new more → IsGoing agg gap mark l due more rest new
        ends e =
            let silent : (u : ℕ) → q.end < u + gap → u < q.end → has_time q.key l u ≡ false = λ u a b. sym (there u a) ∙ ap is_some (e.silent u a b) in
            record {
              sorted = going.sorted.1;
              by_mark = going.by_mark.1;
              pending = pending-less gap mark l q rest going.sorted.0 going.pending;
              full = e.full going.full;
              left = step-left gap mark l (kept_of times.entries) (kept_of new.entries) e.values q rest some going.by_mark.0 fits going.sorted.0 silent going.left e.takes;
              rows_are = ap (λ rows. rows ++ flat_map (rows_in agg gap l) rest) e.rows_are
                  ∙ append_assoc rows (rows_of agg q e.values) (flat_map (rows_in agg gap l) rest)
                  ∙ ap (λ rs. rows ++ (rs ++ flat_map (rows_in agg gap l) rest)) (rows_of-order agg q e.values (values_in_session gap l q) (step-values gap mark l (kept_of times.entries) (kept_of new.entries) e.values q rest some going.by_mark.0 fits going.sorted.0 silent going.left e.takes))
                  ∙ going.rows_are;
            }
