-- Sessions in another order, with later records, and without what has closed.
use Rattle.std.proofs.Common.{◌≡◌, ℕ, ◌+◌, ◌≤◌, ◌<◌, Bool, true, false, cond, eqb, ltb, List, [], ◌∷◌, ◌++◌, append-nil, sym, refl, ap, ◌∙◌, arith, ⊎_elim}
use Rattle.std.specs.Prelude.{◌||◌, ◌&&◌}
use Rattle.std.specs.List.{filter, list_any, AllByRecursion}
use Rattle.std.proofs.lemmas.Bool.{lt-ltb, eqb-true, ne_eqb, cases_lt, and_parts, false_from_ne_true}
use Rattle.std.proofs.lemmas.List.Folds.{list_any-append}
use Rattle.std.proofs.lemmas.List.Elements.{filter-append, filter_agree}
use Rattle.std.proofs.lemmas.Map.Views.{tells_apart}
use Rattle.sb_window.specs.records.declared.item.Record.{Record}
use Rattle.sb_window.specs.records.declared.key.Key.{Key}
use Rattle.sb_window.specs.records.Keys.{same_key}
use Rattle.sb_window.specs.KeyOrderLemmas.{exact_keys}
use Rattle.sb_window.specs.ElementLemmas.{All-any, filter_of_filter}
use Rattle.sb_window.specs.SumLemmas.{IsReordered, any_reordered, any_filtered}
use Rattle.sb_window.specs.declared.keyed_window.KeyedWindow.{KeyedWindow}
use Rattle.sb_windowed.specs.Sessions.{end_from, times_from, session_end, is_in_session, is_session_open}
use Rattle.sb_windowed.proofs.SessionEnds.{has_time, end-low, end-is}

-- where the session of a time of a key ends
abbrev end_at : ℕ → Key → List Record → ℕ → ℕ
end_at gap key l t = end_from gap t (times_from key t l)

pub or_left : (a b : Bool) → a ≡ true → (a || b) ≡ true
or_left a b h = ap (λ c. c || b) h

pub or_right : (a b : Bool) → b ≡ true → (a || b) ≡ true
or_right true b h = refl
or_right false b h = h

pub or_cases : (a b : Bool) (P : Type 0) → (a ≡ true → P) → (b ≡ true → P) → (a || b) ≡ true → P
or_cases true b P f g h = f refl
or_cases false b P f g h = g h

le_antisym : (a b : ℕ) → a ≤ b → b ≤ a → a ≡ b
le_antisym a b h k = omega (arith, h, k)

pub end-after : (gap : ℕ) (key : Key) (l : List Record) (t : ℕ) → t + gap ≤ end_at gap key l t
end-after gap key l t = (end-is gap key t l).later

-- with more times of the key it ends no earlier
end-more : (gap : ℕ) (key : Key) (l m : List Record) → ((u : ℕ) → has_time key l u ≡ true → has_time key m u ≡ true) → (t : ℕ) → end_at gap key l t ≤ end_at gap key m t
end-more gap key l m within t = end-low (has_time key m) (has_time key l) gap t t (end_at gap key m t) (end_at gap key l t) (end-is gap key t m) (end-is gap key t l) (end-after gap key m t) (λ u _ _ h. within u h)

-- that of a later time ends no earlier
pub end-rises : (gap : ℕ) (key : Key) (l : List Record) (t u : ℕ) → t ≤ u → end_at gap key l t ≤ end_at gap key l u
end-rises gap key l t u le = end-low (has_time key l) (has_time key l) gap u t (end_at gap key l u) (end_at gap key l t) (end-is gap key u l) (end-is gap key t l) (let k : u + gap ≤ end_at gap key l u = end-after gap key l u in omega (arith, le, k)) (λ _ _ _ h. h)

-- records in another order have the same sessions
pub end-order : (gap : ℕ) (key : Key) (l m : List Record) → IsReordered l m → (t : ℕ) → end_at gap key l t ≡ end_at gap key m t
end-order gap key l m same t =
    le_antisym _ _ (end-more gap key l m (λ u h. sym (times u) ∙ h) t) (end-more gap key m l (λ u h. times u ∙ h) t)
  where
    times : (u : ℕ) → has_time key l u ≡ has_time key m u
    times u = any_reordered (λ r. same_key r.key key && eqb r.time u) l m same

has-append : (key : Key) (l es : List Record) (u : ℕ) → has_time key (l ++ es) u ≡ (has_time key l u || has_time key es u)
has-append key l es u = list_any-append (λ r. same_key r.key key && eqb r.time u) l es

module _ (gap : ℕ) (key : Key) (mark : ℕ) (l es : List Record) (late : AllByRecursion (λ r. mark ≤ r.time) es) where
  late_time : (u : ℕ) → has_time key es u ≡ true → mark ≤ u
  late_time u h = All-any (λ r. mark ≤ r.time) (mark ≤ u) (λ r. same_key r.key key && eqb r.time u) (λ r k e. let same : r.time ≡ u = eqb-true r.time u (and_parts (same_key r.key key) _ e).1 in omega (arith, k, same)) es late h

  -- with later records a session ends no earlier
  pub end-with : (t : ℕ) → end_at gap key l t ≤ end_at gap key (l ++ es) t
  end-with t = end-more gap key l (l ++ es) (λ u h. has-append key l es u ∙ or_left (has_time key l u) (has_time key es u) h) t

  -- and one that has closed ends where it did
  pub end-closed : (t : ℕ) → end_at gap key l t ≤ mark → end_at gap key (l ++ es) t ≡ end_at gap key l t
  end-closed t by_mark =
      le_antisym _ _
      (end-low (has_time key l) (has_time key (l ++ es)) gap t t (end_at gap key l t) (end_at gap key (l ++ es) t) (end-is gap key t l) (end-is gap key t (l ++ es)) (end-after gap key l t)
      (λ u a b h. or_cases (has_time key l u) (has_time key es u) (has_time key l u ≡ true) (λ k. k) (λ k. absurd (omega (arith, late_time u k, a, by_mark))) (sym (has-append key l es u) ∙ h)))
      (end-with t)

-- ---- what stays open at a mark
pub any-filter : {X : Type 0} (p o : X → Bool) (l : List X) → list_any p (filter o l) ≡ true → list_any p l ≡ true
any-filter p o [] h = h
any-filter {X} p o (x ∷ l) h = by_case (o x) (any-filter p o l) h
  where
    by_case : (b : Bool) → (list_any p (filter o l) ≡ true → list_any p l ≡ true) → list_any p (cond b (x ∷ filter o l) (filter o l)) ≡ true → (p x || list_any p l) ≡ true
    by_case true ih h = or_cases (p x) (list_any p (filter o l)) ((p x || list_any p l) ≡ true) (or_left (p x) (list_any p l)) (λ k. or_right (p x) (list_any p l) (ih k)) h
    by_case false ih h = or_right (p x) (list_any p l) (ih h)

module _ (gap mark : ℕ) (l es : List Record) (late : AllByRecursion (λ r. mark ≤ r.time) es) where
  abbrev open_ : List Record
  open_ = filter (is_session_open gap mark l) l

  module _ (key : Key) where
    fewer : (u : ℕ) → has_time key (open_ ++ es) u ≡ true → has_time key (l ++ es) u ≡ true
    fewer u h =
        or_cases (has_time key open_ u) (has_time key es u) (has_time key (l ++ es) u ≡ true)
        (λ k. has-append key l es u ∙ or_left (has_time key l u) (has_time key es u) (any-filter (λ r. same_key r.key key && eqb r.time u) (is_session_open gap mark l) l k))
        (λ k. has-append key l es u ∙ or_right (has_time key l u) (has_time key es u) k)
        (sym (has-append key open_ es u) ∙ h)

    pub still : (u : ℕ) → mark < end_at gap key l u → has_time key l u ≡ true → has_time key open_ u ≡ true
    still u after h =
        any_filtered (λ r. same_key r.key key && eqb r.time u) open_ l
        (filter_of_filter (λ r. same_key r.key key && eqb r.time u) (is_session_open gap mark l)
        (λ r e. let k : r.key ≡ key = tells_apart exact_keys r.key key (and_parts (same_key r.key key) _ e).0 in
        let t : r.time ≡ u = eqb-true r.time u (and_parts (same_key r.key key) _ e).1 in
        (λ i. ltb mark (end_at gap (k i) l (t i))) ∙ lt-ltb mark (end_at gap key l u) after) l) ∙ h

    -- without what has closed a session ends no later
    open-low : (t : ℕ) → end_at gap key (open_ ++ es) t ≤ end_at gap key (l ++ es) t
    open-low t = end-more gap key (open_ ++ es) (l ++ es) fewer t

    -- and one that is open ends where it did
    pub end-open : (t : ℕ) → mark < end_at gap key (l ++ es) t → end_at gap key (open_ ++ es) t ≡ end_at gap key (l ++ es) t
    end-open t after =
        le_antisym _ _ (open-low t)
        (end-low (has_time key (open_ ++ es)) (has_time key (l ++ es)) gap t t (end_at gap key (open_ ++ es) t) (end_at gap key (l ++ es) t) (end-is gap key t (open_ ++ es)) (end-is gap key t (l ++ es)) (end-after gap key (open_ ++ es) t)
        (λ u a b h. has-append key open_ es u ∙ or_cases (has_time key l u) (has_time key es u) ((has_time key open_ u || has_time key es u) ≡ true)
        (λ k. or_left (has_time key open_ u) (has_time key es u) (still u (opened u (from u b)) k)) (λ k. or_right (has_time key open_ u) (has_time key es u) k)
        (sym (has-append key l es u) ∙ h)))
      where
        from : (u : ℕ) → end_at gap key (open_ ++ es) t < u + gap → t ≤ u
        from u b = let k : t + gap ≤ end_at gap key (open_ ++ es) t = end-after gap key (open_ ++ es) t in omega (arith, k, b)

        opened : (u : ℕ) → t ≤ u → mark < end_at gap key l u
        opened u le = ⊎_elim (λ h. h)
            (λ closed. let same : end_at gap key (l ++ es) u ≡ end_at gap key l u = end-closed gap key mark l es late u closed in
            let up : end_at gap key (l ++ es) t ≤ end_at gap key (l ++ es) u = end-rises gap key (l ++ es) t u le in
            absurd (omega (arith, same, up, closed, after)))
            (cases_lt mark (end_at gap key l u))

  -- ---- which records are in a session
  in-below : (q : KeyedWindow) → q.end ≤ mark → (r : Record) → is_in_session gap (l ++ es) q r ≡ is_in_session gap l q r
  in-below q by_mark r = ap (λ b. same_key r.key q.key && b) (⊎_elim
      (λ after. let up : session_end gap l r ≤ session_end gap (l ++ es) r = end-with gap r.key mark l es late r.time in
      ne_eqb _ q.end (λ e. omega (arith, e, up, after, by_mark)) ∙ sym (ne_eqb (session_end gap l r) q.end (λ e. omega (arith, e, after, by_mark))))
      (λ closed. ap (λ e. eqb e q.end) (end-closed gap r.key mark l es late r.time closed))
      (cases_lt mark (session_end gap l r)))

  in-above : (q : KeyedWindow) → mark < q.end → (r : Record) → is_in_session gap (l ++ es) q r ≡ is_in_session gap (open_ ++ es) q r
  in-above q above r = ap (λ b. same_key r.key q.key && b) (⊎_elim
      (λ after. ap (λ e. eqb e q.end) (sym (end-open r.key r.time after)))
      (λ closed. let low : session_end gap (open_ ++ es) r ≤ session_end gap (l ++ es) r = open-low r.key r.time in
      ne_eqb _ q.end (λ e. omega (arith, e, closed, above)) ∙ sym (ne_eqb (session_end gap (open_ ++ es) r) q.end (λ e. omega (arith, e, low, closed, above))))
      (cases_lt mark (session_end gap (l ++ es) r)))

  -- those that have closed hold what they held
  pub session-below : 1 ≤ gap → (q : KeyedWindow) → q.end ≤ mark → filter (is_in_session gap (l ++ es) q) (l ++ es) ≡ filter (is_in_session gap l q) l
  session-below some q by_mark =
      filter_agree _ (is_in_session gap l q) (in-below q by_mark) (l ++ es)
      ∙ filter-append (is_in_session gap l q) l es
      ∙ ap (λ rs. filter (is_in_session gap l q) l ++ rs) (none es late)
      ∙ append-nil (filter (is_in_session gap l q) l)
    where
      none : (rs : List Record) → AllByRecursion (λ r. mark ≤ r.time) rs → filter (is_in_session gap l q) rs ≡ []
      none [] all = refl
      none (r ∷ rs) all = ap (λ b. cond b (r ∷ filter (is_in_session gap l q) rs) (filter (is_in_session gap l q) rs))
          (false_from_ne_true (is_in_session gap l q r) (λ e. let same : session_end gap l r ≡ q.end = eqb-true (session_end gap l r) q.end (and_parts (same_key r.key q.key) _ e).1 in
          let up : r.time + gap ≤ session_end gap l r = end-after gap r.key l r.time in omega (arith, same, up, some, by_mark, all.0)))
          ∙ none rs all.1

  -- those that are open hold what they held
  pub session-above : (q : KeyedWindow) → mark < q.end → filter (is_in_session gap (l ++ es) q) (l ++ es) ≡ filter (is_in_session gap (open_ ++ es) q) (open_ ++ es)
  session-above q above =
      filter-append (is_in_session gap (l ++ es) q) l es
      ∙ ap (λ rs. rs ++ filter (is_in_session gap (l ++ es) q) es) (sym (filter_of_filter (is_in_session gap (l ++ es) q) (is_session_open gap mark l) is_open l))
      ∙ sym (filter-append (is_in_session gap (l ++ es) q) open_ es)
      ∙ filter_agree _ (is_in_session gap (open_ ++ es) q) (in-above q above) (open_ ++ es)
    where
      is_open : (r : Record) → is_in_session gap (l ++ es) q r ≡ true → is_session_open gap mark l r ≡ true
      is_open r e =
          let same : session_end gap (l ++ es) r ≡ q.end = eqb-true (session_end gap (l ++ es) r) q.end (and_parts (same_key r.key q.key) _ e).1 in
          ⊎_elim (λ after. lt-ltb mark (session_end gap l r) after)
          (λ closed. let k : session_end gap (l ++ es) r ≡ session_end gap l r = end-closed gap r.key mark l es late r.time closed in absurd (omega (arith, k, same, closed, above)))
          (cases_lt mark (session_end gap l r))
