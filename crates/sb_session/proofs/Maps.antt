-- The records of a map, where an entry leaves or comes.
use Rattle.std.proofs.Common.{◌≡◌, ℕ, ℤ, ◌+◌, ◌<◌, Bool, true, false, cond, not, eqb, ltb, pos, subst, List, [], ◌∷◌, ◌++◌, map, length, unwrap_or, zero-add, Option, Some, None, sym, refl, ap, ◌∙◌, arith}
use Rattle.std.specs.Prelude.{◌||◌, ◌&&◌, sum_by}
use Rattle.std.specs.List.{filter, list_any, AllByRecursion}
use Rattle.std.specs.Option.{is_some}
use Rattle.std.specs.Map.{lookup, remove_entry}
use Rattle.std.specs.BTreeMap.{BTreeMap, get, is_at, insert_entry, IsOrdered}
use Rattle.std.specs.Ordering.{is_eq, match_ordering}
use Rattle.std.specs.declared.cmp.Ordering.{Ordering}
use Rattle.std.specs.declared.cmp.Ordering.TheVariants.{Less, Equal, Greater}
use Rattle.std.proofs.lemmas.Bool.{and_parts, lt-ltb, ltb-true, false_from_ne_true}
use Rattle.std.proofs.lemmas.List.Elements.{filter-append, recursion_from_All}
use Rattle.std.proofs.lemmas.Map.Views.{All-found}
use Rattle.sb_windowed.proofs.records.Elements.{every, All-map, All-flat_map}
use Rattle.sb_windowed.proofs.records.Sums.{IsReordered-map, IsReordered-filter}
use Rattle.std.proofs.lemmas.List.Sums.{sum_by-append}
use Rattle.std.proofs.lemmas.List.{map-append}
use Rattle.std.proofs.lemmas.List.Folds.{list_any-append}
use Rattle.sb_windowed.specs.records.declared.item.Record.{Record}
use Rattle.sb_windowed.specs.records.Reorderings.{IsReordered}
use Rattle.sb_windowed.specs.records.declared.key.Key.{Key}
use Rattle.sb_windowed.specs.records.Keys.{same_key}
use Rattle.sb_windowed.proofs.records.KeyOrder.{exact_keys}
use Rattle.std.proofs.lemmas.Map.Views.{tells_apart}
use Rattle.sb_windowed.proofs.SessionEnds.{has_time, is_same_key}
use Rattle.sb_session.specs.declared.keyed_time.KeyedTime.{KeyedTime}
use Rattle.sb_session.specs.Kept.{keyed_time_cmp, time_of, records_at, kept_of, AreFull}
use Rattle.sb_session.specs.Closings.{is_below}
use Rattle.sb_session.proofs.KeyedTimes.{exact_keyed_times, keyed_times_total, same_keyed_time}

is_at-same : (q e : KeyedTime) → is_at (keyed_time_cmp q) e ≡ true → q ≡ e
is_at-same q e h = by_case (keyed_time_cmp q e) refl h
  where
    by_case : (o : Ordering) → keyed_time_cmp q e ≡ o → is_eq o ≡ true → q ≡ e
    by_case Less p h = cc
    by_case Equal p h = exact_keyed_times q e p
    by_case Greater p h = cc

swap : (a b c : ℕ) → a + (b + c) ≡ b + (a + c)
swap a b c = omega arith

-- an entry that leaves
pub kept-remove : (q : KeyedTime) (vs : List ℤ) (es : List (KeyedTime × List ℤ)) → lookup (is_at (keyed_time_cmp q)) es ≡ Some vs
    → IsReordered (kept_of es) (records_at q vs ++ kept_of (remove_entry (is_at (keyed_time_cmp q)) es))
kept-remove q vs [] h f = cc
kept-remove q vs (e ∷ es) h f = by_case (is_at (keyed_time_cmp q) e.0) refl h (λ k. kept-remove q vs es k f)
  where
    by_case : (b : Bool) → is_at (keyed_time_cmp q) e.0 ≡ b → cond b (Some e.1) (lookup (is_at (keyed_time_cmp q)) es) ≡ Some vs
        → (lookup (is_at (keyed_time_cmp q)) es ≡ Some vs → sum_by f (kept_of es) ≡ sum_by f (records_at q vs ++ kept_of (remove_entry (is_at (keyed_time_cmp q)) es)))
        → sum_by f (records_at e.0 e.1 ++ kept_of es) ≡ sum_by f (records_at q vs ++ kept_of (cond b es (e ∷ remove_entry (is_at (keyed_time_cmp q)) es)))
    by_case true p h ih =
        let key : q ≡ e.0 = is_at-same q e.0 p in
        let same : e.1 ≡ vs = cc in
        λ i. sum_by f (records_at (sym key i) (same i) ++ kept_of es)
    by_case false p h ih =
        sum_by-append f (records_at e.0 e.1) (kept_of es) ∙ ap (λ n. sum_by f (records_at e.0 e.1) + n) (ih h ∙ sum_by-append f (records_at q vs) (kept_of (remove_entry (is_at (keyed_time_cmp q)) es)))
        ∙ swap (sum_by f (records_at e.0 e.1)) (sum_by f (records_at q vs)) (sum_by f (kept_of (remove_entry (is_at (keyed_time_cmp q)) es)))
        ∙ sym (sum_by-append f (records_at q vs) (kept_of (e ∷ remove_entry (is_at (keyed_time_cmp q)) es)) ∙ ap (λ n. sum_by f (records_at q vs) + n) (sum_by-append f (records_at e.0 e.1) (kept_of (remove_entry (is_at (keyed_time_cmp q)) es))))

-- one that is not there leaves none
pub none-remove : (q : KeyedTime) (es : List (KeyedTime × List ℤ)) → lookup (is_at (keyed_time_cmp q)) es ≡ None → remove_entry (is_at (keyed_time_cmp q)) es ≡ es
none-remove q [] h = refl
none-remove q (e ∷ es) h = by_case (is_at (keyed_time_cmp q) e.0) h (none-remove q es)
  where
    by_case : (b : Bool) → cond b (Some e.1) (lookup (is_at (keyed_time_cmp q)) es) ≡ None → (lookup (is_at (keyed_time_cmp q)) es ≡ None → remove_entry (is_at (keyed_time_cmp q)) es ≡ es)
        → cond b es (e ∷ remove_entry (is_at (keyed_time_cmp q)) es) ≡ e ∷ es
    by_case true h ih = cc
    by_case false h ih = ap (λ es. e ∷ es) (ih h)

-- one that comes
pub kept-insert : (q : KeyedTime) (vs : List ℤ) (es : List (KeyedTime × List ℤ)) → lookup (is_at (keyed_time_cmp q)) es ≡ None
    → IsReordered (kept_of (insert_entry keyed_time_cmp es q vs)) (records_at q vs ++ kept_of es)
kept-insert q vs [] h f = refl
kept-insert q vs (e ∷ es) h f = by_case (keyed_time_cmp q e.0) h (λ k. kept-insert q vs es k f)
  where
    by_case : (o : Ordering) → cond (is_eq o) (Some e.1) (lookup (is_at (keyed_time_cmp q)) es) ≡ None
        → (lookup (is_at (keyed_time_cmp q)) es ≡ None → sum_by f (kept_of (insert_entry keyed_time_cmp es q vs)) ≡ sum_by f (records_at q vs ++ kept_of es))
        → sum_by f (kept_of (match_ordering o ((q, vs) ∷ e ∷ es) ((e.0, vs) ∷ es) (e ∷ insert_entry keyed_time_cmp es q vs))) ≡ sum_by f (records_at q vs ++ kept_of (e ∷ es))
    by_case Less h ih = refl
    by_case Equal h ih = cc
    by_case Greater h ih =
        sum_by-append f (records_at e.0 e.1) (kept_of (insert_entry keyed_time_cmp es q vs)) ∙ ap (λ n. sum_by f (records_at e.0 e.1) + n) (ih h ∙ sum_by-append f (records_at q vs) (kept_of es))
        ∙ swap (sum_by f (records_at e.0 e.1)) (sum_by f (records_at q vs)) (sum_by f (kept_of es))
        ∙ sym (sum_by-append f (records_at q vs) (kept_of (e ∷ es)) ∙ ap (λ n. sum_by f (records_at q vs) + n) (sum_by-append f (records_at e.0 e.1) (kept_of es)))

-- a key has a record of a time just where the map has values there
pub kept-has : (q : KeyedTime) (es : List (KeyedTime × List ℤ)) → AllByRecursion (λ (e : KeyedTime × List ℤ). 0 < length e.1) es → has_time q.key (kept_of es) q.time ≡ is_some (lookup (is_at (keyed_time_cmp q)) es)
kept-has q [] full = refl
kept-has q (e ∷ es) full = list_any-append (λ r. same_key r.key q.key && eqb r.time q.time) (records_at e.0 e.1) (kept_of es) ∙ (λ i. here e.1 full.0 i || kept-has q es full.1 i) ∙ by_case (is_at (keyed_time_cmp q) e.0)
  where
    same : (same_key e.0.key q.key && eqb e.0.time q.time) ≡ is_at (keyed_time_cmp q) e.0
    same = same_keyed_time e.0 q

    or_itself : (b : Bool) → (b || b) ≡ b
    or_itself true = refl
    or_itself false = refl

    here : (vs : List ℤ) → 0 < length vs → list_any (λ r. same_key r.key q.key && eqb r.time q.time) (records_at e.0 vs) ≡ is_at (keyed_time_cmp q) e.0
    here [] h = absurd (omega (arith, h))
    here (v ∷ []) h = or_false (same_key e.0.key q.key && eqb e.0.time q.time) ∙ same
      where
        or_false : (b : Bool) → (b || false) ≡ b
        or_false true = refl
        or_false false = refl
    here (v ∷ w ∷ vs) h = (λ i. same i || here (w ∷ vs) (omega arith) i) ∙ or_itself (is_at (keyed_time_cmp q) e.0)

    by_case : (b : Bool) → (b || is_some (lookup (is_at (keyed_time_cmp q)) es)) ≡ is_some (cond b (Some e.1) (lookup (is_at (keyed_time_cmp q)) es))
    by_case true = refl
    by_case false = refl

-- a value more at a time: the values there leave, and come back with it
pub kept-add : (r : Record) (o : Option (List ℤ)) (old left new : List (KeyedTime × List ℤ)) → lookup (is_at (keyed_time_cmp (time_of r))) old ≡ o
    → left ≡ remove_entry (is_at (keyed_time_cmp (time_of r))) old → lookup (is_at (keyed_time_cmp (time_of r))) left ≡ None
    → new ≡ insert_entry keyed_time_cmp left (time_of r) (unwrap_or o [] ++ r.value ∷ []) → IsReordered (kept_of new) (kept_of old ++ r ∷ [])
kept-add r o old left new was left_is none new_is f =
    ap (λ es. sum_by f (kept_of es)) new_is
    ∙ kept-insert (time_of r) (unwrap_or o [] ++ r.value ∷ []) left none f
    ∙ sum_by-append f (records_at (time_of r) (unwrap_or o [] ++ r.value ∷ [])) (kept_of left)
    ∙ ap (λ rs. sum_by f rs + sum_by f (kept_of left)) (map-append (λ v. record { time = r.time; key = r.key; value = v }) (unwrap_or o []) (r.value ∷ []))
    ∙ ap (λ n. n + sum_by f (kept_of left)) (sum_by-append f (records_at (time_of r) (unwrap_or o [])) (r ∷ []))
    ∙ by_option o was
    ∙ sym (sum_by-append f (kept_of old) (r ∷ []))
  where
    move : (a b c : ℕ) → (a + b) + c ≡ (a + c) + b
    move a b c = omega arith

    by_option : (o : Option (List ℤ)) → lookup (is_at (keyed_time_cmp (time_of r))) old ≡ o → (sum_by f (records_at (time_of r) (unwrap_or o [])) + sum_by f (r ∷ [])) + sum_by f (kept_of left) ≡ sum_by f (kept_of old) + sum_by f (r ∷ [])
    by_option (Some vs) was =
        move (sum_by f (records_at (time_of r) vs)) (sum_by f (r ∷ [])) (sum_by f (kept_of left))
        ∙ ap (λ n. n + sum_by f (r ∷ [])) (ap (λ es. sum_by f (records_at (time_of r) vs) + sum_by f (kept_of es)) left_is ∙ sym (kept-remove (time_of r) vs old was f ∙ sum_by-append f (records_at (time_of r) vs) (kept_of (remove_entry (is_at (keyed_time_cmp (time_of r))) old))))
    by_option None was =
        move 0 (sum_by f (r ∷ [])) (sum_by f (kept_of left)) ∙ ap (λ es. (0 + sum_by f (kept_of es)) + sum_by f (r ∷ [])) (left_is ∙ none-remove (time_of r) old was) ∙ ap (λ n. n + sum_by f (r ∷ [])) (zero-add (sum_by f (kept_of old)))

pub full-add : (at : KeyedTime) (value : List ℤ) (old left new : BTreeMap KeyedTime (List ℤ)) → 0 < length value
    → ((q : KeyedTime) → get keyed_time_cmp left q ≡ cond (is_at (keyed_time_cmp at) q) None (get keyed_time_cmp old q))
    → ((q : KeyedTime) → get keyed_time_cmp new q ≡ cond (is_at (keyed_time_cmp at) q) (Some value) (get keyed_time_cmp left q)) → AreFull old → AreFull new
full-add at value old left new some removed inserted full q vs h = by_case (is_at (keyed_time_cmp at) q) (sym (inserted q) ∙ h) (removed q)
  where
    by_case : (b : Bool) → cond b (Some value) (get keyed_time_cmp left q) ≡ Some vs → get keyed_time_cmp left q ≡ cond b None (get keyed_time_cmp old q) → 0 < length vs
    by_case true h was = let same : value ≡ vs = cc in subst (λ (vs : List ℤ). 0 < length vs) same some
    by_case false h was = full q vs (sym was ∙ h)

pub full-remove : (at : KeyedTime) (old new : BTreeMap KeyedTime (List ℤ)) → ((q : KeyedTime) → get keyed_time_cmp new q ≡ cond (is_at (keyed_time_cmp at) q) None (get keyed_time_cmp old q)) → AreFull old → AreFull new
full-remove at old new removed full q vs h = by_case (is_at (keyed_time_cmp at) q) (sym (removed q) ∙ h)
  where
    by_case : (b : Bool) → cond b None (get keyed_time_cmp old q) ≡ Some vs → 0 < length vs
    by_case true h = cc
    by_case false h = full q vs h

-- ---- taking what is below an end
pub filter-whole : (p : Record → Bool) (l : List Record) → AllByRecursion (λ r. p r ≡ true) l → filter p l ≡ l
filter-whole p [] all = refl
filter-whole p (r ∷ l) all = (λ i. cond (all.0 i) (r ∷ filter p l) (filter p l)) ∙ ap (λ l. r ∷ l) (filter-whole p l all.1)

pub filter-none : (p : Record → Bool) (l : List Record) → AllByRecursion (λ r. p r ≡ false) l → filter p l ≡ []
filter-none p [] all = refl
filter-none p (r ∷ l) all = (λ i. cond (all.0 i) (r ∷ filter p l) (filter p l)) ∙ filter-none p l all.1

values-records_at : (at : KeyedTime) (vs : List ℤ) → map (λ r. r.value) (records_at at vs) ≡ vs
values-records_at at [] = refl
values-records_at at (v ∷ vs) = ap (λ vs. v ∷ vs) (values-records_at at vs)

module _ (key : Key) (end : ℕ) (at : KeyedTime) (vs : List ℤ) (es left : List (KeyedTime × List ℤ)) (same : at.key ≡ key) (low : at.time < end) (moved : IsReordered (kept_of es) (records_at at vs ++ kept_of left)) where
  passes : is_below key end (record { time = at.time; key = at.key; value = pos 0 }) ≡ true
  passes = λ i. is_same_key at.key key same i && lt-ltb at.time end low i

  pub take-values : IsReordered (map (λ r. r.value) (filter (is_below key end) (kept_of es))) (vs ++ map (λ r. r.value) (filter (is_below key end) (kept_of left)))
  take-values f =
      IsReordered-map (λ (r : Record). r.value) (filter (is_below key end) (kept_of es)) (filter (is_below key end) (records_at at vs ++ kept_of left)) (IsReordered-filter (is_below key end) (kept_of es) (records_at at vs ++ kept_of left) moved) f
      ∙ ap (λ rs. sum_by f (map (λ (r : Record). r.value) rs)) (filter-append (is_below key end) (records_at at vs) (kept_of left) ∙ ap (λ rs. rs ++ filter (is_below key end) (kept_of left)) (filter-whole (is_below key end) (records_at at vs) (All-map (λ r. is_below key end r ≡ true) (λ v. record { time = at.time; key = at.key; value = v }) (λ v. passes) vs)))
      ∙ ap (sum_by f) (map-append (λ (r : Record). r.value) (records_at at vs) (filter (is_below key end) (kept_of left)) ∙ ap (λ ws. ws ++ map (λ (r : Record). r.value) (filter (is_below key end) (kept_of left))) (values-records_at at vs))

  pub take-others : IsReordered (filter (λ r. not (is_below key end r)) (kept_of es)) (filter (λ r. not (is_below key end r)) (kept_of left))
  take-others f =
      IsReordered-filter (λ r. not (is_below key end r)) (kept_of es) (records_at at vs ++ kept_of left) moved f
      ∙ ap (sum_by f) (filter-append (λ r. not (is_below key end r)) (records_at at vs) (kept_of left) ∙ ap (λ rs. rs ++ filter (λ r. not (is_below key end r)) (kept_of left)) (filter-none (λ r. not (is_below key end r)) (records_at at vs) (All-map (λ r. not (is_below key end r) ≡ false) (λ v. record { time = at.time; key = at.key; value = v }) (λ v. ap not passes) vs)))

-- where the key has nothing below the end
module _ (key : Key) (end : ℕ) (m : BTreeMap KeyedTime (List ℤ)) (ordered : IsOrdered keyed_time_cmp m) (none : (q : KeyedTime) → q.key ≡ key → q.time < end → get keyed_time_cmp m q ≡ None) where
  all_others : AllByRecursion (λ r. is_below key end r ≡ false) (kept_of m.entries)
  all_others =
      All-flat_map (λ (e : KeyedTime × List ℤ). get keyed_time_cmp m e.0 ≡ Some e.1) (λ r. is_below key end r ≡ false) (λ (e : KeyedTime × List ℤ). records_at e.0 e.1)
      (λ e there. All-map (λ r. is_below key end r ≡ false) (λ v. record { time = e.0.time; key = e.0.key; value = v })
      (λ v. false_from_ne_true (same_key e.0.key key && ltb e.0.time end) (λ is. let parts = and_parts (same_key e.0.key key) (ltb e.0.time end) is in
      let k : Some e.1 ≡ None = sym there ∙ none e.0 (tells_apart exact_keys e.0.key key parts.0) (ltb-true e.0.time end parts.1) in cc)) e.1)
      m.entries (recursion_from_All (λ (e : KeyedTime × List ℤ). get keyed_time_cmp m e.0 ≡ Some e.1) m.entries (All-found keyed_times_total m ordered))

  pub none-below : filter (is_below key end) (kept_of m.entries) ≡ []
  none-below = filter-none (is_below key end) (kept_of m.entries) all_others

  pub all-left : filter (λ r. not (is_below key end r)) (kept_of m.entries) ≡ kept_of m.entries
  all-left = filter-whole (λ r. not (is_below key end r)) (kept_of m.entries) (every (λ r h. ap not h) (kept_of m.entries) all_others)
