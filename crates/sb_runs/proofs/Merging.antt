-- Two runs as they are merged: what is made, and what is left of each.
use Rattle.std.proofs.Common.{◌≡◌, ℕ, zero, suc, ◌-◌, cond, List, [], ◌∷◌, ◌++◌, length, take, drop, Option, Some, None, append-nil, append_assoc, sym, subst, refl, ap, ◌∙◌}
use Rattle.std.specs.List.Sorted.{IsStrictlySortedBy}
use Rattle.std.specs.Map.{keys_of}
use Rattle.std.specs.Ordering.{is_eq, ordering_reverse}
use Rattle.std.specs.declared.cmp.Ordering.{Ordering}
use Rattle.std.specs.declared.cmp.Ordering.TheVariants.{Less, Equal, Greater}
use Rattle.std.proofs.lemmas.Option.{same_Some}
use Rattle.sb_window.specs.declared.keyed_window.KeyedWindow.{KeyedWindow}
use Rattle.sb_window.specs.Windows.{keyed_window_cmp}
use Rattle.sb_window.specs.Gatherings.{joined_value}
use Rattle.sb_window.proofs.Rows.{keyed_windows_total, exact_keyed_windows}
use Rattle.sb_runs.specs.Merged.{first_merged, merged}
use Rattle.sb_runs.specs.Merges.{firsts_cmp, joined_firsts}
use Rattle.sb_runs.specs.Runs.{IsRun, found}
use Rattle.sb_runs.proofs.Found.{run-right, run-put, keys-same, none-behind, found-apart, found-put, found-none}

-- what is made, before what is left of each run, is a run, and all together have for each keyed window what they had
pub record Merging {V : Type 0} (join : V → V → V) (whole : KeyedWindow → Option V) (all left right : List (KeyedWindow × V)) : Type 0 where
  pub left_run : IsRun (all ++ left)
  pub right_run : IsRun (all ++ right)
  pub same : (q : KeyedWindow) → joined_value join (found (all ++ left) q) (found right q) ≡ whole q

module _ {V : Type 0} (join : V → V → V) where
  -- the first of two entries goes behind what is made
  moved : (e f : KeyedWindow × V) (all es fs : List (KeyedWindow × V)) → IsRun (all ++ e ∷ f ∷ fs) → IsRun (all ++ e ∷ es)
      → (q : KeyedWindow) → joined_value join (found (all ++ e ∷ f ∷ fs) q) (found es q) ≡ joined_value join (found (all ++ f ∷ fs) q) (found (e ∷ es) q)
  moved e f all es fs put run q =
      ap (λ o. joined_value join o (found es q)) (found-put e all (f ∷ fs) put q)
      ∙ by_case (keyed_window_cmp q e.0) refl
    where
      by_case : (o : Ordering) → keyed_window_cmp q e.0 ≡ o
          → joined_value join (cond (is_eq o) (Some e.1) (found (all ++ f ∷ fs) q)) (found es q) ≡ joined_value join (found (all ++ f ∷ fs) q) (cond (is_eq o) (Some e.1) (found es q))
      by_case Less c = refl
      by_case Equal c =
          ap (joined_value join (Some e.1)) (none-behind e es q c (run-right all (e ∷ es) run))
          ∙ sym (ap (λ o. joined_value join o (Some e.1)) (ap (found (all ++ f ∷ fs)) (exact_keyed_windows q e.0 c) ∙ found-none e all (f ∷ fs) put))
      by_case Greater c = refl

  -- two entries of one keyed window become one
  both : (e f : KeyedWindow × V) (all es fs : List (KeyedWindow × V)) → e.0 ≡ f.0 → IsRun (all ++ (e.0, join e.1 f.1) ∷ es) → IsRun (all ++ e ∷ es) → IsRun (f ∷ fs)
      → (q : KeyedWindow) → joined_value join (found (all ++ (e.0, join e.1 f.1) ∷ es) q) (found fs q) ≡ joined_value join (found (all ++ e ∷ es) q) (found (f ∷ fs) q)
  both e f all es fs k put run other q =
      ap (λ o. joined_value join o (found fs q)) (found-put (e.0, join e.1 f.1) all es put q)
      ∙ by_case (keyed_window_cmp q e.0) refl
      ∙ (λ i. joined_value join (sym (found-put e all es run q) i) (cond (is_eq (keyed_window_cmp q (k i))) (Some f.1) (found fs q)))
    where
      by_case : (o : Ordering) → keyed_window_cmp q e.0 ≡ o
          → joined_value join (cond (is_eq o) (Some (join e.1 f.1)) (found (all ++ es) q)) (found fs q)
          ≡ joined_value join (cond (is_eq o) (Some e.1) (found (all ++ es) q)) (cond (is_eq o) (Some f.1) (found fs q))
      by_case Less c = refl
      by_case Equal c = ap (joined_value join (Some (join e.1 f.1))) (none-behind f fs q (ap (keyed_window_cmp q) (sym k) ∙ c) other)
      by_case Greater c = refl

  module _ (whole : KeyedWindow → Option V) where
    less-step : (all left right : List (KeyedWindow × V)) → firsts_cmp left right ≡ Some Less → Merging join whole all left right → Merging join whole (all ++ take 1 left) (drop 1 left) right
    less-step all [] right h m = cc
    less-step all (e ∷ es) [] h m = cc
    less-step all (e ∷ es) (f ∷ fs) h m = record {
      left_run = subst (λ (l : List (KeyedWindow × V)). IsRun l) (sym (append_assoc all (e ∷ []) es)) m.left_run;
      right_run = subst (λ (l : List (KeyedWindow × V)). IsRun l) (sym (append_assoc all (e ∷ []) (f ∷ fs))) (run-put e f all es fs (same_Some (keyed_window_cmp e.0 f.0) Less h) m.left_run m.right_run);
      same = λ q. ap (λ l. joined_value join (found l q) (found (f ∷ fs) q)) (append_assoc all (e ∷ []) es) ∙ m.same q;
    }

    greater-step : (all left right : List (KeyedWindow × V)) → firsts_cmp left right ≡ Some Greater → Merging join whole all left right → Merging join whole (all ++ take 1 right) left (drop 1 right)
    greater-step all [] right h m = cc
    greater-step all (e ∷ es) [] h m = cc
    greater-step all (e ∷ es) (f ∷ fs) h m =
        let back : keyed_window_cmp f.0 e.0 ≡ Less = keyed_windows_total.antisymm f.0 e.0 ∙ ap ordering_reverse (same_Some (keyed_window_cmp e.0 f.0) Greater h) in
        let put : IsRun (all ++ f ∷ e ∷ es) = run-put f e all fs es back m.right_run m.left_run in
        record {
          left_run = subst (λ (l : List (KeyedWindow × V)). IsRun l) (sym (append_assoc all (f ∷ []) (e ∷ es))) put;
          right_run = subst (λ (l : List (KeyedWindow × V)). IsRun l) (sym (append_assoc all (f ∷ []) fs)) m.right_run;
          same = λ q. ap (λ l. joined_value join (found l q) (found fs q)) (append_assoc all (f ∷ []) (e ∷ es)) ∙ moved f e all fs es put m.right_run q ∙ m.same q;
        }

    equal-step : (all left right : List (KeyedWindow × V)) → firsts_cmp left right ≡ Some Equal → Merging join whole all left right → Merging join whole (all ++ joined_firsts join left right) (drop 1 left) (drop 1 right)
    equal-step all [] right h m = cc
    equal-step all (e ∷ es) [] h m = cc
    equal-step all (e ∷ es) (f ∷ fs) h m =
        let k : e.0 ≡ f.0 = exact_keyed_windows e.0 f.0 (same_Some (keyed_window_cmp e.0 f.0) Equal h) in
        let put : IsRun (all ++ (e.0, join e.1 f.1) ∷ es) = subst (IsStrictlySortedBy keyed_window_cmp) (keys-same e.0 e.1 (join e.1 f.1) all es) m.left_run in
        let put_right : IsRun (all ++ (e.0, join e.1 f.1) ∷ fs) =
        subst (IsStrictlySortedBy keyed_window_cmp) (keys-same f.0 f.1 (join e.1 f.1) all fs ∙ (λ i. keys_of (all ++ (sym k i, join e.1 f.1) ∷ fs))) m.right_run in
        record {
          left_run = subst (λ (l : List (KeyedWindow × V)). IsRun l) (sym (append_assoc all ((e.0, join e.1 f.1) ∷ []) es)) put;
          right_run = subst (λ (l : List (KeyedWindow × V)). IsRun l) (sym (append_assoc all ((e.0, join e.1 f.1) ∷ []) fs)) put_right;
          same = λ q. ap (λ l. joined_value join (found l q) (found fs q)) (append_assoc all ((e.0, join e.1 f.1) ∷ []) es)
              ∙ both e f all es fs k put m.left_run (run-right all (f ∷ fs) m.right_run) q ∙ m.same q;
        }

    -- ---- where one run is at its end, what is left of both goes behind what is made
    pub merged-run : (all left right : List (KeyedWindow × V)) → firsts_cmp left right ≡ None → Merging join whole all left right → IsRun ((all ++ left) ++ right)
    merged-run all [] right h m = subst (λ (l : List (KeyedWindow × V)). IsRun (l ++ right)) (sym (append-nil all)) m.right_run
    merged-run all (e ∷ es) [] h m = subst (λ (l : List (KeyedWindow × V)). IsRun l) (sym (append-nil (all ++ e ∷ es))) m.left_run
    merged-run all (e ∷ es) (f ∷ fs) h m = cc

    pub merged-found : (all left right : List (KeyedWindow × V)) → firsts_cmp left right ≡ None → Merging join whole all left right → (q : KeyedWindow) → found ((all ++ left) ++ right) q ≡ whole q
    merged-found all left right h m q = sym (found-apart join (all ++ left) right (merged-run all left right h m) q) ∙ m.same q

    -- what is made, and behind it what the rest of both comes to merged
    record Merged (all made : List (KeyedWindow × V)) : Type 0 where
      run : IsRun (all ++ made)
      same : (q : KeyedWindow) → found (all ++ made) q ≡ whole q

    behind : (all made : List (KeyedWindow × V)) (e : KeyedWindow × V) → Merged (all ++ e ∷ []) made → Merged all (e ∷ made)
    behind all made e m = record {
      run = subst (λ (l : List (KeyedWindow × V)). IsRun l) (append_assoc all (e ∷ []) made) m.run;
      same = λ q. sym (ap (λ (l : List (KeyedWindow × V)). found l q) (append_assoc all (e ∷ []) made)) ∙ m.same q;
    }

    at-end : (all left right made : List (KeyedWindow × V)) → firsts_cmp left right ≡ None → (all ++ left) ++ right ≡ all ++ made → Merging join whole all left right → Merged all made
    at-end all left right made h is m = record {
      run = subst (λ (l : List (KeyedWindow × V)). IsRun l) is (merged-run all left right h m);
      same = λ q. sym (ap (λ (l : List (KeyedWindow × V)). found l q) is) ∙ merged-found all left right h m q;
    }

    merges : (left right all : List (KeyedWindow × V)) → Merging join whole all left right → Merged all (merged join left right)
    merges [] right all m = at-end all [] right right refl (ap (λ l. l ++ right) (append-nil all)) m
    merges (e ∷ es) right all m = among (λ l k h. merges es l k h) right all m
      where
        among : ((l k : List (KeyedWindow × V)) → Merging join whole k es l → Merged k (merged join es l)) → (right all : List (KeyedWindow × V)) → Merging join whole all (e ∷ es) right → Merged all (merged join (e ∷ es) right)
        among rest [] all m = at-end all (e ∷ es) [] (e ∷ es) refl (append-nil (all ++ e ∷ es)) m
        among rest (f ∷ fs) all m = by_case (keyed_window_cmp e.0 f.0) refl (λ k h. rest (f ∷ fs) k h) (λ k h. rest fs k h) (λ k h. among rest fs k h)
          where
            by_case : (o : Ordering) → keyed_window_cmp e.0 f.0 ≡ o → ((k : List (KeyedWindow × V)) → Merging join whole k es (f ∷ fs) → Merged k (merged join es (f ∷ fs))) → ((k : List (KeyedWindow × V)) → Merging join whole k es fs → Merged k (merged join es fs))
                → ((k : List (KeyedWindow × V)) → Merging join whole k (e ∷ es) fs → Merged k (merged join (e ∷ es) fs)) → Merged all (first_merged join o e f (merged join es (f ∷ fs)) (merged join es fs) (merged join (e ∷ es) fs))
            by_case Less c less equal greater = behind all (merged join es (f ∷ fs)) e (less (all ++ e ∷ []) (less-step all (e ∷ es) (f ∷ fs) (ap (λ o. Some o) c) m))
            by_case Equal c less equal greater = behind all (merged join es fs) (e.0, join e.1 f.1) (equal (all ++ (e.0, join e.1 f.1) ∷ []) (equal-step all (e ∷ es) (f ∷ fs) (ap (λ o. Some o) c) m))
            by_case Greater c less equal greater = behind all (merged join (e ∷ es) fs) f (greater (all ++ f ∷ []) (greater-step all (e ∷ es) (f ∷ fs) (ap (λ o. Some o) c) m))

  module _ (left right : List (KeyedWindow × V)) (one : IsRun left) (other : IsRun right) where
    abbrev whole-at : KeyedWindow → Option V
    whole-at q = joined_value join (found left q) (found right q)

    start : Merging join whole-at [] left right
    start = record { left_run = one; right_run = other; same = λ q. refl }

    pub merged-is-run : IsRun (merged join left right)
    merged-is-run = (merges whole-at left right [] start).run

    pub merged-has : (q : KeyedWindow) → found (merged join left right) q ≡ joined_value join (found left q) (found right q)
    merged-has q = (merges whole-at left right [] start).same q

  -- ---- the first entry of what two runs come to, and the rest
  pub record Next (first : List (KeyedWindow × V)) (made rest : List (KeyedWindow × V)) : Type 0 where
    pub taken : first ≡ take 1 made
    pub left : rest ≡ drop 1 made

  first-of : (o p : Ordering) (e f : KeyedWindow × V) (less equal greater : List (KeyedWindow × V)) → o ≡ p → first_merged join o e f less equal greater ≡ first_merged join p e f less equal greater
  first-of o p e f less equal greater h = ap (λ x. first_merged join x e f less equal greater) h

  pub next-less : (left right : List (KeyedWindow × V)) → firsts_cmp left right ≡ Some Less → Next (take 1 left) (merged join left right) (merged join (drop 1 left) right)
  next-less [] right h = cc
  next-less (e ∷ es) [] h = cc
  next-less (e ∷ es) (f ∷ fs) h =
      let is = first-of (keyed_window_cmp e.0 f.0) Less e f (merged join es (f ∷ fs)) (merged join es fs) (merged join (e ∷ es) fs) (same_Some (keyed_window_cmp e.0 f.0) Less h) in
      record { taken = sym (ap (take 1) is); left = sym (ap (drop 1) is) }

  pub next-equal : (left right : List (KeyedWindow × V)) → firsts_cmp left right ≡ Some Equal → Next (joined_firsts join left right) (merged join left right) (merged join (drop 1 left) (drop 1 right))
  next-equal [] right h = cc
  next-equal (e ∷ es) [] h = cc
  next-equal (e ∷ es) (f ∷ fs) h =
      let is = first-of (keyed_window_cmp e.0 f.0) Equal e f (merged join es (f ∷ fs)) (merged join es fs) (merged join (e ∷ es) fs) (same_Some (keyed_window_cmp e.0 f.0) Equal h) in
      record { taken = sym (ap (take 1) is); left = sym (ap (drop 1) is) }

  pub next-greater : (left right : List (KeyedWindow × V)) → firsts_cmp left right ≡ Some Greater → Next (take 1 right) (merged join left right) (merged join left (drop 1 right))
  next-greater [] right h = cc
  next-greater (e ∷ es) [] h = cc
  next-greater (e ∷ es) (f ∷ fs) h =
      let is = first-of (keyed_window_cmp e.0 f.0) Greater e f (merged join es (f ∷ fs)) (merged join es fs) (merged join (e ∷ es) fs) (same_Some (keyed_window_cmp e.0 f.0) Greater h) in
      record { taken = sym (ap (take 1) is); left = sym (ap (drop 1) is) }

  -- where one run is at its end
  drop_nil : (n : ℕ) → drop {A = KeyedWindow × V} n [] ≡ []
  drop_nil zero = refl
  drop_nil (suc n) = refl

  merged-nil : (left : List (KeyedWindow × V)) → merged join left [] ≡ left
  merged-nil [] = refl
  merged-nil (e ∷ es) = refl

  pub next-left : (left right : List (KeyedWindow × V)) → firsts_cmp left right ≡ None → Next (take 1 (left ++ right)) (merged join left right) (merged join (drop 1 left) (drop (1 - length left) right))
  next-left [] right h = record { taken = refl; left = refl }
  next-left (e ∷ es) [] h = record { taken = refl; left = ap (merged join es) (drop_nil (1 - length (e ∷ es))) ∙ merged-nil es }
  next-left (e ∷ es) (f ∷ fs) h = cc

-- where there is no first entry there is none
pub none-left : {X : Type 0} (l : List X) → take 1 l ≡ [] → l ≡ []
none-left [] h = refl
none-left (x ∷ l) h = cc

-- the first of a list and the rest
pub with-rest : {X : Type 0} (l first rest : List X) → first ≡ take 1 l → rest ≡ drop 1 l → first ++ rest ≡ l
with-rest l first rest is left = (λ i. is i ++ left i) ∙ whole l
  where
    whole : {X : Type 0} (l : List X) → take 1 l ++ drop 1 l ≡ l
    whole [] = refl
    whole (x ∷ l) = refl
