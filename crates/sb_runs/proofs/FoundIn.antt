-- What several runs have for a keyed window.
use Rattle.std.proofs.Common.{◌≡◌, ◌+◌, ◌≤◌, Bool, true, false, cond, List, [], ◌∷◌, ◌++◌, length, Option, Some, None, sym, refl, ap, ◌∙◌, arith}
use Rattle.std.proofs.lemmas.List.{length_push}
use Rattle.sb_window.specs.declared.keyed_window.KeyedWindow.{KeyedWindow}
use Rattle.sb_window.specs.Gatherings.{joined_value}
use Rattle.sb_window.proofs.Gathering.{joined_none}
use Rattle.sb_runs.specs.Merges.{with_run}
use Rattle.sb_runs.specs.Runs.{found, found_in, IsAssociative}

-- ---- one run more, where it has entries
pub with_run-some : {V : Type 0} (runs : List (List (KeyedWindow × V))) (run : List (KeyedWindow × V)) → (length run ≡ 0 → ⊥) → with_run runs run ≡ runs ++ run ∷ []
with_run-some runs [] some = absurd (some refl)
with_run-some runs (e ∷ es) some = refl

pub with_run-none : {V : Type 0} (runs : List (List (KeyedWindow × V))) (run : List (KeyedWindow × V)) → length run ≡ 0 → with_run runs run ≡ runs
with_run-none runs [] none = refl
with_run-none runs (e ∷ es) none = absurd (omega (arith, none))

pub length-with_run : {V : Type 0} (runs : List (List (KeyedWindow × V))) (run : List (KeyedWindow × V)) → length (with_run runs run) ≤ length runs + 1
length-with_run runs [] = omega arith
length-with_run runs (e ∷ es) = let k = length_push runs (e ∷ es) in omega (arith, k)

module _ {V : Type 0} (join : V → V → V) (groups : IsAssociative join) where
  pub joined-grouped : (a b c : Option V) → joined_value join (joined_value join a b) c ≡ joined_value join a (joined_value join b c)
  joined-grouped None b c = refl
  joined-grouped (Some u) None c = refl
  joined-grouped (Some u) (Some v) None = refl
  joined-grouped (Some u) (Some v) (Some w) = ap (λ x. Some x) (groups u v w)

  found_in-append : (xs ys : List (List (KeyedWindow × V))) (q : KeyedWindow) → found_in join (xs ++ ys) q ≡ joined_value join (found_in join xs q) (found_in join ys q)
  found_in-append [] ys q = refl
  found_in-append (run ∷ xs) ys q =
      ap (joined_value join (found run q)) (found_in-append xs ys q) ∙ sym (joined-grouped (found run q) (found_in join xs q) (found_in join ys q))

  -- one run more
  pub found_in-push : (xs : List (List (KeyedWindow × V))) (run : List (KeyedWindow × V)) (q : KeyedWindow) → found_in join (xs ++ run ∷ []) q ≡ joined_value join (found_in join xs q) (found run q)
  found_in-push xs run q = found_in-append xs (run ∷ []) q ∙ ap (joined_value join (found_in join xs q)) (joined_none join (found run q))

  pub found_in-with_run : (xs : List (List (KeyedWindow × V))) (run : List (KeyedWindow × V)) (q : KeyedWindow) → found_in join (with_run xs run) q ≡ joined_value join (found_in join xs q) (found run q)
  found_in-with_run xs [] q = sym (joined_none join (found_in join xs q))
  found_in-with_run xs (e ∷ es) q = found_in-push xs (e ∷ es) q

  -- the last run, merged with what comes after it
  pub found_in-last : (xs : List (List (KeyedWindow × V))) (last top merged : List (KeyedWindow × V)) → ((q : KeyedWindow) → found merged q ≡ joined_value join (found last q) (found top q))
      → (q : KeyedWindow) → joined_value join (found_in join xs q) (found merged q) ≡ joined_value join (found_in join (xs ++ last ∷ []) q) (found top q)
  found_in-last xs last top merged is q =
      ap (joined_value join (found_in join xs q)) (is q)
      ∙ sym (joined-grouped (found_in join xs q) (found last q) (found top q))
      ∙ ap (λ o. joined_value join o (found top q)) (sym (found_in-push xs last q))

  -- the first run of those that are left goes to others
  pub found_in-first : (xs now : List (List (KeyedWindow × V))) (run : List (KeyedWindow × V)) (rest : List (List (KeyedWindow × V)))
      → ((q : KeyedWindow) → found_in join now q ≡ joined_value join (found_in join xs q) (found run q))
      → (q : KeyedWindow) → joined_value join (found_in join now q) (found_in join rest q) ≡ joined_value join (found_in join xs q) (found_in join (run ∷ rest) q)
  found_in-first xs now run rest is q =
      ap (λ o. joined_value join o (found_in join rest q)) (is q) ∙ joined-grouped (found_in join xs q) (found run q) (found_in join rest q)

  -- ---- runs that are cut at a mark
  low-both : (b : Bool) (x y : Option V) → joined_value join (cond b None x) (cond b None y) ≡ cond b None (joined_value join x y)
  low-both true x y = refl
  low-both false x y = refl

  late-both : (b : Bool) (x y : Option V) → joined_value join (cond b x None) (cond b y None) ≡ cond b (joined_value join x y) None
  late-both true x y = refl
  late-both false x y = refl

  -- the first run of those that are left is cut, and a part of it goes to others
  pub closed-more : (b : Bool) (before now part : Option V) (run : List (KeyedWindow × V)) (rest : List (List (KeyedWindow × V))) (q : KeyedWindow) → part ≡ cond b None (found run q) → now ≡ joined_value join before part
      → joined_value join now (cond b None (found_in join rest q)) ≡ joined_value join before (cond b None (found_in join (run ∷ rest) q))
  closed-more b before now part run rest q cut is =
      ap (λ o. joined_value join o (cond b None (found_in join rest q))) (is ∙ ap (joined_value join before) cut)
      ∙ joined-grouped before (cond b None (found run q)) (cond b None (found_in join rest q))
      ∙ ap (joined_value join before) (low-both b (found run q) (found_in join rest q))

  pub opened-more : (b : Bool) (before now part : Option V) (run : List (KeyedWindow × V)) (rest : List (List (KeyedWindow × V))) (q : KeyedWindow) → part ≡ cond b (found run q) None → now ≡ joined_value join before part
      → joined_value join now (cond b (found_in join rest q) None) ≡ joined_value join before (cond b (found_in join (run ∷ rest) q) None)
  opened-more b before now part run rest q cut is =
      ap (λ o. joined_value join o (cond b (found_in join rest q) None)) (is ∙ ap (joined_value join before) cut)
      ∙ joined-grouped before (cond b (found run q) None) (cond b (found_in join rest q) None)
      ∙ ap (joined_value join before) (late-both b (found run q) (found_in join rest q))

-- where none is left
pub none-left : {V : Type 0} (join : V → V → V) (b : Bool) (o : Option V) → joined_value join o (cond b None None) ≡ o
none-left join true o = joined_none join o
none-left join false o = joined_none join o
