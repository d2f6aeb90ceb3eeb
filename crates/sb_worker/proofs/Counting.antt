-- How many bundles entries finish and how many closings they end, and what stands among them.
use Rattle.std.proofs.Common.{◌≡◌, ℕ, ◌+◌, Bool, true, false, cond, ◌||◌, List, [], ◌∷◌, ◌++◌, refl, sym, ap, ◌∙◌, append_assoc}
use Rattle.std.specs.List.{AllByRecursion, list_any}
use Rattle.std.proofs.lemmas.List.Folds.{list_any-append}
use Rattle.std.proofs.lemmas.List.Sums.{sum_by-append}
use Rattle.sb_cascade.specs.turn.declared.turns.Entry.{Entry}
use Rattle.sb_cascade.specs.turn.declared.turns.Entry.TheVariants.{Left, Looked}
use Rattle.sb_cascade.specs.turn.Turning.{looks_from}
use Rattle.sb_cascade.specs.shared.declared.telling.Change.{Change}
use Rattle.sb_cascade.specs.shared.declared.telling.Change.TheVariants as change
use Rattle.sb_cascade.specs.Shelving.{is_search}
use Rattle.sb_worker.specs.Entries.{Does, FoundNoneFree, FoundNoneFull, Has, HasRun, is_end, is_finish}

-- the entries of two calls
pub does-then : (f e g h : ℕ) (a b : List (Entry Change)) → Does f e a → Does g h b → Does (f + g) (e + h) (a ++ b)
does-then f e g h a b x y = (
  sum_by-append (λ t. cond (is_finish t) 1 0) a b ∙ (λ i. x.0 i + y.0 i),
  sum_by-append (λ t. cond (is_end t) 1 0) a b ∙ (λ i. x.1 i + y.1 i),
)

-- looks at places finish and end nothing
pub looks-none : (k : ℕ) (words : List ℕ) → Does 0 0 (looks_from k words)
looks-none k [] = (refl, refl)
looks-none k (w ∷ ws) = does-then 0 0 0 0 (Looked k w ∷ []) (looks_from (k + 1) ws) (refl, refl) (looks-none (k + 1) ws)

-- an entry of a search finishes and ends nothing
search-none : (e : Entry Change) → is_search e ≡ true → (is_finish e ≡ false) × (is_end e ≡ false)
search-none (Left node number (change.Finish claim delivered)) is = absurd (cc is)
search-none (Left node number (change.End closing)) is = absurd (cc is)
search-none (Left node number c) is = (refl, refl)
search-none e is = (refl, refl)

-- and so do all of them
pub searches-none : (l : List (Entry Change)) → AllByRecursion (λ e. is_search e ≡ true) l → Does 0 0 l
searches-none [] all = (refl, refl)
searches-none (e ∷ l) all =
    let one = search-none e all.0 in
    does-then 0 0 0 0 (e ∷ []) l ((λ i. 0 + cond (one.0 i) 1 0), (λ i. 0 + cond (one.1 i) 1 0)) (searches-none l all.1)

module _ (so : Entry Change → Bool) (a b : List (Entry Change)) where
  -- what one of the first is so, one of all is
  pub has-before : Has so a → Has so (a ++ b)
  has-before h = list_any-append so a b ∙ ap (λ x. x || list_any so b) h

  -- and so with the last
  pub has-after : Has so b → Has so (a ++ b)
  has-after h = list_any-append so a b ∙ ap (λ x. list_any so a || x) h ∙ or-true (list_any so a)
    where
      or-true : (x : Bool) → (x || true) ≡ true
      or-true true = refl
      or-true false = refl

module _ (run a b : List (Entry Change)) where
  -- what stands side by side among the first, does among all
  pub run-before : HasRun run a → HasRun run (a ++ b)
  run-before r = (
    r.0,
    r.1 ++ b,
    ap (λ l. l ++ b) r.2 ∙ append_assoc r.0 (run ++ r.1) b ∙ ap (λ l. r.0 ++ l) (append_assoc run r.1 b),
  )

  -- and so with the last
  pub run-after : HasRun run b → HasRun run (a ++ b)
  run-after r = (a ++ r.0, r.1, ap (λ l. a ++ l) r.2 ∙ sym (append_assoc a r.0 (run ++ r.1)))

module _ (a b : List (Entry Change)) where
  -- no place was found full among the first, so among all; and so on
  pub full-before : FoundNoneFull a → FoundNoneFull (a ++ b)
  full-before f = (f.0, f.1, f.2, run-before (looks_from 0 f.0) a b f.3)

  pub full-after : FoundNoneFull b → FoundNoneFull (a ++ b)
  full-after f = (f.0, f.1, f.2, run-after (looks_from 0 f.0) a b f.3)

  pub free-before : FoundNoneFree a → FoundNoneFree (a ++ b)
  free-before f = (f.0, f.1, f.2, run-before (looks_from 0 f.0) a b f.3)

  pub free-after : FoundNoneFree b → FoundNoneFree (a ++ b)
  free-after f = (f.0, f.1, f.2, run-after (looks_from 0 f.0) a b f.3)
