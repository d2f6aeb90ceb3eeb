-- A bundle was claimed, by what a filling and a claim tell.
use Rattle.std.proofs.Common.{◌≡◌, ℕ, ◌&&◌, ◌||◌, Bool, true, false, List, [], ◌∷◌, ◌++◌, Option, None, Some, inl, inr, refl, sym, ap, ◌∙◌, append-nil, ⊎_elim, length}
use Rattle.std.specs.Prelude.{IfNone}
use Rattle.std.proofs.lemmas.Bool.{eq-eqb}
use Rattle.sb_cascade.specs.turn.declared.turns.Entry.{Entry}
use Rattle.sb_cascade.specs.turn.declared.turns.Entry.TheVariants.{Left, Claimed}
use Rattle.sb_cascade.specs.turn.Turning.{looks_from}
use Rattle.sb_cascade.specs.work.declared.claim.Claim.{Claim}
use Rattle.sb_cascade.specs.declared.pass.CascadePass.{CascadePass}
use Rattle.sb_cascade.specs.shared.declared.telling.Change.{Change}
use Rattle.sb_cascade.specs.shared.declared.telling.Change.TheVariants as change
use Rattle.sb_cascade.specs.Calls.{IsEmptyHanded}
use Rattle.sb_cascade.specs.Shelving.{ClaimedOne, KeepsOne, WasIdle}
use Rattle.sb_cascade.specs.Shelving as shelving
use Rattle.sb_worker.specs.Entries.{Does, FoundNoneFull, Gains, is_claimed, is_idle_of}
use Rattle.sb_worker.specs.Steps.{IsClaiming, IsIdleAt}
use Rattle.sb_worker.proofs.Counting.{does-then, free-after, has-after, has-before, looks-none, searches-none}
use Rattle.sb_worker.proofs.Gaining.{gains-then}

-- what follows from what a clause says of no value
pub if-none : {A : Type 0} (o : Option A) (P Q : Type 0) → (P → Q) → IfNone o P → IfNone o Q
if-none None P Q so h = so h
if-none (Some a) P Q so h = h

-- a claim of a place
pub claimed-gains : (p q : CascadePass) (claim : Claim) → p.kept ≡ None → ClaimedOne claim p q → Gains IsClaiming p q
claimed-gains p q claim none = ⊎_elim
    (λ kept. absurd (cc (sym none ∙ kept.0)))
    (λ c. let looks = looks_from 0 c.1.0 in
    let last : List (Entry Change) = Claimed (length c.1.0) ∷ [] in (
      looks ++ last,
      c.1.2,
      (does-then 0 0 0 0 looks last (looks-none 0 c.1.0) (refl, refl), inl (has-after is_claimed looks last refl)),
    ))

-- a bundle was claimed after entries that finish and end nothing
pub claiming-after : (a b : List (Entry Change)) → Does 0 0 a → IsClaiming b → IsClaiming (a ++ b)
claiming-after a b x y = (
  does-then 0 0 0 0 a b x y.0,
  ⊎_elim (λ h. inl (has-after is_claimed a b h)) (λ f. inr (free-after a b f)) y.1,
)

-- a claim that found no place full
pub unclaimed-gains : (p q : CascadePass) → shelving.FoundNoneFull p q → Gains (λ l. Does 0 0 l × FoundNoneFull l) p q
unclaimed-gains p q f =
    let looks = looks_from 0 f.1.0 in
    (looks, f.1.3, (looks-none 0 f.1.0, (f.1.0, f.1.1, f.1.2, ([], [], sym (append-nil looks)))))

module _ (node : ℕ) (p q : CascadePass) where
  -- a node was found without a bundle that waits
  pub idle-gains : WasIdle node p q → Gains (IsIdleAt node) p q
  idle-gains w =
      let last : List (Entry Change) = Left node w.0 change.Idle ∷ [] in (
        w.1.0 ++ last,
        w.1.2,
        (
          does-then 0 0 0 0 w.1.0 last (searches-none w.1.0 w.1.1) (refl, refl),
          has-after (is_idle_of node) w.1.0 last (ap (λ b. (b && true) || false) (eq-eqb node node refl)),
        ),
      )

  -- no place was free for a bundle that is kept
  pub keeps-gains : p.kept ≡ None → KeepsOne node p q → Gains IsClaiming p q
  keeps-gains none k = ⊎_elim
      (λ kept. absurd (cc (sym none ∙ kept.0)))
      (λ f. let e = f.2.3 in
      let looks = looks_from 0 f.2.0 in (
        e.0 ++ looks,
        e.2,
        (
          does-then 0 0 0 0 e.0 looks (searches-none e.0 e.1) (looks-none 0 f.2.0),
          inr (f.2.0, f.2.1, f.2.2, (e.0, [], ap (λ l. e.0 ++ l) (sym (append-nil looks)))),
        ),
      ))
      k.2

module _ (node : ℕ) (p q r : CascadePass) (none : p.kept ≡ None) (kept : Bool) (yes : kept ≡ true → KeepsOne node p q)
    (no : kept ≡ false → IsEmptyHanded q × WasIdle node p q) where
  -- a filling and a claim that gave a bundle
  pub filled-claims : (claim : Claim) → ClaimedOne claim q r → Gains IsClaiming p r
  filled-claims claim = go kept refl
    where
      go : (b : Bool) → kept ≡ b → ClaimedOne claim q r → Gains IsClaiming p r
      go true is = ⊎_elim
          (λ c. let k = keeps-gains node p q none (yes is) in (k.0, ap (λ v. v.trace) c.1 ∙ k.1, k.2))
          (λ c. absurd (cc (sym c.0 ∙ (yes is).1)))
      go false is = ⊎_elim
          (λ c. absurd (cc (sym (no is).0.kept ∙ c.0)))
          (λ c. gains-then p q r (IsIdleAt node) IsClaiming IsClaiming (λ a b x y. claiming-after a b x.0 y)
          (idle-gains node p q (no is).1) (claimed-gains q r claim c.0 (inr c)))

  -- and one that gave none
  pub filled-idle : shelving.FoundNoneFull q r → Gains (IsIdleAt node) p r
  filled-idle f = go kept refl
    where
      go : (b : Bool) → kept ≡ b → Gains (IsIdleAt node) p r
      go true is = absurd (cc (sym f.0 ∙ (yes is).1))
      go false is = gains-then p q r (IsIdleAt node) (λ l. Does 0 0 l × FoundNoneFull l) (IsIdleAt node)
          (λ a b x y. (does-then 0 0 0 0 a b x.0 y.0, has-before (is_idle_of node) a b x.1))
          (idle-gains node p q (no is).1) (unclaimed-gains q r f)
