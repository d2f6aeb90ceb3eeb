-- No node has more transforms above it than there are, so no time comes near the watermark of the end.
use Rattle.std.proofs.Common.{eqb, ◌≡◌, ℕ, suc, ◌+◌, ◌≤◌, ◌<◌, Bool, true, false, cond, List, [], ◌∷◌, length, Some, sym, refl, ap, ◌∙◌, arith, ⊎_elim}
use Rattle.std.specs.Prelude.{◌≢◌}
use Rattle.std.specs.List.{slice_get}
use Rattle.std.proofs.lemmas.Bool.{eq-eqb, ne_eqb, eqb-true, cases_lt}
use Rattle.sb_containers.specs.base.records.declared.item.TheConstants.{END_MARK}
use Rattle.sb_containers.specs.base.pipeline.declared.transform.Step.{Step}
use Rattle.sb_containers.specs.base.pipeline.Plans.{IsPlan}
use Rattle.sb_containers.specs.base.pipeline.Shapes.{Shape}
use Rattle.sb_core.specs.Bounds.{above_from, bound_at}

abbrev one : Bool → ℕ
one b = cond {A = ℕ} b 1 0

-- how many transforms stand at a node, of those that stand at these
abbrev standing : ℕ → List ℕ → ℕ
standing n [] = 0
standing n (x ∷ xs) = one (eqb x n) + standing n xs

-- where they stand once those at node k have gone on to node d, and k too
abbrev moved : ℕ → ℕ → List ℕ → List ℕ
moved k d [] = d ∷ []
moved k d (x ∷ xs) = cond {A = ℕ} (eqb x k) d x ∷ moved k d xs

length-moved : (k d : ℕ) (xs : List ℕ) → length (moved k d xs) ≡ length xs + 1
length-moved k d [] = omega arith
length-moved k d (x ∷ xs) = omega (arith, length-moved k d xs)

one-most : (b : Bool) → one b ≤ 1
one-most true = omega arith
one-most false = omega arith

standing-most : (n : ℕ) (xs : List ℕ) → standing n xs ≤ length xs
standing-most n [] = omega arith
standing-most n (x ∷ xs) = omega (arith, one-most (eqb x n), standing-most n xs)

standing-moved : (k d : ℕ) → k ≢ d → (xs : List ℕ) → standing d (moved k d xs) ≡ standing d xs + standing k xs + 1
standing-moved k d other [] = let a : one (eqb d d) ≡ 1 = ap one (eq-eqb d d refl) in omega arith
standing-moved k d other (x ∷ xs) = omega (arith, here (eqb x k) refl, standing-moved k d other xs)
  where
    here : (b : Bool) → eqb x k ≡ b → one (eqb (cond {A = ℕ} b d x) d) ≡ one (eqb x d) + one b
    here true e =
        let a : one (eqb d d) ≡ 1 = ap one (eq-eqb d d refl) in
        let b : one (eqb x d) ≡ 0 = ap one (ne_eqb x d (λ z. other (sym (eqb-true x k e) ∙ z))) in
        omega arith
    here false e = omega arith

standing-other : (k d n : ℕ) → d ≢ n → k ≢ n → (xs : List ℕ) → standing n (moved k d xs) ≡ standing n xs
standing-other k d n a b [] = let e : one (eqb d n) ≡ 0 = ap one (ne_eqb d n a) in omega arith
standing-other k d n a b (x ∷ xs) = omega (arith, here (eqb x k) refl, standing-other k d n a b xs)
  where
    here : (c : Bool) → eqb x k ≡ c → one (eqb (cond {A = ℕ} c d x) n) ≡ one (eqb x n)
    here true e = ap one (ne_eqb d n a) ∙ sym (ap one (ne_eqb x n (λ z. b (sym (eqb-true x k e) ∙ z))))
    here false e = refl

-- the numbers above each node from k on are those of the transforms that stand there, and no number is above theirs
above-most : (k : ℕ) (steps : List Step) (count : ℕ → ℕ) (at : List ℕ) → ((j : ℕ) (s : Step) → slice_get steps j ≡ Some s → k + j < s.down.node)
    → ((n : ℕ) → k ≤ n → count n ≡ standing n at) → ((n : ℕ) → count n ≤ length at) → (n : ℕ) → above_from k steps count n ≤ length at + length steps
above-most k [] count at further stand low n = omega (arith, low n)
above-most k (s ∷ steps) count at further stand low n =
    let ih : above_from (k + 1) steps next n ≤ length (moved k d at) + length steps = above-most (k + 1) steps next (moved k d at) later stand_next low_next n in
    omega (arith, ih, length-moved k d at)
  where
    d : ℕ
    d = s.down.node

    next : ℕ → ℕ
    next n = cond {A = ℕ} (eqb s.down.node n) (count n + count k + 1) (count n)

    below : k < s.down.node
    below = let z : k + 0 < s.down.node = further 0 s refl in omega arith

    later : (j : ℕ) (t : Step) → slice_get steps j ≡ Some t → k + 1 + j < t.down.node
    later j t e = let z : k + suc j < t.down.node = further (suc j) t e in omega arith

    apart : k ≢ s.down.node
    apart e = omega (arith, below, e)

    stand_next : (n : ℕ) → k + 1 ≤ n → next n ≡ standing n (moved k s.down.node at)
    stand_next n from = by_case (eqb s.down.node n) refl
      where
        by_case : (b : Bool) → eqb s.down.node n ≡ b → cond {A = ℕ} b (count n + count k + 1) (count n) ≡ standing n (moved k s.down.node at)
        by_case true e =
            let is : s.down.node ≡ n = eqb-true s.down.node n e in
            let a : standing s.down.node (moved k s.down.node at) ≡ standing s.down.node at + standing k at + 1 = standing-moved k s.down.node apart at in
            let b : standing n (moved k s.down.node at) ≡ standing s.down.node (moved k s.down.node at) = ap (λ m. standing m (moved k s.down.node at)) (sym is) in
            let c : count n ≡ standing s.down.node at = stand n (omega arith) ∙ ap (λ m. standing m at) (sym is) in
            let f : count k ≡ standing k at = stand k (omega arith) in
            omega arith
        by_case false e = stand n (omega arith) ∙ sym (standing-other k s.down.node n (λ z. true_false (sym (eq-eqb s.down.node n z) ∙ e)) (λ z. omega (arith, from, z)) at)
          where
            true_false : true ≡ false → ⊥
            true_false z = cc

    low_next : (n : ℕ) → next n ≤ length (moved k s.down.node at)
    low_next n = ⊎_elim
        (λ (z : n < k + 1). let same : next n ≡ count n = ap (λ b. cond {A = ℕ} b (count n + count k + 1) (count n)) (ne_eqb s.down.node n (λ e. omega (arith, below, z, e))) in omega (arith, same, low n, length-moved k s.down.node at))
        (λ (z : k + 1 ≤ n). omega (arith, stand_next n z, standing-most n (moved k s.down.node at))) (cases_lt n (k + 1))

pub bound-before_end : (plan : Shape) → IsPlan plan → (k : ℕ) → bound_at plan k < END_MARK
bound-before_end plan is k =
    let a : above_from 0 plan.steps (λ n. 0) k ≤ 0 + length plan.steps = above-most 0 plan.steps (λ n. 0) [] (λ j s e. let z : j < s.down.node = is.further j s e in omega arith) (λ n z. refl) (λ n. omega arith) k in
    omega (arith, is.most)
