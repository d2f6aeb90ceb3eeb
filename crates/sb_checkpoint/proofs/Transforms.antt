-- The transforms of a plan, one after another.
use Rattle.std.proofs.Common.{◌≡◌, ℕ, ◌+◌, List, Option, Some, None, take, refl, ap, ◌∙◌}
use Rattle.std.specs.Option.{option_map}
use Rattle.std.specs.List.{slice_get, sum_by}
use Rattle.std.proofs.lemmas.List.Sums.{sum_by_more}
use Rattle.std.proofs.lemmas.Option.{slice_get_within, get_or_from_slice_get}
use Rattle.sb_pipeline.specs.declared.transform.Kind.{Kind}
use Rattle.sb_pipeline.specs.declared.transform.Step.{Step}
use Rattle.sb_checkpoint.specs.Reach.{size_in}

-- the transform at a place, whose kind is known
record OfKind (steps : List Step) (k : ℕ) (kind : Kind) : Type 0 where
  step : Step
  at : slice_get steps k ≡ Some step
  is : step.kind ≡ kind

of_kind : (steps : List Step) (k : ℕ) (kind : Kind) → option_map (λ s. s.kind) (slice_get steps k) ≡ Some kind → OfKind steps k kind
of_kind steps k kind h = by_option (slice_get steps k) refl h
  where
    by_option : (o : Option Step) → slice_get steps k ≡ o → option_map (λ s. s.kind) o ≡ Some kind → OfKind steps k kind
    by_option None e h = cc
    by_option (Some step) e h = record { step = step; at = e; is = cc }

pub reach-more : (steps : List Step) (k : ℕ) (kind : Kind) → option_map (λ s. s.kind) (slice_get steps k) ≡ Some kind
    → sum_by (λ s. size_in s.kind) (take (k + 1) steps) ≡ sum_by (λ s. size_in s.kind) (take k steps) + size_in kind
reach-more steps k kind h =
    let o = of_kind steps k kind h in
    sum_by_more (λ s. size_in s.kind) steps k o.step (slice_get_within steps k o.step o.at)
    ∙ ap (λ n. sum_by (λ s. size_in s.kind) (take k steps) + n) (ap (λ s. size_in s.kind) (get_or_from_slice_get steps k o.step o.step o.at) ∙ ap size_in o.is)
