-- How late the times at a node can be: each transform above it adds at most the greatest size of a window.
use Rattle.std.specs.Prelude.{ℕ, ◌+◌, ◌*◌, ◌==◌, if◌then◌else◌, List, [], ◌∷◌}
use Rattle.sb_containers.specs.base.records.declared.item.TheConstants.{MAX_TIME}
use Rattle.sb_containers.specs.base.window.declared.windows.TheConstants.{MAX_SIZE}
use Rattle.sb_containers.specs.base.pipeline.declared.transform.Step.{Step}
use Rattle.sb_containers.specs.base.pipeline.Shapes.{Shape}

-- how many transforms are above each node, where those from k on are still to be counted
abbrev pub above_from : ℕ → List Step → (ℕ → ℕ) → ℕ → ℕ
above_from k [] count = count
above_from k (s ∷ steps) count =
    above_from (k + 1) steps (λ n. if s.down.node == n then count n + count k + 1 else count n)

-- how many transforms are above a node, for a join those above both lanes
abbrev pub above : Shape → ℕ → ℕ
above plan = above_from 0 plan.steps (λ n. 0)

-- no time in the lanes of node k is above this
abbrev pub bound_at : Shape → ℕ → ℕ
bound_at plan k = MAX_TIME + above plan k * MAX_SIZE
