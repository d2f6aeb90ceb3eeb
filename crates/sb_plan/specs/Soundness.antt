-- What the wiring of a file keeps: it is a plan so far, but that a transform that nothing has taken yet sends nowhere.
use Rattle.std.specs.Prelude.{◌≡◌, ◌≤◌, ◌<◌, ◌+◌, ℕ, cond, Bool, true, false, List, length, Option, Some, None, is_some, slice_get}
use Rattle.std.specs.List.{count_by, sum_by}
use Rattle.sb_pipeline.specs.declared.transform.Down.{Down}
use Rattle.sb_pipeline.specs.declared.transform.Kind.{Kind}
use Rattle.sb_pipeline.specs.Operators.{lanes_of, operator_of}
use Rattle.sb_pipeline.specs.Plans.{IsValidKind, is_join}
use Rattle.sb_pipeline.specs.Shapes.{is_same_place}
use Rattle.sb_plan.specs.declared.entry.Entry.{Entry}
use Rattle.sb_plan.specs.declared.wiring.Part.{Part}
use Rattle.sb_plan.specs.declared.wiring.Wiring.{Wiring}
use Rattle.sb_plan.specs.declared.words.KindName.{KindName}
use Rattle.sb_plan.specs.declared.words.KindName.TheVariants as kind

-- whether the kind is that of joins
abbrev pub names_join : KindName → Bool
names_join kind.Join = true
names_join _ = false

-- a transform of this kind, which a plan may have
abbrev pub IsOfKind : KindName → Kind → Type 0
IsOfKind name transform = IsValidKind transform × (is_join transform ≡ names_join name)

-- an entry whose transform a plan may have, with a right input just if it is a join
abbrev pub IsValidEntry : Entry → Type 0
IsValidEntry entry = IsValidKind entry.kind × (is_some entry.right ≡ is_join entry.kind)

-- how many lanes there are, if there is such a transform
abbrev pub lanes_in : Option Part → ℕ
lanes_in None = 0
lanes_in (Some part) = lanes_of (operator_of part.kind)

-- a lane of one of the transforms
abbrev pub IsLane : List Part → Down → Type 0
IsLane parts place = place.lane < lanes_in (slice_get parts place.node)

-- 1 if it goes to the place, and else 0
abbrev pub goes : Down → Option Down → ℕ
goes place None = 0
goes place (Some down) = cond (is_same_place place down) 1 0

-- how many transforms and streams go to the place
abbrev pub feed_count : Wiring → Down → ℕ
feed_count wiring place =
    sum_by (λ part. goes place part.down) wiring.parts + (goes place wiring.source_a + goes place wiring.source_b)

-- each transform may be in a plan, and what goes anywhere goes to a lane of a later transform; each lane is fed once
pub record IsSound (wiring : Wiring) : Type 0 where
  pub kinds : (k : ℕ) (part : Part) → slice_get wiring.parts k ≡ Some part → IsValidKind part.kind
  pub joins : count_by (λ part. is_join part.kind) wiring.parts ≤ 1
  pub downs : (k : ℕ) (part : Part) (down : Down)
      → slice_get wiring.parts k ≡ Some part → part.down ≡ Some down → (k < down.node) × IsLane wiring.parts down
  pub source_a : (down : Down) → wiring.source_a ≡ Some down → IsLane wiring.parts down
  pub source_b : (down : Down) → wiring.source_b ≡ Some down → IsLane wiring.parts down
  pub fed_once : (place : Down) → IsLane wiring.parts place → feed_count wiring place ≡ 1
  pub none_beyond : (place : Down) → length wiring.parts ≤ place.node → feed_count wiring place ≡ 0
