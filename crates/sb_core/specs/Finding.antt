-- Where the first element is that passes, and what is held there.
use Rattle.std.specs.Prelude.{◌≡◌, ◌<◌, ℕ, Bool, List, length, remove, slice_get, Option, Some, None}
use Rattle.sb_containers.specs.base.records.declared.item.Record.{Record}
use Rattle.sb_core.specs.declared.held.Held.{Held}
use Rattle.sb_core.specs.declared.held.Held.TheVariants.{Work, Close}
use Rattle.sb_containers.specs.Choices.{first_and_rest}
use Rattle.sb_core.specs.Moments.{is_work, is_close, is_close_of}

-- the first element that passes is at the place; or none passes
abbrev pub IsFirst : {X : Type 0} → (X → Bool) → List X → Option ℕ → Type 0
IsFirst {X} p xs (Some i) =
    (x : X) × (i < length xs) × (slice_get xs i ≡ Some x) × (first_and_rest p xs ≡ Some (x, remove xs i))
IsFirst p xs None = first_and_rest p xs ≡ None

-- the bundle of the number is held, at the place
pub record IsWorkAt (k l n : ℕ) (held : List Held) (place epoch floor : ℕ) (records : List Record)
    (delivered : Bool) : Type 0 where
  pub within : place < length held
  pub there : slice_get held place ≡ Some (Work k l epoch floor n records delivered)
  pub found : first_and_rest (is_work k l n) held ≡ Some (Work k l epoch floor n records delivered, remove held place)

-- the closing of the node is held, at the place
pub record IsCloseAt (k : ℕ) (held : List Held) (place l epoch serial floor mark : ℕ) (rows : List Record)
    (passed : Bool) : Type 0 where
  pub within : place < length held
  pub there : slice_get held place ≡ Some (Close k l epoch serial floor mark rows passed)
  pub found : first_and_rest (is_close k) held ≡ Some (Close k l epoch serial floor mark rows passed, remove held place)

-- the closing of the node and lane is held, at the place
pub record IsCloseOfAt (k l : ℕ) (held : List Held) (place epoch serial floor mark : ℕ) (rows : List Record)
    (passed : Bool) : Type 0 where
  pub within : place < length held
  pub there : slice_get held place ≡ Some (Close k l epoch serial floor mark rows passed)
  pub found : first_and_rest (is_close_of k l) held
      ≡ Some (Close k l epoch serial floor mark rows passed, remove held place)
