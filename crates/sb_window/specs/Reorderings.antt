-- Functions of values that do not depend on their order.
use Rattle.std.specs.Prelude.{◌≡◌, ℤ, List}
use Rattle.sb_record.specs.Reorderings.{IsReordered}

-- the function gives the same of values in another order
abbrev pub IgnoresOrder : (List ℤ → List ℤ) → Type 0
IgnoresOrder values = (vs ws : List ℤ) → IsReordered vs ws → values vs ≡ values ws
