-- What is gathered of a text before it is written.
use Rattle.std.specs.Prelude.{◌≡◌, ℕ, List, ◌++◌, Option, Result, Ok, Err}
use Rattle.std.specs.Io.KnownBytes.{Appends}
use Rattle.sb_feed.specs.outside.Sinks.{AppendsPrefix}

-- the front of what was gathered moves to a sink, or at a fault a prefix of it
abbrev pub Moves : {T E : Type 0} → Option (List ℕ) → Option (List ℕ) → List ℕ → List ℕ → Result T E → Type 0
Moves taken taken' gathered gathered' (Ok x) =
    (written : List ℕ) × Appends taken taken' written × (gathered ≡ written ++ gathered')
Moves taken taken' gathered gathered' (Err e) = AppendsPrefix taken taken' gathered
