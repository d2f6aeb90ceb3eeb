-- What keeps a text from being a plan.
use Rattle.std.specs.Prelude.{ℕ, List, Option, Some, None, Result, Ok, Err}

-- a test that fails, or a file that is not there
pub data Failure (E : Type 0) : Type 0 where
  Fails : (what : E) → Failure E
  NoFile : Failure E

-- the fault stands for each of another kind
abbrev pub in_place_of : {A E F : Type 0} → (F → E) → Result A F → Result A E
in_place_of fault (Ok x) = Ok x
in_place_of fault (Err f) = Err (fault f)

-- tests of a text alone
abbrev pub by_text : {A E : Type 0} → Result A E → Result A (Failure E)
by_text tests = in_place_of (λ what. Fails what) tests

-- what a file gives, which has to be there
abbrev pub in_file : {A E : Type 0} → (List ℕ → Result A (Failure E)) → Option (List ℕ) → Result A (Failure E)
in_file read None = Err NoFile
in_file read (Some bytes) = read bytes
