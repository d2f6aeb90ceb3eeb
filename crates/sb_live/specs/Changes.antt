-- Lists of changes: the calls that showed rows, one after another.
use Rattle.std.specs.Prelude.{◌≡◌, ◌⊎◌, List, [], ◌∷◌, ◌++◌, map}
use Rattle.sb_emit.specs.records.declared.item.Record.{Record}
use Rattle.sb_emit.specs.Outputs.{AreApart}
use Rattle.sb_live.specs.declared.change.Change.{Change}
use Rattle.sb_live.specs.declared.change.Change.TheVariants.{Row, End}

-- the changes begin with those of the front
abbrev pub IsPrefix : List Change → List Change → Type 0
IsPrefix front changes = (rest : List Change) × (front ++ rest ≡ changes)

-- no call's rows stand in it without its end
abbrev pub IsWhole : List Change → Type 0
IsWhole changes = (changes ≡ []) ⊎ ((before : List Change) × (changes ≡ before ++ End ∷ []))

-- what a call that shows these rows adds
abbrev pub call_of : List Record → List Change
call_of rows = map Row rows ++ End ∷ []

-- the rows that were shown, in order
abbrev pub rows_in : List Change → List Record
rows_in [] = []
rows_in (Row r ∷ changes) = r ∷ rows_in changes
rows_in (End ∷ changes) = rows_in changes

-- the rows behind the end of a call are all later than those before it: no two calls have rows of one time
abbrev pub AreCallsApart : List Change → Type 0
AreCallsApart changes =
    (before later : List Change) → changes ≡ before ++ End ∷ later → AreApart (rows_in before) (rows_in later)
