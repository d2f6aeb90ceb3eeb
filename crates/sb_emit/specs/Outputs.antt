-- What an output has taken behind a call.
use Rattle.std.specs.Prelude.{◌<◌, List, Result, Ok, Err}
use Rattle.std.specs.List.{AllByRecursion}
use Rattle.sb_record.specs.declared.item.Record.{Record}

-- each of the later rows has a later time than each of the earlier
abbrev pub AreApart : List Record → List Record → Type 0
AreApart earlier later = AllByRecursion (λ r. AllByRecursion (λ s. r.time < s.time) later) earlier

-- all of the rows were taken, or at a fault a part of them
abbrev pub TakesRows : {O T E : Type 0} → (O → List Record → O → Type 0) → (O → List Record → O → Type 0)
    → O → List Record → O → Result T E → Type 0
TakesRows after part o l p (Ok x) = after o l p
TakesRows after part o l p (Err e) = part o l p
