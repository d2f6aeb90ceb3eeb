-- The laws of a grouping, over what it would give if these elements were absorbed and everything was closed.
use Rattle.std.specs.Prelude.{◌≡◌, ℕ, ◌≤◌, ◌<◌, List, ◌++◌}
use Rattle.std.specs.List.{AllByRecursion}
use Rattle.sb_record.specs.declared.element.KeptRec.{KeptRec}
use Rattle.sb_record.specs.declared.item.Record.{Record}
use Rattle.sb_record.specs.Records.{sorted_records}
use Rattle.sb_record.specs.Reorderings.{IsReordered}

-- no time of the elements is below the mark
abbrev pub IsFrom : ℕ → List KeptRec → Type 0
IsFrom mark es = AllByRecursion (λ e. mark ≤ e.rec.time) es

-- later gives what gives did with the elements es more
abbrev pub Adds : ℕ → (List KeptRec → List Record) → (List KeptRec → List Record) → List KeptRec → Type 0
Adds closed gives later es = (l : List KeptRec) → IsFrom closed l → IsReordered (later l) (gives (es ++ l))

-- a closing at a mark: the rows come out in order, all below the mark, and later gives the rest, from the mark on
pub record Closes (mark : ℕ) (gives : List KeptRec → List Record) (rows : List Record)
    (later : List KeptRec → List Record) : Type 0 where
  pub in_order : rows ≡ sorted_records rows
  pub low : AllByRecursion (λ r. r.time < mark) rows
  pub same : (l : List KeptRec) → IsFrom mark l → IsReordered (gives l) (rows ++ later l)
  pub high : (l : List KeptRec) → IsFrom mark l → AllByRecursion (λ r. mark ≤ r.time) (later l)
