-- The sink between closings: what it keeps, and what it would give.
use Rattle.std.specs.Prelude.{◌≡◌, ℕ, Bool, true, false, List, [], ◌++◌}
use Rattle.std.proofs.Common.{refl}
use Rattle.sb_window.specs.records.declared.element.KeptRec.{KeptRec}
use Rattle.sb_window.specs.records.declared.item.Record.{Record}
use Rattle.sb_window.specs.records.Elements.{all_records}
use Rattle.sb_window.specs.records.Reorderings.{IsReordered}
use Rattle.sb_window.specs.SumLemmas.{IsReordered-append, IsReordered-map}

-- the records that are kept, the mark of the last closing, and whether no memory was found
pub record SinkState : Type 0 where
  pub kept : List Record
  pub closed : ℕ
  pub is_spent : Bool

-- a sink that has taken nothing
abbrev pub fresh : SinkState
fresh = record { kept = []; closed = 0; is_spent = false }

-- no memory was found
abbrev pub IsSpent : SinkState → Type 0
IsSpent s = s.is_spent ≡ true

-- the rows of what is kept and of these elements
abbrev pub gives : SinkState → List KeptRec → List Record
gives s l = s.kept ++ all_records l

-- the elements are these records, in any order
abbrev pub StandsFor : List Record → List KeptRec → Type 0
StandsFor records es = IsReordered (all_records es) records

-- elements in another order give the same rows
pub gives-orderless : (s : SinkState) (l m : List KeptRec) → IsReordered l m → IsReordered (gives s l) (gives s m)
gives-orderless s l m h =
    IsReordered-append s.kept s.kept (all_records l) (all_records m) (λ f. refl)
    (IsReordered-map (λ e. e.rec) l m h)
