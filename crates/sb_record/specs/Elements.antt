-- Elements: records on the lanes of a node.
use Rattle.std.specs.Prelude.{ℕ, List, ◌==◌, filter, map}
use Rattle.sb_record.specs.declared.item.Record.{Record}
use Rattle.sb_record.specs.declared.element.KeptRec.{KeptRec}

-- the records, on this lane
abbrev pub on_lane : ℕ → List Record → List KeptRec
on_lane lane records = map (λ r. record { lane = lane; rec = r }) records

-- the records of all lanes
abbrev pub all_records : List KeptRec → List Record
all_records elements = map (λ e. e.rec) elements

-- the records of this lane
abbrev pub of_lane : ℕ → List KeptRec → List Record
of_lane lane elements = all_records (filter (λ e. e.lane == lane) elements)
