-- What each operator does with a bundle, and at a closing.
use Rattle.std.specs.Prelude.{ℕ, nat_lt, Bool, true, false, not, List, [], filter}
use Rattle.std.specs.List.{flat_map, list_any}
use Rattle.sb_containers.specs.base.records.declared.item.Record.{Record}
use Rattle.sb_containers.specs.base.records.Records.{sorted_records, before, at_least}
use Rattle.sb_containers.specs.base.window.Windows.{window_ends}
use Rattle.sb_containers.specs.base.pardo.Outputs.{outputs_of}
use Rattle.sb_containers.specs.base.windowed.Sessions.{is_session_open}
use Rattle.sb_containers.specs.base.records.declared.element.KeptRec.{KeptRec}
use Rattle.sb_containers.specs.base.records.Elements.{all_records}
use Rattle.sb_containers.specs.base.pipeline.Operators.{Operator, WindowOperator, operator_rows}
use Rattle.sb_containers.specs.base.pipeline.Operators.Operator.{ParDo, Windowed, Sink}
use Rattle.sb_containers.specs.base.pipeline.Operators.WindowOperator.{Aggregated, Sessions, Joined}

abbrev pub is_pardo : Operator → Bool
is_pardo (ParDo op) = true
is_pardo (Windowed grouping) = false
is_pardo Sink = false

abbrev pub is_sink : Operator → Bool
is_sink (ParDo op) = false
is_sink (Windowed grouping) = false
is_sink Sink = true

-- what a bundle gives below: only a ParDo gives its output before a closing
abbrev pub delivery : Operator → List Record → List Record
delivery (ParDo op) records = flat_map (outputs_of op) records
delivery (Windowed grouping) records = []
delivery Sink records = []

-- what a node keeps of a finished bundle
abbrev pub kept_elements : Operator → List KeptRec → List KeptRec
kept_elements (ParDo op) elements = []
kept_elements (Windowed grouping) elements = elements
kept_elements Sink elements = elements

-- whether an element is open at a mark: it has a window with an end above the mark, or its session among these elements
-- ends above it
abbrev pub is_open : WindowOperator → ℕ → List KeptRec → KeptRec → Bool
is_open (Aggregated agg windows) mark elements e = list_any (λ end. nat_lt mark end) (window_ends windows e.rec.time)
is_open (Sessions agg gap) mark elements e = is_session_open gap mark (all_records elements) e.rec
is_open (Joined combine windows) mark elements e = list_any (λ end. nat_lt mark end) (window_ends windows e.rec.time)

-- the elements that are open at the mark, among themselves
abbrev pub still_open : WindowOperator → ℕ → List KeptRec → List KeptRec
still_open grouping mark elements = filter (is_open grouping mark elements) elements

-- what stays kept when a mark closes
abbrev pub kept_at : Operator → ℕ → List KeptRec → List KeptRec
kept_at (ParDo op) mark elements = elements
kept_at (Windowed grouping) mark elements = still_open grouping mark elements
kept_at Sink mark elements = filter (λ e. not (nat_lt e.rec.time mark)) elements

-- the rows of a closing: those of the windows, or sessions, with an end above the floor and at most the mark, so with a
-- time from the floor on and below the mark
abbrev pub rows_at : Operator → ℕ → ℕ → List KeptRec → List Record
rows_at (ParDo op) floor mark elements = []
rows_at (Windowed grouping) floor mark elements =
    sorted_records (before mark (at_least floor (operator_rows grouping elements)))
rows_at Sink floor mark elements = []

-- what a closing of the sink adds to the rows
abbrev pub rows_at_sink : Operator → ℕ → List KeptRec → List Record
rows_at_sink (ParDo op) mark elements = []
rows_at_sink (Windowed grouping) mark elements = []
rows_at_sink Sink mark elements = sorted_records (before mark (all_records elements))
