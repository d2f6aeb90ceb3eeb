-- A worked diary: three records through one sum and the sink, in bundles of one record, and lines that may not follow.
use Rattle.std.specs.Prelude.{◌≡◌, ℕ, List, [], ◌∷◌, ◌++◌, None}
use Rattle.sb_diary.specs.declared.event.DiaryEvent.{DiaryEvent}
use Rattle.sb_diary.specs.declared.event.DiaryEvent.TheVariants.{Arrive, Seal, Take, Finish, Begin, End}
use Rattle.sb_diary.specs.Legal.{audit_of, IsLegal, IsSettled}

-- the lines of the sum: two bundles before the watermark 10, and one before the last watermark
abbrev pub sum_lines : List DiaryEvent
sum_lines =
    Arrive 0 0 1 1 ∷ Take 0 1 ∷ Finish 0 1 0 ∷ Arrive 0 0 2 1 ∷ Take 0 2 ∷ Finish 0 2 0
    ∷ Seal 0 0 10 ∷ Begin 0 0 10 1 ∷ End 0 0
    ∷ Arrive 0 1 3 1 ∷ Take 0 3 ∷ Finish 0 3 0
    ∷ Seal 0 1 2000000000000000 ∷ Begin 0 1 2000000000000000 1 ∷ End 0 1 ∷ []

-- the lines of the sink: one row of each closing of the sum
abbrev pub sink_lines : List DiaryEvent
sink_lines =
    Arrive 0 0 1 1 ∷ Seal 0 0 10 ∷ Take 0 1 ∷ Finish 0 1 0 ∷ Begin 0 0 10 1 ∷ End 0 0
    ∷ Arrive 0 1 2 1 ∷ Seal 0 1 2000000000000000
    ∷ Take 0 2 ∷ Finish 0 2 0 ∷ Begin 0 1 2000000000000000 1 ∷ End 0 1 ∷ []

-- both are legal and settled
pub record WorkedIsSettled : Type 0 where
  pub sum_is_legal : IsLegal 1 sum_lines
  pub sum_is_settled : IsSettled 1 sum_lines
  pub sink_is_legal : IsLegal 1 sink_lines
  pub sink_is_settled : IsSettled 1 sink_lines

-- of a node with so many lanes: after these lines, which are legal, this line is not
pub record IsRefusedAfter (lanes : ℕ) (before : List DiaryEvent) (line : DiaryEvent) : Type 0 where
  pub legal : IsLegal lanes before
  pub refused : audit_of lanes (before ++ line ∷ []) ≡ None

-- two lanes, of which the first has closed the epoch of mark 10; the second is sealed with 20
abbrev pub join_lines : List DiaryEvent
join_lines = Seal 0 0 10 ∷ Seal 1 0 20 ∷ Begin 0 0 0 0 ∷ End 0 0 ∷ []

-- lines that are refused
pub record WrongLinesAreRefused : Type 0 where
  -- a number is left out; a bundle of an epoch that is sealed; a bundle without a record
  pub number_left_out : IsRefusedAfter 1 [] (Arrive 0 0 2 1)
  pub arrives_too_late : IsRefusedAfter 1 (Seal 0 0 10 ∷ []) (Arrive 0 0 1 1)
  pub arrives_empty : IsRefusedAfter 1 [] (Arrive 0 0 1 0)
  -- a mark below the last one
  pub mark_falls : IsRefusedAfter 1 (Seal 0 0 10 ∷ []) (Seal 0 1 9)
  -- a bundle is taken, or finished, twice
  pub taken_twice : IsRefusedAfter 1 (Arrive 0 0 1 1 ∷ Take 0 1 ∷ []) (Take 0 1)
  pub finished_twice : IsRefusedAfter 1 (Arrive 0 0 1 1 ∷ Take 0 1 ∷ Finish 0 1 0 ∷ []) (Finish 0 1 0)
  -- a closing begins while a bundle waits, or is out; of an epoch that is not the oldest; while another has not ended
  pub begins_while_one_waits : IsRefusedAfter 1 (Arrive 0 0 1 1 ∷ Seal 0 0 10 ∷ []) (Begin 0 0 10 1)
  pub begins_while_one_is_out : IsRefusedAfter 1 (Arrive 0 0 1 1 ∷ Take 0 1 ∷ Seal 0 0 10 ∷ []) (Begin 0 0 10 1)
  pub begins_a_newer_epoch : IsRefusedAfter 1 (Seal 0 0 10 ∷ Seal 0 1 20 ∷ []) (Begin 0 1 20 0)
  pub begins_a_second : IsRefusedAfter 2 (Seal 0 0 10 ∷ Seal 1 0 20 ∷ Begin 0 0 0 0 ∷ []) (Begin 1 0 10 0)
  -- a join passes the smaller of its two marks, not the greater
  pub joins_by_the_smaller : IsLegal 2 (join_lines ++ Begin 1 0 10 0 ∷ [])
  pub joins_by_the_greater : IsRefusedAfter 2 join_lines (Begin 1 0 20 0)
