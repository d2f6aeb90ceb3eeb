-- The text of the worked diary.
use Rattle.std.specs.Prelude.{◌≡◌, ℕ, List, [], ◌∷◌, ◌++◌, codes, flat_map}
use Rattle.sb_diary.specs.Texts.{diary_text}
use Rattle.sb_diary.specs.Worked.{sum_lines, sink_lines}

-- the bytes of a text, each line of which ends by a line feed
abbrev pub worked_text : List ℕ
worked_text =
    flat_map (λ line. line ++ 10 ∷ [])
    (codes "transform 0 1" ∷ codes "arrive 0 0 1 1" ∷ codes "take 0 1" ∷ codes "finish 0 1 0"
    ∷ codes "arrive 0 0 2 1" ∷ codes "take 0 2" ∷ codes "finish 0 2 0"
    ∷ codes "seal 0 0 10" ∷ codes "begin 0 0 10 1" ∷ codes "end 0 0"
    ∷ codes "arrive 0 1 3 1" ∷ codes "take 0 3" ∷ codes "finish 0 3 0"
    ∷ codes "seal 0 1 2000000000000000" ∷ codes "begin 0 1 2000000000000000 1" ∷ codes "end 0 1"
    ∷ codes "transform 1 1" ∷ codes "arrive 0 0 1 1" ∷ codes "seal 0 0 10" ∷ codes "take 0 1" ∷ codes "finish 0 1 0"
    ∷ codes "begin 0 0 10 1" ∷ codes "end 0 0"
    ∷ codes "arrive 0 1 2 1" ∷ codes "seal 0 1 2000000000000000" ∷ codes "take 0 2" ∷ codes "finish 0 2 0"
    ∷ codes "begin 0 1 2000000000000000 1" ∷ codes "end 0 1" ∷ [])

-- the sum and the sink have one lane each
abbrev pub WorkedIsSpelled : Type 0
WorkedIsSpelled =
    diary_text (record { lanes = 1; events = sum_lines } ∷ record { lanes = 1; events = sink_lines } ∷ []) ≡ worked_text
