-- The laws of diaries.
use Rattle.std.specs.Prelude.{◌≡◌, ℕ, ◌≤◌, List, [], ◌∷◌, ◌++◌, length}
use Rattle.std.specs.List.{AllByRecursion}
use Rattle.sb_record.specs.Reading.{◌>>=◌}
use Rattle.sb_diary.specs.declared.event.DiaryEvent.{DiaryEvent}
use Rattle.sb_diary.specs.Lines.{Finished, arrivals, finishes}
use Rattle.sb_diary.specs.Legal.{after_line, audit_of, IsLegal}

-- a line more is legal exactly if it is so after what the lines before it say
abbrev pub LegalLineByLine : Type 0
LegalLineByLine =
    (lanes : ℕ) (diary : List DiaryEvent) (line : DiaryEvent)
    → audit_of lanes (diary ++ line ∷ []) ≡ (audit_of lanes diary >>= λ a. after_line a line)

-- the number of a finished bundle is one of the first n
abbrev pub IsOneOf : ℕ → Finished → Type 0
IsOneOf n f = (1 ≤ f.number) × (f.number ≤ n)

-- the bundles that a legal diary says were finished in a lane are of those that came into it
abbrev pub FinishedOnesCame : Type 0
FinishedOnesCame =
    (lanes : ℕ) (diary : List DiaryEvent) → IsLegal lanes diary → (l : ℕ)
    → AllByRecursion (IsOneOf (length (arrivals l diary))) (finishes l diary)
