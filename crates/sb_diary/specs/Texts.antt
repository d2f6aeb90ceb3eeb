-- The text of a diary: a head line for each node, and the lines of its events behind it.
use Rattle.std.specs.Prelude.{◌≡◌, ℕ, ◌+◌, ◌<◌, ◌≤◌, ◌^◌, List, [], ◌∷◌, ◌++◌, map, flat_map, codes, decimal}
use Rattle.std.specs.List.{AllByRecursion}
use Rattle.sb_diary.specs.declared.event.DiaryEvent.{DiaryEvent}
use Rattle.sb_diary.specs.declared.event.DiaryEvent.TheVariants.{Arrive, Seal, Take, Finish, Begin, End}
use Rattle.sb_diary.specs.declared.text.DiaryLine.{DiaryLine}
use Rattle.sb_diary.specs.declared.text.DiaryLine.TheVariants.{Head, Event}

-- the word that an event's line begins with
abbrev pub event_word : DiaryEvent → List ℕ
event_word (Arrive lane epoch number length) = codes "arrive"
event_word (Seal lane epoch mark) = codes "seal"
event_word (Take lane number) = codes "take"
event_word (Finish lane number length) = codes "finish"
event_word (Begin lane epoch mark rows) = codes "begin"
event_word (End lane epoch) = codes "end"

-- the word that a line begins with
abbrev pub word_of : DiaryLine → List ℕ
word_of (Head node lanes) = codes "transform"
word_of (Event e) = event_word e

-- the numbers of an event's line, in order
abbrev pub event_numbers : DiaryEvent → List ℕ
event_numbers (Arrive lane epoch number length) = lane ∷ epoch ∷ number ∷ length ∷ []
event_numbers (Seal lane epoch mark) = lane ∷ epoch ∷ mark ∷ []
event_numbers (Take lane number) = lane ∷ number ∷ []
event_numbers (Finish lane number length) = lane ∷ number ∷ length ∷ []
event_numbers (Begin lane epoch mark rows) = lane ∷ epoch ∷ mark ∷ rows ∷ []
event_numbers (End lane epoch) = lane ∷ epoch ∷ []

-- the numbers of a line, in order
abbrev pub numbers_of : DiaryLine → List ℕ
numbers_of (Head node lanes) = node ∷ lanes ∷ []
numbers_of (Event e) = event_numbers e

-- numbers in decimal, each behind a space
abbrev pub spaced_text : List ℕ → List ℕ
spaced_text numbers = flat_map (λ n. 32 ∷ decimal n) numbers

-- the text of a line, without its line end: its word and its numbers
abbrev pub text_of : DiaryLine → List ℕ
text_of line = word_of line ++ spaced_text (numbers_of line)

-- the first number of a line, a lane or a node, is below 2^32, and the others below 2^64
abbrev pub AreInRange : List ℕ → Type 0
AreInRange [] = Unit {0}
AreInRange (n ∷ ns) = (n < 2 ^ 32) × AllByRecursion (λ k. k < 2 ^ 64) ns

-- a node has one lane or two
abbrev pub HasLanes : DiaryLine → Type 0
HasLanes (Head node lanes) = (1 ≤ lanes) × (lanes ≤ 2)
HasLanes (Event e) = Unit {0}

-- what a line of a diary can say
abbrev pub IsLine : DiaryLine → Type 0
IsLine line = AreInRange (numbers_of line) × HasLanes line

-- the diary of a node: its number of lanes and its events
pub record NodeDiary : Type 0 where
  pub lanes : ℕ
  pub events : List DiaryEvent

-- the lines of the diaries of the nodes from this number on
abbrev pub lines_from : ℕ → List NodeDiary → List DiaryLine
lines_from node [] = []
lines_from node (d ∷ diaries) = Head node d.lanes ∷ map Event d.events ++ lines_from (node + 1) diaries

-- the text of the diaries of all nodes, which are numbered from 0: each line ends by a line feed
abbrev pub diary_text : List NodeDiary → List ℕ
diary_text diaries = flat_map (λ line. text_of line ++ 10 ∷ []) (lines_from 0 diaries)

-- lines that differ have texts that differ
abbrev pub LinesAreToldApart : Type 0
LinesAreToldApart = (l m : DiaryLine) → IsLine l → IsLine m → text_of l ≡ text_of m → l ≡ m
