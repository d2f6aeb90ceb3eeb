-- What the lines of a diary say, one list for each question. Each list joins what single lines say.
use Rattle.std.specs.Prelude.{ℕ, ◌-◌, ◌==◌, if◌then◌else◌, List, [], ◌∷◌, slice_index_or, sum_by}
use Rattle.std.specs.List.{flat_map}
use Rattle.sb_diary.specs.declared.event.DiaryEvent.{DiaryEvent}
use Rattle.sb_diary.specs.declared.event.DiaryEvent.TheVariants.{Arrive, Seal, Finish, Begin, End}

-- a bundle's epoch and length
pub record Sized : Type 0 where
  pub epoch : ℕ
  pub length : ℕ

-- a finished bundle's number, and how many records it gave below
pub record Finished : Type 0 where
  pub number : ℕ
  pub length : ℕ

-- a closing's mark, and how many rows it gives
pub record Started : Type 0 where
  pub mark : ℕ
  pub rows : ℕ

-- the bundle that a line says came into lane l
abbrev pub arrive_in : ℕ → DiaryEvent → List Sized
arrive_in l (Arrive lane epoch number length) = if lane == l then record { epoch = epoch; length = length } ∷ [] else []
arrive_in l event = []

-- the mark that it says sealed an epoch of lane l
abbrev pub seal_in : ℕ → DiaryEvent → List ℕ
seal_in l (Seal lane epoch mark) = if lane == l then mark ∷ [] else []
seal_in l event = []

-- the epoch of lane l that it says ended
abbrev pub end_in : ℕ → DiaryEvent → List ℕ
end_in l (End lane epoch) = if lane == l then epoch ∷ [] else []
end_in l event = []

-- the bundle of lane l that it says was finished
abbrev pub finish_in : ℕ → DiaryEvent → List Finished
finish_in l (Finish lane number length) = if lane == l then record { number = number; length = length } ∷ [] else []
finish_in l event = []

-- the closing that it says began
abbrev pub begin_of : DiaryEvent → List Started
begin_of (Begin lane epoch mark rows) = record { mark = mark; rows = rows } ∷ []
begin_of event = []

-- the bundles that came into a lane, in order
abbrev pub arrivals : ℕ → List DiaryEvent → List Sized
arrivals l diary = flat_map (arrive_in l) diary

-- the marks that sealed its epochs, in order
abbrev pub seals : ℕ → List DiaryEvent → List ℕ
seals l diary = flat_map (seal_in l) diary

-- its epochs that ended, in order
abbrev pub ends : ℕ → List DiaryEvent → List ℕ
ends l diary = flat_map (end_in l) diary

-- its bundles that were finished, in order
abbrev pub finishes : ℕ → List DiaryEvent → List Finished
finishes l diary = flat_map (finish_in l) diary

-- the closings that began, of whatever lane, in order
abbrev pub begins : List DiaryEvent → List Started
begins diary = flat_map begin_of diary

-- what stands for a bundle that never came
abbrev pub nothing : Sized
nothing = record { epoch = 0; length = 0 }

-- what a bundle of an epoch gives below: one bundle of that epoch, or none if it has no record
abbrev pub sized_bundles : ℕ → ℕ → List Sized
sized_bundles epoch length = if length == 0 then [] else record { epoch = epoch; length = length } ∷ []

-- what a finished bundle gave below, in the epoch in which it came: bundle n is the n-th that came
abbrev pub bundles_given : List Sized → Finished → List Sized
bundles_given came f = sized_bundles (slice_index_or came (f.number - 1) nothing).epoch f.length

-- what all finished bundles of a lane gave below
abbrev pub all_bundles_given : ℕ → List DiaryEvent → List Sized
all_bundles_given l diary = flat_map (bundles_given (arrivals l diary)) (finishes l diary)

-- how many records these bundles have
abbrev pub records_in : List Sized → ℕ
records_in came = sum_by (λ b. b.length) came
