-- The laws that resuming rests on.
use Rattle.std.specs.Prelude.{◌≡◌, ◌≤◌, ◌⊎◌, ℕ, Bool, false, List, [], ◌∷◌, ◌++◌, map, length, All, None}
use Rattle.sb_pipeline.specs.records.declared.item.Item.{Item}
use Rattle.sb_pipeline.specs.records.declared.item.Record.{Record}
use Rattle.sb_pipeline.specs.records.declared.item.Stream.{Stream}
use Rattle.sb_pipeline.specs.records.declared.item.Streams.{Streams}
use Rattle.sb_pipeline.specs.records.declared.intake.LatePolicy.{LatePolicy}
use Rattle.sb_pipeline.specs.records.declared.key.Keys.{Keys}
use Rattle.sb_pipeline.specs.records.Inputs.{Accepted, accepted, accepted_after, progress_of}
use Rattle.sb_pipeline.specs.records.Progress.{Progress}
use Rattle.sb_pipeline.specs.records.Records.{before, at_least}
use Rattle.sb_pipeline.specs.records.Streams.{dropped_of}
use Rattle.sb_outside.specs.Lines.{line_feed, lines}
use Rattle.sb_pipeline.specs.Results.{output_of, rows_below}
use Rattle.sb_pipeline.specs.Shapes.{Shape, streams_of}
use Rattle.sb_checkpoint.specs.Reach.{HasNoSession, reach, within}
use Rattle.sb_checkpoint.specs.Texts.{item_text, items_text, head_text, end_text, checkpoint_text, pieces, IsRead, IsFaultAt}
use Rattle.sb_checkpoint.specs.Checkpoints.{low_of, streams_in, saved_items, with_comments, resumed_items}

-- streams with the same records from the plan's reach before w on give the same rows from w on
abbrev pub LaterRowsDependOnRecordsWithinReach : Type 0
LaterRowsDependOnRecordsWithinReach =
    (plan : Shape) → HasNoSession plan → (w : ℕ) (f g : Stream → List Record)
    → ((s : Stream) → within (reach plan) w (f s) ≡ within (reach plan) w (g s))
    → at_least w (output_of plan f) ≡ at_least w (output_of plan g)

-- streams with the same records before w give the same rows before w
abbrev pub EarlierRowsDependOnEarlierRecords : Type 0
EarlierRowsDependOnEarlierRecords =
    (plan : Shape) → HasNoSession plan → (w : ℕ) (f g : Stream → List Record)
    → ((s : Stream) → before w (f s) ≡ before w (g s)) → before w (output_of plan f) ≡ before w (output_of plan g)

-- the rows of the items from time w on
abbrev pub rows_from : ℕ → Shape → List Item → List Record
rows_from w plan items = at_least w (output_of plan (streams_in items))

-- no record that the checkpoint leaves out is part of a row from the low watermark on, whatever comes later
abbrev pub KeptRecordsGiveTheLaterRows : Type 0
KeptRecordsGiveTheLaterRows =
    (plan : Shape) → HasNoSession plan → (items more : List Item)
    → rows_from (low_of plan items) plan (items ++ more)
    ≡ rows_from (low_of plan items) plan (resumed_items plan items ++ more)

-- the rows of the whole below w are those of the first part below its low watermark, and then those that a run resumed
-- behind that part gives from that watermark on
abbrev pub GivesTheRest : Shape → ℕ → List Item → List Item → List Item → Type 0
GivesTheRest plan w part whole resumed =
    rows_below w plan (streams_in whole)
    ≡ rows_below (low_of plan part) plan (streams_in part)
    ++ at_least (low_of plan part) (rows_below w plan (streams_in resumed))

-- so it is where no later record is below the low watermark of the first part
abbrev pub ResumedRowsAreTheRest : Type 0
ResumedRowsAreTheRest =
    (plan : Shape) → HasNoSession plan → (w : ℕ) (items more : List Item) → low_of plan items ≤ w
    → ((s : Stream) → All (λ r. low_of plan items ≤ r.time) (streams_in more s))
    → GivesTheRest plan w items (items ++ more) (resumed_items plan items ++ more)

-- what the items have said to the plan
abbrev pub progress_in : Shape → List Item → Progress
progress_in plan items = progress_of (streams_of plan) plan.late plan.keys items

-- what the plan accepts of an input
abbrev pub accepted_in : Shape → List (List ℕ) → Accepted
accepted_in plan lines = accepted (streams_of plan) plan.late plan.keys lines

-- and of lines that follow these items
abbrev pub accepted_behind : Shape → List Item → List (List ℕ) → Accepted
accepted_behind plan items lines = accepted_after (streams_of plan) plan.late plan.keys items lines

-- lines that follow the items of a first part, where another run goes on by what a checkpoint kept of these: the same
-- line is refused, if any; the marks and the number of lines are the same; what is dropped and what is given is that of
-- the first part, and then that of the resumed run
pub record Resumes (plan : Shape) (part : List Item) (whole resumed : Accepted) : Type 0 where
  pub refused : whole.refused ≡ resumed.refused
  pub marks : progress_in plan whole.items ≡ progress_in plan resumed.items
  pub dropped : dropped_of whole.items ≡ dropped_of part ++ dropped_of resumed.items
  pub later : low_of plan part ≤ low_of plan whole.items
  pub rows : (w : ℕ) → low_of plan part ≤ w → GivesTheRest plan w part whole.items resumed.items

-- a run that goes on by a checkpoint gives the rest, whatever lines follow
abbrev pub ResumedRunsGiveTheRest : Type 0
ResumedRunsGiveTheRest =
    (plan : Shape) → HasNoSession plan → (items : List Item) (lines : List (List ℕ))
    → Resumes plan items (accepted_behind plan items lines) (accepted_behind plan (resumed_items plan items) lines)

-- an input is accepted part by part
abbrev pub InputsAreAcceptedInParts : Type 0
InputsAreAcceptedInParts =
    (streams : Streams) (late : LatePolicy) (keys : Keys) (first rest : List (List ℕ))
    → (accepted streams late keys first).refused ≡ None
    → accepted streams late keys (first ++ rest)
    ≡ accepted_after streams late keys (accepted streams late keys first).items rest

-- the lines that a resumed run reads in place of these
abbrev pub resumed_lines : Shape → List (List ℕ) → List (List ℕ)
resumed_lines plan lines = map item_text (resumed_items plan (accepted_in plan lines).items)

-- they are accepted as what the checkpoint kept, and comments
abbrev pub ResumedLinesAreAccepted : Type 0
ResumedLinesAreAccepted =
    (plan : Shape) (lines : List (List ℕ))
    → accepted_in plan (resumed_lines plan lines)
    ≡ record { items = resumed_items plan (accepted_in plan lines).items; refused = None }

-- a run over the first lines, none of which is refused, and then a run over the lines of what the checkpoint kept of
-- them and the rest, give what one run over all lines gives
abbrev pub CutRunsGiveTheWhole : Type 0
CutRunsGiveTheWhole =
    (plan : Shape) → HasNoSession plan → (first rest : List (List ℕ)) → (accepted_in plan first).refused ≡ None
    → Resumes plan (accepted_in plan first).items
    (accepted_in plan (first ++ rest)) (accepted_in plan (resumed_lines plan first ++ rest))

-- bytes that are empty or end with a line feed
abbrev pub AreWholeLines : List ℕ → Type 0
AreWholeLines bytes = (bytes ≡ []) ⊎ ((before : List ℕ) × (bytes ≡ before ++ line_feed ∷ []))

-- the bytes that a resumed run reads in place of these
abbrev pub resumed_bytes : Shape → List ℕ → List ℕ
resumed_bytes plan bytes = items_text (resumed_items plan (accepted_in plan (lines false bytes)).items)

-- the same of an input of bytes that is cut behind a line, whether it has ended behind the rest or not
abbrev pub CutInputsGiveTheWhole : Type 0
CutInputsGiveTheWhole =
    (plan : Shape) → HasNoSession plan → (first rest : List ℕ) (ended : Bool) → AreWholeLines first
    → (accepted_in plan (lines false first)).refused ≡ None
    → Resumes plan (accepted_in plan (lines false first)).items
    (accepted_in plan (lines ended (first ++ rest))) (accepted_in plan (lines ended (resumed_bytes plan first ++ rest)))

-- what stands between the line feeds of a checkpoint's text
abbrev pub checkpoint_pieces : ℕ → ℕ → List Item → List (List ℕ)
checkpoint_pieces lines low items =
    head_text lines low ∷ (map item_text items ++ (end_text (length items) ∷ [] ∷ []))

-- the lines of a checkpoint are read as what it kept, whatever lines the input had
abbrev pub CheckpointsAreReadBack : Type 0
CheckpointsAreReadBack =
    (plan : Shape) (lines : List (List ℕ)) (items : List Item) → items ≡ (accepted_in plan lines).items
    → IsRead plan (checkpoint_pieces (length items) (low_of plan items) (saved_items plan items))
    (length items) (low_of plan items) (saved_items plan items)

-- the text of a checkpoint is read as what it kept, whatever lines the input had
abbrev pub SavedTextsAreReadBack : Type 0
SavedTextsAreReadBack =
    (plan : Shape) (lines : List (List ℕ)) (items : List Item) → items ≡ (accepted_in plan lines).items
    → IsRead plan (pieces (checkpoint_text (length items) (low_of plan items) (saved_items plan items)))
    (length items) (low_of plan items) (saved_items plan items)

-- the plan accepts the lines, and these items are theirs
abbrev pub Accepts : Shape → List (List ℕ) → List Item → Type 0
Accepts plan lines items = accepted_in plan lines ≡ record { items = items; refused = None }

-- no line is refused that a run reads in place of an input, of which a checkpoint of so many lines was read
abbrev pub ReadItemsAreAccepted : Type 0
ReadItemsAreAccepted =
    (plan : Shape) (parts : List (List ℕ)) (count low : ℕ) (items : List Item) → IsRead plan parts count low items
    → Accepts plan (map item_text (with_comments count items)) (with_comments count items)
    × Accepts plan (lines false (items_text (with_comments count items))) (with_comments count items)

-- the pieces of a text are a checkpoint of one input, or have one first faulty line
pub record IsReadOrFaulty (plan : Shape) (parts : List (List ℕ)) : Type 0 where
  pub either :
      ((lines : ℕ) × (low : ℕ) × (items : List Item) × IsRead plan parts lines low items)
      ⊎ ((line : ℕ) × IsFaultAt plan parts line)
  pub not_both :
      (lines low line : ℕ) (items : List Item) → IsRead plan parts lines low items → IsFaultAt plan parts line → ⊥
  pub one_checkpoint :
      (l m v w : ℕ) (items others : List Item) → IsRead plan parts l v items → IsRead plan parts m w others
      → (l ≡ m) × (v ≡ w) × (items ≡ others)
  pub one_fault : (m n : ℕ) → IsFaultAt plan parts m → IsFaultAt plan parts n → m ≡ n

-- so it is with every text
abbrev pub CheckpointsAreReadOrFaulty : Type 0
CheckpointsAreReadOrFaulty = (plan : Shape) (text : List ℕ) → IsReadOrFaulty plan (pieces text)
