-- The answer to an input.
use Rattle.std.specs.Prelude.{◌≡◌, ◌⊎◌, ℕ, Bool, true, false, List, [], Option, ⊤}
use Rattle.std.specs.Io.KnownBytes.{Appends, prepend_known}
use Rattle.sb_alone.specs.base.records.declared.intake.Stop.{Stop}
use Rattle.sb_alone.specs.base.records.declared.intake.Stop.TheVariants.{End, Refused, Fault}
use Rattle.sb_alone.specs.base.records.declared.item.Dropped.{Dropped}
use Rattle.sb_alone.specs.base.records.declared.item.Item.{Item}
use Rattle.sb_alone.specs.base.records.declared.item.Record.{Record}
use Rattle.sb_alone.specs.base.records.declared.item.Stream.{Stream}
use Rattle.sb_alone.specs.base.records.declared.item.Stream.TheVariants.{A, B}
use Rattle.sb_alone.specs.base.records.Rows.{text_of}
use Rattle.sb_alone.specs.base.records.Streams.{dropped_of}
use Rattle.sb_alone.specs.base.pipeline.Shapes.{Shape}
use Rattle.sb_alone.specs.outside.Sinks.{AppendsPrefix}
use Rattle.sb_answers.specs.declared.ending.Ending.{Ending}
use Rattle.sb_told.specs.declared.late.LateRecords.{LateRecords}
use Rattle.sb_told.specs.declared.late.LateRecords.TheVariants.{OfInput, OfFiles}
use Rattle.sb_told.specs.declared.status.Status.{Status}
use Rattle.sb_told.specs.declared.status.Status.TheVariants.{Done, Words, Plan, Line, Input, Output, Folder, Memory, Tap, Audit, FileTooLong, FileLine, Checkpoint}
use Rattle.sb_alone.specs.one_feed.Due.{AreFirstDropped, due_rows}
use Rattle.sb_alone.specs.one_feed.Given.{Given, lines_of}
use Rattle.sb_alone.specs.outside.Folders.{Files}
use Rattle.sb_words.specs.Words.{Asked, Asked as ask}
use Rattle.sb_alone.specs.feeds.Files.{IsFirstRefused, NoneRefused, items_of_file, items_of_files}
use Rattle.sb_words.specs.Words.Asked.{Sum, Run, Slow, Work, Watch, Feeds, Part, Save, Resume}
use Rattle.sb_words.specs.declared.options.Options.{Options}
use Rattle.sb_told.specs.DiaryReads.{IsRefusedAmong}
use Rattle.sb_told.specs.Outcomes.{HasPrinted}
use Rattle.sb_told.specs.Statuses.{audit_text}
use Rattle.sb_answers.specs.Told.{TellsDiaries}
use Rattle.sb_alone.specs.diary.Audits.{TextAudit, AreLegalTexts, first_text_audit, end_of}
use Rattle.sb_alone.specs.diary.Texts.{NodeDiary}
use Rattle.sb_checkpoint.specs.Ahead.{AllReadOrNoneOfTheSource}
use Rattle.sb_checkpoint.specs.Checkpoints.{with_comments}
use Rattle.sb_checkpoint.specs.Texts.{items_text}
use Rattle.sb_answers.specs.CheckpointFiles.{GivesCheckpoint, HasFaultyLine, IsTooLong, Said}
use Rattle.sb_answers.specs.Courses.{Course, course_in, rest_course, run_course}
use Rattle.sb_answers.specs.Pipelines.{HasCutPlan, HasPlan, IsCutPlan, IsPlanFor, IsFaultFor, AsksForFile, all_rows, options_in}
use Rattle.sb_answers.specs.RecordFiles.{HasLongFile, HaveBytes}
use Rattle.sb_answers.specs.Summaries.{summary_text, work_rows}

-- a run that ended so, lists these late records, and tells these diaries
abbrev pub ending_with : Status → LateRecords → List NodeDiary → Ending
ending_with status late diaries = record { status = status; late = late; diaries = diaries }

-- the same of a run over one input
abbrev pub ending_of : Status → List Dropped → List NodeDiary → Ending
ending_of status dropped diaries = ending_with status (OfInput dropped) diaries

-- a sink took the text of these rows, and nothing else
abbrev pub Wrote : Option (List ℕ) → Option (List ℕ) → List Record → Type 0
Wrote taken taken' rows = Appends taken taken' (text_of rows)

-- a sink took a prefix of the text of these rows
abbrev pub WrotePrefix : Option (List ℕ) → Option (List ℕ) → List Record → Type 0
WrotePrefix taken taken' rows = AppendsPrefix taken taken' (text_of rows)

-- what was written, by how the run ended: the text that is due if writing went well, else a prefix of the whole
abbrev pub HasWritten : Stop → List ℕ → List ℕ → Option (List ℕ) → Option (List ℕ) → Status → Type 0
HasWritten stop due whole taken taken' Done = (stop ≡ End) × Appends taken taken' due
HasWritten stop due whole taken taken' (Line refusal) = (stop ≡ Refused refusal) × Appends taken taken' due
HasWritten stop due whole taken taken' (FileLine stream refusal) = ⊥
HasWritten stop due whole taken taken' Input = (stop ≡ Fault) × Appends taken taken' due
HasWritten stop due whole taken taken' Output = AppendsPrefix taken taken' whole
HasWritten stop due whole taken taken' (Tap place) = AppendsPrefix taken taken' whole
HasWritten stop due whole taken taken' Memory = AppendsPrefix taken taken' whole
HasWritten stop due whole taken taken' Words = ⊥
HasWritten stop due whole taken taken' (Plan fault) = ⊥
HasWritten stop due whole taken taken' Folder = ⊥
HasWritten stop due whole taken taken' (Audit fault) = ⊥
HasWritten stop due whole taken taken' FileTooLong = ⊥
HasWritten stop due whole taken taken' (Checkpoint line) = ⊥

-- the late records that are listed, by how the run ended: all that were dropped if writing went well, else the first
abbrev pub ListsDropped : List Item → List Dropped → Status → Type 0
ListsDropped items dropped Done = dropped ≡ dropped_of items
ListsDropped items dropped (Line refusal) = dropped ≡ dropped_of items
ListsDropped items dropped (FileLine stream refusal) = dropped ≡ dropped_of items
ListsDropped items dropped Input = dropped ≡ dropped_of items
ListsDropped items dropped Output = AreFirstDropped items dropped
ListsDropped items dropped (Tap place) = AreFirstDropped items dropped
ListsDropped items dropped Memory = AreFirstDropped items dropped
ListsDropped items dropped Words = ⊥
ListsDropped items dropped (Plan fault) = ⊥
ListsDropped items dropped Folder = ⊥
ListsDropped items dropped (Audit fault) = ⊥
ListsDropped items dropped FileTooLong = ⊥
ListsDropped items dropped (Checkpoint line) = ⊥

-- those of a run over one input
abbrev pub ListsOfInput : List Item → LateRecords → Status → Type 0
ListsOfInput items (OfInput dropped) status = ListsDropped items dropped status
ListsOfInput items (OfFiles a b) status = ⊥

-- those of a run over two files: of each file those of its own items
abbrev pub ListsOfFiles : (Stream → List Item) → LateRecords → Status → Type 0
ListsOfFiles items (OfFiles a b) status = ListsDropped (items A) a status × ListsDropped (items B) b status
ListsOfFiles items (OfInput dropped) status = ⊥

-- a read has failed, and all that was due there was written
pub record WroteAllDue
    (left left' taken taken' : Option (List ℕ)) (course : Given left left' → Course) : Type 0 where
  pub given : Given left left'
  pub failed : (course given).stop ≡ Fault
  pub wrote : Appends taken taken' (course given).due

-- no read has failed, or one did once all that is due of the plan that is asked for was written
abbrev pub ReadsNoMore : Option Files → Asked → Option (List ℕ) → Option (List ℕ) → Option (List ℕ) → Option (List ℕ)
    → ℕ → ℕ → Type 0
ReadsNoMore folder wanted left left' taken taken' reads reads' =
    (reads' ≡ reads)
    ⊎ ((plan : Shape) × IsPlanFor folder wanted plan
    × WroteAllDue left left' taken taken' (λ given. course_in wanted plan given))

-- the answer to what the source gave, for a plan and what has to be written: what was written, the late records that
-- are listed, and the diaries that are told
pub record IsAnswerBy
    (plan : Shape) (options : Options) (left left' taken taken' : Option (List ℕ)) (course : Given left left' → Course)
    (ending : Ending) : Type 0 where
  pub given : Given left left'
  pub written : HasWritten (course given).stop (course given).due (course given).whole taken taken' ending.status
  pub lists : ListsOfInput (course given).items ending.late ending.status
  pub tells : TellsDiaries plan options (course given).items ending.diaries ending.status

-- the answer with the rows of the plan
abbrev pub IsAnswerOf
    : Shape → Options → Option (List ℕ) → Option (List ℕ) → Option (List ℕ) → Option (List ℕ) → Ending → Type 0
IsAnswerOf plan options left left' taken taken' ending =
    IsAnswerBy plan options left left' taken taken' (λ given. run_course plan given) ending

-- what was written of two files, by how the run ended: the rows that are due if writing went well, else a prefix of
-- all rows
abbrev pub HasWrittenOfFiles : Shape → (Stream → List ℕ) → Option (List ℕ) → Option (List ℕ) → Status → Type 0
HasWrittenOfFiles plan files taken taken' Done =
    NoneRefused plan files × Wrote taken taken' (due_rows plan End (items_of_files plan files))
HasWrittenOfFiles plan files taken taken' (FileLine stream refusal) =
    IsFirstRefused plan files stream refusal
    × Wrote taken taken' (due_rows plan (Refused refusal) (items_of_files plan files))
HasWrittenOfFiles plan files taken taken' Output = WrotePrefix taken taken' (all_rows plan (items_of_files plan files))
HasWrittenOfFiles plan files taken taken' (Tap place) =
    WrotePrefix taken taken' (all_rows plan (items_of_files plan files))
HasWrittenOfFiles plan files taken taken' Memory = WrotePrefix taken taken' (all_rows plan (items_of_files plan files))
HasWrittenOfFiles plan files taken taken' Words = ⊥
HasWrittenOfFiles plan files taken taken' (Plan fault) = ⊥
HasWrittenOfFiles plan files taken taken' (Line refusal) = ⊥
HasWrittenOfFiles plan files taken taken' Input = ⊥
HasWrittenOfFiles plan files taken taken' Folder = ⊥
HasWrittenOfFiles plan files taken taken' (Audit fault) = ⊥
HasWrittenOfFiles plan files taken taken' FileTooLong = ⊥
HasWrittenOfFiles plan files taken taken' (Checkpoint line) = ⊥

-- the answer to two files with these bytes, one of each stream, for a plan: what was written, the late records that are
-- listed, and the diaries that are told
pub record IsAnswerToTwo
    (plan : Shape) (options : Options) (files : Stream → List ℕ) (taken taken' : Option (List ℕ)) (ending : Ending)
    : Type 0 where
  pub written : HasWrittenOfFiles plan files taken taken' ending.status
  pub lists : ListsOfFiles (λ s. items_of_file plan s (files s)) ending.late ending.status
  pub tells : TellsDiaries plan options (items_of_files plan files) ending.diaries ending.status

-- why no run begins, if there is a plan: the file of a checkpoint is too long, or one of two record files
abbrev pub IsTooLongFor : Option Files → Asked → Type 0
IsTooLongFor folder (Resume name checkpoint options) = HasCutPlan folder name × IsTooLong folder checkpoint
IsTooLongFor folder (Sum size options) = ⊥
IsTooLongFor folder (Run name options) = ⊥
IsTooLongFor folder (Slow name) = ⊥
IsTooLongFor folder ask.Audit = ⊥
IsTooLongFor folder (Work records options) = ⊥
IsTooLongFor folder (Watch name key options) = ⊥
IsTooLongFor folder (Feeds name file_a file_b options) = HasPlan folder name × HasLongFile folder file_a file_b
IsTooLongFor folder (Part name options) = ⊥
IsTooLongFor folder (Save name) = ⊥

-- or a line of a checkpoint is faulty
abbrev pub IsFaultyFor : Option Files → Asked → ℕ → Type 0
IsFaultyFor folder (Resume name checkpoint options) line =
    (plan : Shape) × IsCutPlan folder name plan × HasFaultyLine folder checkpoint plan line
IsFaultyFor folder (Sum size options) line = ⊥
IsFaultyFor folder (Run name options) line = ⊥
IsFaultyFor folder (Slow name) line = ⊥
IsFaultyFor folder ask.Audit line = ⊥
IsFaultyFor folder (Work records options) line = ⊥
IsFaultyFor folder (Watch name key options) line = ⊥
IsFaultyFor folder (Feeds name file_a file_b options) line = ⊥
IsFaultyFor folder (Part name options) line = ⊥
IsFaultyFor folder (Save name) line = ⊥

-- why no run begins
abbrev pub HasNoPlan : Option Files → Asked → Status → Type 0
HasNoPlan folder wanted (Plan fault) = IsFaultFor folder wanted fault
HasNoPlan folder wanted Folder = AsksForFile wanted
HasNoPlan folder wanted Memory = ⊤
HasNoPlan folder wanted Done = ⊥
HasNoPlan folder wanted Words = ⊥
HasNoPlan folder wanted (Line refusal) = ⊥
HasNoPlan folder wanted (FileLine stream refusal) = ⊥
HasNoPlan folder wanted Input = ⊥
HasNoPlan folder wanted Output = ⊥
HasNoPlan folder wanted (Tap place) = ⊥
HasNoPlan folder wanted (Audit fault) = ⊥
HasNoPlan folder wanted FileTooLong = IsTooLongFor folder wanted
HasNoPlan folder wanted (Checkpoint line) = IsFaultyFor folder wanted line

-- no run begins, and nothing was read, written or dropped
pub record IsAnswerOfNoPlan
    (folder : Option Files) (wanted : Asked) (left left' taken taken' : Option (List ℕ)) (ending : Ending)
    : Type 0 where
  pub no_plan : HasNoPlan folder wanted ending.status
  pub unread : left' ≡ left
  pub unwritten : taken' ≡ taken
  pub undropped : ending.late ≡ OfInput []
  pub untold : ending.diaries ≡ []

-- the answer where a plan is asked for: there is none, or it is the answer for the plan
abbrev pub IsPlanAnswer
    : Option Files → Asked → Option (List ℕ) → Option (List ℕ) → Option (List ℕ) → Option (List ℕ) → Ending → Type 0
IsPlanAnswer folder wanted left left' taken taken' ending =
    IsAnswerOfNoPlan folder wanted left left' taken taken' ending
    ⊎ ((plan : Shape) × IsPlanFor folder wanted plan
    × IsAnswerBy plan (options_in wanted) left left' taken taken' (λ given. course_in wanted plan given) ending)

-- the answer over the rest of an input, behind the checkpoint of its first part: that of a run over the lines of what
-- the checkpoint says and then the input, but for the rows below the low watermark
abbrev pub IsRestAnswer
    : Shape → Options → Said → Option (List ℕ) → Option (List ℕ) → Option (List ℕ) → Option (List ℕ) → Ending → Type 0
IsRestAnswer plan options said left left' taken taken' ending =
    (rest : List ℕ) × AllReadOrNoneOfTheSource rest left left' × IsAnswerBy plan options
    (prepend_known (items_text (with_comments said.lines said.items)) left) (prepend_known rest left') taken taken'
    (λ given. rest_course said.low plan given) ending

-- the answer of `resume`: no run begins, or it is the answer for the plan and the checkpoint
abbrev pub IsResumeAnswer
    : Option Files → Asked → List ℕ → Option (List ℕ) → Option (List ℕ) → Option (List ℕ) → Option (List ℕ) → Ending
    → Type 0
IsResumeAnswer folder wanted checkpoint left left' taken taken' ending =
    IsAnswerOfNoPlan folder wanted left left' taken taken' ending
    ⊎ ((plan : Shape) × IsPlanFor folder wanted plan × (said : Said) × GivesCheckpoint folder checkpoint plan said
    × IsRestAnswer plan (options_in wanted) said left left' taken taken' ending)

-- the answer of `feeds`: no run begins, or it is the answer for the plan and the bytes of both files. The input is not
-- read
abbrev pub IsFeedsAnswer
    : Option Files → Asked → List ℕ → List ℕ → Option (List ℕ) → Option (List ℕ) → Option (List ℕ) → Option (List ℕ)
    → Ending → Type 0
IsFeedsAnswer folder wanted file_a file_b left left' taken taken' ending =
    IsAnswerOfNoPlan folder wanted left left' taken taken' ending
    ⊎ ((plan : Shape) × IsPlanFor folder wanted plan
    × (files : Stream → List ℕ) × HaveBytes folder file_a file_b files × (left' ≡ left)
    × IsAnswerToTwo plan (options_in wanted) files taken taken' ending)

-- a diary text was read to its end and is legal, and this is what an audit says of it
pub record Audited (lines : List (List ℕ)) (ended : Bool) (text : TextAudit) : Type 0 where
  pub legal : AreLegalTexts first_text_audit lines text
  pub whole : ended ≡ true

-- what an audit wrote, by how the run ended: its line if all is legal, or a prefix of it if writing failed, else
-- nothing
abbrev pub HasAudited : List (List ℕ) → Bool → Option (List ℕ) → Option (List ℕ) → Status → Type 0
HasAudited lines ended taken taken' Done =
    (text : TextAudit) × Audited lines ended text × Appends taken taken' (audit_text (end_of text))
HasAudited lines ended taken taken' Output =
    (text : TextAudit) × Audited lines ended text × AppendsPrefix taken taken' (audit_text (end_of text))
HasAudited lines ended taken taken' Memory =
    (taken' ≡ taken)
    ⊎ ((text : TextAudit) × Audited lines ended text × AppendsPrefix taken taken' (audit_text (end_of text)))
HasAudited lines ended taken taken' Input =
    ((text : TextAudit) × AreLegalTexts first_text_audit lines text) × (ended ≡ false) × (taken' ≡ taken)
HasAudited lines ended taken taken' (Audit fault) = IsRefusedAmong lines fault × (taken' ≡ taken)
HasAudited lines ended taken taken' Words = ⊥
HasAudited lines ended taken taken' (Plan fault) = ⊥
HasAudited lines ended taken taken' (Line refusal) = ⊥
HasAudited lines ended taken taken' (FileLine stream refusal) = ⊥
HasAudited lines ended taken taken' Folder = ⊥
HasAudited lines ended taken taken' (Tap place) = ⊥
HasAudited lines ended taken taken' FileTooLong = ⊥
HasAudited lines ended taken taken' (Checkpoint line) = ⊥

-- the answer to what the source gave, for an audit
pub record IsAuditAnswer (left left' taken taken' : Option (List ℕ)) (ending : Ending) : Type 0 where
  pub given : Given left left'
  pub audited : HasAudited (lines_of given) given.ended taken taken' ending.status
  pub undropped : ending.late ≡ OfInput []
  pub untold : ending.diaries ≡ []

-- the answer of `work`: the summary of the rows over the records that are made
pub record IsWorkAnswer (records : ℕ) (taken taken' : Option (List ℕ)) (ending : Ending) : Type 0 where
  pub printed : HasPrinted (summary_text records (work_rows records)) taken taken' ending.status
  pub undropped : ending.late ≡ OfInput []
  pub untold : ending.diaries ≡ []

-- the answer to what is asked for
abbrev pub IsAnswer
    : Option Files → Asked → Option (List ℕ) → Option (List ℕ) → Option (List ℕ) → Option (List ℕ) → Ending → Type 0
IsAnswer folder (Sum size options) left left' taken taken' ending =
    IsPlanAnswer folder (Sum size options) left left' taken taken' ending
IsAnswer folder (Run name options) left left' taken taken' ending =
    IsPlanAnswer folder (Run name options) left left' taken taken' ending
IsAnswer folder (Slow name) left left' taken taken' ending =
    IsPlanAnswer folder (Slow name) left left' taken taken' ending
IsAnswer folder ask.Audit left left' taken taken' ending = IsAuditAnswer left left' taken taken' ending
IsAnswer folder (Work records options) left left' taken taken' ending = IsWorkAnswer records taken taken' ending
IsAnswer folder (Watch name key options) left left' taken taken' ending =
    IsPlanAnswer folder (Watch name key options) left left' taken taken' ending
IsAnswer folder (Feeds name file_a file_b options) left left' taken taken' ending =
    IsFeedsAnswer folder (Feeds name file_a file_b options) file_a file_b left left' taken taken' ending
IsAnswer folder (Part name options) left left' taken taken' ending =
    IsPlanAnswer folder (Part name options) left left' taken taken' ending
IsAnswer folder (Save name) left left' taken taken' ending =
    IsPlanAnswer folder (Save name) left left' taken taken' ending
IsAnswer folder (Resume name checkpoint options) left left' taken taken' ending =
    IsResumeAnswer folder (Resume name checkpoint options) checkpoint left left' taken taken' ending
