-- What was written, by how a run ended, and why a run in which nothing fails is done.
use Rattle.std.proofs.Common.{true, false, inl, inr, ◌≡◌, ℕ, List, [], ◌∷◌, ◌++◌, length, Option, Some, Ok, Err, slice_get, refl, sym, ap, subst, ◌∙◌, arith, append-nil, length-append}
use Rattle.std.specs.Prelude.{All}
use Rattle.std.proofs.KnownBytes.{Appends-nil, Consumes-nil}
use Rattle.sb_alone.specs.base.records.declared.item.Dropped.{Dropped}
use Rattle.sb_alone.specs.base.records.declared.item.Item.{Item}
use Rattle.sb_alone.specs.base.records.declared.item.Record.{Record}
use Rattle.sb_alone.specs.base.records.declared.intake.Refusal.{Refusal}
use Rattle.sb_alone.specs.base.records.declared.intake.Stop.{Stop}
use Rattle.sb_alone.specs.base.records.declared.intake.Stop.TheVariants.{Refused}
use Rattle.sb_alone.specs.base.records.Records.{sorted_records, before}
use Rattle.sb_alone.specs.base.records.Rows.{text_of}
use Rattle.sb_alone.specs.base.records.declared.item.Stream.{Stream}
use Rattle.sb_alone.specs.base.records.declared.item.Stream.TheVariants.{A, B}
use Rattle.sb_alone.specs.base.records.Streams.{dropped_of, low_watermark, records_of}
use Rattle.sb_alone.specs.base.pipeline.Shapes.{Shape, streams_of}
use Rattle.sb_alone.specs.base.pipeline.declared.transform.Step.{Step}
use Rattle.sb_alone.proofs.base.pipeline.Steps.{All-at}
use Rattle.sb_checkpoint.specs.Reach.{HasNoSession, is_session}
use Rattle.sb_told.specs.plan.declared.fault.PlanFault.{PlanFault}
use Rattle.sb_told.specs.plan.Failures.Failure.{Fails}
use Rattle.sb_alone.specs.base.pipeline.Results.{output_of}
use Rattle.sb_alone.specs.base.Inputs.{by_stream}
use Rattle.sb_alone.specs.outside.Folders.{Files, Load}
use Rattle.sb_alone.specs.outside.Sinks.{AppendsPrefix}
use Rattle.sb_alone.specs.outside.Sources.{Rose}
use Rattle.sb_alone.proofs.outside.Appending.{prefix_of_more}
use Rattle.sb_answers.specs.declared.ending.Ending.{Ending}
use Rattle.sb_told.specs.declared.late.LateRecords.TheVariants.{OfInput}
use Rattle.sb_told.specs.declared.status.Status.{Status}
use Rattle.sb_told.specs.declared.status.Status.TheVariants.{Done, Words, Plan, Line, Input, Output, Folder, Memory, Tap, Audit, FileTooLong, FileLine, Checkpoint}
use Rattle.sb_words.specs.Words.{Asked, Asked as ask}
use Rattle.sb_words.specs.Words.Asked.{Sum, Run, Slow, Work, Watch, Feeds, Part, Save, Resume}
use Rattle.sb_words.specs.declared.options.Options.{Options}
use Rattle.sb_alone.specs.emit.Taps.{TapState}
use Rattle.sb_alone.specs.one_feed.Due.{due_mark, due_rows, streams_in}
use Rattle.sb_answers.specs.Courses.{Course, course_in}
use Rattle.sb_answers.specs.Offered.{BlamesTap, IsOfferedOf}
use Rattle.sb_answers.specs.Pipelines.{GivesPlan, IsFaultOfCut, IsPlanFor, TellsCutPlan, TellsPlan, TellsPlanIn, all_rows}
use Rattle.sb_answers.specs.Summaries.{summary_text, work_rows}
use Rattle.sb_answers.specs.Told.{AreToldIf, TellsDiaries}
use Rattle.sb_alone.specs.one_feed.Given.{Given, items_of, lines_of}
use Rattle.sb_answers.specs.Answers.{ending_of, ending_with, HasWritten, ListsDropped, WrotePrefix, HasNoPlan, IsAnswer, IsAnswerBy, IsAnswerOf, IsAuditAnswer, IsPlanAnswer, HasAudited}
use Rattle.sb_told.specs.Outcomes.{HasPrinted}
use Rattle.sb_answers.specs.Faults.{BlamesFile, Faults, HasCause, IsDoneOrMemory, NothingFails, NothingFailsInAudit}

-- nothing is a prefix of any text
pub nothing_printed : (text : List ℕ) (taken : Option (List ℕ)) → AppendsPrefix taken taken text
nothing_printed text taken = record { prefix = []; rest = text; whole = refl; appends = Appends-nil taken }

-- nothing is a prefix of any rows
pub nothing_written : (taken : Option (List ℕ)) (rows : List Record) → WrotePrefix taken taken rows
nothing_written taken rows = nothing_printed (text_of rows) taken

-- where there is no memory behind some reading, nothing was written, and nothing is listed or told
pub memory_answer : (plan : Shape) (options : Options) (left left' taken : Option (List ℕ)) (ending : Ending) → Given left left' → ending.status ≡ Memory → ending.late ≡ OfInput [] → ending.diaries ≡ []
    → IsAnswerOf plan options left left' taken taken ending
memory_answer plan options left left' taken ending given is none untold =
    subst (IsAnswerOf plan options left left' taken taken) (λ i. ending_with (sym is i) (sym none i) (sym untold i))
    (record { given = given; written = nothing_written taken (all_rows plan (items_of plan given)); lists = record { rest = dropped_of (items_of plan given); are = refl }; tells = refl })

-- and the taps were offered nothing of which anything is said
pub memory_offered : (plan : Shape) (left left' taken : Option (List ℕ)) (taps taps' : List TapState) (status : Status) → Given left left' → status ≡ Memory
    → IsOfferedOf plan left left' taken taken taps taps' status
memory_offered plan left left' taken taps taps' status given is =
    subst (IsOfferedOf plan left left' taken taken taps taps') (sym is)
    (record { given = given; written = nothing_written taken (all_rows plan (items_of plan given)); offered = tt })

-- nothing was read
pub unread : (left : Option (List ℕ)) → Given left left
unread left = record { bytes = []; were_left = Consumes-nil left; ended = false; at_end = λ e. absurd (cc e) }

-- where there is no memory before anything is read, there is no plan, and no line of a diary text
pub no_memory : (folder : Option Files) (wanted : Asked) (left taken : Option (List ℕ)) (ending : Ending) → ending.status ≡ Memory → ending.late ≡ OfInput [] → ending.diaries ≡ []
    → IsAnswer folder wanted left left taken taken ending
no_memory folder wanted left taken ending is none untold =
    subst (IsAnswer folder wanted left left taken taken) (λ i. ending_with (sym is i) (sym none i) (sym untold i)) (for wanted)
  where
    for : (wanted : Asked) → IsAnswer folder wanted left left taken taken (ending_of Memory [] [])
    for (Sum size options) = inl (record { no_plan = tt; unread = refl; unwritten = refl; undropped = refl; untold = refl })
    for (Run name options) = inl (record { no_plan = tt; unread = refl; unwritten = refl; undropped = refl; untold = refl })
    for (Slow name) = inl (record { no_plan = tt; unread = refl; unwritten = refl; undropped = refl; untold = refl })
    for ask.Audit = record { given = unread left; audited = inl refl; undropped = refl; untold = refl }
    for (Work records options) = record { printed = nothing_printed (summary_text records (work_rows records)) taken; undropped = refl; untold = refl }
    for (Watch name key options) = inl (record { no_plan = tt; unread = refl; unwritten = refl; undropped = refl; untold = refl })
    for (Feeds name file_a file_b options) = inl (record { no_plan = tt; unread = refl; unwritten = refl; undropped = refl; untold = refl })
    for (Part name options) = inl (record { no_plan = tt; unread = refl; unwritten = refl; undropped = refl; untold = refl })
    for (Save name) = inl (record { no_plan = tt; unread = refl; unwritten = refl; undropped = refl; untold = refl })
    for (Resume name checkpoint options) = inl (record { no_plan = tt; unread = refl; unwritten = refl; undropped = refl; untold = refl })

-- all late records are listed, whatever was written
pub all_listed : (items : List Item) (dropped : List Dropped) (stop : Stop) (due whole : List ℕ) (taken taken' : Option (List ℕ)) (status : Status)
    → HasWritten stop due whole taken taken' status → dropped ≡ dropped_of items → ListsDropped items dropped status
all_listed items dropped stop due whole taken taken' Done written is = is
all_listed items dropped stop due whole taken taken' (Line refusal) written is = is
all_listed items dropped stop due whole taken taken' (FileLine stream refusal) written is = absurd written
all_listed items dropped stop due whole taken taken' Input written is = is
all_listed items dropped stop due whole taken taken' Output written is = record { rest = []; are = sym is ∙ sym (append-nil dropped) }
all_listed items dropped stop due whole taken taken' Memory written is = record { rest = []; are = sym is ∙ sym (append-nil dropped) }
all_listed items dropped stop due whole taken taken' (Tap place) written is = record { rest = []; are = sym is ∙ sym (append-nil dropped) }
all_listed items dropped stop due whole taken taken' Words written is = absurd written
all_listed items dropped stop due whole taken taken' (Plan fault) written is = absurd written
all_listed items dropped stop due whole taken taken' Folder written is = absurd written
all_listed items dropped stop due whole taken taken' (Audit fault) written is = absurd written
all_listed items dropped stop due whole taken taken' FileTooLong written is = absurd written
all_listed items dropped stop due whole taken taken' (Checkpoint line) written is = absurd written

-- a prefix of what is due is one of a text that begins with it
pub due_written : (stop : Stop) (due whole more : List ℕ) (taken taken' : Option (List ℕ)) (status : Status) → whole ≡ due ++ more
    → HasWritten stop due due taken taken' status → HasWritten stop due whole taken taken' status
due_written stop due whole more taken taken' Done is written = written
due_written stop due whole more taken taken' (Line refusal) is written = written
due_written stop due whole more taken taken' (FileLine stream refusal) is written = written
due_written stop due whole more taken taken' Input is written = written
due_written stop due whole more taken taken' Output is written = subst (AppendsPrefix taken taken') (sym is) (prefix_of_more taken taken' due more written)
due_written stop due whole more taken taken' Memory is written = subst (AppendsPrefix taken taken') (sym is) (prefix_of_more taken taken' due more written)
due_written stop due whole more taken taken' (Tap place) is written = subst (AppendsPrefix taken taken') (sym is) (prefix_of_more taken taken' due more written)
due_written stop due whole more taken taken' Words is written = written
due_written stop due whole more taken taken' (Plan fault) is written = written
due_written stop due whole more taken taken' Folder is written = written
due_written stop due whole more taken taken' (Audit fault) is written = written
due_written stop due whole more taken taken' FileTooLong is written = written
due_written stop due whole more taken taken' (Checkpoint line) is written = written

-- without diaries none is told
pub none_told : (plan : Shape) (options : Options) (items : List Item) (stop : Stop) (due whole : List ℕ) (taken taken' : Option (List ℕ)) (status : Status)
    → options.diary ≡ false → HasWritten stop due whole taken taken' status → TellsDiaries plan options items [] status
none_told plan options items stop due whole taken taken' Done off written = subst (λ keep. AreToldIf keep plan options.bundle items []) (sym off) refl
none_told plan options items stop due whole taken taken' (Line refusal) off written = refl
none_told plan options items stop due whole taken taken' (FileLine stream refusal) off written = absurd written
none_told plan options items stop due whole taken taken' Input off written = refl
none_told plan options items stop due whole taken taken' Output off written = refl
none_told plan options items stop due whole taken taken' Memory off written = refl
none_told plan options items stop due whole taken taken' (Tap place) off written = refl
none_told plan options items stop due whole taken taken' Words off written = absurd written
none_told plan options items stop due whole taken taken' (Plan fault) off written = absurd written
none_told plan options items stop due whole taken taken' Folder off written = absurd written
none_told plan options items stop due whole taken taken' (Audit fault) off written = absurd written
none_told plan options items stop due whole taken taken' FileTooLong off written = absurd written
none_told plan options items stop due whole taken taken' (Checkpoint line) off written = absurd written

-- so it is of an answer of which what was written is known
pub plain_answer : (plan : Shape) (options : Options) {left left' : Option (List ℕ)} (given : Given left left') (course : Given left left' → Course) (taken taken' : Option (List ℕ)) (status : Status)
    (dropped : List Dropped) → options.diary ≡ false → HasWritten (course given).stop (course given).due (course given).whole taken taken' status → dropped ≡ dropped_of (course given).items
    → IsAnswerBy plan options left left' taken taken' course (ending_of status dropped [])
plain_answer plan options given course taken taken' status dropped off written listed =
    let c = course given in
    record {
      given = given;
      written = written;
      lists = all_listed c.items dropped c.stop c.due c.whole taken taken' status written listed;
      tells = none_told plan options c.items c.stop c.due c.whole taken taken' status off written;
    }

-- the rows below the watermark are those that are due
pub rows_are_due : (plan : Shape) (below low : ℕ) (stop : Stop) (items : List Item) (a b rows : List Record) → rows ≡ sorted_records (before below (output_of plan (by_stream a b)))
    → a ≡ records_of A items → b ≡ records_of B items → below ≡ due_mark stop low → low ≡ low_watermark (streams_of plan) items → rows ≡ due_rows plan stop items
rows_are_due plan below low stop items a b rows are of_a of_b at is_low = are ∙ (λ i. sorted_records (before ((at ∙ ap (due_mark stop) is_low) i) (output_of plan (λ s. each s i))))
  where
    each : (s : Stream) → by_stream a b s ≡ streams_in items s
    each A = of_a
    each B = of_b

-- a run in which nothing fails is done
pub complete_for : (stop : Stop) (due whole : List ℕ) (taken taken' : Option (List ℕ)) (before now : Faults) (status : Status)
    → HasWritten stop due whole taken taken' status → HasCause before now status → ((refusal : Refusal) → stop ≡ Refused refusal → ⊥) → (Rose before.reads now.reads → ⊥)
    → (Rose before.writes now.writes → ⊥) → ((place : ℕ) → status ≡ Tap place → ⊥) → IsDoneOrMemory status
complete_for stop due whole taken taken' before now Done is cause accepted read wrote tap = inl refl
complete_for stop due whole taken taken' before now Words is cause accepted read wrote tap = absurd is
complete_for stop due whole taken taken' before now (Plan fault) is cause accepted read wrote tap = absurd is
complete_for stop due whole taken taken' before now (Line refusal) is cause accepted read wrote tap = absurd (accepted refusal is.0)
complete_for stop due whole taken taken' before now (FileLine stream refusal) is cause accepted read wrote tap = absurd is
complete_for stop due whole taken taken' before now Input is cause accepted read wrote tap = absurd (read cause)
complete_for stop due whole taken taken' before now Output is cause accepted read wrote tap = absurd (wrote cause)
complete_for stop due whole taken taken' before now Folder is cause accepted read wrote tap = absurd is
complete_for stop due whole taken taken' before now Memory is cause accepted read wrote tap = inr refl
complete_for stop due whole taken taken' before now (Audit fault) is cause accepted read wrote tap = absurd is
complete_for stop due whole taken taken' before now (Tap place) is cause accepted read wrote tap = absurd (tap place refl)
complete_for stop due whole taken taken' before now FileTooLong is cause accepted read wrote tap = absurd is
complete_for stop due whole taken taken' before now (Checkpoint line) is cause accepted read wrote tap = absurd is

-- a file gives one plan
pub same_plan : (folder : Option Files) (name : List ℕ) (plan told : Shape) → GivesPlan folder name (Ok plan) → TellsPlanIn folder name told → plan ≡ told
same_plan folder name plan told gives tells = let same = sym (gives tells.0 tells.1) ∙ tells.2 in cc

-- the plan that is answered for is the one that the folder's files give
one_plan : (folder : Option Files) (wanted : Asked) (plan told : Shape) → IsPlanFor folder wanted plan → TellsPlan folder wanted told → plan ≡ told
one_plan folder (Sum size options) plan told is tells = is ∙ sym tells
one_plan folder (Run name options) plan told is tells = same_plan folder name plan told is.1 tells
one_plan folder (Slow name) plan told is tells = same_plan folder name plan told is.1 tells
one_plan folder ask.Audit plan told is tells = absurd is
one_plan folder (Work records options) plan told is tells = absurd is
one_plan folder (Watch name key options) plan told is tells = same_plan folder name plan told is.1 tells
one_plan folder (Feeds name file_a file_b options) plan told is tells = absurd tells
one_plan folder (Part name options) plan told is tells = same_plan folder name plan told is.1 tells
one_plan folder (Save name) plan told is tells = same_plan folder name plan told is.1 tells.0
one_plan folder (Resume name checkpoint options) plan told is tells = absurd tells

-- a file that gives a plan has no fault
pub no_fault : (folder : Option Files) (name : List ℕ) (plan : Shape) (fault : PlanFault) → GivesPlan folder name (Err (Fails fault)) → TellsPlanIn folder name plan → ⊥
no_fault folder name plan fault fails tells = let same = sym (fails tells.0 tells.1) ∙ tells.2 in cc same

-- a transform that is there among those that gather no records by session gathers none
in_none : (steps : List Step) (place : ℕ) (step : Step) → All (λ s. is_session s.kind ≡ false) steps → slice_get steps place ≡ Some step → is_session step.kind ≡ true → ⊥
in_none steps place step none there is = let no = All-at (λ s. is_session s.kind ≡ false) steps place step none there in cc (no, is)

-- nor has it one for runs that are cut in two, if no transform gathers records by session
pub no_fault_of_cut : (folder : Option Files) (name : List ℕ) (plan : Shape) (fault : PlanFault) → IsFaultOfCut folder name fault → TellsCutPlan folder name plan → ⊥
no_fault_of_cut folder name plan fault (inl fails) tells = no_fault folder name plan fault fails tells.0
no_fault_of_cut folder name plan fault (inr (found, gives, blames)) tells =
    let same = same_plan folder name found plan gives tells.0 in
    let none = subst HasNoSession (sym same) tells.1 in
    in_none found.steps blames.place blames.first.step none blames.first.there blames.first.is

-- if the folder's files give a plan there is no fault in it, and no load is blamed
plan_is_had : (folder : Option Files) (wanted : Asked) (plan : Shape) (status : Status) → HasNoPlan folder wanted status → TellsPlan folder wanted plan → (status ≡ Folder → ⊥) → IsDoneOrMemory status
plan_is_had folder wanted plan Memory none tells no_load = inr refl
plan_is_had folder wanted plan Folder none tells no_load = absurd (no_load refl)
plan_is_had folder (Sum size options) plan (Plan fault) none tells no_load = absurd none
plan_is_had folder (Run name options) plan (Plan fault) none tells no_load = absurd (no_fault folder name plan fault none tells)
plan_is_had folder (Slow name) plan (Plan fault) none tells no_load = absurd (no_fault folder name plan fault none tells)
plan_is_had folder (Watch name key options) plan (Plan fault) none tells no_load = absurd (no_fault folder name plan fault none tells)
plan_is_had folder (Feeds name file_a file_b options) plan (Plan fault) none tells no_load = absurd tells
plan_is_had folder (Part name options) plan (Plan fault) none tells no_load = absurd (no_fault folder name plan fault none tells)
plan_is_had folder (Save name) plan (Plan fault) none tells no_load = absurd (no_fault_of_cut folder name plan fault none tells)
plan_is_had folder (Resume name checkpoint options) plan (Plan fault) none tells no_load = absurd tells
plan_is_had folder ask.Audit plan (Plan fault) none tells no_load = absurd none
plan_is_had folder (Work records options) plan (Plan fault) none tells no_load = absurd none
plan_is_had folder wanted plan Done none tells no_load = absurd none
plan_is_had folder wanted plan Words none tells no_load = absurd none
plan_is_had folder wanted plan (Line refusal) none tells no_load = absurd none
plan_is_had folder wanted plan (FileLine stream refusal) none tells no_load = absurd none
plan_is_had folder wanted plan Input none tells no_load = absurd none
plan_is_had folder wanted plan Output none tells no_load = absurd none
plan_is_had folder wanted plan (Tap place) none tells no_load = absurd none
plan_is_had folder wanted plan (Audit fault) none tells no_load = absurd none
plan_is_had folder (Sum size options) plan FileTooLong none tells no_load = absurd none
plan_is_had folder (Run name options) plan FileTooLong none tells no_load = absurd none
plan_is_had folder (Slow name) plan FileTooLong none tells no_load = absurd none
plan_is_had folder ask.Audit plan FileTooLong none tells no_load = absurd none
plan_is_had folder (Work records options) plan FileTooLong none tells no_load = absurd none
plan_is_had folder (Watch name key options) plan FileTooLong none tells no_load = absurd none
plan_is_had folder (Feeds name file_a file_b options) plan FileTooLong none tells no_load = absurd tells
plan_is_had folder (Part name options) plan FileTooLong none tells no_load = absurd none
plan_is_had folder (Save name) plan FileTooLong none tells no_load = absurd none
plan_is_had folder (Resume name checkpoint options) plan FileTooLong none tells no_load = absurd tells
plan_is_had folder (Sum size options) plan (Checkpoint line) none tells no_load = absurd none
plan_is_had folder (Run name options) plan (Checkpoint line) none tells no_load = absurd none
plan_is_had folder (Slow name) plan (Checkpoint line) none tells no_load = absurd none
plan_is_had folder ask.Audit plan (Checkpoint line) none tells no_load = absurd none
plan_is_had folder (Work records options) plan (Checkpoint line) none tells no_load = absurd none
plan_is_had folder (Watch name key options) plan (Checkpoint line) none tells no_load = absurd none
plan_is_had folder (Feeds name file_a file_b options) plan (Checkpoint line) none tells no_load = absurd tells
plan_is_had folder (Part name options) plan (Checkpoint line) none tells no_load = absurd none
plan_is_had folder (Save name) plan (Checkpoint line) none tells no_load = absurd none
plan_is_had folder (Resume name checkpoint options) plan (Checkpoint line) none tells no_load = absurd tells

-- no load is blamed if none failed
pub not_blamed : (folder : Option Files) (wanted : Asked) (before now : List Load) → BlamesFile folder wanted before now → now ≡ before → ⊥
not_blamed folder wanted before now (load, is, more) same = no_longer before load (sym more ∙ same)
  where
    no_longer : (loads : List Load) (load : Load) → loads ++ load ∷ [] ≡ loads → ⊥
    no_longer loads load e = omega (arith, ap length e, length-append loads (load ∷ []))

by_plan : (folder : Option Files) (wanted : Asked) (plan : Shape) (left left' taken taken' : Option (List ℕ)) (before now : Faults) (taps taps' : List TapState) (ending : Ending)
    → IsPlanAnswer folder wanted left left' taken taken' ending → HasCause before now ending.status → (ending.status ≡ Folder → BlamesFile folder wanted before.loads now.loads)
    → ((place : ℕ) → ending.status ≡ Tap place → BlamesTap place taps taps') → TellsPlan folder wanted plan
    → NothingFails left left' (λ given. course_in wanted plan given) before now taps taps' → IsDoneOrMemory ending.status
by_plan folder wanted plan left left' taken taken' before now taps taps' ending (inl none) cause blames tap tells fine =
    plan_is_had folder wanted plan ending.status none.no_plan tells (λ is. not_blamed folder wanted before.loads now.loads (blames is) fine.no_load_failed)
by_plan folder wanted plan left left' taken taken' before now taps taps' ending (inr found) cause blames tap tells fine =
    let (other, is_plan, is) = found in
    let same = one_plan folder wanted other plan is_plan tells in
    let c = course_in wanted other is.given in
    complete_for c.stop c.due c.whole taken taken' before now ending.status is.written cause
    (λ refusal e. fine.no_refusal is.given refusal (subst (λ p. (course_in wanted p is.given).stop ≡ Refused refusal) same e))
    fine.no_read_failed fine.no_write_failed (λ place e. fine.no_tap_failed place (tap place e))

pub is_complete : (folder : Option Files) (wanted : Asked) (plan : Shape) (left left' taken taken' : Option (List ℕ)) (before now : Faults) (taps taps' : List TapState) (ending : Ending)
    → IsAnswer folder wanted left left' taken taken' ending → HasCause before now ending.status → (ending.status ≡ Folder → BlamesFile folder wanted before.loads now.loads)
    → ((place : ℕ) → ending.status ≡ Tap place → BlamesTap place taps taps') → TellsPlan folder wanted plan
    → NothingFails left left' (λ given. course_in wanted plan given) before now taps taps' → IsDoneOrMemory ending.status
is_complete folder (Sum size options) plan left left' taken taken' before now taps taps' ending is cause blames tap tells fine =
    by_plan folder (Sum size options) plan left left' taken taken' before now taps taps' ending is cause blames tap tells fine
is_complete folder (Run name options) plan left left' taken taken' before now taps taps' ending is cause blames tap tells fine =
    by_plan folder (Run name options) plan left left' taken taken' before now taps taps' ending is cause blames tap tells fine
is_complete folder (Slow name) plan left left' taken taken' before now taps taps' ending is cause blames tap tells fine =
    by_plan folder (Slow name) plan left left' taken taken' before now taps taps' ending is cause blames tap tells fine
is_complete folder (Watch name key options) plan left left' taken taken' before now taps taps' ending is cause blames tap tells fine =
    by_plan folder (Watch name key options) plan left left' taken taken' before now taps taps' ending is cause blames tap tells fine
is_complete folder (Part name options) plan left left' taken taken' before now taps taps' ending is cause blames tap tells fine =
    by_plan folder (Part name options) plan left left' taken taken' before now taps taps' ending is cause blames tap tells fine
is_complete folder (Save name) plan left left' taken taken' before now taps taps' ending is cause blames tap tells fine =
    by_plan folder (Save name) plan left left' taken taken' before now taps taps' ending is cause blames tap tells fine
is_complete folder ask.Audit plan left left' taken taken' before now taps taps' ending is cause blames tap tells fine = absurd tells
is_complete folder (Work records options) plan left left' taken taken' before now taps taps' ending is cause blames tap tells fine = absurd tells
is_complete folder (Feeds name file_a file_b options) plan left left' taken taken' before now taps taps' ending is cause blames tap tells fine = absurd tells
is_complete folder (Resume name checkpoint options) plan left left' taken taken' before now taps taps' ending is cause blames tap tells fine = absurd tells

-- an audit in which nothing fails is done
audit_ends : (left left' taken taken' : Option (List ℕ)) (before now : Faults) (status : Status) (given : Given left left')
    → HasAudited (lines_of given) given.ended taken taken' status → HasCause before now status → NothingFailsInAudit left left' before now → IsDoneOrMemory status
audit_ends left left' taken taken' before now Done given is cause fine = inl refl
audit_ends left left' taken taken' before now Memory given is cause fine = inr refl
audit_ends left left' taken taken' before now (Audit fault) given is cause fine = absurd (fine.no_refusal given fault is.0)
audit_ends left left' taken taken' before now Input given is cause fine = absurd (fine.no_read_failed cause)
audit_ends left left' taken taken' before now Output given is cause fine = absurd (fine.no_write_failed cause)
audit_ends left left' taken taken' before now Words given is cause fine = absurd is
audit_ends left left' taken taken' before now (Plan fault) given is cause fine = absurd is
audit_ends left left' taken taken' before now (Line refusal) given is cause fine = absurd is
audit_ends left left' taken taken' before now (FileLine stream refusal) given is cause fine = absurd is
audit_ends left left' taken taken' before now Folder given is cause fine = absurd is
audit_ends left left' taken taken' before now (Tap place) given is cause fine = absurd is
audit_ends left left' taken taken' before now FileTooLong given is cause fine = absurd is
audit_ends left left' taken taken' before now (Checkpoint line) given is cause fine = absurd is

pub audit_is_complete : (left left' taken taken' : Option (List ℕ)) (before now : Faults) (ending : Ending) → IsAuditAnswer left left' taken taken' ending
    → HasCause before now ending.status → NothingFailsInAudit left left' before now → IsDoneOrMemory ending.status
audit_is_complete left left' taken taken' before now ending is cause fine = audit_ends left left' taken taken' before now ending.status is.given is.audited cause fine

-- so is `work`, if no write fails
pub work_is_complete : (text : List ℕ) (taken taken' : Option (List ℕ)) (before now : Faults) (status : Status) → HasPrinted text taken taken' status → HasCause before now status
    → (Rose before.writes now.writes → ⊥) → IsDoneOrMemory status
work_is_complete text taken taken' before now Done is cause fine = inl refl
work_is_complete text taken taken' before now Memory is cause fine = inr refl
work_is_complete text taken taken' before now Output is cause fine = absurd (fine cause)
work_is_complete text taken taken' before now Words is cause fine = absurd is
work_is_complete text taken taken' before now (Plan fault) is cause fine = absurd is
work_is_complete text taken taken' before now (Line refusal) is cause fine = absurd is
work_is_complete text taken taken' before now (FileLine stream refusal) is cause fine = absurd is
work_is_complete text taken taken' before now Input is cause fine = absurd is
work_is_complete text taken taken' before now Folder is cause fine = absurd is
work_is_complete text taken taken' before now (Tap place) is cause fine = absurd is
work_is_complete text taken taken' before now (Audit fault) is cause fine = absurd is
work_is_complete text taken taken' before now FileTooLong is cause fine = absurd is
work_is_complete text taken taken' before now (Checkpoint line) is cause fine = absurd is
