-- From what a run tells that was watched for a key to its answer.
use Rattle.std.proofs.Common.{◌≡◌, ◌≤◌, ◌<◌, ℕ, true, false, List, [], ◌∷◌, ◌++◌, Option, Some, None, if◌then◌else◌, sym, ap, subst, arith, ◌∙◌}
use Rattle.std.specs.Prelude.{IfSome, fold}
use Rattle.std.specs.List.{AllByRecursion}
use Rattle.sb_answers.specs.base.records.declared.intake.Stop.{Stop}
use Rattle.sb_answers.specs.base.records.declared.intake.Stop.TheVariants.{End, Refused, Fault}
use Rattle.sb_answers.specs.base.records.declared.item.Dropped.{Dropped}
use Rattle.sb_answers.specs.base.records.declared.item.Record.{Record}
use Rattle.sb_answers.specs.base.records.declared.item.TheConstants.{END_MARK}
use Rattle.sb_answers.specs.base.records.declared.key.Key.{Key}
use Rattle.sb_answers.specs.base.records.Keys.{same_key}
use Rattle.sb_answers.specs.base.records.Records.{before, record_cmp}
use Rattle.sb_answers.specs.base.records.Rows.{text_of}
use Rattle.sb_answers.specs.base.records.Streams.{low_watermark}
use Rattle.sb_answers.proofs.base.records.Earlier.{before-low}
use Rattle.sb_answers.proofs.base.records.Elements.{every}
use Rattle.sb_answers.proofs.base.records.Sorting.{All-in_order}
use Rattle.sb_answers.specs.base.pipeline.Results.{output_of}
use Rattle.sb_answers.specs.base.pipeline.Shapes.{Shape, streams_of}
use Rattle.sb_answers.specs.live.Lasts.{last_if_any, nearer}
use Rattle.sb_answers.specs.live.Naming.{key_named}
use Rattle.sb_answers.specs.one_feed.Due.{due_mark, due_rows, streams_in}
use Rattle.sb_answers.specs.one_feed.Given.{Given, items_of}
use Rattle.sb_answer_runs.specs.declared.watched.Watched.{Watched}
use Rattle.sb_answer_runs.specs.Watches.{Tells, TellsNothing}
use Rattle.sb_answers.specs.words.declared.options.Options.{Options}
use Rattle.sb_answers.specs.told.declared.status.Status.{Status}
use Rattle.sb_answers.specs.told.declared.status.Status.TheVariants.{Memory}
use Rattle.sb_answers.specs.Answers.{HasWritten, IsAnswerBy, ending_of}
use Rattle.sb_answers.specs.Courses.{Course, last_text, row_if_any, watch_course}
use Rattle.sb_answers.proofs.Answering.{nothing_printed, plain_answer}
use Rattle.sb_answers.proofs.RunAnswers.{answers_some, low_mark}

-- what holds of all rows, and of the one that was found before, holds of the last one of a key
last_keeps : (P : Record → Type 0) (k : Key) (found : Option Record) (rows : List Record) → IfSome found P → AllByRecursion P rows → IfSome (fold (nearer k) found rows) P
last_keeps P k found [] has all = has
last_keeps P k found (r ∷ rows) has all =
    last_keeps P k (nearer k found r) rows (elim (same_key r.key k) as (λ b. IfSome (if b then Some r else found) P) [ true ↦ all.0 | false ↦ has ]) all.1

last_of_all : (P : Record → Type 0) (key : Option Key) (rows : List Record) → AllByRecursion P rows → IfSome (last_if_any key rows) P
last_of_all P None rows all = tt
last_of_all P (Some k) rows all = last_keeps P k None rows tt all

-- the rows that are due end before the end mark
due_at_most : (stop : Stop) (low : ℕ) → low ≤ END_MARK → due_mark stop low ≤ END_MARK
due_at_most End low le = omega arith
due_at_most (Refused refusal) low le = le
due_at_most Fault low le = le

due_times : (plan : Shape) {left left' : Option (List ℕ)} (given : Given left left') (stop : Stop) → AllByRecursion (λ r. r.time < END_MARK) (due_rows plan stop (items_of plan given))
due_times plan given stop =
    let items = items_of plan given in
    let mark = due_mark stop (low_watermark (streams_of plan) items) in
    let le = due_at_most stop (low_watermark (streams_of plan) items) (low_mark plan given) in
    let rows = before mark (output_of plan (streams_in items)) in
    every (λ r h. omega (arith, h, le)) (due_rows plan stop items)
    (All-in_order (λ r. r.time < mark) record_cmp rows (before-low mark (output_of plan (streams_in items))))

module _ (plan : Shape) (key : List ℕ) (left left' : Option (List ℕ)) (dropped : List Dropped) where
  -- the row that is told has a time that can be written
  pub last_meets : (told : Watched) → Tells plan key left left' [] dropped told → IfSome told.last (λ r. r.time < END_MARK)
  last_meets told t =
      subst (λ l. IfSome l (λ r. r.time < END_MARK)) (sym t.last)
      (last_of_all (λ r. r.time < END_MARK) (key_named plan.keys key) (due_rows plan told.stop (items_of plan t.given)) (due_times plan t.given told.stop))

  module _ (options : Options) (taken taken' : Option (List ℕ)) (no : options.diary ≡ false) where
    abbrev course : Given left left' → Course
    course given = watch_course key plan given

    pub watch_answer : (told : Watched) (status : Status) → Tells plan key left left' [] dropped told
        → HasWritten told.stop (text_of (row_if_any told.last)) (text_of (row_if_any told.last)) taken taken' status
        → IsAnswerBy plan options left left' taken taken' course (ending_of status dropped [])
    watch_answer told status t written =
        let items = items_of plan t.given in
        let as_due : HasWritten told.stop (last_text key plan (due_rows plan told.stop items)) (last_text key plan (due_rows plan told.stop items)) taken taken' status =
        subst (λ l. HasWritten told.stop (text_of (row_if_any l)) (text_of (row_if_any l)) taken taken' status) t.last written in
        plain_answer plan options t.given course taken taken' status dropped no
        (subst (λ s. HasWritten s (last_text key plan (due_rows plan s items)) (last_text key plan (due_rows plan s items)) taken taken' status) (sym t.stopped) as_due) t.listed

  pub unwatched_answer : (options : Options) (taken : Option (List ℕ)) → TellsNothing plan left left' [] dropped
      → IsAnswerBy plan options left left' taken taken (λ given. watch_course key plan given) (ending_of Memory dropped [])
  unwatched_answer options taken t =
      answers_some plan options left left' taken taken (λ given. watch_course key plan given) dropped Memory tt
      (record {
        given = t.given;
        wrote = nothing_printed (watch_course key plan t.given).whole taken;
        first_late = record { rest = t.first_late.rest; are = t.first_late.are ∙ ap (λ l. l ++ t.first_late.rest) (sym t.listed) };
      })
