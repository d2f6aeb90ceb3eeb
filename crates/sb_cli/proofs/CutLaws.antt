-- A run that is cut in two writes what one run writes.
use Rattle.std.proofs.Common.{◌≡◌, ◌≤◌, ℕ, Bool, false, List, ◌++◌, Option, Some, None, length, refl, sym, ap, subst, ◌∙◌}
use Rattle.std.proofs.lemmas.List.Concat.{flat_map-append}
use Rattle.sb_answer_runs.specs.answers.base.records.declared.intake.Refusal.{Refusal}
use Rattle.sb_answer_runs.specs.answers.base.records.declared.intake.Stop.{Stop}
use Rattle.sb_answer_runs.specs.answers.base.records.declared.intake.Stop.TheVariants.{End, Refused, Fault}
use Rattle.sb_answer_runs.specs.answers.base.records.declared.item.Item.{Item}
use Rattle.sb_answer_runs.specs.answers.base.records.Inputs.{Accepted, stop_of}
use Rattle.sb_answer_runs.specs.answers.base.records.Intake.{low}
use Rattle.sb_answer_runs.specs.answers.base.records.Records.{at_least}
use Rattle.sb_answer_runs.specs.answers.base.records.Rows.{row_text, text_of}
use Rattle.sb_answer_runs.specs.answers.base.records.Streams.{dropped_of, low_watermark}
use Rattle.sb_answer_runs.specs.answers.outside.Lines.{lines}
use Rattle.sb_answer_runs.specs.answers.base.pipeline.Shapes.{Shape, streams_of}
use Rattle.sb_answer_runs.specs.answers.checkpoint.Checkpoints.{with_comments, low_of, saved_items}
use Rattle.sb_answer_runs.specs.answers.checkpoint.Laws.{AreWholeLines, Resumes, accepted_in, resumed_bytes}
use Rattle.sb_answer_runs.specs.answers.checkpoint.Reach.{HasNoSession}
use Rattle.sb_answer_runs.specs.answers.checkpoint.Texts.{IsRead, items_text, pieces}
use Rattle.sb_answer_runs.proofs.answers.checkpoint.CutInputs.{cut-inputs}
use Rattle.sb_answer_runs.proofs.answers.checkpoint.Pieces.{texts-read_back}
use Rattle.sb_answer_runs.proofs.answers.checkpoint.ReadOrFaulty.{read-or_faulty}
use Rattle.sb_answer_runs.specs.answers.one_feed.Due.{due_mark, due_rows, rows_below}
use Rattle.sb_answer_runs.specs.answers.one_feed.Given.{accepted_of, Given, part_accepted, part_items}
use Rattle.sb_answer_runs.specs.answers.CheckpointFiles.{Said}
use Rattle.sb_answer_runs.specs.answers.Courses.{if_ended, part_course, rest_course, run_course, saved_text}
use Rattle.sb_cli.specs.Laws.{AreCutBehind, CutRunsWriteTheWhole, IsSavedPart, WriteTheWhole}
use Rattle.sb_answer_runs.proofs.answers.RunAnswers.{low_at_most}

-- reading stops as at the end only where no line is refused
none_refused : (ended : Bool) (refused : Option Refusal) → stop_of ended refused ≡ End → refused ≡ None
none_refused ended None e = refl
none_refused ended (Some refusal) e = cc e

-- what a checkpoint says of these items
abbrev pub said_of : Shape → List Item → Said
said_of plan items = record { lines = length items; low = low_of plan items; items = saved_items plan items }

-- what is read in a saved text is what was saved
read_as_saved : (plan : Shape) (ls : List (List ℕ)) (said : Said) → let items = (accepted_in plan ls).items in IsRead plan (pieces (saved_text plan items)) said.lines said.low said.items → said ≡ said_of plan items
read_as_saved plan ls said read =
    let items = (accepted_in plan ls).items in
    let (l, v, i) = (read-or_faulty plan (saved_text plan items)).one_checkpoint said.lines (length items) said.low (low_of plan items) said.items (saved_items plan items) read (texts-read_back plan ls items refl) in
    (λ j. record { lines = l j; low = v j; items = i j })

module _ (plan : Shape) (none : HasNoSession plan) (first more : List ℕ) (ended : Bool) (cut : AreWholeLines first) (fine : (accepted_in plan (lines false first)).refused ≡ None) where
  abbrev items : List Item
  items = (accepted_in plan (lines false first)).items

  abbrev whole : Accepted
  whole = accepted_in plan (lines ended (first ++ more))

  abbrev resumed : Accepted
  resumed = accepted_in plan (lines ended (resumed_bytes plan first ++ more))

  resumes : Resumes plan items whole resumed
  resumes = cut-inputs plan none first more ended cut fine

  pub same_stop : stop_of ended whole.refused ≡ stop_of ended resumed.refused
  same_stop = ap (stop_of ended) resumes.refused

  same_low : low_watermark (streams_of plan) whole.items ≡ low_watermark (streams_of plan) resumed.items
  same_low = ap low resumes.marks

  at_least_low : (stop : Stop) → low_of plan items ≤ due_mark stop (low_watermark (streams_of plan) whole.items)
  at_least_low End = low_at_most plan (lines false first)
  at_least_low (Refused refusal) = resumes.later
  at_least_low Fault = resumes.later

  -- the rows that are due of the whole are those of the part, and then the later ones of the resumed run
  pub due_in_parts : (stop : Stop) → due_rows plan stop whole.items ≡ rows_below (low_of plan items) plan items ++ at_least (low_of plan items) (due_rows plan stop resumed.items)
  due_in_parts stop =
      resumes.rows (due_mark stop (low_watermark (streams_of plan) whole.items)) (at_least_low stop)
      ∙ ap (λ l. rows_below (low_of plan items) plan items ++ at_least (low_of plan items) (rows_below (due_mark stop l) plan resumed.items)) same_low

  pub texts_in_parts : (stop : Stop) → text_of (due_rows plan stop whole.items)
      ≡ text_of (rows_below (low_of plan items) plan items) ++ text_of (at_least (low_of plan items) (due_rows plan stop resumed.items))
  texts_in_parts stop =
      ap text_of (due_in_parts stop) ∙ flat_map-append row_text (rows_below (low_of plan items) plan items) (at_least (low_of plan items) (due_rows plan stop resumed.items))

  pub dropped_in_parts : dropped_of whole.items ≡ dropped_of items ++ dropped_of resumed.items
  dropped_in_parts = resumes.dropped

-- of a first part that was saved
module _ (plan : Shape) {part_left part_left' : Option (List ℕ)} (part : Given part_left part_left') (said : Said) (is : IsSavedPart plan part said) where
  pub fine : (part_accepted plan part).refused ≡ None
  fine = none_refused part.ended (part_accepted plan part).refused is.done

  pub said_is : said ≡ said_of plan (part_items plan part)
  said_is = read_as_saved plan (lines false part.bytes) said (subst (λ s. IsRead plan (pieces (if_ended s (saved_text plan (part_items plan part)))) said.lines said.low said.items) is.done is.saved)

  -- the bytes that are read in its place
  pub lines_are : items_text (with_comments said.lines said.items) ≡ resumed_bytes plan part.bytes
  lines_are = ap (λ (s : Said). items_text (with_comments s.lines s.items)) said_is

module _ (plan : Shape) (none : HasNoSession plan) {part_left part_left' rest_left rest_left' left left' : Option (List ℕ)}
    (part : Given part_left part_left') (rest : Given rest_left rest_left') (whole : Given left left') (said : Said) (is : IsSavedPart plan part said) (cut : AreCutBehind said part rest whole) where
  rest_bytes : rest.bytes ≡ resumed_bytes plan part.bytes ++ cut.more
  rest_bytes = cut.rest_is ∙ ap (λ b. b ++ cut.more) (lines_are plan part said is)

  -- what is accepted of the whole and of the rest
  abbrev of_whole : Accepted
  of_whole = accepted_in plan (lines whole.ended (part.bytes ++ cut.more))

  abbrev of_rest : Accepted
  of_rest = accepted_in plan (lines whole.ended (resumed_bytes plan part.bytes ++ cut.more))

  whole_accepted : accepted_of plan whole ≡ of_whole
  whole_accepted = ap (λ b. accepted_in plan (lines whole.ended b)) cut.whole_is

  rest_accepted : of_rest ≡ accepted_of plan rest
  rest_accepted = (λ i. accepted_in plan (lines (sym cut.end i) (sym rest_bytes i)))

  pub cut_run : WriteTheWhole (part_course plan part) (rest_course said.low plan rest) (run_course plan whole)
  cut_run =
      let good = fine plan part said is in
      let stops = same_stop plan none part.bytes cut.more whole.ended is.whole_lines good in
      record {
        stop = (λ i. stop_of whole.ended (whole_accepted i).refused) ∙ stops ∙ (λ i. stop_of (sym cut.end i) (rest_accepted i).refused);
        due =
            (λ i. text_of (due_rows plan (stop_of whole.ended (whole_accepted i).refused) (whole_accepted i).items))
            ∙ ap (λ s. text_of (due_rows plan s of_whole.items)) stops
            ∙ texts_in_parts plan none part.bytes cut.more whole.ended is.whole_lines good (stop_of whole.ended of_rest.refused)
            ∙ (λ i.
            text_of (rows_below (low_of plan (part_items plan part)) plan (part_items plan part))
            ++ text_of (at_least (sym (said_is plan part said is) i).low (due_rows plan (stop_of (sym cut.end i) (rest_accepted i).refused) (rest_accepted i).items)));
        dropped =
            (λ i. dropped_of (whole_accepted i).items)
            ∙ dropped_in_parts plan none part.bytes cut.more whole.ended is.whole_lines good
            ∙ (λ i. dropped_of (part_items plan part) ++ dropped_of (rest_accepted i).items);
      }

pub cut-runs_write_the_whole : CutRunsWriteTheWhole
cut-runs_write_the_whole plan none part_left part_left' rest_left rest_left' left left' part rest whole said is cut = cut_run plan none part rest whole said is cut
