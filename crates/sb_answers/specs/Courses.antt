-- What a run has to write of what its source gave.
use Rattle.std.specs.Prelude.{ℕ, List, [], ◌∷◌, Option, Some, None, length}
use Rattle.sb_alone.specs.base.records.declared.intake.Stop.{Stop}
use Rattle.sb_alone.specs.base.records.declared.intake.Stop.TheVariants.{End, Refused, Fault}
use Rattle.sb_alone.specs.base.records.declared.item.Item.{Item}
use Rattle.sb_alone.specs.base.records.declared.item.Record.{Record}
use Rattle.sb_alone.specs.base.records.Inputs.{stop_of}
use Rattle.sb_alone.specs.base.records.Records.{at_least}
use Rattle.sb_alone.specs.base.records.Rows.{text_of}
use Rattle.sb_alone.specs.base.pipeline.Shapes.{Shape}
use Rattle.sb_live.specs.Lasts.{last_if_any}
use Rattle.sb_live.specs.Naming.{key_named}
use Rattle.sb_alone.specs.one_feed.Due.{due_rows, rows_below}
use Rattle.sb_alone.specs.one_feed.Given.{Given, items_of, part_accepted, part_items, stop_at}
use Rattle.sb_checkpoint.specs.Checkpoints.{low_of, saved_items}
use Rattle.sb_checkpoint.specs.Texts.{checkpoint_text}
use Rattle.sb_words.specs.Words.{Asked}
use Rattle.sb_words.specs.Words.Asked.{Sum, Run, Slow, Audit, Work, Watch, Feeds, Part, Save, Resume}
use Rattle.sb_answers.specs.Pipelines.{all_rows}

-- where reading stopped, the accepted items, the text that is due there, and the text of which a prefix is written if
-- writing fails or memory is out
pub record Course : Type 0 where
  pub stop : Stop
  pub items : List Item
  pub due : List ℕ
  pub whole : List ℕ

-- some of the plan's rows: of those that are due, and of all
abbrev pub shown_course : {left left' : Option (List ℕ)} → (List Record → List Record) → Shape → Given left left'
    → Course
shown_course shown plan given = record {
  stop = stop_at plan given;
  items = items_of plan given;
  due = text_of (shown (due_rows plan (stop_at plan given) (items_of plan given)));
  whole = text_of (shown (all_rows plan (items_of plan given)));
}

-- the plan's rows
abbrev pub run_course : {left left' : Option (List ℕ)} → Shape → Given left left' → Course
run_course plan given = shown_course (λ rows. rows) plan given

-- its rows from a time on
abbrev pub rest_course : {left left' : Option (List ℕ)} → ℕ → Shape → Given left left' → Course
rest_course low plan given = shown_course (at_least low) plan given

-- a row, if there is one
abbrev pub row_if_any : Option Record → List Record
row_if_any None = []
row_if_any (Some row) = row ∷ []

-- the text of the last of these rows that has the key of this name
abbrev pub last_text : List ℕ → Shape → List Record → List ℕ
last_text key plan rows = text_of (row_if_any (last_if_any (key_named plan.keys key) rows))

-- of the rows that are due the last one of a key
abbrev pub watch_course : {left left' : Option (List ℕ)} → List ℕ → Shape → Given left left' → Course
watch_course key plan given = record {
  stop = stop_at plan given;
  items = items_of plan given;
  due = last_text key plan (due_rows plan (stop_at plan given) (items_of plan given));
  whole = last_text key plan (due_rows plan (stop_at plan given) (items_of plan given));
}

-- of a first part of an input the rows below its low watermark
abbrev pub part_course : {left left' : Option (List ℕ)} → Shape → Given left left' → Course
part_course plan given = record {
  stop = stop_of given.ended (part_accepted plan given).refused;
  items = part_items plan given;
  due = text_of (rows_below (low_of plan (part_items plan given)) plan (part_items plan given));
  whole = text_of (all_rows plan (part_items plan given));
}

-- the checkpoint of these accepted items
abbrev pub saved_text : Shape → List Item → List ℕ
saved_text plan items = checkpoint_text (length items) (low_of plan items) (saved_items plan items)

-- a text if reading came to the end, else nothing
abbrev pub if_ended : Stop → List ℕ → List ℕ
if_ended End text = text
if_ended (Refused refusal) text = []
if_ended Fault text = []

-- the checkpoint of a first part of an input that was read to its end
abbrev pub save_course : {left left' : Option (List ℕ)} → Shape → Given left left' → Course
save_course plan given = record {
  stop = stop_of given.ended (part_accepted plan given).refused;
  items = part_items plan given;
  due = if_ended (stop_of given.ended (part_accepted plan given).refused) (saved_text plan (part_items plan given));
  whole = saved_text plan (part_items plan given);
}

-- what is asked for of a plan's input; `resume` asks for more than a plan, and `feeds` reads no input
abbrev pub course_in : {left left' : Option (List ℕ)} → Asked → Shape → Given left left' → Course
course_in (Sum size options) plan given = run_course plan given
course_in (Run name options) plan given = run_course plan given
course_in (Slow name) plan given = run_course plan given
course_in Audit plan given = run_course plan given
course_in (Work records options) plan given = run_course plan given
course_in (Watch name key options) plan given = watch_course key plan given
course_in (Feeds name file_a file_b options) plan given = run_course plan given
course_in (Part name options) plan given = part_course plan given
course_in (Save name) plan given = save_course plan given
course_in (Resume name checkpoint options) plan given = run_course plan given
