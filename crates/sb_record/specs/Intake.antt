-- The tests that a line has to pass, after what the lines before it have said.
use Rattle.std.specs.Prelude.{◌≡◌, ℕ, ◌+◌, ◌<◌, nat_le, nat_lt, if◌then◌else◌, List, length, Option, Some, None, Result, Ok, Err}
use Rattle.sb_record.specs.declared.item.Stream.{Stream}
use Rattle.sb_record.specs.declared.item.Stream.TheVariants.{A, B}
use Rattle.sb_record.specs.declared.item.Streams.{Streams}
use Rattle.sb_record.specs.declared.item.Item.{Item}
use Rattle.sb_record.specs.declared.item.Item.TheVariants.{Rec, Mark, Skip, Late}
use Rattle.sb_record.specs.declared.item.Record.{Record}
use Rattle.sb_record.specs.declared.key.Keys.{Keys}
use Rattle.sb_record.specs.declared.intake.LatePolicy.{LatePolicy}
use Rattle.sb_record.specs.declared.intake.LatePolicy.TheVariants.{Refuse, Drop}
use Rattle.sb_record.specs.declared.intake.Refusal.{Refusal}
use Rattle.sb_record.specs.declared.intake.Refusal.TheVariants as refusal
use Rattle.sb_record.specs.declared.intake.TheConstants.{MAX_LINES, MAX_LINE_LENGTH}
use Rattle.sb_record.specs.Progress.{Progress}
use Rattle.sb_record.specs.Lines.{IsTextOf}
use Rattle.sb_record.specs.Reading.{item_of}
use Rattle.sb_record.specs.Streams.{uses, least_of}

-- after so many lines, none of them a watermark
abbrev pub first_progress : Streams → ℕ → LatePolicy → Keys → Progress
first_progress streams lines late keys = record {
  streams = streams;
  mark_a = 0;
  mark_b = 0;
  lines = lines;
  late = late;
  keys = keys;
}

-- the last watermark of the stream, 0 before the first
abbrev pub mark_of : Progress → Stream → ℕ
mark_of p A = p.mark_a
mark_of p B = p.mark_b

-- what line n gives, where its record has a time t below the stream's last watermark m
abbrev pub when_late : LatePolicy → ℕ → ℕ → ℕ → Result Item Refusal
when_late Refuse n t m = Err (refusal.Late n t m)
when_late Drop n t m = Ok (Late n t m)

-- the item of line n, where its stream is one of the pipeline's and its time is not below the stream's last watermark.
-- No line is read as a late record by itself
abbrev pub timely : Progress → ℕ → Item → Result Item Refusal
timely p n (Rec s r) =
    if uses p.streams s
    then (if nat_lt r.time (mark_of p s) then when_late p.late n r.time (mark_of p s) else Ok (Rec s r))
    else Err (refusal.WrongStream n)
timely p n (Mark s t) =
    if uses p.streams s then (if nat_lt t (mark_of p s) then Err (refusal.Back n t (mark_of p s)) else Ok (Mark s t))
    else Err (refusal.WrongStream n)
timely p n Skip = Ok Skip
timely p n (Late l t m) = Ok (Late l t m)

-- what line n gives, where it is not malformed
abbrev pub timely_if : Progress → ℕ → Option Item → Result Item Refusal
timely_if p n None = Err (refusal.Malformed n)
timely_if p n (Some item) = timely p n item

-- the item of the next line, or the first test that it fails
abbrev pub answer_to : Progress → List ℕ → Result Item Refusal
answer_to p line =
    if nat_le MAX_LINES p.lines then Err refusal.TooMany
    else if nat_lt MAX_LINE_LENGTH (length line) then Err (refusal.TooLong (p.lines + 1))
    else timely_if p (p.lines + 1) (item_of p.keys line)

-- the first test that a next line of more than 128 bytes fails
abbrev pub too_long : Progress → Refusal
too_long p = if nat_le MAX_LINES p.lines then refusal.TooMany else refusal.TooLong (p.lines + 1)

-- what the lines have said, with one more that is accepted
abbrev pub after : Item → Progress → Progress
after (Rec s r) p = record p { lines = p.lines + 1 }
after (Mark A t) p = record p { lines = p.lines + 1; mark_a = t }
after (Mark B t) p = record p { lines = p.lines + 1; mark_b = t }
after Skip p = record p { lines = p.lines + 1 }
after (Late n t m) p = record p { lines = p.lines + 1 }

-- the low watermark
abbrev pub low : Progress → ℕ
low p = least_of p.streams p.mark_a p.mark_b

-- the next line has number n, and is the text of a record with time t of a stream whose last watermark m is above t
pub record IsLateLine (p : Progress) (n t m : ℕ) (line : List ℕ) : Type 0 where
  pub stream : Stream
  pub late : Record
  pub text : IsTextOf p.keys (Rec stream late) line
  pub number : n ≡ p.lines + 1
  pub time : t ≡ late.time
  pub mark : m ≡ mark_of p stream
  pub above : t < m

-- the item is what the next line says: the line is a text of it, or that of the late record that it stands for
abbrev pub IsItemOf : Progress → Item → List ℕ → Type 0
IsItemOf p (Rec s r) line = IsTextOf p.keys (Rec s r) line
IsItemOf p (Mark s t) line = IsTextOf p.keys (Mark s t) line
IsItemOf p Skip line = IsTextOf p.keys Skip line
IsItemOf p (Late n t m) line = IsLateLine p n t m line
