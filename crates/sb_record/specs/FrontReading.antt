-- How the line at the front of bytes is read and tested.
use Rattle.std.specs.Prelude.{ℕ, ℤ, Bool, true, ◌&&◌, ◌==◌, nat_le, if◌then◌else◌, List, [], ◌∷◌, Option, Some, None}
use Rattle.sb_record.specs.declared.item.TheConstants.{MAX_TIME}
use Rattle.sb_record.specs.declared.item.Stream.{Stream}
use Rattle.sb_record.specs.declared.item.Record.{Record}
use Rattle.sb_record.specs.declared.item.Item.{Item}
use Rattle.sb_record.specs.declared.item.Item.TheVariants.{Rec, Mark, Skip, Late}
use Rattle.sb_record.specs.declared.front.FrontLine.{FrontLine}
use Rattle.sb_record.specs.declared.key.Key.TheVariants.{Number}
use Rattle.sb_record.specs.declared.key.Keys.{Keys}
use Rattle.sb_record.specs.declared.usual.UsualRecord.{UsualRecord}
use Rattle.sb_record.specs.Progress.{Progress}
use Rattle.sb_record.specs.Reading.{◌>>=◌, number_at, byte_at, key_at, signed_at, between}
use Rattle.sb_record.specs.Streams.{uses}
use Rattle.sb_record.specs.Intake.{mark_of}
use Rattle.sb_record.specs.Fronts.{line_feed}

-- whether the stream is one of the pipeline's and the time is not below the stream's last watermark
abbrev pub is_in_time : Progress → Stream → ℕ → Bool
is_in_time p s t = uses p.streams s && nat_le (mark_of p s) t

-- whether the item's stream is one of the pipeline's and its time is not below the stream's last watermark
abbrev pub is_timely : Progress → Item → Bool
is_timely p (Rec s r) = is_in_time p s r.time
is_timely p (Mark s t) = is_in_time p s t
is_timely p Skip = true
is_timely p (Late n t m) = true

-- the record alone, of a record in the usual form
abbrev pub usual_record : UsualRecord → Record
usual_record r = record { time = r.time; key = Number r.number; value = r.value }

-- its line
abbrev pub usual_line : UsualRecord → FrontLine
usual_line r = record { item = Rec r.stream (usual_record r); len = r.len }

-- the item, where a line feed follows it, and what follows that
abbrev pub before_line_feed : Item → List ℕ → Option (Item × List ℕ)
before_line_feed item bytes = byte_at line_feed bytes >>= λ rest. Some (item, rest)

-- a comma and a value
unfoldable pub value_at : List ℕ → Option (ℤ × List ℕ)
value_at bytes = byte_at 44 bytes >>= λ rest. signed_at rest

-- the key and the value of a record of this stream and time, with a line feed behind them
unfoldable pub rest_of_record_at : Keys → Stream → ℕ → List ℕ → Option (Item × List ℕ)
rest_of_record_at keys s t bytes =
    key_at keys bytes >>= λ k.
    value_at k.1 >>= λ v.
    before_line_feed (Rec s (record { time = t; key = k.0; value = v.0 })) v.1

-- a record with a line feed behind it, after its stream
unfoldable pub record_line_at : Keys → Stream → List ℕ → Option (Item × List ℕ)
record_line_at keys s bytes = number_at MAX_TIME bytes >>= λ t. byte_at 44 t.1 >>= λ b. rest_of_record_at keys s t.0 b

-- a watermark with a line feed behind it, after its stream
unfoldable pub mark_line_at : Stream → List ℕ → Option (Item × List ℕ)
mark_line_at s bytes = number_at MAX_TIME bytes >>= λ t. before_line_feed (Mark s t.0) t.1

-- a record or a watermark with a line feed behind it, and what follows that
unfoldable pub front_at : Keys → List ℕ → Option (Item × List ℕ)
front_at keys [] = None
front_at keys (b ∷ rest) =
    if b == 114 then (between rest >>= λ s. record_line_at keys s.0 s.1)
    else if b == 119 then (between rest >>= λ s. mark_line_at s.0 s.1)
    else None
