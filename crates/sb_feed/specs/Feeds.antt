-- What was fed to an engine: the bundles that arrived of each stream and the watermarks that were sealed, in order.
use Rattle.std.specs.Prelude.{◌≡◌, ◌≤◌, ◌<◌, ◌^◌, ◌-◌, ℕ, List, [], ◌∷◌, ◌++◌, length, true}
use Rattle.std.specs.List.{AllByRecursion}
use Rattle.sb_base.specs.records.declared.item.Record.{Record}
use Rattle.sb_base.specs.records.declared.item.Stream.{Stream}
use Rattle.sb_base.specs.records.declared.item.Stream.TheVariants.{A, B}
use Rattle.sb_base.specs.records.declared.item.TheConstants.{END_MARK, MAX_TIME}
use Rattle.sb_base.specs.records.Streams.{last_or, uses}
use Rattle.sb_base.specs.bundle.declared.bundle.Bundle.{Bundle}
use Rattle.sb_base.specs.bundle.Calls.{parts_of, records_in_order}
use Rattle.sb_base.specs.pipeline.Shapes.{Shape, streams_of}
use Rattle.sb_base.specs.pipeline.Results.{rows_below}

pub record Fed : Type 0 where
  pub bundles_a : List Bundle
  pub bundles_b : List Bundle
  pub marks_a : List ℕ
  pub marks_b : List ℕ

abbrev pub nothing_fed : Fed
nothing_fed = record { bundles_a = []; bundles_b = []; marks_a = []; marks_b = [] }

-- the bundles and the watermarks of a stream
abbrev pub bundles_in : Fed → Stream → List Bundle
bundles_in f A = f.bundles_a
bundles_in f B = f.bundles_b

abbrev pub marks_in : Fed → Stream → List ℕ
marks_in f A = f.marks_a
marks_in f B = f.marks_b

-- one more of them
abbrev pub with_bundle : Stream → Bundle → Fed → Fed
with_bundle A b f = record f { bundles_a = f.bundles_a ++ b ∷ [] }
with_bundle B b f = record f { bundles_b = f.bundles_b ++ b ∷ [] }

abbrev pub with_mark : Stream → ℕ → Fed → Fed
with_mark A t f = record f { marks_a = f.marks_a ++ t ∷ [] }
with_mark B t f = record f { marks_b = f.marks_b ++ t ∷ [] }

-- the records of the stream that were fed
abbrev pub records_of_feed : Fed → Stream → List Record
records_of_feed f s = records_in_order (parts_of (bundles_in f s))

-- the last watermark of the stream, 0 before the first
abbrev pub floor_in : Fed → Stream → ℕ
floor_in f s = last_or 0 (marks_in f s)

-- the record's time is not below the floor
abbrev pub IsFrom : ℕ → Record → Type 0
IsFrom floor r = (floor ≤ r.time) × (r.time ≤ MAX_TIME)

-- these records may still come: none has a time below the last watermark of its stream
abbrev pub IsComing : Fed → (Stream → List Record) → Type 0
IsComing f coming = (s : Stream) → AllByRecursion (IsFrom (floor_in f s)) (coming s)

-- the rows are the plan's below some mark, whatever may still come
pub record AreRowsSoFar (plan : Shape) (f : Fed) (rows : List Record) : Type 0 where
  pub mark : ℕ
  pub bound : mark ≤ END_MARK
  pub are : (coming : Stream → List Record) → IsComing f coming
      → rows ≡ rows_below mark plan (λ s. records_of_feed f s ++ coming s)

-- the bundle may arrive: it is of the next epoch of a stream of the plan, and has at least one record, but no more than
-- a bundle has, all in time
pub record MayArrive (plan : Shape) (size : ℕ) (f : Fed) (s : Stream) (b : Bundle) : Type 0 where
  pub reads : uses (streams_of plan) s ≡ true
  pub epoch : b.epoch ≡ length (marks_in f s)
  pub floor : b.floor ≡ floor_in f s
  pub some : 1 ≤ length b.records
  pub most : length b.records ≤ size
  pub timely : AllByRecursion (IsFrom (floor_in f s)) b.records
  pub few : length (bundles_in f s) < 2 ^ 64 - 1

-- the watermark may seal the next epoch of a stream of the plan: it does not go back
pub record MaySeal (plan : Shape) (f : Fed) (s : Stream) (t : ℕ) : Type 0 where
  pub reads : uses (streams_of plan) s ≡ true
  pub rises : floor_in f s ≤ t
  pub most : t ≤ END_MARK
