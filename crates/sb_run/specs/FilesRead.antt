-- The threads that read two record files, and their rings.
use Rattle.std.specs.Prelude.{◌≡◌, ℕ, List, [], Option, Some, None, ⊤}
use Rattle.sb_engines.specs.feeds.base.records.declared.intake.LatePolicy.{LatePolicy}
use Rattle.sb_engines.specs.feeds.base.records.declared.item.Stream.{Stream}
use Rattle.sb_engines.specs.feeds.base.records.declared.item.Stream.TheVariants.{A, B}
use Rattle.sb_engines.specs.feeds.base.records.declared.item.Streams.{Streams}
use Rattle.sb_engines.specs.feeds.base.records.declared.key.Keys.{Keys}
use Rattle.sb_engines.specs.feeds.base.records.Intake.{first_progress}
use Rattle.sb_engines.specs.feeds.declared.ends.FeedDone.{FeedDone}
use Rattle.sb_engines.specs.feeds.Ends.{values_fed, values_received, ring_in, ring_of, ring_out, values_sent}
use Rattle.sb_engines.specs.feeds.Fed.{IsNew, values_of_file}
use Rattle.sb_run.specs.declared.files.inlet.Inlet.{Inlet}
use Rattle.sb_run.specs.declared.files.inlets.Inlets.{Inlets}
use Rattle.sb_run.specs.declared.files.reading.FilePart.{FilePart}
use Rattle.sb_run.specs.declared.files.reading.Files.{Files}
use Rattle.sb_run.specs.declared.files.reading.FilesDone.{FilesDone}
use Rattle.sb_engines.specs.feeds.Files.{stream_alone}
use Rattle.sb_run.specs.Pops.{IsInlet}

-- a file of which nothing was read, and whose lines are accepted by these streams, late records and keys
pub record IsNewPart (streams : Streams) (late : LatePolicy) (keys : Keys) (bytes : List ℕ) (part : FilePart)
    : Type 0 where
  pub bytes_are : part.bytes.items ≡ bytes
  pub intake : part.intake ≡ first_progress streams 0 late keys
  pub nothing_sent : values_sent part.out ≡ []

-- the file of a stream and the receiving end of its ring, before the first value
pub record IsOpened (streams : Streams) (late : LatePolicy) (keys : Keys) (s : Stream) (bytes : List ℕ)
    (part : FilePart) (inlet : Inlet) : Type 0 where
  pub part_is : IsNewPart (stream_alone s streams) late keys bytes part
  pub inlet_is : IsInlet streams s inlet
  pub nothing_received : values_received inlet.inward ≡ []
  pub ring : ring_in inlet.inward ≡ ring_out part.out

-- both of them
pub record AreOpened (streams : Streams) (late : LatePolicy) (keys : Keys) (a b : List ℕ) (files : Files)
    (inlets : Inlets) : Type 0 where
  pub of_a : IsOpened streams late keys A a files.a inlets.a
  pub of_b : IsOpened streams late keys B b files.b inlets.b

-- nothing was read of either file
pub record AreNew (files : Files) : Type 0 where
  pub new_a : IsNew files.a.intake
  pub new_b : IsNew files.b.intake
  pub none_a : values_sent files.a.out ≡ []
  pub none_b : values_sent files.b.out ≡ []

-- the file was fed whole
pub record IsFedWhole (part : FilePart) (done : FeedDone) : Type 0 where
  pub ring : ring_of done ≡ ring_out part.out
  pub fed : values_fed done ≡ values_of_file part.intake part.bytes.items

-- both were
abbrev pub AreFedWhole : Files → FilesDone → Type 0
AreFedWhole files done = IsFedWhole files.a done.a × IsFedWhole files.b done.b

-- the files that were handed over, if any, were fed whole
abbrev pub AreReadOnce : Option Files → Option FilesDone → Type 0
AreReadOnce (Some files) (Some done) = AreFedWhole files done
AreReadOnce (Some files) None = ⊥
AreReadOnce None result = ⊤

-- and nothing was read of them before
abbrev pub AreNewOnce : Option Files → Type 0
AreNewOnce (Some files) = AreNew files
AreNewOnce None = ⊤
