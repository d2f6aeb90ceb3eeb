-- What came out of the rings of two files, against what their threads fed.
use Rattle.std.proofs.Common.{◌≡◌, true, List, [], ℕ, subst, sym, ◌∙◌}
use mathlib.Core.List.{IsPrefix}
use Rattle.sb_engines.specs.feeds.base.records.declared.intake.LatePolicy.{LatePolicy}
use Rattle.sb_engines.specs.feeds.base.records.declared.item.Stream.{Stream}
use Rattle.sb_engines.specs.feeds.base.records.declared.item.Stream.TheVariants.{A, B}
use Rattle.sb_engines.specs.feeds.base.records.declared.item.Streams.{Streams}
use Rattle.sb_engines.specs.feeds.base.records.declared.key.Keys.{Keys}
use Rattle.sb_engines.specs.feeds.base.records.Inputs.{accepted}
use Rattle.sb_engines.specs.feeds.base.records.Intake.{first_progress}
use Rattle.sb_engines.specs.feeds.base.records.Progress.{Progress}
use Rattle.sb_engines.specs.feeds.outside.Lines.{lines}
use Rattle.sb_engines.specs.feeds.base.pipeline.Shapes.{Shape, streams_of}
use Rattle.sb_engines.specs.feeds.declared.ends.FeedDone.{FeedDone}
use Rattle.sb_engines.specs.feeds.Ends.{values_fed, values_received, ring_in, ring_of}
use Rattle.sb_engines.specs.feeds.Fed.{values_of_file, values_of_accepted}
use Rattle.sb_run.specs.declared.files.inlet.Inlet.{Inlet}
use Rattle.sb_run.specs.declared.files.inlets.Inlets.{Inlets}
use Rattle.sb_run.specs.declared.files.reading.FilePart.{FilePart}
use Rattle.sb_run.specs.declared.files.reading.Files.{Files}
use Rattle.sb_run.specs.declared.files.reading.FilesDone.{FilesDone}
use Rattle.sb_engines.specs.feeds.Files.{accepted_of_file, stream_alone}
use Rattle.sb_engines.specs.feeds.base.Inputs.{by_stream}
use Rattle.sb_run.specs.FilesRead.{AreFedWhole, AreNew, AreOpened, IsFedWhole, IsOpened}
use Rattle.sb_run.specs.Pops.{AreInlets, values_of}

-- a file that was opened is new
new_of : (p : Progress) (streams : Streams) (late : LatePolicy) (keys : Keys) → p ≡ first_progress streams 0 late keys → p ≡ first_progress p.streams 0 p.late p.keys
new_of p streams late keys is = is ∙ (λ i. first_progress (sym is i).streams 0 (sym is i).late (sym is i).keys)

pub opened_new : (streams : Streams) (late : LatePolicy) (keys : Keys) (a b : List ℕ) (files : Files) (inlets : Inlets) → AreOpened streams late keys a b files inlets → AreNew files
opened_new streams late keys a b files inlets o = record {
  new_a = new_of files.a.intake (stream_alone A streams) late keys o.of_a.part_is.intake;
  new_b = new_of files.b.intake (stream_alone B streams) late keys o.of_b.part_is.intake;
  none_a = o.of_a.part_is.nothing_sent;
  none_b = o.of_b.part_is.nothing_sent;
}

-- and so are their rings
pub opened_inlets : (streams : Streams) (late : LatePolicy) (keys : Keys) (a b : List ℕ) (files : Files) (inlets : Inlets) → AreOpened streams late keys a b files inlets → AreInlets streams inlets
opened_inlets streams late keys a b files inlets o = record { of_a = o.of_a.inlet_is; of_b = o.of_b.inlet_is }

pub opened_nothing : (streams : Streams) (late : LatePolicy) (keys : Keys) (a b : List ℕ) (files : Files) (inlets : Inlets) → AreOpened streams late keys a b files inlets → (s : Stream) → values_of inlets s ≡ []
opened_nothing streams late keys a b files inlets o A = o.of_a.nothing_received
opened_nothing streams late keys a b files inlets o B = o.of_b.nothing_received

-- what a thread fed is what the plan accepts of its file
module _ (plan : Shape) (streams : Streams) (late : LatePolicy) (keys : Keys) (same_streams : streams ≡ streams_of plan) (same_late : late ≡ plan.late) (same_keys : keys ≡ plan.keys) where
  fed_is : (s : Stream) (bytes : List ℕ) (part : FilePart) (inlet : Inlet) (done : FeedDone) → IsOpened streams late keys s bytes part inlet → IsFedWhole part done → values_fed done ≡ values_of_accepted (accepted_of_file plan s bytes)
  fed_is s bytes part inlet done o w =
      w.fed ∙ (λ i. values_of_file (o.part_is.intake i) (o.part_is.bytes_are i))
      ∙ (λ i. values_of_accepted (accepted (stream_alone s (same_streams i)) (same_late i) (same_keys i) (lines true bytes)))

  pub files_read : (a b : List ℕ) (files : Files) (first last : Inlets) (done : FilesDone) → AreOpened streams late keys a b files first → AreFedWhole files done
      → IsPrefix (values_received last.a.inward) (values_fed done.a) → IsPrefix (values_received last.b.inward) (values_fed done.b) → (s : Stream) → IsPrefix (values_of last s) (values_of_accepted (accepted_of_file plan s (by_stream a b s)))
  files_read a b files first last done o (whole_a, whole_b) prefix_a prefix_b A = subst (IsPrefix (values_received last.a.inward)) (fed_is A a files.a first.a done.a o.of_a whole_a) prefix_a
  files_read a b files first last done o (whole_a, whole_b) prefix_a prefix_b B = subst (IsPrefix (values_received last.b.inward)) (fed_is B b files.b first.b done.b o.of_b whole_b) prefix_b

-- the two ends of a ring are of one ring
pub rings_tie : (streams : Streams) (late : LatePolicy) (keys : Keys) (s : Stream) (bytes : List ℕ) (part : FilePart) (first last : Inlet) (done : FeedDone) → IsOpened streams late keys s bytes part first → IsFedWhole part done
    → ring_in last.inward ≡ ring_in first.inward → ring_in last.inward ≡ ring_of done
rings_tie streams late keys s bytes part first last done o w same = same ∙ o.ring ∙ sym w.ring

-- what holds of both holds of each
pub of_each : {X : Type 0} (P : X → Type 0) (a b : X) → P a → P b → (s : Stream) → P (by_stream a b s)
of_each P a b of_a of_b A = of_a
of_each P a b of_a of_b B = of_b
