use Rattle.std.specs.Prelude.{Some, flat_map}
use Rattle.sb_feed.specs.base.records.declared.item.Stream.TheVariants.{A, B}
use Rattle.sb_feed.proofs.outside.Appending.{prefix_of_more, writes_err}
use Rattle.sb_told.specs.declared.late.LateRecords.TheVariants.{OfFiles}
use Rattle.sb_told.specs.Statuses.{late_line, late_text}
use Rattle.sb_told.proofs.Printing.{written_behind}
use Rattle.sb_told.proofs.late.LateRecords.write.Goals as goal

pub returns-in_err-write_dropped-in-OfFiles-clause-bytes : goal.returns-in_err-write_dropped-in-OfFiles-clause-bytes
returns-in_err-write_dropped-in-OfFiles-clause-bytes g c =
    let taken = g.N.Sink.taken c.args.notes.now in
    let taken' = g.N.Sink.taken c.write_dropped-in-OfFiles.new.notes in
    let of_a = flat_map (late_line (Some A)) c.in-OfFiles.a in
    let of_b = flat_map (late_line (Some B)) c.in-OfFiles.b in
    let first = rw c.as_slice-in-OfFiles.ensures at c.in_err-write_dropped-in-OfFiles.ensures.bytes in
    rw c.in-OfFiles.is (writes_err taken taken' (late_text (OfFiles c.in-OfFiles.a c.in-OfFiles.b)) c.from_residual.result c.from_residual.ensures.0
    (prefix_of_more taken taken' of_a of_b first))

pub returns-in_ok-write_dropped-in-OfFiles-clause-bytes : goal.returns-in_ok-write_dropped-in-OfFiles-clause-bytes
returns-in_ok-write_dropped-in-OfFiles-clause-bytes g c =
    let taken = g.N.Sink.taken in
    let of_a = flat_map (late_line (Some A)) c.in-OfFiles.a in
    let of_b = flat_map (late_line (Some B)) c.in-OfFiles.b in
    let first = rw c.as_slice-in-OfFiles.ensures at c.in_ok-write_dropped-in-OfFiles.ensures.bytes in
    let behind = rw c.as_slice-in-OfFiles-2.ensures at c.write_dropped-in-OfFiles-2.ensures.bytes in
    rw c.in-OfFiles.is (written_behind (taken c.args.notes.now) (taken c.write_dropped-in-OfFiles.new.notes) (taken c.write_dropped-in-OfFiles-2.new.notes) of_a of_b
    c.write_dropped-in-OfFiles-2.result first behind)
