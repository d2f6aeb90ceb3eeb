use Rattle.sb_feed.specs.base.records.Rows.{text_of}
use Rattle.sb_feed.proofs.outside.SinkCauses.{calls_then}
use Rattle.sb_told.proofs.Printing.{all_told, written_kept}
use Rattle.sb_told.proofs.output.write_rows.Goals as goal

pub returns-in-Ok-clause-bytes : goal.returns-in-Ok-clause-bytes
returns-in-Ok-clause-bytes g c =
    written_kept (g.K.Sink.taken c.args.out.now) (g.K.Sink.taken c.write_text.new.out) (g.K.Sink.taken c.finish.new.self) (text_of c.args.rows.now) c.finish.result c.in-Ok.ensures.bytes c.finish.ensures.bytes

pub returns-in-Ok-clause-cause : goal.returns-in-Ok-clause-cause
returns-in-Ok-clause-cause g c = calls_then _ _ _ c.in-Ok.field-0 _ c.in-Ok.ensures.cause c.finish.ensures.cause

pub returns-in-Ok-clause-told : goal.returns-in-Ok-clause-told
returns-in-Ok-clause-told g c = all_told _ _ _ c.in-Ok.field-0 _ c.in-Ok.ensures.cause c.finish.ensures.cause c.finish.ensures.told
