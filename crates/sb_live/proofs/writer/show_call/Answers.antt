use Rattle.std.proofs.Common.{◌∙◌, ◌++◌, ap}
use Rattle.sb_live.specs.Changes.{call_of}
use Rattle.sb_live.proofs.Ends.{publishes}
use Rattle.sb_live.proofs.writer.show_call.Goals as goal

pub publish_as-writer-requires : goal.publish_as-writer-requires
publish_as-writer-requires g c next is =
    publishes _ _ c.log_call.new.writer.desk.shown.value next _ c.args.rows.now is (c.in-Ok.ensures.logged ∙ ap (λ l. l ++ call_of c.args.rows.now) c.requires.settled)
    (rw c.log_call.ensures.desk c.requires.follows) (rw c.log_call.ensures.desk c.requires.rising)
