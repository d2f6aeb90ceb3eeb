use Rattle.std.proofs.Common.{◌++◌, ap, sym, ◌∙◌}
use Rattle.rtrb.specs.Ring.{known_items}
use Rattle.sb_feeds.specs.Ends.{values_fed, values_received}
use Rattle.sb_feeds.proofs.Stops.{first_with_stop}
use Rattle.sb_feeds.proofs.ends.FeedIn.tie.Goals as goal

pub returns-clause-all : goal.returns-clause-all
returns-clause-all c some =
    let looked = c.slots_beside.ensures in
    let known = known_items c.slots_beside.new.self in
    first_with_stop (values_received c.args.self) (values_fed c.args.done) c.args.done.whole (known, ap (λ l. l ++ known) (sym looked.looked.1) ∙ looked.fifo ∙ looked.producer.1) some
