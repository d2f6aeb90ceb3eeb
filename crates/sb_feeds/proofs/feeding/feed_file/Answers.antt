use Rattle.std.proofs.Common.{ap, ◌∙◌}
use Rattle.rtrb.specs.Ring.{sent}
use Rattle.sb_feeds.specs.Fed.{ends_with_stop}
use Rattle.sb_feeds.proofs.FileSoFar.{all_fed, file_ends, item_read, no_stop_yet}
use Rattle.sb_feeds.proofs.feeding.feed_file.Goals as goal

pub send_item-requires : goal.send_item-requires
send_item-requires g c = no_stop_yet _ _ _ _ _ _ c.items.invariant.so_far

pub items-preserved : goal.items-preserved
items-preserved g c =
    let a = c.send_item.ensures.ring in
    let b = c.items.invariant.ring in
    record {
      so_far = item_read c.args.intake c.args.bytes.items c.items.source c.next_item.new.source c.items.lines c.next_item.new.lines c.items.intake c.next_item.new.intake
          (sent c.items.producer) (sent c.send_item.new.producer) c.in-Ok.item c.items.invariant.so_far c.in-Ok.ensures.takes c.in-Ok.ensures.room c.send_item.ensures.sent;
      ring = ((a.0.0 ∙ b.0.0, a.0.1 ∙ b.0.1, a.0.2 ∙ b.0.2, a.0.3 ∙ b.0.3), a.1 ∙ b.1);
    }

pub send-requires : goal.send-requires
send-requires g c = no_stop_yet _ _ _ _ _ _ c.items.invariant.so_far

pub invariant_of-result : goal.invariant_of-result
invariant_of-result g c =
    record {
      whole =
          ap ends_with_stop
          (all_fed c.args.intake c.args.bytes.items c.items.source c.next_item.new.source c.items.lines c.next_item.new.lines c.items.intake c.next_item.new.intake
          (sent c.items.producer) (sent c.send.new.producer) c.in-Err.stop c.feed_stop.result c.items.invariant.so_far c.in-Err.ensures.takes c.in-Err.ensures.cause c.feed_stop.ensures c.send.ensures.sent)
          ∙ file_ends c.args.intake c.args.bytes.items;
    }

pub returns-in-Err-clause-fed : goal.returns-in-Err-clause-fed
returns-in-Err-clause-fed g c =
    all_fed c.args.intake c.args.bytes.items c.items.source c.next_item.new.source c.items.lines c.next_item.new.lines c.items.intake c.next_item.new.intake
    (sent c.items.producer) (sent c.send.new.producer) c.in-Err.stop c.feed_stop.result c.items.invariant.so_far c.in-Err.ensures.takes c.in-Err.ensures.cause c.feed_stop.ensures c.send.ensures.sent
