-- What a call of an output has sent that sends its rows through a ring.
use Rattle.std.proofs.Common.{◌≡◌, ◌≤◌, ℕ, ◌++◌, List, [], ◌∷◌, Vec, false, Result, Err, refl, sym, subst, ◌∙◌, append-nil, arith}
use Rattle.std.specs.declared.alloc.Global.{Global}
use Rattle.rtrb.specs.declared.producer.Producer.{Producer}
use Rattle.rtrb.specs.Ring.{SameProducer}
use Rattle.sb_feed.specs.base.records.declared.item.Record.{Record}
use Rattle.sb_feed.specs.emit.Outputs.{AreApart}
use Rattle.sb_feed.specs.outside.declared.sink.SinkFault.{SinkFault}
use Rattle.sb_feed.specs.outside.declared.sink.SinkFault.TheVariants as fault
use Rattle.sb_feed.specs.outside.Sinks.{SinkCause}
use Rattle.sb_feed.specs.outside.Sources.{Rose}
use Rattle.sb_feeds.specs.declared.rows.ends.RowsFeeding.{RowsFeeding}
use Rattle.sb_feeds.specs.declared.rows.ends.RowsOut.{RowsOut}
use Rattle.sb_feeds.specs.declared.rows.fed.RowsFed.{RowsFed}
use Rattle.sb_feeds.specs.declared.rows.fed.RowsFed.TheVariants as fed
use Rattle.sb_feeds.specs.Ends.{ring_at}
use Rattle.sb_feeds.specs.RowsEnds.{rows_sent}
use Rattle.sb_feeds.specs.RowsSends.{AreSent}

-- the end that was sent by is of the same ring
same_row_ring : (a b : Producer RowsFed Global RowsFeeding) → SameProducer a b → ring_at b.end ≡ ring_at a.end
same_row_ring a b same = λ i. record { words = same.0.0 i; places = same.0.1 i; names = same.0.2 i; heap = same.0.3 i }

-- all rows are earlier than none
pub apart_none : (l : List Record) → AreApart l []
apart_none [] = tt
apart_none (r ∷ l) = (tt, apart_none l)

-- the rows of a call were sent
pub one_sent : (o p : RowsOut) (rows : List Record) (copied : Vec Record Global) → copied.items ≡ rows → SameProducer o.producer p.producer → rows_sent p ≡ rows_sent o ++ fed.Rows copied ∷ [] → AreSent o rows p
one_sent o p rows copied is same sent = record {
  ring = same_row_ring o.producer p.producer same;
  values = fed.Rows copied ∷ [];
  sent = sent;
  unended = refl;
  in_turn = (apart_none copied.items, tt);
  are = append-nil copied.items ∙ is;
}

-- a call that was refused, since the printer needs nothing more
pub refused : {T : Type 0} (faults faults' shortages shortages' : ℕ) (result : Result T SinkFault) → faults ≤ faults' → Rose faults faults' → shortages' ≡ shortages → result ≡ Err fault.Failed
    → SinkCause (record { faults = faults; shortages = shortages; refuses = false }) (record { faults = faults'; shortages = shortages'; refuses = false }) result
refused {T} faults faults' shortages shortages' result more rose same is =
    subst (SinkCause (record { faults = faults; shortages = shortages; refuses = false }) (record { faults = faults'; shortages = shortages'; refuses = false })) (sym is) cause
  where
    cause : SinkCause {T = T} (record { faults = faults; shortages = shortages; refuses = false }) (record { faults = faults'; shortages = shortages'; refuses = false }) (Err fault.Failed)
    cause = record {
      never_falls = more;
      never_short = omega (arith, same);
      keeps_refusing = λ e. e;
      failed = λ e. rose;
      memory = λ e. absurd (cc e);
      passed = tt;
    }
