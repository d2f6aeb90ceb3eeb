-- What contracts see of the ends of a ring of rows.
use Rattle.std.specs.Prelude.{List}
use Rattle.rtrb.specs.Ring.{received, sent}
use Rattle.sb_feeds.specs.declared.rows.ends.RowsIn.{RowsIn}
use Rattle.sb_feeds.specs.declared.rows.ends.RowsOut.{RowsOut}
use Rattle.sb_feeds.specs.declared.rows.fed.RowsFed.{RowsFed}
use Rattle.sb_feeds.specs.Ends.{Ring, ring_at}

-- the ring of each end
abbrev pub row_ring_out : RowsOut → Ring
row_ring_out out = ring_at out.producer.end

abbrev pub row_ring_in : RowsIn → Ring
row_ring_in inward = ring_at inward.consumer.end

-- all that was sent, oldest first
abbrev pub rows_sent : RowsOut → List RowsFed
rows_sent out = sent out.producer

-- all that was received, oldest first
abbrev pub rows_received : RowsIn → List RowsFed
rows_received inward = received inward.consumer
