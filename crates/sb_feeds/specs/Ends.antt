-- What contracts see of the ends of a ring.
use Rattle.std.specs.Prelude.{ℕ, List}
use Rattle.std.specs.declared.alloc.Global.{Global}
use denote.RawPtr.{Ptr}
use Rattle.rtrb.specs.declared.end.End.{End}
use Rattle.rtrb.specs.Ring.{known_items, producer_capacity, received, sent}
use Rattle.rtrb.specs.Shared.{Names}
use Rattle.sb_feeds.specs.declared.ends.FeedDone.{FeedDone}
use Rattle.sb_feeds.specs.declared.ends.FeedIn.{FeedIn}
use Rattle.sb_feeds.specs.declared.ends.FeedOut.{FeedOut}
use Rattle.sb_feeds.specs.declared.fed.Fed.{Fed}

-- a ring: where it lies in memory, and its names in proofs
pub record Ring : Type 0 where
  pub words : Ptr
  pub places : Ptr
  pub names : Names
  pub heap : Global

abbrev pub ring_at : {Value Rule : Type 0} → End Value Global Rule → Ring
ring_at end = record { words = end.words; places = end.slots; names = end.names; heap = end.heap }

-- the ring of each end
abbrev pub ring_out : FeedOut → Ring
ring_out out = ring_at out.producer.end

abbrev pub ring_of : FeedDone → Ring
ring_of done = ring_at done.producer.end

abbrev pub ring_in : FeedIn → Ring
ring_in inward = ring_at inward.consumer.end

-- how many values the ring has room for
abbrev pub places_of : FeedOut → ℕ
places_of out = producer_capacity out.producer

-- all that was sent, oldest first
abbrev pub values_sent : FeedOut → List Fed
values_sent out = sent out.producer

-- all that was sent of a whole file
abbrev pub values_fed : FeedDone → List Fed
values_fed done = sent done.producer

-- all that was received, oldest first
abbrev pub values_received : FeedIn → List Fed
values_received inward = received inward.consumer

-- the values in the ring that the receiving end knows of
abbrev pub known_to : FeedIn → List Fed
known_to inward = known_items inward.consumer
