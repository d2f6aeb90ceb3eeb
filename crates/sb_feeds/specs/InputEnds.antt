-- What contracts see of the ends of the ring of an input.
use Rattle.std.specs.Prelude.{ℕ, List, [], ◌∷◌}
use Rattle.rtrb.specs.Ring.{received, sent}
use Rattle.sb_feed.specs.base.records.declared.item.Streams.{Streams}
use Rattle.sb_feeds.specs.declared.input.ends.InputIn.{InputIn}
use Rattle.sb_feeds.specs.declared.input.ends.InputOut.{InputOut}
use Rattle.sb_feeds.specs.declared.input.fed.InputFed.{InputFed}
use Rattle.sb_feeds.specs.declared.input.fed.InputFed.TheVariants.{Begin}
use Rattle.sb_feeds.specs.Ends.{Ring, ring_at}

-- the ring of each end
abbrev pub ring_out : InputOut → Ring
ring_out out = ring_at out.producer.end

abbrev pub ring_in : InputIn → Ring
ring_in inward = ring_at inward.consumer.end

-- all that was sent, oldest first
abbrev pub values_sent : InputOut → List InputFed
values_sent out = sent out.producer

-- all that was received, oldest first
abbrev pub values_received : InputIn → List InputFed
values_received inward = received inward.consumer

-- the values of a new ring: nothing but what is read
abbrev pub begun_values : Streams → ℕ → List InputFed
begun_values streams size = Begin streams size ∷ []
