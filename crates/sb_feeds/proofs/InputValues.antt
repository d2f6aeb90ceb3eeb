-- The values of the ring of an input.
use Rattle.std.proofs.Common.{◌≡◌, ◌++◌, ℕ, List, [], ◌∷◌, None, refl, sym, ap, subst, ◌∙◌}
use Rattle.std.specs.declared.alloc.Global.{Global}
use Rattle.rtrb.specs.declared.producer.Producer.{Producer}
use Rattle.rtrb.specs.Ring.{SameProducer}
use Rattle.sb_feed.specs.base.records.declared.item.Record.{Record}
use Rattle.sb_feed.specs.base.records.Streams.{uses}
use Rattle.sb_feed.specs.base.pipeline.Shapes.{Shape, streams_of}
use Rattle.sb_feed.specs.Feeds.{AreRowsSoFar, Fed}
use Rattle.sb_feed.proofs.RowsSoFar.{so_far_bundle, so_far_mark}
use Rattle.sb_feeds.specs.declared.input.ends.InputFeeding.{InputFeeding}
use Rattle.sb_feeds.specs.declared.input.fed.InputFed.{InputFed}
use Rattle.sb_feeds.specs.declared.input.fed.InputFed.TheVariants as fed
use Rattle.sb_feeds.specs.Ends.{ring_at}
use Rattle.sb_feeds.specs.InputFed.{MayAllCome, MayCome, MayFollow, fed_after, fed_by, fed_with, stop_among}

-- ---- what was fed
pub fed_then : (values : List InputFed) (v : InputFed) (f : Fed) → fed_after (values ++ v ∷ []) f ≡ fed_with v (fed_after values f)
fed_then [] v f = refl
fed_then (w ∷ values) v f = fed_then values v (fed_with w f)

pub fed_in_turn : (values more : List InputFed) (f : Fed) → fed_after (values ++ more) f ≡ fed_after more (fed_after values f)
fed_in_turn [] more f = refl
fed_in_turn (v ∷ values) more f = fed_in_turn values more (fed_with v f)

pub may_all_then : (plan : Shape) (size : ℕ) (values : List InputFed) (v : InputFed) (f : Fed) → MayAllCome plan size f values → MayCome plan size (fed_after values f) v → MayAllCome plan size f (values ++ v ∷ [])
may_all_then plan size [] v f all one = (one, tt)
may_all_then plan size (w ∷ values) v f all one = (all.0, may_all_then plan size values v (fed_with w f) all.1 one)

-- the rest may come behind the first ones
pub may_rest_come : (plan : Shape) (size : ℕ) (values more : List InputFed) (f : Fed) → MayAllCome plan size f (values ++ more) → MayAllCome plan size (fed_after values f) more
may_rest_come plan size [] more f all = all
may_rest_come plan size (v ∷ values) more f all = may_rest_come plan size values more (fed_with v f) all.1

-- rows so far are so with values more
pub so_far_with : (plan : Shape) (size : ℕ) (v : InputFed) (f : Fed) (rows : List Record) → MayCome plan size f v → AreRowsSoFar plan f rows → AreRowsSoFar plan (fed_with v f) rows
so_far_with plan size (fed.Begin streams most) f rows may so = so
so_far_with plan size (fed.Bundle s b) f rows may so = so_far_bundle plan size s b f rows may so
so_far_with plan size (fed.Mark s t) f rows may so = so_far_mark plan s t f rows may.rises so
so_far_with plan size (fed.Stop stop) f rows may so = so
so_far_with plan size fed.NoMemory f rows may so = so

pub so_far_after : (plan : Shape) (size : ℕ) (values : List InputFed) (f : Fed) (rows : List Record) → MayAllCome plan size f values → AreRowsSoFar plan f rows → AreRowsSoFar plan (fed_after values f) rows
so_far_after plan size [] f rows all so = so
so_far_after plan size (v ∷ values) f rows all so = so_far_after plan size values (fed_with v f) rows all.1 (so_far_with plan size v f rows all.0 so)

-- ---- the rule
pub may_follow_same : (before before' : List InputFed) (next next' : InputFed) → before' ≡ before → next' ≡ next → MayFollow before next → MayFollow before' next'
may_follow_same before before' next next' same is h = subst (λ l. MayFollow l next') (sym same) (subst (MayFollow before) (sym is) h)

-- a plan of the same streams may be fed it, too
may_come_to : (plan other : Shape) (size : ℕ) (v : InputFed) (f : Fed) → streams_of other ≡ streams_of plan → MayCome plan size f v → MayCome other size f v
may_come_to plan other size (fed.Begin streams most) f same may = tt
may_come_to plan other size (fed.Bundle s b) f same may = record {
  reads = ap (λ u. uses u s) same ∙ may.reads;
  epoch = may.epoch;
  floor = may.floor;
  some = may.some;
  most = may.most;
  timely = may.timely;
  few = may.few;
}
may_come_to plan other size (fed.Mark s t) f same may = record { reads = ap (λ u. uses u s) same ∙ may.reads; rises = may.rises; most = may.most }
may_come_to plan other size (fed.Stop stop) f same may = tt
may_come_to plan other size fed.NoMemory f same may = tt

module _ (plan : Shape) (size : ℕ) (values sent : List InputFed) (are : values ≡ fed.Begin (streams_of plan) size ∷ sent) (v : InputFed) where
  pub follows : MayCome plan size (fed_by sent) v → MayFollow values v
  follows may = subst (λ l. MayFollow l v) (sym are) (λ other same. may_come_to plan other size v (fed_by sent) same may)

  pub may_come : MayFollow values v → MayCome plan size (fed_by sent) v
  may_come h = let all : (other : Shape) → streams_of other ≡ streams_of plan → MayCome other size (fed_by sent) v = subst (λ l. MayFollow l v) are h in all plan refl

-- ---- stops
-- a value that is no stop
abbrev pub IsNoStop : InputFed → Type 0
IsNoStop v = stop_among (v ∷ []) ≡ None

pub none_then : (values : List InputFed) (v : InputFed) → stop_among values ≡ None → IsNoStop v → stop_among (values ++ v ∷ []) ≡ None
none_then [] v none one = one
none_then (fed.Begin streams size ∷ values) v none one = none_then values v none one
none_then (fed.Bundle s b ∷ values) v none one = none_then values v none one
none_then (fed.Mark s t ∷ values) v none one = none_then values v none one
none_then (fed.Stop stop ∷ values) v none one = absurd (cc none)
none_then (fed.NoMemory ∷ values) v none one = none_then values v none one

-- the end that was sent by is of the same ring
pub same_ring : (a b : Producer InputFed Global InputFeeding) → SameProducer a b → ring_at b.end ≡ ring_at a.end
same_ring a b same = λ i. record { words = same.0.0 i; places = same.0.1 i; names = same.0.2 i; heap = same.0.3 i }
