-- Giving out, one call after another.
use Rattle.std.proofs.Common.{◌≡◌, List, [], ◌++◌, Ok, Err, Result, sym, subst, append_assoc, append-nil}
use Rattle.sb_base.specs.records.declared.item.Record.{Record}
use Rattle.sb_base.specs.pipeline.Shapes.{Shape}
use Rattle.sb_emit.specs.Outputs.{AreApart}
use Rattle.sb_emit.specs.Taps.{TapState}
use Rattle.sb_feed.specs.declared.give.GiveStop.{GiveStop}
use Rattle.sb_feed.specs.declared.give.GiveStop.TheVariants as stop
use Rattle.sb_feed.specs.Feeds.{Fed, AreRowsSoFar}
use Rattle.sb_feed.specs.Gives.{Gives, GivesOut, OffersRows, StopsOut, TapsAt, WritesRows, WroteAt}
use Rattle.sb_feed.specs.TapLists.{LeavesThoseThatStay}
use Rattle.sb_feed.proofs.OfferedRows.{both_offered, none_offered, stops_behind}
use Rattle.sb_feed.proofs.RowsApart.{apart_so_far}

-- the laws by which calls of an output add up
pub record AddsUp {O : Type 0} (after part : O → List Record → O → Type 0) : Type 0 where
  pub after_none : (o : O) → after o [] o
  pub after_more : (o p q : O) (l m : List Record) → AreApart l m → after o l p → after p m q → after o (l ++ m) q
  pub part_later : (o p q : O) (l m : List Record) → AreApart l m → after o l p → part p m q → part o (l ++ m) q
  pub part_of_all : (o p : O) (l m : List Record) → after o l p → part o (l ++ m) p

pub taps_behind : (why : GiveStop) (l m : List Record) (a b c : List TapState) → LeavesThoseThatStay l a b → TapsAt why m b c → TapsAt why (l ++ m) a c
taps_behind (stop.Tap place) l m a b c first at = stops_behind l m place a b c first at
taps_behind stop.Output l m a b c first at = tt
taps_behind stop.Memory l m a b c first at = tt

module _ {O : Type 0} (after part : O → List Record → O → Type 0) (laws : AddsUp after part) where
  pub wrote_behind : (why : GiveStop) (o p q : O) (l m : List Record) → AreApart l m → after o l p → WroteAt after part why p m q → WroteAt after part why o (l ++ m) q
  wrote_behind (stop.Tap place) o p q l m apart first wrote = laws.after_more o p q l m apart first wrote
  wrote_behind stop.Output o p q l m apart first wrote = laws.part_later o p q l m apart first wrote
  wrote_behind stop.Memory o p q l m apart first wrote = laws.part_later o p q l m apart first wrote

  -- in each case a part was written
  pub wrote_part : (why : GiveStop) (o p : O) (l : List Record) → WroteAt after part why o l p → part o l p
  wrote_part (stop.Tap place) o p l wrote = subst (λ m. part o m p) (append-nil l) (laws.part_of_all o p l [] wrote)
  wrote_part stop.Output o p l wrote = wrote
  wrote_part stop.Memory o p l wrote = wrote

  -- rows that came out, and then others, which are later
  pub gives_both : (first second : List Record → Type 0) (o p q : O) (a b c : List TapState) (before : List Record)
      → (g : GivesOut first after o p a b before) → (n : GivesOut second after p q b c (before ++ g.rows)) → AreApart g.rows n.rows → GivesOut second after o q a c before
  gives_both first second o p q a b c before g n apart = record {
    rows = g.rows ++ n.rows;
    stand = subst second (append_assoc before g.rows n.rows) n.stand;
    wrote = laws.after_more o p q g.rows n.rows apart g.wrote n.wrote;
    offered = both_offered g.rows n.rows a b c g.offered n.offered;
  }

  -- rows that came out, and then others of which not all did
  pub stops_then : (plan : Shape) (first : List Record → Type 0) (o p q : O) (a b c : List TapState) (f : Fed) (before : List Record) (why : GiveStop)
      → (g : GivesOut first after o p a b before) → (n : StopsOut plan after part p q b c f (before ++ g.rows) why) → AreApart g.rows n.rows → StopsOut plan after part o q a c f before why
  stops_then plan first o p q a b c f before why g n apart = record {
    rows = g.rows ++ n.rows;
    so_far = subst (AreRowsSoFar plan f) (append_assoc before g.rows n.rows) n.so_far;
    wrote = wrote_behind why o p q g.rows n.rows apart g.wrote n.wrote;
    at = taps_behind why g.rows n.rows a b c g.offered n.at;
  }

  -- the same of one engine, which was fed the same
  pub gives_then : {T : Type 0} (plan : Shape) (first second : List Record → Type 0) (o p q : O) (a b c : List TapState) (f : Fed) (before : List Record) (result : Result T GiveStop)
      → (g : GivesOut first after o p a b before) → AreRowsSoFar plan f (before ++ g.rows) → ((rows : List Record) → second rows → AreRowsSoFar plan f rows)
      → Gives plan second after part p q b c f (before ++ g.rows) result → Gives plan second after part o q a c f before result
  gives_then plan first second o p q a b c f before (Ok x) g so_far later n = gives_both first second o p q a b c before g n (apart_so_far plan f before g.rows n.rows so_far (later _ n.stand))
  gives_then plan first second o p q a b c f before (Err why) g so_far later n = stops_then plan first o p q a b c f before why g n (apart_so_far plan f before g.rows n.rows so_far n.so_far)

  -- nothing came out
  pub gives_none : (stands : List Record → Type 0) (o : O) (taps : List TapState) (before : List Record) → stands before → GivesOut stands after o o taps taps before
  gives_none stands o taps before h = record { rows = []; stand = subst stands (sym (append-nil before)) h; wrote = laws.after_none o; offered = none_offered taps }

  pub stops_none : (plan : Shape) (o : O) (taps : List TapState) (f : Fed) (before : List Record) → AreRowsSoFar plan f before → StopsOut plan after part o o taps taps f before stop.Memory
  stops_none plan o taps f before h = record { rows = []; so_far = subst (AreRowsSoFar plan f) (sym (append-nil before)) h; wrote = laws.part_of_all o o [] [] (laws.after_none o); at = tt }

  -- rows that can be given then are given out
  pub gives_due : {T : Type 0} (plan later : Shape) (stands : List Record → Type 0) (o p : O) (a b : List TapState) (f : Fed) (before rows : List Record) (result : Result T GiveStop)
      → later ≡ plan → AreRowsSoFar later f (before ++ rows) → stands (before ++ rows) → WritesRows after part o rows p result → OffersRows rows a b result
      → Gives plan stands after part o p a b f before result
  gives_due plan later stands o p a b f before rows (Ok x) same so stand wrote offered = record { rows = rows; stand = stand; wrote = wrote; offered = offered }
  gives_due plan later stands o p a b f before rows (Err (stop.Tap place)) same so stand wrote offered =
      record { rows = rows; so_far = subst (λ s. AreRowsSoFar s f (before ++ rows)) same so; wrote = wrote; at = offered }
  gives_due plan later stands o p a b f before rows (Err stop.Output) same so stand wrote offered = record { rows = rows; so_far = subst (λ s. AreRowsSoFar s f (before ++ rows)) same so; wrote = wrote; at = tt }
  gives_due plan later stands o p a b f before rows (Err stop.Memory) same so stand wrote offered = record { rows = rows; so_far = subst (λ s. AreRowsSoFar s f (before ++ rows)) same so; wrote = wrote; at = tt }
