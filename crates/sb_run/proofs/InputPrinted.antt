-- What was fed into a ring of rows, and printed by another thread, is as if the feeder had printed it.
use Rattle.std.proofs.Common.{◌≡◌, ℕ, List, [], ◌++◌, Option, Result, Ok, Err, inl, inr, refl, sym, ap, subst, ◌∙◌, append_assoc, append-nil}
use mathlib.Core.List.{IsPrefix}
use Rattle.sb_engines.specs.feeds.base.records.declared.intake.Stop.{Stop}
use Rattle.sb_engines.specs.feeds.base.records.declared.intake.Stop.TheVariants as stop_is
use Rattle.sb_engines.specs.feeds.base.records.declared.item.Dropped.{Dropped}
use Rattle.sb_engines.specs.feeds.base.records.declared.item.Item.{Item}
use Rattle.sb_engines.specs.feeds.base.records.declared.item.Record.{Record}
use Rattle.sb_engines.specs.feeds.base.records.Streams.{dropped_of}
use Rattle.sb_engines.specs.feeds.base.pipeline.Shapes.{Shape}
use Rattle.sb_engines.specs.feeds.emit.Taps.{TapState}
use Rattle.sb_engines.specs.feeds.outside.Sinks.{SinkState}
use Rattle.sb_engines.specs.feeds.one_feed.declared.give.GiveStop.{GiveStop}
use Rattle.sb_engines.specs.feeds.one_feed.declared.give.GiveStop.TheVariants as give
use Rattle.sb_engines.specs.feeds.one_feed.Due.{AreFirstRows}
use Rattle.sb_engines.specs.feeds.one_feed.Feeds.{AreRowsSoFar, Fed}
use Rattle.sb_engines.specs.feeds.one_feed.GiveCauses.{GiveCause, WritingWentWell}
use Rattle.sb_engines.specs.feeds.one_feed.Given.{items_of}
use Rattle.sb_engines.specs.feeds.one_feed.Gives.{WroteAt}
use Rattle.sb_engines.specs.feeds.one_feed.InputFeeds.{Feeds}
use Rattle.sb_engines.specs.feeds.one_feed.Reads.{FaultCause}
use Rattle.sb_engines.proofs.feeds.one_feed.GivesInTurn.{AddsUp}
use Rattle.sb_engines.specs.feeds.declared.rows.ends.RowsOut.{RowsOut}
use Rattle.sb_engines.specs.feeds.declared.rows.fed.RowsFed.{RowsFed}
use Rattle.sb_engines.specs.feeds.RowsEnds.{rows_sent}
use Rattle.sb_engines.specs.feeds.RowsLaws as rows_law
use Rattle.sb_engines.specs.feeds.RowsSends.{AreSent, AreSentInPart, Prints, PrintsSome}
use Rattle.sb_engines.proofs.feeds.RowsPrinted.{printed_first, printed_whole}
use Rattle.sb_run.specs.InputPrints.{FeedsRing, FeedsRows, ends_with}
use Rattle.sb_engines.specs.alone.RunEnds.{MayHaveFailed, SharedFeedCause}
use Rattle.sb_engines.proofs.Returned.{end-first}
use Rattle.sb_run.proofs.Tied.{feeds_none}

-- ---- the feeder
-- an output that sends rows has the laws of one
pub sends_add_up : AddsUp AreSent AreSentInPart
sends_add_up = record { after_none = rows_law.after_none; after_more = rows_law.after_more; part_later = rows_law.part_later; part_of_all = rows_law.part_of_all }

-- where feeding stopped, a part was sent
stopped_at : {O : Type 0} (after part : O → List Record → O → Type 0) (o p : O) (out mid : RowsOut) (why : GiveStop) (rows : List Record) → WroteAt after part why o rows p
    → ((rows : List Record) → after o rows p → AreSent out rows mid) → ((rows : List Record) → part o rows p → AreSentInPart out rows mid) → AreSentInPart out rows mid
stopped_at after part o p out mid (give.Tap place) rows wrote all some = subst (λ l. AreSentInPart out l mid) (append-nil rows) (rows_law.part_of_all out mid rows [] (all rows wrote))
stopped_at after part o p out mid give.Output rows wrote all some = some rows wrote
stopped_at after part o p out mid give.Memory rows wrote all some = some rows wrote

-- what was fed to an output that sends its rows
pub rows_fed : {O : Type 0} (after part : O → List Record → O → Type 0) (o p : O) (out mid : RowsOut) (plan : Shape) (size : ℕ) (left left' : Option (List ℕ)) (stands : Fed → List Record → Type 0) (taps taps' : List TapState) (dropped dropped' : List Dropped) (fed : Result Stop GiveStop)
    → Feeds plan size left left' stands after part o p taps taps' dropped dropped' fed → ((rows : List Record) → after o rows p → AreSent out rows mid) → ((rows : List Record) → part o rows p → AreSentInPart out rows mid)
    → FeedsRows plan size left left' stands out mid dropped dropped' fed
rows_fed after part o p out mid plan size left left' stands taps taps' dropped dropped' (Ok stop) e all some = record {
  given = e.given;
  stopped = e.stopped;
  cutters = e.cutters;
  f = e.f;
  fed = e.fed;
  rows = e.gives.rows;
  stand = e.gives.stand;
  sent = all e.gives.rows e.gives.wrote;
  listed = e.listed;
}
rows_fed after part o p out mid plan size left left' stands taps taps' dropped dropped' (Err why) e all some = record {
  given = e.given;
  rows = e.rows;
  first = e.first;
  sent = stopped_at after part o p out mid why e.rows e.wrote all some;
  late = e.late;
  first_late = e.first_late;
  listed = e.listed;
}

-- nothing was fed, since the printer has given up the feeder
pub ring_unfed : (plan : Shape) (size : ℕ) (left : Option (List ℕ)) (stands : Fed → List Record → Type 0) (out : RowsOut) (dropped : List Dropped) → FeedsRing plan size left left stands out out dropped dropped (Err give.Memory)
ring_unfed plan size left stands out dropped =
    let none = feeds_none AreSent AreSentInPart sends_add_up plan left out [] dropped in
    record {
      between = out;
      feeds = record {
        given = none.given;
        rows = none.rows;
        first = none.first;
        sent = none.wrote;
        late = none.late;
        first_late = none.first_late;
        listed = none.listed;
      };
      ended = record { ring = refl; sent = inr refl };
    }

-- ---- the printer
-- nothing was printed, since the feeder has not begun
pub prints_none : {O : Type 0} (after part : O → List Record → O → Type 0) → AddsUp after part → (o : O) (taps : List TapState) (received : List RowsFed) → received ≡ [] → PrintsSome after part o taps received o taps give.Memory
prints_none after part laws o taps received none = record {
  values = [];
  last = [];
  are = none;
  between = o;
  taps_between = taps;
  given = (refl, refl);
  wrote = laws.part_of_all o o [] [] (laws.after_none o);
  at = tt;
}

-- ---- both
-- the first of first rows are first rows
fewer_first : (plan : Shape) (items : List Item) (rows first rest : List Record) → rows ≡ first ++ rest → AreFirstRows plan items rows → AreFirstRows plan items first
fewer_first plan items rows first rest are all = record { rest = rest ++ all.rest; are = all.are ∙ ap (λ l. l ++ all.rest) are ∙ append_assoc first rest all.rest }

module _ {O : Type 0} (after part : O → List Record → O → Type 0) (laws : AddsUp after part) (plan : Shape) (size : ℕ) (left left' : Option (List ℕ)) (stands : Fed → List Record → Type 0) (so : (f : Fed) (rows : List Record) → stands f rows → AreRowsSoFar plan f rows)
    (dropped dropped' : List Dropped) (out out' : RowsOut) (nothing : rows_sent out ≡ []) (received : List RowsFed) (tied : IsPrefix received (rows_sent out')) (o p : O) (taps taps' : List TapState) where
  pub input_printed : {T : Type 0} (fed : Result Stop GiveStop) (printed : Result T GiveStop) → FeedsRing plan size left left' stands out out' dropped dropped' fed → Prints after part o taps received p taps' printed
      → Feeds plan size left left' stands after part o p taps taps' dropped dropped' (ends_with fed printed)
  input_printed (Ok stop) (Ok x) ring prints =
      let e = ring.feeds in
      let whole = printed_whole after part laws out ring.between out' e.rows received nothing e.sent ring.ended tied o p taps taps' prints in
      record {
        given = e.given;
        stopped = e.stopped;
        cutters = e.cutters;
        f = e.f;
        fed = e.fed;
        gives = record { rows = e.rows; stand = e.stand; wrote = whole.0; offered = whole.1 };
        listed = e.listed;
      }
  input_printed (Err early) (Ok x) ring prints =
      let e = ring.feeds in
      let some = e.sent in
      let whole = printed_whole after part laws out ring.between out' some.first received nothing some.sent ring.ended tied o p taps taps' prints in
      record {
        given = e.given;
        rows = e.rows;
        first = e.first;
        wrote = subst (λ l. part o l p) (sym some.whole) (laws.part_of_all o p some.first some.rest whole.0);
        at = tt;
        late = e.late;
        first_late = e.first_late;
        listed = e.listed;
      }
  input_printed (Ok stop) (Err why) ring prints =
      let e = ring.feeds in
      let first = printed_first after part laws out ring.between out' e.rows received nothing e.sent ring.ended tied o p taps taps' why prints in
      record {
        given = e.given;
        rows = first.first;
        first = fewer_first plan (items_of plan e.given) e.rows first.first first.rest first.are (end-first plan size (items_of plan e.given) stop e.f e.cutters e.rows e.fed (so e.f e.rows e.stand));
        wrote = first.wrote;
        at = first.at;
        late = dropped_of (items_of plan e.given);
        first_late = record { rest = []; are = sym (append-nil (dropped_of (items_of plan e.given))) };
        listed = e.listed;
      }
  input_printed (Err early) (Err why) ring prints =
      let e = ring.feeds in
      let some = e.sent in
      let first = printed_first after part laws out ring.between out' some.first received nothing some.sent ring.ended tied o p taps taps' why prints in
      record {
        given = e.given;
        rows = first.first;
        first = fewer_first plan (items_of plan e.given) e.rows first.first (first.rest ++ some.rest) (some.whole ∙ ap (λ l. l ++ some.rest) first.are ∙ append_assoc first.first first.rest some.rest) e.first;
        wrote = first.wrote;
        at = first.at;
        late = e.late;
        first_late = e.first_late;
        listed = e.listed;
      }

-- a fault of the source is told by its own stop
pub printed_source : {T : Type 0} (before now : ℕ) (fed : Result Stop GiveStop) (printed : Result T GiveStop) → SharedFeedCause before now fed → SharedFeedCause before now (ends_with fed printed)
printed_source before now (Ok stop) (Ok x) cause = cause
printed_source before now (Err early) (Ok x) cause = cause
printed_source before now (Ok stop) (Err why) cause = by_stop stop cause
  where
    by_stop : (stop : Stop) → FaultCause before now stop → MayHaveFailed before now
    by_stop stop_is.End cause = inl cause
    by_stop (stop_is.Refused refusal) cause = inl cause
    by_stop stop_is.Fault cause = inr cause
printed_source before now (Err early) (Err why) cause = cause

-- at the end the feeder was there
pub printed_ended : {T : Type 0} (ended : Type 0) (fed : Result Stop GiveStop) (printed : Result T GiveStop) → (fed ≡ Ok stop_is.End → ended) → ends_with fed printed ≡ Ok stop_is.End → ended
printed_ended ended (Ok stop) (Ok x) there is = there is
printed_ended ended (Err early) (Ok x) there is = absurd (cc is)
printed_ended ended (Ok stop) (Err why) there is = absurd (cc is)
printed_ended ended (Err early) (Err why) there is = absurd (cc is)

-- a failure tells the same, whatever it comes in place of
of_failure : {T U : Type 0} (before now : SinkState) (why : GiveStop) → GiveCause {T = T} before now (Err why) → GiveCause {T = U} before now (Err why)
of_failure {T} {U} before now why cause = record {
  never_falls = cause.never_falls;
  never_short = cause.never_short;
  keeps_refusing = cause.keeps_refusing;
  failed = λ e. let same : why ≡ give.Output = cc e in cause.failed (ap Err same);
  passed = λ well. cause.passed (as_well why well);
}
  where
    as_well : (why : GiveStop) → WritingWentWell {T = U} (Err why) → WritingWentWell {T = T} (Err why)
    as_well (give.Tap place) well = tt
    as_well give.Output well = absurd well
    as_well give.Memory well = absurd well

-- the counts of the output are as the printer has left them
pub printed_cause : {T : Type 0} (before now : SinkState) (fed : Result Stop GiveStop) (printed : Result T GiveStop) → GiveCause before now printed → GiveCause before now (ends_with fed printed)
printed_cause before now (Ok stop) (Ok x) cause = record {
  never_falls = cause.never_falls;
  never_short = cause.never_short;
  keeps_refusing = cause.keeps_refusing;
  failed = λ e. absurd (cc e);
  passed = λ well. cause.passed tt;
}
printed_cause before now (Err early) (Ok x) cause = record {
  never_falls = cause.never_falls;
  never_short = cause.never_short;
  keeps_refusing = cause.keeps_refusing;
  failed = λ e. absurd (cc e);
  passed = λ well. absurd well;
}
printed_cause before now (Ok stop) (Err why) cause = of_failure before now why cause
printed_cause before now (Err early) (Err why) cause = of_failure before now why cause
