-- What came out of the ring of an input are the first of what was sent.
use Rattle.std.proofs.Common.{◌≡◌, ℕ, List, [], ◌∷◌, ◌++◌, false, Option, Some, None, Result, Ok, Err, inl, inr, refl, sym, ap, subst, ◌∙◌, append_assoc, append-nil, arith}
use mathlib.Core.List.{IsPrefix}
use Rattle.std.proofs.KnownBytes.{Consumes-nil}
use Rattle.sb_engines.specs.feeds.base.records.declared.intake.Stop.{Stop}
use Rattle.sb_engines.specs.feeds.base.records.declared.intake.Stop.TheVariants as stop_is
use Rattle.sb_engines.specs.feeds.base.records.declared.item.Dropped.{Dropped}
use Rattle.sb_engines.specs.feeds.base.records.declared.item.Record.{Record}
use Rattle.sb_engines.specs.feeds.base.records.declared.item.TheConstants.{END_MARK}
use Rattle.sb_engines.specs.feeds.base.records.Streams.{dropped_of}
use Rattle.sb_engines.specs.feeds.base.pipeline.Shapes.{Shape, streams_of}
use Rattle.sb_engines.specs.feeds.emit.Taps.{TapState}
use Rattle.sb_engines.specs.feeds.one_feed.declared.give.GiveStop.{GiveStop}
use Rattle.sb_engines.specs.feeds.one_feed.declared.give.GiveStop.TheVariants as give
use Rattle.sb_engines.specs.feeds.one_feed.Due.{AreFirstRows, rows_below}
use Rattle.sb_engines.specs.feeds.one_feed.FedByItems.{IsFedBy, end_items, new_cutters}
use Rattle.sb_engines.specs.feeds.one_feed.Feeds.{AreRowsSoFar, Fed, nothing_fed}
use Rattle.sb_engines.specs.feeds.one_feed.Given.{Given, items_of}
use Rattle.sb_engines.specs.feeds.one_feed.InputFeeds.{Feeds, FeedsSome}
use Rattle.sb_engines.proofs.feeds.one_feed.FirstRows.{fed_covers, rows_are_first}
use Rattle.sb_engines.proofs.feeds.one_feed.GivesInTurn.{AddsUp}
use Rattle.sb_engines.proofs.feeds.one_feed.ItemSteps.{fed_nothing}
use Rattle.sb_engines.proofs.feeds.one_feed.LaterItems.{no_more}
use Rattle.sb_engines.specs.feeds.declared.input.fed.InputFed.{InputFed}
use Rattle.sb_engines.specs.feeds.declared.input.fed.InputFed.TheVariants as fed
use Rattle.sb_engines.specs.feeds.InputEnds.{begun_values}
use Rattle.sb_engines.specs.feeds.InputFed.{IsReadOf, IsSentWhole, IsWholeIf, ReadCause, fed_after, fed_by, fed_with, stop_among, stop_value}
use Rattle.sb_run.specs.InputPops.{FeedsPopped, HaveCome}
use Rattle.sb_engines.specs.alone.RunEnds.{MayHaveFailed, SharedFeedCause}

-- ---- the first of the values
-- nothing was there where nothing is
none_there : (popped more : List InputFed) → popped ++ more ≡ [] → popped ≡ []
none_there [] more are = refl
none_there (v ∷ popped) more are = absurd (cc are)

-- values that came are the first of those that were sent, or these and the stop: so they feed what first ones of these do
first_fed : (popped sent more : List InputFed) (stop : Option Stop) → popped ++ more ≡ sent ++ stop_value stop → (some later : List InputFed) × (sent ≡ some ++ later) × ((f : Fed) → fed_after popped f ≡ fed_after some f)
first_fed [] sent more stop are = ([], sent, refl, λ f. refl)
first_fed (v ∷ popped) [] more None are = absurd (cc are)
first_fed (v ∷ popped) [] more (Some stop) are =
    let same : v ≡ fed.Stop stop = cc are in
    let behind : popped ++ more ≡ [] = cc are in
    let none = none_there popped more behind in
    ([], [], refl, λ f. ap (λ l. fed_after l f) (λ k. same k ∷ none k))
first_fed (v ∷ popped) (w ∷ sent) more stop are =
    let same : v ≡ w = cc are in
    let rest : popped ++ more ≡ sent ++ stop_value stop = cc are in
    let (some, later, is, fed_same) = first_fed popped sent more stop rest in
    (w ∷ some, later, (λ k. w ∷ is k), λ f. fed_same (fed_with v f) ∙ ap (λ x. fed_after some (fed_with x f)) same)

-- where the stop came, they are all
all_sent : (popped sent more : List InputFed) (at : Stop) (stop : Option Stop) → stop_among sent ≡ None → popped ++ fed.Stop at ∷ more ≡ sent ++ stop_value stop → (popped ≡ sent) × (stop ≡ Some at)
all_sent [] [] more at None none are = absurd (cc are)
all_sent [] [] more at (Some stop) none are = let same : fed.Stop at ≡ fed.Stop stop = cc are in let equal : stop ≡ at = cc same in (refl, ap Some equal)
all_sent [] (w ∷ sent) more at stop none are =
    let same : w ≡ fed.Stop at = cc are in
    let there : stop_among (fed.Stop at ∷ sent) ≡ None = subst (λ x. stop_among (x ∷ sent) ≡ None) same none in
    absurd (cc there)
all_sent (v ∷ popped) [] more at None none are = absurd (cc are)
all_sent (v ∷ popped) [] more at (Some stop) none are =
    let behind : popped ++ fed.Stop at ∷ more ≡ [] = cc are in
    let nothing : fed.Stop at ∷ more ≡ [] = subst (λ l. l ++ fed.Stop at ∷ more ≡ []) (none_there popped (fed.Stop at ∷ more) behind) behind in
    absurd (cc nothing)
all_sent (v ∷ popped) (w ∷ sent) more at stop none are =
    let same : v ≡ w = cc are in
    let rest : popped ++ fed.Stop at ∷ more ≡ sent ++ stop_value stop = cc are in
    let (is, was) = all_sent popped sent more at stop (rest_unstopped w sent none) rest in
    (λ k. same k ∷ is k, was)
  where
    -- no stop is among the values behind one that is none
    rest_unstopped : (v : InputFed) (values : List InputFed) → stop_among (v ∷ values) ≡ None → stop_among values ≡ None
    rest_unstopped (fed.Begin streams size) values none = none
    rest_unstopped (fed.Bundle s b) values none = none
    rest_unstopped (fed.Mark s t) values none = none
    rest_unstopped (fed.Stop stop) values none = absurd (cc none)
    rest_unstopped fed.NoMemory values none = none

-- ---- what was fed
module _ (plan : Shape) (size : ℕ) (left left' : Option (List ℕ)) (before now : ℕ) (values received : List InputFed) (dropped dropped' : List Dropped) (stop : Option Stop)
    (read : IsReadOf plan size left left' before now values dropped dropped' stop) (tied : IsPrefix received values) where
  -- behind what is read, what came are the first of what was sent
  came_first : (popped : List InputFed) (at : Option Stop) → HaveCome plan size received popped at → (popped ++ stop_value at) ++ tied.0 ≡ read.sent ++ stop_value stop
  came_first popped at came =
      let all : fed.Begin (streams_of plan) size ∷ ((popped ++ stop_value at) ++ tied.0) ≡ fed.Begin (streams_of plan) size ∷ (read.sent ++ stop_value stop) =
      ap (λ l. l ++ tied.0) (sym came) ∙ tied.1 ∙ read.are in
      cc all

  -- rows so far of what came are first rows of what the input gave
  rows_came : (popped : List InputFed) (at : Option Stop) → HaveCome plan size received popped at → (rows : List Record) → AreRowsSoFar plan (fed_by popped) rows → AreFirstRows plan (items_of plan read.given) rows
  rows_came popped at came rows so =
      let (some, later, is, fed_same) = first_fed popped read.sent (stop_value at ++ tied.0) stop (sym (append_assoc popped (stop_value at) tied.0) ∙ came_first popped at came) in
      read.first some later is rows (subst (λ f. AreRowsSoFar plan f rows) (fed_same nothing_fed) so)

  -- or all of them, up to the stop
  all_came : (popped : List InputFed) (at : Stop) → HaveCome plan size received popped (Some at) → (popped ≡ read.sent) × (stop ≡ Some at)
  all_came popped at came = all_sent popped read.sent tied.0 at stop read.unstopped (sym (append_assoc popped (fed.Stop at ∷ []) tied.0) ∙ came_first popped (Some at) came)

  -- all that the input gave was sent then
  whole_at : (at : Stop) → stop ≡ Some at → IsSentWhole plan size read.given read.sent dropped dropped' at
  whole_at at is = subst (IsWholeIf plan size read.given read.sent dropped dropped') is read.whole

  module _ {O : Type 0} (stands : Fed → List Record → Type 0) (after part : O → List Record → O → Type 0) (o p : O) (taps taps' : List TapState) where
    -- so the lines of the input were fed
    pub input_fed : (result : Result Stop GiveStop) → FeedsPopped plan size received stands after part o p taps taps' result → Feeds plan size left left' stands after part o p taps taps' dropped dropped' result
    input_fed (Ok at) e =
        let (same, is) = all_came e.popped at e.came in
        let whole = whole_at at is in
        record {
          given = read.given;
          stopped = whole.stopped;
          cutters = whole.cutters;
          f = fed_by e.popped;
          fed = subst (λ l. IsFedBy size (items_of plan read.given ++ end_items (streams_of plan) at) (fed_by l) whole.cutters) (sym same) whole.fed;
          gives = e.gives;
          listed = whole.listed;
        }
    input_fed (Err why) e = record {
      given = read.given;
      rows = e.rows;
      first = rows_came e.popped e.stop e.came e.rows e.so_far;
      wrote = e.wrote;
      at = e.at;
      late = read.late;
      first_late = read.first_late;
      listed = read.listed;
    }

    -- a fault of the source is told by its own stop
    pub input_cause : (result : Result Stop GiveStop) → FeedsPopped plan size received stands after part o p taps taps' result → SharedFeedCause before now result
    input_cause (Ok at) e = let (same, is) = all_came e.popped at e.came in subst (ReadCause before now) is read.cause
    input_cause (Err why) e = by_stop stop read.cause
      where
        by_stop : (stop : Option Stop) → ReadCause before now stop → MayHaveFailed before now
        by_stop None cause = cause
        by_stop (Some stop_is.End) cause = inl cause
        by_stop (Some (stop_is.Refused refusal)) cause = inl cause
        by_stop (Some stop_is.Fault) cause = inr cause

    -- at the end the source has ended
    pub input_ended : (ended : Type 0) (result : Result Stop GiveStop) → FeedsPopped plan size received stands after part o p taps taps' result → (stop ≡ Some stop_is.End → ended) → result ≡ Ok stop_is.End → ended
    input_ended ended (Ok at) e there is = let same : at ≡ stop_is.End = cc is in let (all, stopped) = all_came e.popped at e.came in there (stopped ∙ ap Some same)
    input_ended ended (Err why) e there is = absurd (cc is)

-- where the size of bundles is named otherwise
pub popped_sized : {O : Type 0} (plan : Shape) (bundle size : ℕ) (received : List InputFed) (stands : Fed → List Record → Type 0) (after part : O → List Record → O → Type 0) (o p : O) (taps taps' : List TapState) (result : Result Stop GiveStop)
    → bundle ≡ size → FeedsPopped plan bundle received stands after part o p taps taps' result → FeedsPopped plan size received stands after part o p taps taps' result
popped_sized plan bundle size received stands after part o p taps taps' result same e = subst (λ n. FeedsPopped plan n received stands after part o p taps taps' result) same e

-- ---- nothing was fed, for want of memory
abbrev none_given : (left : Option (List ℕ)) → Given left left
none_given left = record { bytes = []; were_left = Consumes-nil left; ended = false; at_end = λ e. cc e }

pub feeds_none : {O : Type 0} (after part : O → List Record → O → Type 0) (laws : AddsUp after part) (plan : Shape) (left : Option (List ℕ)) (o : O) (taps : List TapState) (dropped : List Dropped)
    → FeedsSome plan left left after part o o taps taps dropped dropped give.Memory
feeds_none after part laws plan left o taps dropped = record {
  given = none_given left;
  rows = [];
  first = record { rest = rows_below END_MARK plan (items_of plan (none_given left)); are = refl };
  wrote = laws.part_of_all o o [] [] (laws.after_none o);
  at = tt;
  late = [];
  first_late = record { rest = dropped_of (items_of plan (none_given left)); are = refl };
  listed = sym (append-nil dropped);
}

-- no rows but the first come of nothing
nothing_sent : (plan : Shape) (some later : List InputFed) → [] ≡ some ++ later → (rows : List Record) → AreRowsSoFar plan (fed_by some) rows → AreFirstRows plan [] rows
nothing_sent plan [] later are rows so = rows_are_first plan [] [] nothing_fed rows (fed_covers 1 [] nothing_fed (new_cutters 1) (fed_nothing 1 (omega arith))) (no_more []) so
nothing_sent plan (v ∷ some) later are rows so = absurd (cc are)

-- nothing was read
pub unread : (plan : Shape) (size : ℕ) (left : Option (List ℕ)) (faults : ℕ) (values : List InputFed) (dropped : List Dropped) → values ≡ begun_values (streams_of plan) size → IsReadOf plan size left left faults faults values dropped dropped None
unread plan size left faults values dropped none = record {
  given = none_given left;
  sent = [];
  are = none;
  unstopped = refl;
  first = λ some later are rows so. nothing_sent plan some later are rows so;
  late = [];
  first_late = record { rest = dropped_of (items_of plan (none_given left)); are = refl };
  listed = sym (append-nil dropped);
  whole = tt;
  cause = inl refl;
}
