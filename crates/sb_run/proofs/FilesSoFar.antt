-- How far the feeding of two record files has come.
use Rattle.std.proofs.Common.{◌≡◌, ◌≤◌, ◌<◌, ◌+◌, ℕ, true, List, [], ◌∷◌, ◌++◌, length, Option, Some, None, Result, Ok, Err, refl, sym, ap, subst, ◌∙◌, append_assoc, append-nil, inl, inr, arith}
use Rattle.std.specs.Prelude.{IfOk}
use Rattle.std.proofs.lemmas.List.Concat.{flat_map-append}
use Rattle.sb_engines.specs.feeds.base.records.declared.intake.TheConstants.{MAX_LINES}
use Rattle.sb_engines.specs.feeds.base.records.declared.item.Dropped.{Dropped}
use Rattle.sb_engines.specs.feeds.base.records.declared.item.Item.{Item}
use Rattle.sb_engines.specs.feeds.base.records.declared.item.Record.{Record}
use Rattle.sb_engines.specs.feeds.base.records.declared.item.Stream.{Stream}
use Rattle.sb_engines.specs.feeds.base.records.declared.item.Stream.TheVariants.{A, B}
use Rattle.sb_engines.specs.feeds.base.records.declared.item.TheConstants.{END_MARK}
use Rattle.sb_engines.specs.feeds.base.records.Streams.{dropped_in, dropped_of, last_or, last_watermark, uses}
use Rattle.sb_engines.specs.feeds.base.pipeline.Shapes.{Shape, streams_of}
use Rattle.sb_engines.specs.feeds.emit.Outputs.{AreApart}
use Rattle.sb_engines.specs.feeds.emit.Taps.{TapState}
use Rattle.sb_engines.specs.feeds.one_feed.declared.cutters.Cutters.{Cutters}
use Rattle.sb_engines.specs.feeds.one_feed.declared.give.GiveStop.{GiveStop}
use Rattle.sb_engines.specs.feeds.one_feed.declared.give.GiveStop.TheVariants as give
use Rattle.sb_engines.specs.feeds.one_feed.FedByItems.{Covers, IsFedBy, IsTimely, end_items, new_cutters}
use Rattle.sb_engines.specs.feeds.one_feed.Feeds.{AreRowsSoFar, Fed, floor_in, nothing_fed}
use Rattle.sb_engines.specs.feeds.one_feed.Gives.{StopsOut}
use Rattle.sb_engines.specs.feeds.one_feed.TapLists.{LeavesThoseThatStay}
use Rattle.sb_engines.specs.feeds.one_feed.Takes.{Fails, MayEnd, MayTake, Takes, TakesOrFails}
use Rattle.sb_engines.proofs.feeds.one_feed.FirstRows.{fed_covers}
use Rattle.sb_engines.proofs.feeds.one_feed.GivesInTurn.{AddsUp, stops_none, stops_then, taps_behind, wrote_behind}
use Rattle.sb_engines.proofs.feeds.one_feed.InputEnds.{no_end_records, same_records}
use Rattle.sb_engines.proofs.feeds.one_feed.ItemSteps.{fed_nothing}
use Rattle.sb_engines.proofs.feeds.one_feed.LaterItems.{GoesOnTo, goes_on_behind, goes_on_without, mark_within, no_more}
use Rattle.sb_engines.proofs.feeds.one_feed.OfferedRows.{both_offered, none_offered}
use Rattle.sb_engines.proofs.feeds.one_feed.RowsApart.{apart_later, apart_so_far}
use Rattle.sb_engines.specs.feeds.declared.fed.Fed.{Fed as AValue}
use Rattle.sb_engines.specs.feeds.declared.fed.FeedStop.{FeedStop}
use Rattle.sb_engines.specs.feeds.Fed.{has_stop}
use Rattle.sb_run.specs.declared.files.inlets.FilesStop.{FilesStop}
use Rattle.sb_engines.specs.feeds.declared.limits.TheConstants.{MAX_FILE_LENGTH}
use Rattle.sb_run.specs.FilesFed.{CoversTaken, FeedsFiles, FeedsPart, FeedsValues}
use Rattle.sb_run.specs.Pops.{AreMerged, as_stop, files_stop_if, item_for, is_next, stop_among, items_taken}
use Rattle.sb_run.proofs.MergedItems.{merged_as, merged_more, nothing_merged}
use Rattle.sb_engines.proofs.alone.Sharing.{gives_as}
use Rattle.sb_run.proofs.TakenItems.{next_timely, some_stop, taken_few}

-- what lies around the engine: where its rows go, and where the late records of each file are listed
pub record AroundFiles (O : Type 0) : Type 0 where
  pub out : O
  pub taps : List TapState
  pub dropped : Stream → List Dropped

-- ---- the stops
pub both_stopped : (values : Stream → List AValue) (stop : FilesStop) → files_stop_if (stop_among (values A)) (stop_among (values B)) ≡ Some stop → (s : Stream) → has_stop (values s) ≡ true
both_stopped values stop is s = by_stops (stop_among (values A)) (stop_among (values B)) refl refl is s
  where
    by_stops : (a b : Option FeedStop) → stop_among (values A) ≡ a → stop_among (values B) ≡ b → files_stop_if a b ≡ Some stop → (s : Stream) → has_stop (values s) ≡ true
    by_stops (Some a) (Some b) of_a of_b is A = some_stop (values A) a of_a
    by_stops (Some a) (Some b) of_a of_b is B = some_stop (values B) b of_b
    by_stops (Some a) None of_a of_b is s = absurd (cc is)
    by_stops None b of_a of_b is s = absurd (cc is)

-- ---- the late records
dropped_given : (s t : Stream) (i : Item) (own own' : List Item) (before now next : List Dropped) → own' ≡ own ++ item_for s i t → now ≡ before ++ dropped_of own → next ≡ now ++ dropped_of (item_for s i t)
    → next ≡ before ++ dropped_of own'
dropped_given s t i own own' before now next more so_far one =
    one ∙ ap (λ l. l ++ dropped_of (item_for s i t)) so_far ∙ append_assoc before (dropped_of own) (dropped_of (item_for s i t))
    ∙ ap (λ l. before ++ l) (sym (flat_map-append dropped_in own (item_for s i t)) ∙ ap dropped_of (sym more))

-- ---- what is covered
module _ (plan : Shape) (values : Stream → List AValue) (items : List Item) (merged : AreMerged items (λ s. items_taken (streams_of plan) s (values s))) where
  mark_of_own : (s : Stream) → last_watermark s items ≡ last_watermark s (items_taken (streams_of plan) s (values s))
  mark_of_own s = ap (last_or 0) (merged.marks s)

  covers_own : (f : Fed) → Covers items f → CoversTaken (streams_of plan) values f
  covers_own f c = record {
    rest = c.rest;
    are = λ s. c.are s ∙ merged.records s;
    coming = c.coming;
    floors = λ s. inl (subst (λ m. floor_in f s ≤ m) (mark_of_own s) (c.floors s));
  }

  -- the end was fed behind the items
  covers_end : (f : Fed) (stop : FilesStop) → files_stop_if (stop_among (values A)) (stop_among (values B)) ≡ Some stop → Covers (items ++ end_items (streams_of plan) (as_stop stop)) f
      → CoversTaken (streams_of plan) values f
  covers_end f stop stopped c = record {
    rest = c.rest;
    are = λ s. c.are s ∙ same_records (streams_of plan) (as_stop stop) items s ∙ merged.records s;
    coming = c.coming;
    floors = λ s. inr (both_stopped values stop stopped s);
  }

-- ---- the loop
module _ {O : Type 0} (after : O → List Record → O → Type 0) (plan : Shape) (size : ℕ) where
  -- what was taken of the values so far was fed
  pub record FilesSoFar (stands : Fed → List Record → Type 0) (start now : AroundFiles O) (values : Stream → List AValue) (c : Cutters) : Type 0 where
    pub items : List Item
    pub f : Fed
    pub rows : List Record
    pub merged : AreMerged items (λ s. items_taken (streams_of plan) s (values s))
    pub fed : IsFedBy size items f c
    pub stand : stands f rows
    pub wrote : after start.out rows now.out
    pub offered : LeavesThoseThatStay rows start.taps now.taps
    pub listed : (s : Stream) → now.dropped s ≡ start.dropped s ++ dropped_of (items_taken (streams_of plan) s (values s))
    pub marks : (s : Stream) → last_watermark s items ≤ END_MARK

module _ {O : Type 0} (after part : O → List Record → O → Type 0) (laws : AddsUp after part) (plan : Shape) (size : ℕ) (some : 1 ≤ size) where
  pub nothing_yet : (stands : Fed → List Record → Type 0) (start : AroundFiles O) (values : Stream → List AValue) (n : ℕ) (c : Cutters) → size ≡ n → c ≡ new_cutters n → ((s : Stream) → values s ≡ [])
      → stands nothing_fed [] → FilesSoFar after plan size stands start start values c
  nothing_yet stands start values n c is_size is_c none stand = record {
    items = [];
    f = nothing_fed;
    rows = [];
    merged = nothing_merged (λ s. items_taken (streams_of plan) s (values s)) (λ s. ap (items_taken (streams_of plan) s) (none s));
    fed = subst (IsFedBy size [] nothing_fed) (sym (is_c ∙ ap new_cutters (sym is_size))) (fed_nothing size some);
    stand = stand;
    wrote = laws.after_none start.out;
    offered = none_offered start.taps;
    listed = λ s. sym (append-nil (start.dropped s)) ∙ ap (λ l. start.dropped s ++ dropped_of (items_taken (streams_of plan) s l)) (sym (none s));
    marks = zero_marks;
  }
    where
      zero_marks : (s : Stream) → last_watermark s [] ≤ END_MARK
      zero_marks A = omega arith
      zero_marks B = omega arith

  module _ (stands : Fed → List Record → Type 0) (start now : AroundFiles O) (values : Stream → List AValue) (c : Cutters) (h : FilesSoFar after plan size stands start now values c) where
    few_of : (s : Stream) → length (items_taken (streams_of plan) s (values s)) ≤ MAX_FILE_LENGTH
    few_of s = taken_few (streams_of plan) s [] (values s) (omega arith)

    few_items : length h.items < MAX_LINES + 1
    few_items = let m = h.merged.many in let a = few_of A in let b = few_of B in omega (arith, m, a, b)

    -- what comes out later is later than what came out so far
    apart_since : ((f : Fed) (rows : List Record) → stands f rows → AreRowsSoFar plan f rows) → (all : List Item) (g : Fed) (rows : List Record) → GoesOnTo h.items all → Covers all g → AreRowsSoFar plan g (h.rows ++ rows) → AreApart h.rows rows
    apart_since so all g rows on covers both = apart_later plan h.items all h.f g [] h.rows rows (fed_covers size h.items h.f c h.fed) on (so h.f h.rows h.stand) covers both

    -- the end may be taken
    pub files_may_end : MayEnd stands size c (MAX_LINES + 1) h.items h.f h.rows
    files_may_end = record { stand = h.stand; fed = h.fed; few = few_items; marks = h.marks; some = some }

    -- nothing more was taken, and the engine stands otherwise
    pub files_still : (later : Fed → List Record → Type 0) (values' : Stream → List AValue) → ((f : Fed) (rows : List Record) → stands f rows → later f rows)
        → ((s : Stream) → items_taken (streams_of plan) s (values' s) ≡ items_taken (streams_of plan) s (values s)) → FilesSoFar after plan size later start now values' c
    files_still later values' so same = record {
      items = h.items;
      f = h.f;
      rows = h.rows;
      merged = merged_as h.items (λ s. items_taken (streams_of plan) s (values s)) (λ s. items_taken (streams_of plan) s (values' s)) same h.merged;
      fed = h.fed;
      stand = so h.f h.rows h.stand;
      wrote = h.wrote;
      offered = h.offered;
      listed = λ s. h.listed s ∙ ap (λ l. start.dropped s ++ dropped_of l) (sym (same s));
      marks = h.marks;
    }

    -- there was no memory for a step
    pub files_wanting : ((f : Fed) (rows : List Record) → stands f rows → AreRowsSoFar plan f rows) → FeedsPart plan values after part start.out now.out start.taps now.taps start.dropped now.dropped give.Memory
    files_wanting so = record {
      popped = values;
      later = λ s. [];
      are = λ s. sym (append-nil (values s));
      f = h.f;
      covers = covers_own plan values h.items h.merged h.f (fed_covers size h.items h.f c h.fed);
      rows = h.rows;
      so_far = so h.f h.rows h.stand;
      wrote = subst (λ l. part start.out l now.out) (append-nil h.rows) (laws.part_of_all start.out now.out h.rows [] h.wrote);
      at = tt;
      late = λ s. dropped_of (items_taken (streams_of plan) s (values s));
      first_late = λ s. record { rest = []; are = sym (append-nil (dropped_of (items_taken (streams_of plan) s (values s)))) };
      listed = h.listed;
    }

    -- the next item of a stream
    module _ (s : Stream) (i : Item) (values' : Stream → List AValue) (more : (t : Stream) → items_taken (streams_of plan) t (values' t) ≡ items_taken (streams_of plan) t (values t) ++ item_for s i t)
        (is : is_next s (uses (streams_of plan) s) (last_watermark s (items_taken (streams_of plan) s (values s))) (length (items_taken (streams_of plan) s (values s))) i ≡ true) where
      mark_is : last_watermark s h.items ≡ last_watermark s (items_taken (streams_of plan) s (values s))
      mark_is = mark_of_own plan values h.items h.merged s

      timely : IsTimely (streams_of plan) h.items i
      timely = next_timely (streams_of plan) s (last_watermark s (items_taken (streams_of plan) s (values s))) (length (items_taken (streams_of plan) s (values s))) h.items i mark_is is

      merged_then : AreMerged (h.items ++ i ∷ []) (λ t. items_taken (streams_of plan) t (values' t))
      merged_then =
          merged_more h.items (λ t. items_taken (streams_of plan) t (values t)) (λ t. items_taken (streams_of plan) t (values' t)) h.merged i s (uses (streams_of plan) s)
          (last_watermark s (items_taken (streams_of plan) s (values s))) (length (items_taken (streams_of plan) s (values s))) is more

      pub files_may_take : MayTake stands plan size c i h.items h.f h.rows
      files_may_take = record { stand = h.stand; fed = h.fed; timely = timely; few = (let n = few_items in omega (arith, n)); some = some }

      goes_on_to : GoesOnTo h.items (h.items ++ i ∷ [])
      goes_on_to = goes_on_behind plan h.items i (h.items ++ i ∷ []) timely (no_more (h.items ++ i ∷ []))

      -- it was taken
      pub files_more : (later : Fed → List Record → Type 0) → ((f : Fed) (rows : List Record) → stands f rows → AreRowsSoFar plan f rows) → ((f : Fed) (rows : List Record) → later f rows → AreRowsSoFar plan f rows)
          → (next : AroundFiles O) (d : Cutters) → Takes later after now.out next.out now.taps next.taps size (h.items ++ i ∷ []) d h.rows
          → ((t : Stream) → next.dropped t ≡ now.dropped t ++ dropped_of (item_for s i t)) → FilesSoFar after plan size later start next values' d
      files_more later so so_later next d done kept = record {
        items = h.items ++ i ∷ [];
        f = done.f;
        rows = h.rows ++ done.gives.rows;
        merged = merged_then;
        fed = done.fed;
        stand = done.gives.stand;
        wrote = laws.after_more start.out now.out next.out h.rows done.gives.rows (apart_since so (h.items ++ i ∷ []) done.f done.gives.rows goes_on_to (fed_covers size (h.items ++ i ∷ []) done.f d done.fed) (so_later done.f _ done.gives.stand)) h.wrote done.gives.wrote;
        offered = both_offered h.rows done.gives.rows start.taps now.taps next.taps h.offered done.gives.offered;
        listed = λ t. dropped_given s t i (items_taken (streams_of plan) t (values t)) (items_taken (streams_of plan) t (values' t)) (start.dropped t) (now.dropped t) (next.dropped t) (more t) (h.listed t) (kept t);
        marks = mark_within plan h.items i timely h.marks;
      }

      -- it could not be taken
      pub files_fail : ((f : Fed) (rows : List Record) → stands f rows → AreRowsSoFar plan f rows) → (next : AroundFiles O) (why : GiveStop) → Fails plan after part now.out next.out now.taps next.taps (h.items ++ i ∷ []) h.rows why → ((t : Stream) → next.dropped t ≡ now.dropped t)
          → FeedsPart plan values' after part start.out next.out start.taps next.taps start.dropped next.dropped why
      files_fail so next why fails kept = record {
        popped = values';
        later = λ t. [];
        are = λ t. sym (append-nil (values' t));
        f = fails.f;
        covers = covers_own plan values' (h.items ++ i ∷ []) merged_then fails.f fails.covers;
        rows = h.rows ++ fails.stops.rows;
        so_far = fails.stops.so_far;
        wrote = wrote_behind after part laws why start.out now.out next.out h.rows fails.stops.rows (apart_since so (h.items ++ i ∷ []) fails.f fails.stops.rows goes_on_to fails.covers fails.stops.so_far) h.wrote fails.stops.wrote;
        at = taps_behind why h.rows fails.stops.rows start.taps now.taps next.taps h.offered fails.stops.at;
        late = λ t. dropped_of (items_taken (streams_of plan) t (values t));
        first_late = λ t. record { rest = dropped_of (item_for s i t); are = ap dropped_of (more t) ∙ flat_map-append dropped_in (items_taken (streams_of plan) t (values t)) (item_for s i t) };
        listed = λ t. kept t ∙ h.listed t;
      }

    -- the end, behind the stop of each ring
    module _ (stop : FilesStop) (stopped : files_stop_if (stop_among (values A)) (stop_among (values B)) ≡ Some stop) where
      abbrev ends_at : List Item
      ends_at = h.items ++ end_items (streams_of plan) (as_stop stop)

      goes_on_to_end : GoesOnTo h.items ends_at
      goes_on_to_end = goes_on_without h.items (end_items (streams_of plan) (as_stop stop)) (no_end_records (streams_of plan) (as_stop stop))

      -- it was taken
      pub files_fed : (later : Fed → List Record → Type 0) → ((f : Fed) (rows : List Record) → stands f rows → AreRowsSoFar plan f rows) → ((f : Fed) (rows : List Record) → later f rows → AreRowsSoFar plan f rows) → (next : AroundFiles O) (d : Cutters)
          → Takes later after now.out next.out now.taps next.taps size (h.items ++ end_items (streams_of plan) (as_stop stop)) d h.rows → ((t : Stream) → next.dropped t ≡ now.dropped t)
          → FeedsFiles plan size values later after start.out next.out start.taps next.taps start.dropped next.dropped stop
      files_fed later so so_later next d done kept = record {
        stopped = stopped;
        items = h.items;
        merged = h.merged;
        cutters = d;
        f = done.f;
        fed = done.fed;
        gives = record {
          rows = h.rows ++ done.gives.rows;
          stand = done.gives.stand;
          wrote = laws.after_more start.out now.out next.out h.rows done.gives.rows (apart_since so ends_at done.f done.gives.rows goes_on_to_end (fed_covers size ends_at done.f d done.fed) (so_later done.f _ done.gives.stand)) h.wrote done.gives.wrote;
          offered = both_offered h.rows done.gives.rows start.taps now.taps next.taps h.offered done.gives.offered;
        };
        listed = λ t. kept t ∙ h.listed t;
      }

      -- it could not be taken
      pub files_end_fails : ((f : Fed) (rows : List Record) → stands f rows → AreRowsSoFar plan f rows) → (next : AroundFiles O) (why : GiveStop) → Fails plan after part now.out next.out now.taps next.taps (h.items ++ end_items (streams_of plan) (as_stop stop)) h.rows why
          → ((t : Stream) → next.dropped t ≡ now.dropped t) → FeedsPart plan values after part start.out next.out start.taps next.taps start.dropped next.dropped why
      files_end_fails so next why fails kept = record {
        popped = values;
        later = λ t. [];
        are = λ t. sym (append-nil (values t));
        f = fails.f;
        covers = covers_end plan values h.items h.merged fails.f stop stopped fails.covers;
        rows = h.rows ++ fails.stops.rows;
        so_far = fails.stops.so_far;
        wrote = wrote_behind after part laws why start.out now.out next.out h.rows fails.stops.rows (apart_since so ends_at fails.f fails.stops.rows goes_on_to_end fails.covers fails.stops.so_far) h.wrote fails.stops.wrote;
        at = taps_behind why h.rows fails.stops.rows start.taps now.taps next.taps h.offered fails.stops.at;
        late = λ t. dropped_of (items_taken (streams_of plan) t (values t));
        first_late = λ t. record { rest = []; are = sym (append-nil (dropped_of (items_taken (streams_of plan) t (values t)))) };
        listed = λ t. kept t ∙ h.listed t;
      }

      -- or whichever
      pub files_ended : (later : Fed → List Record → Type 0) → ((f : Fed) (rows : List Record) → stands f rows → AreRowsSoFar plan f rows) → ((f : Fed) (rows : List Record) → later f rows → AreRowsSoFar plan f rows)
          → (next : AroundFiles O) (d : Cutters) (ended : Result FilesStop GiveStop) → IfOk ended (λ given. given ≡ stop)
          → TakesOrFails plan size later after part now.out next.out now.taps next.taps (h.items ++ end_items (streams_of plan) (as_stop stop)) d h.rows ended → ((t : Stream) → next.dropped t ≡ now.dropped t)
          → FeedsValues plan size values later after part start.out next.out start.taps next.taps start.dropped next.dropped ended
      files_ended later so so_later next d (Ok given) same done kept =
          subst (λ x. FeedsFiles plan size values later after start.out next.out start.taps next.taps start.dropped next.dropped x) (sym same) (files_fed later so so_later next d done kept)
      files_ended later so so_later next d (Err why) same fails kept = files_end_fails so next why fails kept

-- ---- behind the loop
-- more values came, and were dropped
pub part_grows : {O : Type 0} (after part : O → List Record → O → Type 0) (plan : Shape) (values values' : Stream → List AValue) (o p : O) (taps taps' : List TapState) (dropped dropped' : Stream → List Dropped) (why : GiveStop)
    → ((s : Stream) → (came : List AValue) × (values' s ≡ values s ++ came)) → FeedsPart plan values after part o p taps taps' dropped dropped' why → FeedsPart plan values' after part o p taps taps' dropped dropped' why
part_grows after part plan values values' o p taps taps' dropped dropped' why grows e = record {
  popped = e.popped;
  later = λ s. e.later s ++ (grows s).0;
  are = λ s. (grows s).1 ∙ ap (λ l. l ++ (grows s).0) (e.are s) ∙ append_assoc (e.popped s) (e.later s) (grows s).0;
  f = e.f;
  covers = e.covers;
  rows = e.rows;
  so_far = e.so_far;
  wrote = e.wrote;
  at = e.at;
  late = e.late;
  first_late = e.first_late;
  listed = e.listed;
}

module _ {O : Type 0} (after part : O → List Record → O → Type 0) (laws : AddsUp after part) (plan : Shape) (size : ℕ) (values : Stream → List AValue) (stands : Fed → List Record → Type 0)
    (o p : O) (taps taps1 : List TapState) (dropped dropped' : Stream → List Dropped) (stop : FilesStop) (e : FeedsFiles plan size values stands after o p taps taps1 dropped dropped' stop) where
  -- an engine that stands otherwise
  pub files_as : (later : Fed → List Record → Type 0) → ((f : Fed) (rows : List Record) → stands f rows → later f rows) → FeedsFiles plan size values later after o p taps taps1 dropped dropped' stop
  files_as later so = record {
    stopped = e.stopped;
    items = e.items;
    merged = e.merged;
    cutters = e.cutters;
    f = e.f;
    fed = e.fed;
    gives = gives_as (stands e.f) (later e.f) after o p taps taps1 [] (so e.f) e.gives;
    listed = e.listed;
  }

  -- not all rows came out
  pub files_stopped : ((f : Fed) (rows : List Record) → stands f rows → AreRowsSoFar plan f rows) → (q : O) (taps2 : List TapState) (why : GiveStop) → StopsOut plan after part p q taps1 taps2 e.f e.gives.rows why → FeedsPart plan values after part o q taps taps2 dropped dropped' why
  files_stopped so q taps2 why stops =
      let n = stops_then after part laws plan (stands e.f) o p q taps taps1 taps2 e.f [] why e.gives stops (apart_so_far plan e.f [] e.gives.rows stops.rows (so e.f e.gives.rows e.gives.stand) stops.so_far) in
      record {
        popped = values;
        later = λ s. [];
        are = λ s. sym (append-nil (values s));
        f = e.f;
        covers = covers_end plan values e.items e.merged e.f stop e.stopped (fed_covers size (e.items ++ end_items (streams_of plan) (as_stop stop)) e.f e.cutters e.fed);
        rows = n.rows;
        so_far = n.so_far;
        wrote = n.wrote;
        at = n.at;
        late = λ s. dropped_of (items_taken (streams_of plan) s (values s));
        first_late = λ s. record { rest = []; are = sym (append-nil (dropped_of (items_taken (streams_of plan) s (values s)))) };
        listed = e.listed;
      }

  -- there was no memory
  pub files_without : ((f : Fed) (rows : List Record) → stands f rows → AreRowsSoFar plan f rows) → FeedsPart plan values after part o p taps taps1 dropped dropped' give.Memory
  files_without so = files_stopped so p taps1 give.Memory (stops_none after part laws plan p taps1 e.f e.gives.rows (so e.f e.gives.rows e.gives.stand))
