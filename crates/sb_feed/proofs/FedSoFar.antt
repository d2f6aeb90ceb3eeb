-- How far the feeding of an input has come.
use Rattle.std.proofs.Common.{◌≡◌, ◌≤◌, ◌<◌, ◌+◌, ℕ, true, List, [], ◌∷◌, ◌++◌, Option, Some, None, sym, ap, subst, ◌∙◌, append_assoc, append-nil, arith}
use Rattle.std.specs.Io.KnownBytes.{Consumes, IsAtEnd}
use Rattle.std.proofs.lemmas.List.Concat.{flat_map-append}
use Rattle.sb_base.specs.records.declared.item.Dropped.{Dropped}
use Rattle.sb_base.specs.records.declared.item.Record.{Record}
use Rattle.sb_base.specs.records.declared.item.Item.{Item}
use Rattle.sb_base.specs.records.declared.item.Stream.{Stream}
use Rattle.sb_base.specs.records.declared.item.TheConstants.{END_MARK}
use Rattle.sb_base.specs.records.declared.intake.Stop.{Stop}
use Rattle.sb_base.specs.records.declared.intake.TheConstants.{MAX_LINES}
use Rattle.sb_base.specs.records.Progress.{Progress}
use Rattle.sb_base.specs.records.Intake.{answer_to, first_progress}
use Rattle.sb_base.specs.records.Inputs.{Accepted}
use Rattle.sb_base.specs.records.Streams.{dropped_in, dropped_of, last_or, last_watermark, records_of}
use Rattle.sb_outside.specs.Comments.{comment_lines}
use Rattle.sb_outside.specs.Lines.{lines}
use Rattle.sb_outside.specs.declared.lines.Halt.{Halt}
use Rattle.sb_outside.specs.declared.lines.Halt.TheVariants as halt
use Rattle.sb_outside.specs.Readings.{Held, reading, rest_of_lines}
use Rattle.sb_base.specs.pipeline.Shapes.{Shape, streams_of}
use Rattle.sb_emit.specs.Outputs.{AreApart}
use Rattle.sb_emit.specs.Taps.{TapState}
use Rattle.sb_feed.specs.declared.cutters.Cutters.{Cutters}
use Rattle.sb_feed.specs.declared.give.GiveStop.{GiveStop}
use Rattle.sb_feed.specs.Due.{AreFirstDropped, streams_in}
use Rattle.sb_feed.specs.FedByItems.{Covers, IsFedBy, IsTimely, end_items, new_cutters}
use Rattle.sb_feed.specs.Feeds.{AreRowsSoFar, Fed, nothing_fed}
use Rattle.sb_feed.specs.Given.{Given, items_of}
use Rattle.sb_feed.specs.InputFeeds.{FeedsAll, FeedsSome}
use Rattle.sb_feed.specs.Reads.{IsGoing, TakesItem, StopsReading}
use Rattle.sb_feed.specs.TapLists.{LeavesThoseThatStay}
use Rattle.sb_feed.specs.Takes.{MayEnd, MayTake, Takes, Fails}
use Rattle.sb_feed.proofs.CommentsInFront.{fed_comments, no_watermark, none_dropped, read_comments, said_by_skips, skips}
use Rattle.sb_feed.proofs.FirstRows.{fed_covers, rows_are_first, rows_same}
use Rattle.sb_feed.proofs.GivesInTurn.{AddsUp, taps_behind, wrote_behind}
use Rattle.sb_feed.proofs.InputEnds.{no_end_records, same_records}
use Rattle.sb_feed.proofs.LaterItems.{GoesOnTo, accepted_goes_on, following, goes_on_behind, goes_on_without, mark_within, no_more, starting, tested_is_timely}
use Rattle.sb_feed.proofs.OfferedRows.{both_offered, none_offered}
use Rattle.sb_feed.proofs.RowsApart.{apart_later}
use Rattle.sb_feed.proofs.ReadSoFar.{ReadSoFar, read_more, reading_stops}
use Rattle.sb_feed.proofs.ReadSteps.{ended_by, may_end as nothing_may_come}

-- what lies around an engine: where its lines come from, where its rows go, and where late records are listed
pub record Around (S O : Type 0) : Type 0 where
  pub source : S
  pub out : O
  pub taps : List TapState
  pub dropped : List Dropped

-- ---- what was given so far
pub given_so_far : (plan : Shape) (left left' : Option (List ℕ)) (held : Held) (p : Progress) (items : List Item) (faults faults' : ℕ) → ReadSoFar plan left left' held p items faults faults'
    → (given : Given left left') × GoesOnTo items (items_of plan given)
given_so_far plan left left' held p items faults faults' t = (
  record { bytes = t.bytes; were_left = t.given; ended = ended_by held.halt; at_end = at_end held.halt t.going },
  subst (λ a. GoesOnTo items a) (sym (ap (λ (a : Accepted). a.items) are)) (accepted_goes_on plan (rest_of_lines held.halt held.at_hand (ended_by held.halt) []) items),
)
  where
    at_end : (h : Option Halt) → IsGoing h left' → ended_by h ≡ true → IsAtEnd left'
    at_end None going e = absurd (cc e)
    at_end (Some halt.End) going e = going
    at_end (Some halt.TooLong) going e = absurd going
    at_end (Some halt.Fault) going e = absurd going

    are : starting plan (lines (ended_by held.halt) t.bytes) ≡ following plan items (rest_of_lines held.halt held.at_hand (ended_by held.halt) [])
    are = ap (λ l. starting plan (lines (ended_by held.halt) l)) (sym (append-nil t.bytes)) ∙ t.accepts (ended_by held.halt) [] (nothing_may_come held.halt)

-- the late record that the item is, if it is one
pub dropped_more : (items : List Item) (i : Item) (before now next : List Dropped) → now ≡ before ++ dropped_of items → next ≡ now ++ dropped_in i → next ≡ before ++ dropped_of (items ++ i ∷ [])
dropped_more items i before now next so_far one =
    one ∙ ap (λ l. l ++ dropped_in i) so_far ∙ append_assoc before (dropped_of items) (dropped_in i)
    ∙ ap (λ l. before ++ l) (sym (flat_map-append dropped_in items (i ∷ []) ∙ ap (λ l. dropped_of items ++ l) (append-nil (dropped_in i))))

first_dropped : (items more all : List Item) → all ≡ items ++ more → AreFirstDropped all (dropped_of items)
first_dropped items more all are = record { rest = dropped_of more; are = ap dropped_of are ∙ flat_map-append dropped_in items more }

-- ---- the loop
module _ {S O : Type 0} (left_of : S → Option (List ℕ)) (faults_of : S → ℕ) (after : O → List Record → O → Type 0) (plan : Shape) (size : ℕ) where
  -- the lines so far gave items, and these were fed
  pub record FedSoFar (stands : Fed → List Record → Type 0) (start now : Around S O) (held : Held) (p : Progress) (c : Cutters) : Type 0 where
    pub items : List Item
    pub f : Fed
    pub rows : List Record
    pub read : ReadSoFar plan (left_of start.source) (left_of now.source) held p items (faults_of start.source) (faults_of now.source)
    pub fed : IsFedBy size items f c
    pub stand : stands f rows
    pub wrote : after start.out rows now.out
    pub offered : LeavesThoseThatStay rows start.taps now.taps
    pub listed : now.dropped ≡ start.dropped ++ dropped_of items
    pub marks : (s : Stream) → last_watermark s items ≤ END_MARK

  -- nothing was read
  pub fed_still : (stands : Fed → List Record → Type 0) (start now : Around S O) (held held' : Held) (p p' : Progress) (c : Cutters) → held' ≡ held → p' ≡ p → FedSoFar stands start now held p c → FedSoFar stands start now held' p' c
  fed_still stands start now held held' p p' c same_held same_p h =
      subst (λ (q : Progress). FedSoFar stands start now held' q c) (sym same_p) (subst (λ (x : Held). FedSoFar stands start now x p c) (sym same_held) h)

module _ {S O : Type 0} (left_of : S → Option (List ℕ)) (faults_of : S → ℕ) (after part : O → List Record → O → Type 0) (laws : AddsUp after part) (plan : Shape) (size : ℕ) (some : 1 ≤ size) where
  -- comments in front were taken
  pub comments_fed : (stands : Fed → List Record → Type 0) (start : Around S O) (source : S) (n : ℕ) (held : Held) (p : Progress) (c : Cutters) → n ≤ MAX_LINES → Consumes (left_of start.source) (left_of source) (comment_lines n) → faults_of source ≡ faults_of start.source
      → held ≡ record { at_hand = []; line = []; halt = None } → p ≡ first_progress (streams_of plan) n plan.late plan.keys → c ≡ new_cutters size → stands nothing_fed []
      → FedSoFar left_of faults_of after plan size stands start (record start { source = source }) held p c
  comments_fed stands start source n held p c few given same is_held is_p is_c stand = record {
    items = skips n;
    f = nothing_fed;
    rows = [];
    read = read_comments plan (left_of start.source) (left_of source) held p n (faults_of start.source) (faults_of source) few given same is_held (is_p ∙ said_by_skips plan n);
    fed = subst (IsFedBy size (skips n) nothing_fed) (sym is_c) (fed_comments size n some);
    stand = stand;
    wrote = laws.after_none start.out;
    offered = none_offered start.taps;
    listed = sym (ap (λ l. start.dropped ++ l) (none_dropped n) ∙ append-nil start.dropped);
    marks = λ s. let none = ap (last_or 0) (no_watermark s n) in omega (arith, none);
  }

  -- an engine of the same plan, whose bundles have the same size
  module _ (plan2 : Shape) (size2 : ℕ) (same_plan : plan2 ≡ plan) (same_size : size2 ≡ size) (stands : Fed → List Record → Type 0) (start now : Around S O) (held : Held) (p : Progress) (c : Cutters) (h : FedSoFar left_of faults_of after plan size stands start now held p c) where
    timely_next : (source' : S) (held' : Held) (p' : Progress) (i : Item) → TakesItem left_of (reading now.source held) (reading source' held') p p' i → IsTimely (streams_of plan) h.items i
    timely_next source' held' p' i takes = tested_is_timely plan h.items takes.line i (ap (λ q. answer_to q takes.line) (sym h.read.progress) ∙ takes.tests)

    so_far_of : (f : Fed) (rows : List Record) → AreRowsSoFar plan2 f rows → AreRowsSoFar plan f rows
    so_far_of f rows so_far = subst (λ u. AreRowsSoFar u f rows) same_plan so_far

    -- the next item may be taken
    pub may_take : (source' : S) (held' : Held) (p' : Progress) (i : Item) → TakesItem left_of (reading now.source held) (reading source' held') p p' i → MayTake stands plan2 size2 c i h.items h.f h.rows
    may_take source' held' p' i takes =
        let room = h.read.room in
        let many = ap (λ (q : Progress). q.lines) h.read.progress in
        record {
          stand = h.stand;
          fed = subst (λ n. IsFedBy n h.items h.f c) (sym same_size) h.fed;
          timely = subst (λ u. IsTimely (streams_of u) h.items i) (sym same_plan) (timely_next source' held' p' i takes);
          few = omega (arith, room, many);
          some = subst (λ n. 1 ≤ n) (sym same_size) some;
        }

    -- the end may be taken
    pub may_end : MayEnd stands size2 c (MAX_LINES + 1) h.items h.f h.rows
    may_end =
        let room = h.read.room in
        let many = ap (λ (q : Progress). q.lines) h.read.progress in
        record { stand = h.stand; fed = subst (λ n. IsFedBy n h.items h.f c) (sym same_size) h.fed; few = omega (arith, room, many); marks = h.marks; some = subst (λ n. 1 ≤ n) (sym same_size) some }

    module _ (so_far : (f : Fed) (rows : List Record) → stands f rows → AreRowsSoFar plan f rows) (next : Around S O) (held' : Held) (p' : Progress) where
      -- what comes out later is later than what came out so far
      apart_from_more : (all : List Item) (g : Fed) (rows : List Record) → GoesOnTo h.items all → Covers all g → AreRowsSoFar plan g (h.rows ++ rows) → AreApart h.rows rows
      apart_from_more all g rows on covers both = apart_later plan h.items all h.f g [] h.rows rows (fed_covers size h.items h.f c h.fed) on (so_far h.f h.rows h.stand) covers both

      goes_on_to : (i : Item) → TakesItem left_of (reading now.source held) (reading next.source held') p p' i → GoesOnTo h.items (h.items ++ i ∷ [])
      goes_on_to i takes = goes_on_behind plan h.items i (h.items ++ i ∷ []) (timely_next next.source held' p' i takes) (no_more (h.items ++ i ∷ []))

      -- the item was taken
      pub fed_more : (later : Fed → List Record → Type 0) → ((f : Fed) (rows : List Record) → later f rows → AreRowsSoFar plan f rows) → (d : Cutters) (i : Item) → TakesItem left_of (reading now.source held) (reading next.source held') p p' i → faults_of next.source ≡ faults_of now.source → p.lines < MAX_LINES
          → Takes later after now.out next.out now.taps next.taps size2 (h.items ++ i ∷ []) d h.rows → next.dropped ≡ now.dropped ++ dropped_in i
          → FedSoFar left_of faults_of after plan size later start next held' p' d
      fed_more later so_far_later d i takes same room done kept =
          let all = h.items ++ i ∷ [] in
          let fed : IsFedBy size all done.f d = subst (λ n. IsFedBy n all done.f d) same_size done.fed in
          let apart = apart_from_more all done.f done.gives.rows (goes_on_to i takes) (fed_covers size all done.f d fed) (so_far_later done.f _ done.gives.stand) in
          record {
            items = all;
            f = done.f;
            rows = h.rows ++ done.gives.rows;
            read = read_more left_of plan (left_of start.source) now.source next.source held held' p p' h.items i (faults_of start.source) (faults_of now.source) (faults_of next.source) h.read takes same room;
            fed = fed;
            stand = done.gives.stand;
            wrote = laws.after_more start.out now.out next.out h.rows done.gives.rows apart h.wrote done.gives.wrote;
            offered = both_offered h.rows done.gives.rows start.taps now.taps next.taps h.offered done.gives.offered;
            listed = dropped_more h.items i start.dropped now.dropped next.dropped h.listed kept;
            marks = mark_within plan h.items i (timely_next next.source held' p' i takes) h.marks;
          }

      -- it could not be taken
      pub item_fails : (i : Item) (why : GiveStop) → TakesItem left_of (reading now.source held) (reading next.source held') p p' i → faults_of next.source ≡ faults_of now.source → p.lines < MAX_LINES
          → Fails plan2 after part now.out next.out now.taps next.taps (h.items ++ i ∷ []) h.rows why → next.dropped ≡ now.dropped
          → FeedsSome plan (left_of start.source) (left_of next.source) after part start.out next.out start.taps next.taps start.dropped next.dropped why
      item_fails i why takes same room fails kept =
          let read = read_more left_of plan (left_of start.source) now.source next.source held held' p p' h.items i (faults_of start.source) (faults_of now.source) (faults_of next.source) h.read takes same room in
          let (given, goes_on) = given_so_far plan (left_of start.source) (left_of next.source) held' p' (h.items ++ i ∷ []) (faults_of start.source) (faults_of next.source) read in
          let now_so_far = so_far_of fails.f (h.rows ++ fails.stops.rows) fails.stops.so_far in
          let apart = apart_from_more (h.items ++ i ∷ []) fails.f fails.stops.rows (goes_on_to i takes) fails.covers now_so_far in
          record {
            given = given;
            rows = h.rows ++ fails.stops.rows;
            first = rows_are_first plan (h.items ++ i ∷ []) (items_of plan given) fails.f (h.rows ++ fails.stops.rows) fails.covers goes_on now_so_far;
            wrote = wrote_behind after part laws why start.out now.out next.out h.rows fails.stops.rows apart h.wrote fails.stops.wrote;
            at = taps_behind why h.rows fails.stops.rows start.taps now.taps next.taps h.offered fails.stops.at;
            late = dropped_of h.items;
            first_late = first_dropped h.items (i ∷ goes_on.later) (items_of plan given) (goes_on.are ∙ append_assoc h.items (i ∷ []) goes_on.later);
            listed = kept ∙ h.listed;
          }

      -- reading stopped, and the end was taken
      pub all_fed : (later : Fed → List Record → Type 0) → ((f : Fed) (rows : List Record) → later f rows → AreRowsSoFar plan f rows) → (d : Cutters) (stop : Stop) → StopsReading left_of (reading now.source held) (reading next.source held') p p' stop
          → Takes later after now.out next.out now.taps next.taps size2 (h.items ++ end_items (streams_of plan2) stop) d h.rows → next.dropped ≡ now.dropped
          → FeedsAll plan size (left_of start.source) (left_of next.source) later after start.out next.out start.taps next.taps start.dropped next.dropped stop
      all_fed later so_far_later d stop stops done kept =
          let all = h.items ++ end_items (streams_of plan) stop in
          let fed : IsFedBy size all done.f d = subst (λ u. IsFedBy size (h.items ++ end_items (streams_of u) stop) done.f d) same_plan (subst (λ n. IsFedBy n (h.items ++ end_items (streams_of plan2) stop) done.f d) same_size done.fed) in
          let apart = apart_from_more all done.f done.gives.rows (goes_on_without h.items (end_items (streams_of plan) stop) (no_end_records (streams_of plan) stop)) (fed_covers size all done.f d fed) (so_far_later done.f _ done.gives.stand) in
          let (given, are, stopped) = reading_stops left_of plan (left_of start.source) now.source next.source held held' p p' h.items stop (faults_of start.source) (faults_of now.source) h.read stops in
          record {
            given = given;
            stopped = stopped;
            cutters = d;
            f = done.f;
            fed = subst (λ l. IsFedBy size (l ++ end_items (streams_of plan) stop) done.f d) are fed;
            gives = record {
              rows = h.rows ++ done.gives.rows;
              stand = done.gives.stand;
              wrote = laws.after_more start.out now.out next.out h.rows done.gives.rows apart h.wrote done.gives.wrote;
              offered = both_offered h.rows done.gives.rows start.taps now.taps next.taps h.offered done.gives.offered;
            };
            listed = kept ∙ h.listed ∙ ap (λ l. start.dropped ++ dropped_of l) are;
          }

      -- it could not be taken
      pub end_fails : (stop : Stop) (why : GiveStop) → StopsReading left_of (reading now.source held) (reading next.source held') p p' stop
          → Fails plan2 after part now.out next.out now.taps next.taps (h.items ++ end_items (streams_of plan2) stop) h.rows why → next.dropped ≡ now.dropped
          → FeedsSome plan (left_of start.source) (left_of next.source) after part start.out next.out start.taps next.taps start.dropped next.dropped why
      end_fails stop why stops fails kept =
          let (given, are, stopped) = reading_stops left_of plan (left_of start.source) now.source next.source held held' p p' h.items stop (faults_of start.source) (faults_of now.source) h.read stops in
          let all = h.items ++ end_items (streams_of plan) stop in
          let covers : Covers all fails.f = subst (λ u. Covers (h.items ++ end_items (streams_of u) stop) fails.f) same_plan fails.covers in
          let now_so_far = so_far_of fails.f (h.rows ++ fails.stops.rows) fails.stops.so_far in
          let apart = apart_from_more all fails.f fails.stops.rows (goes_on_without h.items (end_items (streams_of plan) stop) (no_end_records (streams_of plan) stop)) covers now_so_far in
          let first = rows_are_first plan all all fails.f (h.rows ++ fails.stops.rows) covers (no_more all) now_so_far in
          record {
            given = given;
            rows = h.rows ++ fails.stops.rows;
            first = record {
              rest = first.rest;
              are = rows_same END_MARK plan (streams_in (items_of plan given)) (streams_in all) (λ s. ap (records_of s) (sym are) ∙ sym (same_records (streams_of plan) stop h.items s)) ∙ first.are;
            };
            wrote = wrote_behind after part laws why start.out now.out next.out h.rows fails.stops.rows apart h.wrote fails.stops.wrote;
            at = taps_behind why h.rows fails.stops.rows start.taps now.taps next.taps h.offered fails.stops.at;
            late = dropped_of h.items;
            first_late = record { rest = []; are = ap dropped_of (sym are) ∙ sym (append-nil (dropped_of h.items)) };
            listed = kept ∙ h.listed;
          }
