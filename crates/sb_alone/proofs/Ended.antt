-- The ends of a run.
use Rattle.std.proofs.Common.{◌≡◌, ℕ, true, false, List, [], ◌∷◌, ◌++◌, length, map, Option, Some, Result, Ok, Err, refl, sym, ap, subst, ◌∙◌, append-nil, arith}
use Rattle.std.specs.Prelude.{is_some, ⊤}
use Rattle.sb_feeds.specs.base.records.declared.intake.Stop.{Stop}
use Rattle.sb_feeds.specs.base.records.declared.intake.Stop.TheVariants as at
use Rattle.sb_feeds.specs.base.records.declared.item.Dropped.{Dropped}
use Rattle.sb_feeds.specs.base.records.declared.item.Item.{Item}
use Rattle.sb_feeds.specs.base.records.declared.item.Record.{Record}
use Rattle.sb_feeds.specs.base.records.declared.item.Stream.{Stream}
use Rattle.sb_feeds.specs.base.records.declared.item.Stream.TheVariants.{A, B}
use Rattle.sb_feeds.specs.base.records.declared.item.TheConstants.{END_MARK}
use Rattle.sb_feeds.specs.base.records.Streams.{last_or, least_of, low_watermark, uses}
use Rattle.sb_feeds.specs.base.bundle.Calls as calls
use Rattle.sb_feeds.specs.base.bundle.Calls.Call.{Mark}
use Rattle.sb_feeds.specs.base.bundle.Laws.{bundles_of}
use Rattle.sb_feeds.specs.base.pipeline.declared.transform.Down.{Down}
use Rattle.sb_feeds.specs.base.pipeline.Results as result
use Rattle.sb_feeds.specs.base.pipeline.Shapes.{Shape, source, streams_of}
use Rattle.sb_hand.specs.core.Laws.{IsDone}
use Rattle.sb_hand.specs.core.Rest.{AreAtTheEnd}
use Rattle.sb_hand.proofs.core.ends.NoneLeft.{settles-all}
use Rattle.sb_hand.proofs.core.ends.SoundRows.{rows-at_the_end}
use Rattle.sb_hand.specs.tally.Whole.{Tallies, fed_bundle}
use Rattle.sb_hand.proofs.tally.Ends.{end-is_tallied}
use Rattle.sb_hand.proofs.tally.Settling.{end-is_settled}
use Rattle.sb_hand.proofs.tally.Telling.{diaries-tell}
use Rattle.sb_feeds.specs.emit.Taps.{TapState}
use Rattle.sb_hand.specs.Hands.{HandView}
use Rattle.sb_hand.specs.Showing.{diaries_of, settings_at, settings_of}
use Rattle.sb_hand.proofs.ShownLanes.{done-is-empty}
use Rattle.sb_feeds.specs.one_feed.declared.cutters.Cutters.{Cutters}
use Rattle.sb_feeds.specs.one_feed.declared.give.GiveStop.{GiveStop}
use Rattle.sb_feeds.specs.one_feed.declared.give.GiveStop.TheVariants as stop
use Rattle.sb_feeds.specs.one_feed.Calls.{calls_of}
use Rattle.sb_feeds.specs.one_feed.Due.{due_rows, rows_below, streams_in}
use Rattle.sb_feeds.specs.one_feed.FedByItems.{IsFedBy, end_items}
use Rattle.sb_feeds.specs.one_feed.Feeds.{Fed, bundles_in, records_of_feed}
use Rattle.sb_feeds.specs.one_feed.Given.{items_of}
use Rattle.sb_feeds.specs.one_feed.InputFeeds.{Feeds, FeedsAll, FeedsSome}
use Rattle.sb_feeds.specs.one_feed.TapLists.{LeavesThoseThatStay, StopsIn}
use Rattle.sb_feeds.proofs.one_feed.FirstRows.{fed_covers, rows_same}
use Rattle.sb_alone.specs.declared.sizes.Sizes.{Sizes}
use Rattle.sb_alone.specs.Ending.{end_by}
use Rattle.sb_alone.specs.Rested.{IsRested, feed_of}
use Rattle.sb_alone.specs.RunEnds.{EndsAt, EndsEarly, Ends, IsDoneHand}
use Rattle.sb_alone.proofs.AtTheEnd.{IsQuiet, bundles_at_end, fed_at_end, floor_at_end, items_are_quiet, marks_at_end, pushed_at_end}
use Rattle.sb_alone.proofs.SoFar.{at_rest, floor_of_source, low_of, rested_rows}

-- ---- where reading stopped before the end: the rows below the low watermark are there
pub due_low : (h : HandView) (size : ℕ) (items : List Item) (f : Fed) (c : Cutters) (rows : List Record) → IsRested h f rows → IsFedBy size items f c
    → rows ≡ rows_below (low_watermark (streams_of h.plan) items) h.plan items
due_low h size items f c rows r fed =
    let covers = fed_covers size items f c fed in
    rested_rows h f rows r covers.rest covers.coming
    ∙ rows_same (low_of h.plan f) h.plan (λ s. records_of_feed f s ++ covers.rest s) (streams_in items) covers.are
    ∙ (λ i. rows_below (least_of (streams_of h.plan) (ap (last_or 0) fed.of_a.marks i) (ap (last_or 0) fed.of_b.marks i)) h.plan items)

-- ---- at the end
used_by : (plan : Shape) (s : Stream) (d : Down) → source plan s ≡ Some d → uses (streams_of plan) s ≡ true
used_by plan A d is = ap is_some is
used_by plan B d is = ap is_some is

module _ (h : HandView) (size : ℕ) (items : List Item) (f : Fed) (c : Cutters) (rows : List Record) (r : IsRested h f rows)
    (fed : IsFedBy size (items ++ end_items (streams_of h.plan) at.End) f c) (quiet : IsQuiet h.plan items) where
  ends_are : AreAtTheEnd h.plan r.whole.moment
  ends_are s d is = floor_of_source h.plan r.whole.moment (diaries_of h.nodes) f r.whole.shows.sound r.whole.tallied s d is ∙ floor_at_end h.plan size items f c fed quiet s (used_by h.plan s d is)

  rows_are : r.whole.moment.rows ≡ rows
  rows_are = r.whole.shows.rows_is ∙ ap (λ l. rows ++ l) r.none_ready ∙ append-nil rows

  fed_rows : r.whole.moment.rows ≡ result.rows_below END_MARK h.plan (records_of_feed f)
  fed_rows = rows-at_the_end h.plan r.whole.is_plan r.whole.moment (records_of_feed f) r.whole.shows.sound r.whole.exact (at_rest h f rows r.whole r.idle) ends_are

  pub due_all : rows ≡ rows_below END_MARK h.plan items
  due_all = sym rows_are ∙ fed_rows ∙ rows_same END_MARK h.plan (records_of_feed f) (streams_in items) (fed_at_end h.plan size items f c fed quiet)

  done : IsDone h.plan r.whole.moment
  done = settles-all h.plan r.whole.is_plan r.whole.moment r.whole.shows.sound (at_rest h f rows r.whole r.idle) ends_are

  tallies_at : (n : ℕ) → n ≡ size → r.whole.moment.bundle ≡ n → Tallies h.plan n (λ s. calls_of s items) (diaries_of h.nodes)
  tallies_at n same is =
      subst (λ n. Tallies h.plan n (λ s. calls_of s items) (diaries_of h.nodes)) is
      (end-is_tallied h.plan r.whole.is_plan r.whole.moment (diaries_of h.nodes) (feed_of f) (λ s. calls_of s items) r.whole.shows.sound r.whole.tallied done r.whole.shows.held_is
      (record {
        bundles = λ s. ap (map fed_bundle) (subst (λ x. bundles_in f s ≡ bundles_of x (calls_of s items ++ Mark END_MARK ∷ [])) (sym (is ∙ same)) (bundles_at_end h.plan size items f c fed quiet s));
        marks = λ s d is. marks_at_end h.plan size items f c fed quiet s (used_by h.plan s d is);
      })
      (let e = ap length (fed_rows ∙ rows_same END_MARK h.plan (records_of_feed f) (λ s. calls.records_of (calls_of s items)) (pushed_at_end h.plan size items f c fed quiet)) in omega (arith, e)))

  pub done_hand : (sizes : Sizes) → h.bundle ≡ sizes.bundle → sizes.bundle ≡ size → settings_of h.nodes ≡ settings_at sizes.keeps_diaries sizes.pending h.plan → IsDoneHand h.plan sizes items h
  done_hand sizes bundle same settings = record {
    plan_is = refl;
    unspent = r.whole.unspent;
    none_left = done-is-empty h.plan h.bundle h.nodes [] (rows ++ h.tray) r.whole.moment r.whole.shows done;
    legal = λ k le. (diaries-tell h.plan r.whole.moment (diaries_of h.nodes) (feed_of f) r.whole.shows.sound r.whole.tallied k le).0;
    settled = end-is_settled h.plan r.whole.is_plan r.whole.moment (diaries_of h.nodes) (feed_of f) r.whole.shows.sound r.whole.tallied done;
    tallies = tallies_at sizes.bundle same (r.whole.shows.bundle_is ∙ bundle);
    settings = settings;
  }

-- ---- all ends
module _ {O : Type 0} (h : HandView) (sizes : Sizes) (left left' : Option (List ℕ)) (after part : O → List Record → O → Type 0) (o p : O)
    (taps taps' : List TapState) (dropped dropped' : List Dropped) (bundle : h.bundle ≡ sizes.bundle) where
  -- reading stopped there, and the rows that came out are those that are due
  abbrev ends_at : (stopped : Stop) (e : FeedsAll h.plan sizes.bundle left left' (IsRested h) after o p taps taps' dropped dropped' stopped)
      → e.gives.rows ≡ due_rows h.plan stopped (items_of h.plan e.given) → EndsAt stopped h.plan left left' after o p taps taps' dropped dropped'
  ends_at stopped e due = record {
    given = e.given;
    stopped = sym e.stopped;
    wrote = subst (λ l. after o l p) due e.gives.wrote;
    offered = subst (λ l. LeavesThoseThatStay l taps taps') due e.gives.offered;
    listed = e.listed;
  }

  -- before the end nothing is fed behind the items
  low_at : (stopped : Stop) (e : FeedsAll h.plan sizes.bundle left left' (IsRested h) after o p taps taps' dropped dropped' stopped)
      → end_items (streams_of h.plan) stopped ≡ []
      → e.gives.rows ≡ rows_below (low_watermark (streams_of h.plan) (items_of h.plan e.given)) h.plan (items_of h.plan e.given)
  low_at stopped e none =
      let items = items_of h.plan e.given in
      due_low h sizes.bundle items e.f e.cutters e.gives.rows e.gives.stand (subst (λ l. IsFedBy sizes.bundle l e.f e.cutters) (ap (λ l. items ++ l) none ∙ append-nil items) e.fed)

  ends_early : (why : GiveStop) (e : FeedsSome h.plan left left' after part o p taps taps' dropped dropped' why) (Wrote : O → List Record → O → Type 0) → Wrote o e.rows p
      → (Offered : List Record → Type 0) → Offered e.rows → EndsEarly h.plan left left' Wrote o p Offered dropped dropped'
  ends_early why e Wrote wrote Offered is =
      record { given = e.given; rows = e.rows; first = e.first; wrote = wrote; offered = is; late = e.late; first_late = e.first_late; listed = e.listed }

  pub ends_here : (fed : Result Stop GiveStop) → (h.spent ≡ false → settings_of h.nodes ≡ settings_at sizes.keeps_diaries sizes.pending h.plan)
      → Feeds h.plan sizes.bundle left left' (IsRested h) after part o p taps taps' dropped dropped' fed
      → Ends h.plan sizes left left' after part o p taps taps' dropped dropped' (end_by h fed)
  ends_here (Ok at.End) settings e =
      let items = items_of h.plan e.given in
      let quiet = items_are_quiet h.plan e.given in (
        ends_at at.End e (due_all h sizes.bundle items e.f e.cutters e.gives.rows e.gives.stand e.fed quiet),
        done_hand h sizes.bundle items e.f e.cutters e.gives.rows e.gives.stand e.fed quiet sizes bundle refl (settings e.gives.stand.whole.unspent),
      )
  ends_here (Ok (at.Refused refusal)) settings e = ends_at (at.Refused refusal) e (low_at (at.Refused refusal) e refl)
  ends_here (Ok at.Fault) settings e = ends_at at.Fault e (low_at at.Fault e refl)
  ends_here (Err stop.Output) settings e = ends_early stop.Output e part e.wrote (λ rows. ⊤) tt
  ends_here (Err (stop.Tap place)) settings e = ends_early (stop.Tap place) e after e.wrote (λ rows. StopsIn rows place taps taps') e.at
  ends_here (Err stop.Memory) settings e = ends_early stop.Memory e part e.wrote (λ rows. ⊤) tt
