-- A shared cascade comes back to one hand, and the run ends over it.
use Rattle.std.proofs.Common.{◌≡◌, ◌≤◌, ℕ, false, List, [], ◌++◌, Option, Result, Ok, Err, refl, sym, ap, subst, ◌∙◌, append-nil, inl, inr}
use Rattle.std.specs.Prelude.{⊤}
use Rattle.sb_alone.specs.feeds.base.records.declared.intake.Stop.{Stop}
use Rattle.sb_alone.specs.feeds.base.records.declared.intake.Stop.TheVariants as at
use Rattle.sb_alone.specs.feeds.base.records.declared.item.Dropped.{Dropped}
use Rattle.sb_alone.specs.feeds.base.records.declared.item.Item.{Item}
use Rattle.sb_alone.specs.feeds.base.records.declared.item.Record.{Record}
use Rattle.sb_alone.specs.feeds.base.records.declared.item.Stream.{Stream}
use Rattle.sb_alone.specs.feeds.base.records.declared.item.Stream.TheVariants.{A, B}
use Rattle.sb_alone.specs.feeds.base.records.declared.item.TheConstants.{END_MARK}
use Rattle.sb_alone.specs.feeds.base.records.Streams.{dropped_of}
use Rattle.sb_alone.specs.feeds.outside.Sinks.{SinkState}
use Rattle.sb_alone.specs.feeds.base.pipeline.Plans.{IsPlan}
use Rattle.sb_alone.specs.feeds.base.pipeline.Shapes.{Shape, streams_of}
use Rattle.sb_worker.specs.core.Exactness.{IsExact}
use Rattle.sb_worker.specs.tally.Tally as tally
use Rattle.sb_worker.specs.tally.Tally.{IsTallied}
use Rattle.sb_alone.specs.feeds.emit.Taps.{TapState}
use Rattle.sb_worker.specs.hand.Hands.{HandView, IsNewHand, Shows}
use Rattle.sb_worker.specs.hand.Showing.{diaries_of, settings_at, settings_of}
use Rattle.sb_worker.specs.turn.Turning.{opening_view}
use Rattle.sb_worker.specs.cascade.declared.cascade.Cascade.{Cascade}
use Rattle.sb_worker.specs.cascade.declared.pass.CascadePass.{CascadePass}
use Rattle.sb_worker.specs.cascade.Calls.{IsEmptyHanded, IsFeeder, IsReady, plan_of, setting_of, view_of}
use Rattle.sb_worker.specs.cascade.Lives.{GivesBack, IsShared}
use Rattle.sb_worker.specs.cascade.shared.Views as view
use Rattle.sb_alone.specs.feeds.one_feed.declared.cutters.Cutters.{Cutters}
use Rattle.sb_alone.specs.feeds.one_feed.declared.give.GiveStop.{GiveStop}
use Rattle.sb_alone.specs.feeds.one_feed.declared.give.GiveStop.TheVariants as give
use Rattle.sb_alone.specs.feeds.one_feed.Due.{AreFirstRows, streams_in}
use Rattle.sb_alone.specs.feeds.one_feed.FedByItems.{IsFedBy, end_items}
use Rattle.sb_alone.specs.feeds.one_feed.Feeds.{AreRowsSoFar, Fed, records_of_feed, nothing_fed}
use Rattle.sb_alone.specs.feeds.one_feed.GiveCauses.{GiveCause}
use Rattle.sb_alone.specs.feeds.one_feed.Given.{items_of}
use Rattle.sb_alone.specs.feeds.one_feed.Gives.{Gives, StopsOut}
use Rattle.sb_alone.specs.feeds.one_feed.InputFeeds.{Feeds, FeedsAll, FeedsSome}
use Rattle.sb_alone.specs.feeds.one_feed.TapLists.{StopsIn}
use Rattle.sb_alone.proofs.feeds.one_feed.FirstRows.{fed_covers, rows_are_first, rows_same}
use Rattle.sb_alone.proofs.feeds.one_feed.GivesInTurn.{AddsUp, gives_both, stops_none, stops_then, wrote_part}
use Rattle.sb_alone.proofs.feeds.one_feed.InputEnds.{same_records}
use Rattle.sb_alone.proofs.feeds.one_feed.LaterItems.{no_more}
use Rattle.sb_alone.proofs.feeds.one_feed.RowsApart.{apart_so_far}
use Rattle.sb_alone.proofs.feeds.one_feed.RowsSoFar.{so_far_by}
use Rattle.sb_alone.specs.declared.run_end.RunEnd.TheVariants as run
use Rattle.sb_alone.specs.declared.sizes.Sizes.{Sizes}
use Rattle.sb_alone.specs.Ending.{early_by, end_by}
use Rattle.sb_engines.specs.Feeders.{ComesBack, HasFed, IsGivenBack}
use Rattle.sb_alone.specs.Rested.{HasSameSetting, IsRested, IsRestedSoFar, IsWhole, feed_of}
use Rattle.sb_alone.specs.RunEnds.{AreSizes, Ends, EndsEarly, MayHaveFailed, OutputCause, SharedFeedCause, SharedInputCause}
use Rattle.sb_alone.proofs.Ended.{ends_here}
use Rattle.sb_engines.proofs.FedMore.{fed-are}
use Rattle.sb_alone.proofs.Sharing.{gives_as}
use Rattle.sb_alone.proofs.SoFar.{rested_so_far}
use Rattle.sb_alone.proofs.Starting.{output-cause, rested-new}

-- ---- the beginning
none-fed : view.feed_of view.no_feed ≡ feed_of nothing_fed
none-fed = λ i. record { bundles = λ s. bundles s i; marks = λ s. marks s i; drained = 0 }
  where
    bundles : (s : Stream) → (view.feed_of view.no_feed).bundles s ≡ (feed_of nothing_fed).bundles s
    bundles A = refl
    bundles B = refl

    marks : (s : Stream) → (view.feed_of view.no_feed).marks s ≡ (feed_of nothing_fed).marks s
    marks A = refl
    marks B = refl

fed-first : view.feed_of view.first_hands.feed ≡ feed_of nothing_fed
fed-first = (λ i. record { bundles = λ s. bundles s i; marks = λ s. marks s i; drained = 0 }) ∙ none-fed
  where
    bundles : (s : Stream) → (view.feed_of view.first_hands.feed).bundles s ≡ (view.feed_of view.no_feed).bundles s
    bundles A = refl
    bundles B = refl

    marks : (s : Stream) → (view.feed_of view.first_hands.feed).marks s ≡ (view.feed_of view.no_feed).marks s
    marks A = refl
    marks B = refl

-- the feeder's pass of a new cascade has fed nothing
pub new-fed : (plan : Shape) → IsPlan plan → (sizes : Sizes) → AreSizes sizes → (h : HandView) → IsNewHand plan sizes.bundle sizes.pending sizes.keeps_diaries h
    → (c : Cascade) (p : CascadePass) → IsShared plan sizes.bundle sizes.pending sizes.keeps_diaries (setting_of c)
    → IsReady c p → IsFeeder p → IsEmptyHanded p → view_of p ≡ opening_view view.first_hands → HasFed c p nothing_fed []
new-fed plan is_plan sizes are h new c p shared ready feeder empty opening =
    let rested = rested-new plan is_plan sizes h are new in
    record {
      ready = ready;
      feeder = feeder;
      empty = empty;
      is_plan = subst IsPlan (sym shared.plan_is) is_plan;
      fed = ap (λ v. view.feed_of v.client.feed) opening ∙ fed-first;
      drained = ap (λ v. v.client.feed.drained) opening;
      so_far = subst (λ q. AreRowsSoFar q nothing_fed []) (new.plan_is ∙ sym shared.plan_is) (rested_so_far h nothing_fed [] rested);
      bound = rested.whole.bound;
    }

-- ---- the hand that comes back
module _ (c : Cascade) (p : CascadePass) (h : HandView) (back : GivesBack (setting_of c) (view_of p) h) where
  pub given-back : IsGivenBack (setting_of c) h
  given-back = record { plan = back.plan; bundle = back.bundle; pending = back.pending; settings = back.settings }

  pub whole-back : 1 ≤ (setting_of c).pending → h.spent ≡ false → (f : Fed) (rows : List Record) → HasFed c p f rows → IsWhole h f rows
  whole-back some unspent f rows fed =
      let all = back.shows unspent in
      let plan : Shape = plan_of c in
      record {
        is_plan = subst IsPlan (sym back.plan) fed.is_plan;
        unspent = unspent;
        some_bundles = subst (λ n. 1 ≤ n) (sym back.pending) some;
        keeps = (setting_of c).keeps;
        settings = back.settings ∙ (λ i. settings_at (setting_of c).keeps (sym back.pending i) (sym back.plan i));
        moment = all.moment;
        shows = subst (λ l. Shows h l all.moment) fed.drained all.shows;
        exact = subst (λ q. IsExact q all.moment (records_of_feed f)) (sym back.plan)
            (subst (IsExact plan all.moment) (λ i s. fed-are f s i)
            (subst (λ (g : tally.Feed). IsExact plan all.moment (tally.records_of_feed g)) fed.fed all.exact));
        tallied = subst (λ q. IsTallied q all.moment (diaries_of h.nodes) (feed_of f)) (sym back.plan)
            (subst (IsTallied plan all.moment (diaries_of h.nodes)) fed.fed all.tallied);
        bound = fed.bound;
      }

-- ---- what was fed, and then worked off by one hand
-- the rows that came out are the first of all, although the end was fed behind the items
pub end-first : (plan : Shape) (size : ℕ) (items : List Item) (stop : Stop) (f : Fed) (c : Cutters) (rows : List Record)
    → IsFedBy size (items ++ end_items (streams_of plan) stop) f c → AreRowsSoFar plan f rows → AreFirstRows plan items rows
end-first plan size items stop f c rows fed so =
    let all = items ++ end_items (streams_of plan) stop in
    let first = rows_are_first plan all all f rows (fed_covers size all f c fed) (no_more all) so in
    record {
      rest = first.rest;
      are = rows_same END_MARK plan (streams_in items) (streams_in all) (λ s. sym (same_records (streams_of plan) stop items s)) ∙ first.are;
    }

abbrev pub told : {T : Type 0} → Stop → Result T GiveStop → Result Stop GiveStop
told stop (Ok x) = Ok stop
told stop (Err why) = Err why

module _ {O : Type 0} (after part : O → List Record → O → Type 0) (laws : AddsUp after part) (plan : Shape) (size : ℕ) (left left' : Option (List ℕ)) (stands : Fed → List Record → Type 0)
    (o p : O) (taps taps1 : List TapState) (dropped dropped' : List Dropped) (stop : Stop)
    (e : FeedsAll plan size left left' stands after o p taps taps1 dropped dropped' stop) (so : (f : Fed) (rows : List Record) → stands f rows → AreRowsSoFar plan f rows) where
  -- behind all that was fed not all rows came out
  pub feeds-stopped : (q : O) (taps2 : List TapState) (why : GiveStop) → StopsOut plan after part p q taps1 taps2 e.f e.gives.rows why
      → FeedsSome plan left left' after part o q taps taps2 dropped dropped' why
  feeds-stopped q taps2 why stops =
      let n = stops_then after part laws plan (stands e.f) o p q taps taps1 taps2 e.f [] why e.gives stops (apart_so_far plan e.f [] e.gives.rows stops.rows (so e.f e.gives.rows e.gives.stand) stops.so_far) in
      record {
        given = e.given;
        rows = n.rows;
        first = end-first plan size (items_of plan e.given) stop e.f e.cutters n.rows e.fed n.so_far;
        wrote = n.wrote;
        at = n.at;
        late = dropped_of (items_of plan e.given);
        first_late = record { rest = []; are = sym (append-nil (dropped_of (items_of plan e.given))) };
        listed = e.listed;
      }

  -- there was no memory
  pub feeds-wanting : FeedsSome plan left left' after part o p taps taps1 dropped dropped' give.Memory
  feeds-wanting = feeds-stopped p taps1 give.Memory (stops_none after part laws plan p taps1 e.f e.gives.rows (so e.f e.gives.rows e.gives.stand))

  -- others came out
  pub feeds-back : {T : Type 0} (later : Fed → List Record → Type 0) → ((f : Fed) (rows : List Record) → later f rows → AreRowsSoFar plan f rows) → (q : O) (taps2 : List TapState) (result : Result T GiveStop)
      → Gives plan (later e.f) after part p q taps1 taps2 e.f e.gives.rows result
      → Feeds plan size left left' later after part o q taps taps2 dropped dropped' (told stop result)
  feeds-back later so_later q taps2 (Ok x) gives = record {
    given = e.given;
    stopped = e.stopped;
    cutters = e.cutters;
    f = e.f;
    fed = e.fed;
    gives = gives_both after part laws (stands e.f) (later e.f) o p q taps taps1 taps2 [] e.gives gives (apart_so_far plan e.f [] e.gives.rows gives.rows (so e.f e.gives.rows e.gives.stand) (so_later e.f _ gives.stand));
    listed = e.listed;
  }
  feeds-back later so_later q taps2 (Err why) gives = feeds-stopped q taps2 why gives

-- ---- the ends
module _ {O : Type 0} (plan : Shape) (sizes : Sizes) (left left' : Option (List ℕ)) (after part : O → List Record → O → Type 0) (o p : O)
    (taps taps' : List TapState) (dropped dropped' : List Dropped) where
  early : (why : GiveStop) (e : FeedsSome plan left left' after part o p taps taps' dropped dropped' why) (Wrote : O → List Record → O → Type 0) → Wrote o e.rows p → (Offered : List Record → Type 0) → Offered e.rows
      → EndsEarly plan left left' Wrote o p Offered dropped dropped'
  early why e Wrote wrote Offered is =
      record { given = e.given; rows = e.rows; first = e.first; wrote = wrote; offered = is; late = e.late; first_late = e.first_late; listed = e.listed }

  -- feeding stopped early
  pub ends-early : (h : HandView) (why : GiveStop) → FeedsSome plan left left' after part o p taps taps' dropped dropped' why
      → Ends plan sizes left left' after part o p taps taps' dropped dropped' (end_by h (Err why))
  ends-early h give.Output e = early give.Output e part e.wrote (λ rows. ⊤) tt
  ends-early h (give.Tap place) e = early (give.Tap place) e after e.wrote (λ rows. StopsIn rows place taps taps') e.at
  ends-early h give.Memory e = early give.Memory e part e.wrote (λ rows. ⊤) tt

  -- there was no memory for one of the workers, whatever the feeder met
  pub ends-wanting : (laws : AddsUp after part) (size : ℕ) (stands : Fed → List Record → Type 0) → ((f : Fed) (rows : List Record) → stands f rows → AreRowsSoFar plan f rows)
      → (fed : Result Stop GiveStop) → Feeds plan size left left' stands after part o p taps taps' dropped dropped' fed
      → Ends plan sizes left left' after part o p taps taps' dropped dropped' run.Memory
  ends-wanting laws size stands so (Ok stop) e =
      let w = feeds-wanting after part laws plan size left left' stands o p taps taps' dropped dropped' stop e so in
      early give.Memory w part w.wrote (λ rows. ⊤) tt
  ends-wanting laws size stands so (Err why) e = early why e part (wrote_part after part laws why o p e.rows e.wrote) (λ rows. ⊤) tt

-- all was fed, and the hand that came back was worked off
pub ends-back : {O : Type 0} (plan : Shape) (sizes : Sizes) (c : Cascade) (h0 h : HandView) (left left' : Option (List ℕ)) (after part : O → List Record → O → Type 0) (o p : O)
    (taps taps' : List TapState) (dropped dropped' : List Dropped) (fed : Result Stop GiveStop)
    → IsShared plan sizes.bundle sizes.pending sizes.keeps_diaries (setting_of c) → IsGivenBack (setting_of c) h0 → HasSameSetting h0 h
    → Feeds (plan_of c) sizes.bundle left left' (IsRested h) after part o p taps taps' dropped dropped' fed
    → Ends plan sizes left left' after part o p taps taps' dropped dropped' (end_by h fed)
ends-back plan sizes c h0 h left left' after part o p taps taps' dropped dropped' fed shared back same feeds =
    let plan_is : h.plan ≡ plan = same.plan ∙ back.plan ∙ shared.plan_is in
    let bundle_is : h.bundle ≡ sizes.bundle = same.bundle ∙ back.bundle ∙ shared.bundle_is in
    let settings : h.spent ≡ false → settings_of h.nodes ≡ settings_at sizes.keeps_diaries sizes.pending plan =
    λ unspent. same.settings unspent ∙ back.settings ∙ (λ i. settings_at (shared.keeps_is i) (shared.pending_is i) (shared.plan_is i)) in
    subst (λ q. (h.spent ≡ false → settings_of h.nodes ≡ settings_at sizes.keeps_diaries sizes.pending q)
    → Feeds q sizes.bundle left left' (IsRested h) after part o p taps taps' dropped dropped' fed
    → Ends q sizes left left' after part o p taps taps' dropped dropped' (end_by h fed)) plan_is
    (ends_here h sizes left left' after part o p taps taps' dropped dropped' bundle_is fed)
    settings
    (subst (λ q. Feeds q sizes.bundle left left' (IsRested h) after part o p taps taps' dropped dropped' fed) shared.plan_is feeds)

same-hand : (h : HandView) → HasSameSetting h h
same-hand h = record { plan = refl; bundle = refl; pending = refl; stays_spent = λ e. e; settings = λ unspent. refl }

-- ---- a cascade comes back to a hand, which is worked off
module _ {O : Type 0} (after part : O → List Record → O → Type 0) (laws : AddsUp after part) (c : Cascade) (p : CascadePass) (o : O) (taps : List TapState) (f : Fed) (rows : List Record) (fed : HasFed c p f rows) where
  pub back-wanting : ComesBack c after part o o taps taps f rows (Err give.Memory)
  back-wanting = stops_none after part laws (plan_of c) o taps f rows fed.so_far

  module _ (q : O) (taps' : List TapState) (h0 h : HandView) (back : IsGivenBack (setting_of c) h0) (same : HasSameSetting h0 h) where
    so : AreRowsSoFar h0.plan f rows
    so = subst (λ u. AreRowsSoFar u f rows) (sym back.plan) fed.so_far

    pub back-done : {T : Type 0} (x : T) → (AreRowsSoFar h0.plan f rows → Gives {T = T} h0.plan (IsRested h f) after part o q taps taps' f rows (Ok x)) → ComesBack c after part o q taps taps' f rows (Ok h)
    back-done x gives =
        let came = gives so in (
          record {
            plan = same.plan ∙ back.plan;
            bundle = same.bundle ∙ back.bundle;
            pending = same.pending ∙ back.pending;
            settings = same.settings came.stand.whole.unspent ∙ back.settings;
          },
          came,
        )

    pub back-stopped : (T : Type 0) (why : GiveStop) → (AreRowsSoFar h0.plan f rows → Gives {T = T} h0.plan (IsRested h f) after part o q taps taps' f rows (Err why)) → ComesBack c after part o q taps taps' f rows (Err why)
    back-stopped T why gives = subst (λ u. StopsOut u after part o q taps taps' f rows why) back.plan (gives so)

-- all was fed to a shared cascade, or as much as came before the stop
module _ {O : Type 0} (after part : O → List Record → O → Type 0) (laws : AddsUp after part) (plan : Shape) (sizes : Sizes) (c : Cascade) (pass : CascadePass)
    (shared : IsShared plan sizes.bundle sizes.pending sizes.keeps_diaries (setting_of c)) (left left' : Option (List ℕ)) (o p : O) (taps taps1 : List TapState) (dropped dropped' : List Dropped) where
  pub shared-early : (h : HandView) (why : GiveStop) → FeedsSome (plan_of c) left left' after part o p taps taps1 dropped dropped' why
      → Ends plan sizes left left' after part o p taps taps1 dropped dropped' (end_by h (Err why))
  shared-early h why e =
      subst (λ q. Ends q sizes left left' after part o p taps taps1 dropped dropped' (end_by h (Err why))) shared.plan_is
      (ends-early (plan_of c) sizes left left' after part o p taps taps1 dropped dropped' h why e)

  pub shared-wanting : (fed : Result Stop GiveStop) → Feeds (plan_of c) sizes.bundle left left' (HasFed c pass) after part o p taps taps1 dropped dropped' fed
      → Ends plan sizes left left' after part o p taps taps1 dropped dropped' run.Memory
  shared-wanting fed e =
      subst (λ q. Ends q sizes left left' after part o p taps taps1 dropped dropped' run.Memory) shared.plan_is
      (ends-wanting (plan_of c) sizes left left' after part o p taps taps1 dropped dropped' laws sizes.bundle (HasFed c pass) (λ f rows h. h.so_far) fed e)

  -- and the hand came back, all of it worked off
  pub shared-done : (h : HandView) (q : O) (taps2 : List TapState) (stop : Stop) (e : FeedsAll (plan_of c) sizes.bundle left left' (HasFed c pass) after o p taps taps1 dropped dropped' stop)
      → ((f : Fed) (rows : List Record) → HasFed c pass f rows → ComesBack c after part p q taps1 taps2 f rows (Ok h)) → Ends plan sizes left left' after part o q taps taps2 dropped dropped' (end_by h (Ok stop))
  shared-done h q taps2 stop e comes =
      let (back, gives) = comes e.f e.gives.rows e.gives.stand in
      ends-back plan sizes c h h left left' after part o q taps taps2 dropped dropped' (Ok stop) shared back (same-hand h)
      (feeds-back after part laws (plan_of c) sizes.bundle left left' (HasFed c pass) o p taps taps1 dropped dropped' stop e (λ f rows x. x.so_far) (IsRested h) (so_far_by h.plan (plan_of c) (IsRested h) back.plan (rested_so_far h)) q taps2 (Ok (tt {0})) gives)

  -- or not all rows came out
  pub shared-stopped : (h : HandView) (q : O) (taps2 : List TapState) (stop : Stop) (why : GiveStop) (e : FeedsAll (plan_of c) sizes.bundle left left' (HasFed c pass) after o p taps taps1 dropped dropped' stop)
      → ((f : Fed) (rows : List Record) → HasFed c pass f rows → ComesBack c after part p q taps1 taps2 f rows (Err why)) → Ends plan sizes left left' after part o q taps taps2 dropped dropped' (early_by why)
  shared-stopped h q taps2 stop why e comes =
      subst (λ u. Ends u sizes left left' after part o q taps taps2 dropped dropped' (early_by why)) shared.plan_is
      (ends-early (plan_of c) sizes left left' after part o q taps taps2 dropped dropped' h why
      (feeds-stopped after part laws (plan_of c) sizes.bundle left left' (HasFed c pass) o p taps taps1 dropped dropped' stop e (λ f rows x. x.so_far) q taps2 why (comes e.f e.gives.rows e.gives.stand)))

-- ---- the causes
pub shared-cause : (before now : ℕ) (fed : Result Stop GiveStop) → SharedFeedCause before now fed → MayHaveFailed before now
shared-cause before now (Ok at.End) cause = inl cause
shared-cause before now (Ok (at.Refused refusal)) cause = inl cause
shared-cause before now (Ok at.Fault) cause = inr cause
shared-cause before now (Err why) cause = cause

pub shared-early_cause : (before now : ℕ) (why : GiveStop) → MayHaveFailed before now → SharedInputCause before now (early_by why)
shared-early_cause before now give.Output cause = cause
shared-early_cause before now (give.Tap place) cause = cause
shared-early_cause before now give.Memory cause = cause

pub output-early : (plan : Shape) (before now : SinkState) (why : GiveStop) → GiveCause {T = Stop} before now (Err why) → OutputCause before now (early_by why)
output-early plan before now why cause = output-cause before now (record { plan = plan; bundle = 0; pending = 0; nodes = []; tray = []; spent = false }) (Err why) cause

pub shared-end_cause : (before now : ℕ) (h : HandView) (fed : Result Stop GiveStop) → SharedFeedCause before now fed → SharedInputCause before now (end_by h fed)
shared-end_cause before now h (Ok at.End) cause = cause
shared-end_cause before now h (Ok (at.Refused refusal)) cause = cause
shared-end_cause before now h (Ok at.Fault) cause = cause
shared-end_cause before now h (Err give.Output) cause = cause
shared-end_cause before now h (Err (give.Tap place)) cause = cause
shared-end_cause before now h (Err give.Memory) cause = cause

-- the hand was worked off behind all that was fed
pub shared-told_cause : {T : Type 0} (before now : ℕ) (stop : Stop) (result : Result T GiveStop) → SharedFeedCause before now (Ok stop) → SharedFeedCause before now (told stop result)
shared-told_cause before now stop (Ok x) cause = cause
shared-told_cause before now stop (Err why) cause = shared-cause before now (Ok stop) cause

pub output-wanting : {T : Type 0} (before now : SinkState) (fed : Result T GiveStop) → GiveCause before now fed → OutputCause before now run.Memory
output-wanting before now fed cause = record { never_falls = cause.never_falls; never_short = cause.never_short; keeps_refusing = cause.keeps_refusing; failed = λ e. absurd (cc e); passed = λ w. absurd w }
