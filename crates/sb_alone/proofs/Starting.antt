-- A new hand has nothing to do, and where there is none the run ends at once.
use Rattle.std.proofs.Common.{◌≡◌, ◌≤◌, ℕ, zero, suc, Bool, false, List, [], ◌++◌, length, map, replicate, Option, Some, Result, Ok, Err, refl, sym, ap, subst, ◌∙◌, append-nil, arith}
use Rattle.std.specs.List.{AllByRecursion, slice_get}
use Rattle.std.proofs.KnownBytes.{Consumes-nil}
use Rattle.std.proofs.lemmas.List.Elements.{All-from_recursion}
use Rattle.sb_feeds.specs.base.records.declared.intake.Stop.{Stop}
use Rattle.sb_feeds.specs.base.records.declared.intake.Stop.TheVariants as at
use Rattle.sb_feeds.specs.base.records.declared.item.Dropped.{Dropped}
use Rattle.sb_feeds.specs.base.records.declared.item.Record.{Record}
use Rattle.sb_feeds.specs.base.records.declared.item.TheConstants.{END_MARK}
use Rattle.sb_feeds.specs.base.records.Streams.{dropped_of}
use Rattle.sb_feeds.specs.outside.Sinks.{SinkState}
use Rattle.sb_feeds.specs.base.pipeline.Operators.{lanes_of, operator_at}
use Rattle.sb_feeds.specs.base.pipeline.Plans.{IsPlan}
use Rattle.sb_feeds.specs.base.pipeline.Shapes.{Shape}
use Rattle.sb_hand.specs.core.containers.declared.container.CoreLane.{CoreLane}
use Rattle.sb_hand.specs.core.Moments.{empty_lane, empty_node, first}
use Rattle.sb_hand.proofs.core.sound.FirstMoment.{at_node}
use Rattle.sb_hand.specs.lane.declared.answers.NotYet.TheVariants.{NoContainer}
use Rattle.sb_hand.specs.lane.LaneView.{LaneView, lane_of}
use Rattle.sb_hand.specs.lane.Looks.{look_of}
use Rattle.sb_hand.specs.lane.Taking.{take_first}
use Rattle.sb_feeds.specs.emit.Taps.{TapState}
use Rattle.sb_hand.specs.HandLaws.{AreIdle}
use Rattle.sb_hand.specs.Hands.{HandView, IsNewHand}
use Rattle.sb_hand.specs.Showing.{settings_at, settings_of}
use Rattle.sb_hand.specs.node.Looking.{CannotClose, NoneWaits}
use Rattle.sb_hand.proofs.ShownLanes.{all-of-each, one-of-all}
use Rattle.sb_hand.proofs.Single.{get-map, there-too}
use Rattle.sb_feeds.specs.one_feed.declared.give.GiveStop.{GiveStop}
use Rattle.sb_feeds.specs.one_feed.declared.give.GiveStop.TheVariants as stop
use Rattle.sb_feeds.specs.one_feed.Due.{rows_below}
use Rattle.sb_feeds.specs.one_feed.Feeds.{nothing_fed}
use Rattle.sb_feeds.specs.one_feed.GiveCauses.{GiveCause}
use Rattle.sb_feeds.specs.one_feed.Given.{Given, items_of}
use Rattle.sb_feeds.specs.one_feed.InputFeeds.{FeedCause, Feeds}
use Rattle.sb_alone.specs.declared.run_end.RunEnd.TheVariants as run
use Rattle.sb_alone.specs.declared.sizes.Sizes.{Sizes}
use Rattle.sb_alone.specs.Ending.{end_by}
use Rattle.sb_alone.specs.Rested.{HasSameSetting, IsRested}
use Rattle.sb_alone.specs.RunEnds.{AreSizes, Ends, InputCause, OutputCause}
use Rattle.sb_alone.proofs.Ended.{ends_here}
use Rattle.sb_alone.proofs.Standing.{whole-new}

empty_lanes : (n : ℕ) → AllByRecursion (λ lane. lane ≡ empty_lane) (replicate n empty_lane)
empty_lanes zero = tt
empty_lanes (suc n) = (refl, empty_lanes n)

-- no container is in a lane that shows an empty one
module _ (n : ℕ) (lanes : List LaneView) (shows : replicate n empty_lane ≡ map lane_of lanes) where
  empty_at : (l : ℕ) (lane : LaneView) → slice_get lanes l ≡ Some lane → lane_of lane ≡ empty_lane
  empty_at l lane is =
      one-of-all (λ lane. lane ≡ empty_lane) (replicate n empty_lane) l (lane_of lane) (All-from_recursion (λ lane. lane ≡ empty_lane) (replicate n empty_lane) (empty_lanes n))
      (ap (λ ls. slice_get ls l) shows ∙ get-map lane_of lanes l lane is)

-- so no node has anything to do
pub idle-new : (plan : Shape) (bundle pending : ℕ) (keeps : Bool) (h : HandView) → IsNewHand plan bundle pending keeps h → AreIdle h.plan h.nodes
idle-new plan bundle pending keeps h new k le =
    let s = new.shows in
    let within : k ≤ length plan.steps = subst (λ (p : Shape). k ≤ length p.steps) new.plan_is le in
    let node = empty_node (operator_at (slice_get plan.steps k)) in
    let there = at_node plan.steps k within in
    let own = there-too (first plan bundle).nodes h.nodes k node (sym s.count) there in
    let shown = s.each k own.0 node own.1 there in
    let empty = empty_at (lanes_of (operator_at (slice_get plan.steps k))) own.0.lanes.items shown.lanes in
    record {
      own = own.0;
      there = own.1;
      waits = all-of-each NoneWaits own.0.lanes.items (λ l lane is. ap (λ (x : CoreLane). take_first x.conts) (empty l lane is));
      closes = all-of-each CannotClose own.0.lanes.items (λ l lane is. (NoContainer, ap (λ (x : CoreLane). look_of x.conts) (empty l lane is)));
    }

pub rested-new : (plan : Shape) → IsPlan plan → (sizes : Sizes) (h : HandView) → AreSizes sizes
    → IsNewHand plan sizes.bundle sizes.pending sizes.keeps_diaries h → IsRested h nothing_fed []
rested-new plan is_plan sizes h are new = record {
  whole = whole-new plan is_plan sizes.bundle sizes.pending sizes.keeps_diaries h are.some_records are.most_records are.some_bundles new;
  idle = idle-new plan sizes.bundle sizes.pending sizes.keeps_diaries h new;
  none_ready = new.tray;
}

-- ---- the end of a run over a hand that was new
pub ends : {O : Type 0} (plan : Shape) (sizes : Sizes) (h0 h : HandView) (left left' : Option (List ℕ)) (after part : O → List Record → O → Type 0) (o p : O)
    (taps taps' : List TapState) (dropped dropped' : List Dropped) (fed : Result Stop GiveStop)
    → IsNewHand plan sizes.bundle sizes.pending sizes.keeps_diaries h0 → HasSameSetting h0 h
    → Feeds h0.plan sizes.bundle left left' (IsRested h) after part o p taps taps' dropped dropped' fed
    → Ends plan sizes left left' after part o p taps taps' dropped dropped' (end_by h fed)
ends {O = O} plan sizes h0 h left left' after part o p taps taps' dropped dropped' fed new same feeds =
    let plan_is : h.plan ≡ plan = same.plan ∙ new.plan_is in
    let bundle_is : h.bundle ≡ sizes.bundle = same.bundle ∙ new.bundle_is in
    let given = subst (λ q. Feeds q sizes.bundle left left' (IsRested h) after part o p taps taps' dropped dropped' fed) new.plan_is feeds in
    subst (λ q. (h.spent ≡ false → settings_of h.nodes ≡ settings_at sizes.keeps_diaries sizes.pending q)
    → Feeds q sizes.bundle left left' (IsRested h) after part o p taps taps' dropped dropped' fed
    → Ends q sizes left left' after part o p taps taps' dropped dropped' (end_by h fed)) plan_is
    (ends_here h sizes left left' after part o p taps taps' dropped dropped' bundle_is fed)
    (λ unspent. same.settings unspent ∙ new.settings) given

-- ---- the end of a run that had no hand
pub nothing_given : (left : Option (List ℕ)) → Given left left
nothing_given left = record { bytes = []; were_left = Consumes-nil left; ended = false; at_end = λ e. cc e }

pub ends_none : {O : Type 0} (plan : Shape) (sizes : Sizes) (left : Option (List ℕ)) (after part : O → List Record → O → Type 0)
    → ((o : O) → after o [] o) → ((o p : O) (l m : List Record) → after o l p → part o (l ++ m) p)
    → (o : O) (taps : List TapState) (dropped : List Dropped) → Ends plan sizes left left after part o o taps taps dropped dropped run.Memory
ends_none plan sizes left after part none whole o taps dropped = record {
  given = nothing_given left;
  rows = [];
  first = record { rest = rows_below END_MARK plan (items_of plan (nothing_given left)); are = refl };
  wrote = whole o o [] [] (none o);
  offered = tt;
  late = [];
  first_late = record { rest = dropped_of (items_of plan (nothing_given left)); are = refl };
  listed = sym (append-nil dropped);
}

-- ---- the causes
pub input-cause : (before now : ℕ) (h : HandView) (fed : Result Stop GiveStop) → FeedCause before now fed → InputCause before now (end_by h fed)
input-cause before now h (Ok at.End) cause = cause
input-cause before now h (Ok (at.Refused refusal)) cause = cause
input-cause before now h (Ok at.Fault) cause = cause
input-cause before now h (Err stop.Output) cause = cause
input-cause before now h (Err (stop.Tap place)) cause = cause
input-cause before now h (Err stop.Memory) cause = cause

pub output-cause : (before now : SinkState) (h : HandView) (fed : Result Stop GiveStop) → GiveCause before now fed → OutputCause before now (end_by h fed)
output-cause before now h (Ok at.End) cause = record { never_falls = cause.never_falls; never_short = cause.never_short; keeps_refusing = cause.keeps_refusing; failed = λ e. absurd (cc e); passed = λ w. cause.passed tt }
output-cause before now h (Ok (at.Refused refusal)) cause = record { never_falls = cause.never_falls; never_short = cause.never_short; keeps_refusing = cause.keeps_refusing; failed = λ e. absurd (cc e); passed = λ w. cause.passed tt }
output-cause before now h (Ok at.Fault) cause = record { never_falls = cause.never_falls; never_short = cause.never_short; keeps_refusing = cause.keeps_refusing; failed = λ e. absurd (cc e); passed = λ w. cause.passed tt }
output-cause before now h (Err stop.Output) cause = record { never_falls = cause.never_falls; never_short = cause.never_short; keeps_refusing = cause.keeps_refusing; failed = λ e. cause.failed refl; passed = λ w. absurd w }
output-cause before now h (Err (stop.Tap place)) cause = record { never_falls = cause.never_falls; never_short = cause.never_short; keeps_refusing = cause.keeps_refusing; failed = λ e. absurd (cc e); passed = λ w. cause.passed tt }
output-cause before now h (Err stop.Memory) cause = record { never_falls = cause.never_falls; never_short = cause.never_short; keeps_refusing = cause.keeps_refusing; failed = λ e. absurd (cc e); passed = λ w. absurd w }

pub output-none : (state : SinkState) → OutputCause state state run.Memory
output-none state = record { never_falls = omega arith; never_short = omega arith; keeps_refusing = λ e. e; failed = λ e. absurd (cc e); passed = λ w. absurd w }
