-- The rows of a moment, and those of a whole hand, are the plan's below a mark, whatever may still come.
use Rattle.std.proofs.Common.{◌≡◌, ◌≤◌, ◌<◌, ℕ, ◌-◌, Bool, true, false, List, [], ◌∷◌, ◌++◌, length, get_or, Option, Some, None, refl, sym, ap, subst, ◌∙◌, append-nil, arith}
use Rattle.std.specs.Prelude.{All, is_some, min}
use Rattle.std.specs.List.{AllByRecursion, slice_get}
use Rattle.std.proofs.lemmas.List.Elements.{All-from_recursion}
use Rattle.std.proofs.lemmas.Option.{get_or_from_slice_get, slice_get_within}
use Rattle.sb_feeds.specs.base.records.declared.item.Record.{Record}
use Rattle.sb_feeds.specs.base.records.declared.item.Stream.{Stream}
use Rattle.sb_feeds.specs.base.records.declared.item.Stream.TheVariants.{A, B}
use Rattle.sb_feeds.specs.base.records.declared.item.TheConstants.{END_MARK}
use Rattle.sb_feeds.specs.base.records.declared.item.Streams.{Streams}
use Rattle.sb_feeds.specs.base.records.Streams.{last_or, least_of}
use Rattle.sb_feeds.proofs.base.records.Numbers.{bind_some}
use Rattle.sb_feeds.specs.base.pipeline.declared.transform.Down.{Down}
use Rattle.sb_feeds.specs.base.pipeline.Shapes.{Shape, source, streams_of}
use Rattle.sb_feeds.specs.base.pipeline.Results.{rows_below}
use Rattle.sb_hand.specs.core.containers.declared.container.CoreLane.{CoreLane}
use Rattle.sb_hand.specs.core.declared.moment.Moment.{Moment}
use Rattle.sb_hand.specs.core.declared.moment.Node.{Node}
use Rattle.sb_hand.specs.core.Exactness.{IsAdmissible, IsExact}
use Rattle.sb_hand.specs.core.Laws.{written_to}
use Rattle.sb_hand.specs.core.Moments.{floor_at, floor_of, lane_at, no_node, node_at}
use Rattle.sb_hand.specs.core.Rest.{IsAtRest, floor_where, low_mark}
use Rattle.sb_hand.specs.core.Soundness.{IsSound}
use Rattle.sb_hand.proofs.core.ends.AtRest.{closes-low}
use Rattle.sb_hand.proofs.core.ends.SoundRows.{rows-are_the_plans}
use Rattle.sb_hand.specs.diary.declared.event.DiaryEvent.{DiaryEvent}
use Rattle.sb_feeds.specs.base.pipeline.Plans.{IsPlan}
use Rattle.sb_hand.specs.tally.Tally.{IsTallied}
use Rattle.sb_hand.proofs.tally.Telling.{diaries-tell}
use Rattle.sb_hand.specs.HandLaws.{AreIdle}
use Rattle.sb_hand.specs.Hands.{HandView}
use Rattle.sb_hand.specs.Showing.{diaries_of}
use Rattle.sb_hand.proofs.Resting.{idle-is-rest}
use Rattle.sb_feeds.specs.one_feed.Feeds.{AreRowsSoFar, Fed, IsComing, IsFrom, records_of_feed, floor_in, marks_in}
use Rattle.sb_alone.specs.Rested.{IsRested, IsWhole, feed_of}
use Rattle.sb_alone.proofs.Behind.{written_behind}

-- the low watermark of what was sealed
abbrev pub low_of : Shape → Fed → ℕ
low_of plan f = least_of (streams_of plan) (floor_in f A) (floor_in f B)

-- the last of a list
last_is : (n x : ℕ) (xs : List ℕ) → last_or n (x ∷ xs) ≡ get_or (x ∷ xs) (length xs) 0
last_is n x [] = refl
last_is n x (y ∷ ys) = last_is x y ys

pub floor_is : (xs : List ℕ) → last_or 0 xs ≡ get_or xs (length xs - 1) 0
floor_is [] = refl
floor_is (x ∷ xs) = last_is 0 x xs ∙ ap (λ k. get_or (x ∷ xs) k 0) (let e : length xs ≡ length (x ∷ xs) - 1 = omega arith in e)

All-mapped : (P Q : Record → Type 0) → ((r : Record) → P r → Q r) → (l : List Record) → AllByRecursion P l → AllByRecursion Q l
All-mapped P Q f [] all = tt
All-mapped P Q f (r ∷ l) all = (f r all.0, All-mapped P Q f l all.1)

pub back : (P : Record → Type 0) (l m : List Record) → AllByRecursion P (l ++ m) → AllByRecursion P m
back P [] m all = all
back P (r ∷ l) m all = back P l m all.1

-- a sound moment that tallies with diaries and what was fed
module _ (plan : Shape) (m : Moment) (diaries : List (List DiaryEvent)) (f : Fed) (sound : IsSound plan m) (tallied : IsTallied plan m diaries (feed_of f)) where
  -- a source lane has been sealed with the marks that were fed
  pub marks_of_lane : (s : Stream) (d : Down) (lane : CoreLane) → source plan s ≡ Some d → lane_at m d ≡ Some lane → lane.marks ≡ marks_in f s
  marks_of_lane s d lane is at =
      let b = bind_some (slice_get m.nodes d.node) (λ node. slice_get node.lanes d.lane) lane at in
      let within : d.node ≤ length plan.steps = omega (arith, sound.nodes, slice_get_within m.nodes d.node b.0 b.1) in
      let there : slice_get (node_at m d.node).lanes d.lane ≡ Some lane = ap (λ (n : Node). slice_get n.lanes d.lane) (get_or_from_slice_get m.nodes d.node b.0 no_node b.1) ∙ b.2 in
      let told = (diaries-tell plan m diaries (feed_of f) sound tallied d.node within).1 d.lane lane there in
      told.marks ∙ sym (tallied.sources s d is).marks_are

  pub floor_of_source : (s : Stream) (d : Down) → source plan s ≡ Some d → floor_at m d ≡ floor_in f s
  floor_of_source s d is =
      let lane = sound.sources s d is in
      ap floor_of lane.1 ∙ sym (floor_is lane.0.marks) ∙ ap (last_or 0) (marks_of_lane s d lane.0 is lane.1)

  -- what may come of the feeder may come of the moment
  pub admissible : (coming : Stream → List Record) → IsComing f coming → IsAdmissible plan m coming
  admissible coming all = λ s d is.
      All-from_recursion (λ (r : Record). IsFrom (floor_at m d) r) (coming s) (subst (λ x. AllByRecursion (IsFrom x) (coming s)) (sym (floor_of_source s d is)) (all s))

  -- its rows are the plan's below a mark, whatever may come
  pub moment_so_far : IsPlan plan → IsExact plan m (records_of_feed f) → ((s : Stream) → floor_in f s ≤ END_MARK) → AreRowsSoFar plan f m.rows
  moment_so_far is_plan exact bound = record {
    mark = written_to plan m;
    bound = written_behind plan is_plan m sound END_MARK (λ s d is. let e = floor_of_source s d is in let b = bound s in omega (arith, e, b));
    are = λ coming is. rows-are_the_plans plan m (records_of_feed f) coming sound exact (admissible coming is);
  }

  -- and their times are below the last mark
  pub moment_in_time : IsPlan plan → ((s : Stream) → floor_in f s ≤ END_MARK) → AllByRecursion (λ r. r.time < END_MARK) m.rows
  moment_in_time is_plan bound =
      let within : written_to plan m ≤ END_MARK = written_behind plan is_plan m sound END_MARK (λ s d is. let e = floor_of_source s d is in let b = bound s in omega (arith, e, b)) in
      All-mapped (λ (r : Record). r.time < written_to plan m) (λ (r : Record). r.time < END_MARK) (λ r lt. omega (arith, lt, within)) m.rows sound.written

  -- the low watermark of the moment is that of what was sealed
  low_same : (a b : Option Down) (x y : ℕ) → ((d : Down) → a ≡ Some d → floor_at m d ≡ x) → ((d : Down) → b ≡ Some d → floor_at m d ≡ y)
      → least_of (record { a = is_some a; b = is_some b }) (floor_where m a) (floor_where m b) ≡ least_of (record { a = is_some a; b = is_some b }) x y
  low_same None None x y of_a of_b = refl
  low_same (Some d) None x y of_a of_b = of_a d refl
  low_same None (Some e) x y of_a of_b = of_b e refl
  low_same (Some d) (Some e) x y of_a of_b = λ i. min (of_a d refl i) (of_b e refl i)

  pub low_is : low_mark plan m ≡ low_of plan f
  low_is = low_same plan.source_a plan.source_b (floor_in f A) (floor_in f B) (floor_of_source A) (floor_of_source B)

-- the low watermark is a watermark
low_within : (streams : Streams) (a b : ℕ) → a ≤ END_MARK → b ≤ END_MARK → least_of streams a b ≤ END_MARK
low_within streams a b p q = of_two streams.a streams.b
  where
    of_two : (x y : Bool) → least_of (record { a = x; b = y }) a b ≤ END_MARK
    of_two true true = omega (arith, p, q)
    of_two true false = p
    of_two false true = q
    of_two false false = omega arith

-- a hand with nothing left to do
module _ (h : HandView) (f : Fed) (rows : List Record) (w : IsWhole h f rows) (idle : AreIdle h.plan h.nodes) where
  pub at_rest : IsAtRest w.moment
  at_rest = idle-is-rest h.plan h.bundle h.nodes (rows ++ h.tray) w.moment w.shows idle

  pub written_low : written_to h.plan w.moment ≡ low_of h.plan f
  written_low = closes-low h.plan w.is_plan w.moment w.shows.sound at_rest ∙ low_is h.plan w.moment (diaries_of h.nodes) f w.shows.sound w.tallied

  pub written_within : written_to h.plan w.moment ≤ END_MARK
  written_within = subst (λ x. x ≤ END_MARK) (sym written_low) (low_within (streams_of h.plan) (floor_in f A) (floor_in f B) (w.bound A) (w.bound B))

  -- the rows that came out and those that lie ready, by what was fed and what may come
  pub rows_with_tray : (coming : Stream → List Record) → IsComing f coming → rows ++ h.tray ≡ rows_below (low_of h.plan f) h.plan (λ s. records_of_feed f s ++ coming s)
  rows_with_tray coming is =
      sym w.shows.rows_is
      ∙ rows-are_the_plans h.plan w.moment (records_of_feed f) coming w.shows.sound w.exact (admissible h.plan w.moment (diaries_of h.nodes) f w.shows.sound w.tallied coming is)
      ∙ ap (λ x. rows_below x h.plan (λ s. records_of_feed f s ++ coming s)) written_low

  -- their times are below the last mark
  pub times_below : All (λ r. r.time < END_MARK) h.tray
  times_below =
      let all : AllByRecursion (λ r. r.time < written_to h.plan w.moment) (rows ++ h.tray) = subst (λ l. AllByRecursion (λ (r : Record). r.time < written_to h.plan w.moment) l) w.shows.rows_is w.shows.sound.written in
      All-from_recursion (λ (r : Record). r.time < END_MARK) h.tray
      (All-mapped (λ (r : Record). r.time < written_to h.plan w.moment) (λ (r : Record). r.time < END_MARK) (λ r lt. let within = written_within in omega (arith, lt, within)) h.tray
      (back (λ (r : Record). r.time < written_to h.plan w.moment) rows h.tray all))

-- the rows of a hand at rest are the plan's below the low watermark, whatever may come
pub rested_rows : (h : HandView) (f : Fed) (rows : List Record) → IsRested h f rows → (coming : Stream → List Record) → IsComing f coming
    → rows ≡ rows_below (low_of h.plan f) h.plan (λ s. records_of_feed f s ++ coming s)
rested_rows h f rows r coming is =
    sym (ap (λ l. rows ++ l) r.none_ready ∙ append-nil rows) ∙ rows_with_tray h f rows r.whole r.idle coming is

pub rested_so_far : (h : HandView) (f : Fed) (rows : List Record) → IsRested h f rows → AreRowsSoFar h.plan f rows
rested_so_far h f rows r = record {
  mark = low_of h.plan f;
  bound = low_within (streams_of h.plan) (floor_in f A) (floor_in f B) (r.whole.bound A) (r.whole.bound B);
  are = rested_rows h f rows r;
}
