-- The feeder's pass of a shared cascade, one call after another.
use Rattle.std.proofs.Common.{◌≡◌, ◌≤◌, ◌<◌, ℕ, List, [], ◌∷◌, ◌++◌, length, map, refl, sym, ap, subst, ◌∙◌, append-nil}
use Rattle.std.specs.Prelude.{All}
use Rattle.std.specs.List.{AllByRecursion, flat_map}
use Rattle.std.proofs.lemmas.List.Elements.{All-from_recursion}
use Rattle.sb_alone.specs.feeds.base.records.declared.item.Record.{Record}
use Rattle.sb_alone.specs.feeds.base.records.declared.item.Stream.{Stream}
use Rattle.sb_alone.specs.feeds.base.records.declared.item.TheConstants.{END_MARK, MAX_TIME}
use Rattle.sb_alone.specs.feeds.base.records.Streams.{last_or}
use Rattle.sb_alone.specs.feeds.base.bundle.declared.bundle.Bundle.{Bundle}
use Rattle.sb_alone.specs.feeds.base.bundle.Calls.{records_in_order, parts_of}
use Rattle.sb_worker.specs.core.declared.event.Event.TheVariants.{Arrive, Seal}
use Rattle.sb_worker.specs.core.Exactness.{IsExact}
use Rattle.sb_worker.specs.core.containers.Lanes.{next_floor}
use Rattle.sb_worker.specs.tally.Keeping.{feed_after}
use Rattle.sb_worker.specs.tally.Tally as tally
use Rattle.sb_worker.specs.tally.Tally.{IsTallied}
use Rattle.sb_worker.specs.tally.Whole.{fed_bundle}
use Rattle.sb_worker.specs.cascade.declared.cascade.Cascade.{Cascade}
use Rattle.sb_worker.specs.cascade.declared.pass.CascadePass.{CascadePass}
use Rattle.sb_worker.specs.cascade.shared.declared.telling.Hands.{Hands}
use Rattle.sb_worker.specs.cascade.Bringing as bring
use Rattle.sb_worker.specs.cascade.Bringing.{sealed_lane}
use Rattle.sb_worker.specs.cascade.Calls.{IsEmptyHanded, IsFeeder, IsReady, IsSame, hands, plan_of, setting_of, view_of}
use Rattle.sb_worker.specs.cascade.shared.Found.{IsDrained}
use Rattle.sb_worker.specs.cascade.shared.Views as view
use Rattle.sb_worker.specs.turn.Turning.{raised_view}
use Rattle.sb_worker.proofs.cascade.shared.feeds.FeedOfChanges.{bundle-dry, bundle-fed, drained-fed, mark-dry, mark-fed, raise-fed, raise-keeps}
use Rattle.sb_alone.specs.feeds.one_feed.Feeds.{AreRowsSoFar, Fed, MayArrive, MaySeal, bundles_in, records_of_feed, floor_in, marks_in, with_bundle, with_mark}
use Rattle.sb_alone.proofs.feeds.one_feed.RowsSoFar.{so_far_bundle, so_far_mark}
use Rattle.sb_engines.specs.Feeders.{HasFed, IsStill}
use Rattle.sb_alone.specs.Rested.{feed_of}
use Rattle.sb_alone.proofs.Coming.{goes}
use Rattle.sb_alone.proofs.SoFar.{back, floor_is, moment_in_time, moment_so_far}
use Rattle.sb_alone.proofs.Standing.{feed-arrives, feed-seals, floor-arrives, floor-seals}

-- the records that were fed, as the tally has them
records-are : (bs : List Bundle) → flat_map (λ (b : tally.Fed). b.records) (map fed_bundle bs) ≡ records_in_order (parts_of bs)
records-are [] = refl
records-are (b ∷ bs) = ap (λ l. b.records ++ l) (records-are bs)

pub fed-are : (f : Fed) (s : Stream) → tally.records_of_feed (feed_of f) s ≡ records_of_feed f s
fed-are f s = records-are (bundles_in f s)

-- a step as a worker leaves the pass that of the feeder
pub still-stepped : (c : Cascade) (p q : CascadePass) → IsReady c q → IsSame p q → IsStill c p q
still-stepped c p q ready same = record {
  ready = ready;
  out = same.out;
  feeder = λ f. (same.id ∙ f.0, ap (λ g. g.on) same.feed ∙ f.1);
}

-- a raise of the state word
module _ (c : Cascade) (p q : CascadePass) (n : ℕ) (ready : IsReady c q) (same : q.seat.id ≡ p.seat.id) (told : view_of q ≡ raised_view n (view.hands_after_raise (hands p) n) (view_of p)) where
  -- leaves it so, too
  pub still-raised : IsStill c p q
  still-raised = record {
    ready = ready;
    out = ap (λ v. v.count) told;
    feeder = λ f. (same ∙ f.0, ap (λ v. v.client.feed.on) told ∙ raise-keeps (λ w. w.feed.on) (hands p) n refl ∙ f.1);
  }

  -- and feeds and drains nothing
  pub fed-raised : (f : Fed) (rows : List Record) → q.kept ≡ p.kept → HasFed c p f rows → HasFed c q f rows
  fed-raised f rows kept h = record {
    ready = ready;
    feeder = still-raised.feeder h.feeder;
    empty = record {
      held = ap (λ v. v.client.held) told ∙ raise-keeps (λ w. w.held) (hands p) n refl ∙ h.empty.held;
      link = ap (λ v. v.client.link) told ∙ raise-keeps (λ w. w.link) (hands p) n refl ∙ h.empty.link;
      kept = kept ∙ h.empty.kept;
    };
    is_plan = h.is_plan;
    fed = ap (λ v. view.feed_of v.client.feed) told ∙ raise-keeps (λ w. view.feed_of w.feed) (hands p) n (raise-fed n (hands p).feed) ∙ h.fed;
    drained = ap (λ v. v.client.feed.drained) told ∙ raise-keeps (λ w. w.feed.drained) (hands p) n refl ∙ h.drained;
    so_far = h.so_far;
    bound = h.bound;
  }

module _ (c : Cascade) (p q : CascadePass) (f : Fed) (rows : List Record) (h : HasFed c p f rows) where
  -- a call that feeds and drains nothing
  pub fed-still : IsReady c q → IsEmptyHanded q → q.seat.id ≡ p.seat.id → (hands q).feed ≡ (hands p).feed → HasFed c q f rows
  fed-still ready empty same feed = record {
    ready = ready;
    feeder = (same ∙ h.feeder.0, ap (λ g. g.on) feed ∙ h.feeder.1);
    empty = empty;
    is_plan = h.is_plan;
    fed = ap view.feed_of feed ∙ h.fed;
    drained = ap (λ g. g.drained) feed ∙ h.drained;
    so_far = h.so_far;
    bound = h.bound;
  }

  -- a step as a worker
  pub fed-stepped : IsReady c q → IsEmptyHanded q → IsSame p q → HasFed c q f rows
  fed-stepped ready empty same = fed-still ready empty same.id same.feed

  -- a bundle came in
  pub fed-arrived : (s : Stream) (b : Bundle) → IsReady c q → IsFeeder q → IsEmptyHanded q
      → hands q ≡ record (hands p) { feed = view.with_bundle s b.records (hands p).feed } → MayArrive (plan_of c) (setting_of c).bundle f s b → HasFed c q (with_bundle s b f) rows
  fed-arrived s b ready feeder empty knows may = record {
    ready = ready;
    feeder = feeder;
    empty = empty;
    is_plan = h.is_plan;
    fed = ap (λ (w : Hands). view.feed_of w.feed) knows ∙ bundle-fed s b.records (hands p).feed ∙ ap (feed_after (Arrive s b.records)) h.fed ∙ feed-arrives s b f may.epoch;
    drained = ap (λ (w : Hands). w.feed.drained) knows ∙ bundle-dry s b.records (hands p).feed ∙ append-nil (hands p).feed.drained ∙ h.drained;
    so_far = so_far_bundle (plan_of c) (setting_of c).bundle s b f rows may h.so_far;
    bound = floor-arrives s b f h.bound;
  }

  -- a watermark came in
  pub fed-sealed : (s : Stream) (t : ℕ) → IsReady c q → IsFeeder q → IsEmptyHanded q
      → hands q ≡ record (hands p) { feed = view.with_mark s t (hands p).feed } → MaySeal (plan_of c) f s t → HasFed c q (with_mark s t f) rows
  fed-sealed s t ready feeder empty knows may = record {
    ready = ready;
    feeder = feeder;
    empty = empty;
    is_plan = h.is_plan;
    fed = ap (λ (w : Hands). view.feed_of w.feed) knows ∙ mark-fed s t (hands p).feed ∙ ap (feed_after (Seal s t)) h.fed ∙ feed-seals s t f;
    drained = ap (λ (w : Hands). w.feed.drained) knows ∙ mark-dry s t (hands p).feed ∙ append-nil (hands p).feed.drained ∙ h.drained;
    so_far = so_far_mark (plan_of c) s t f rows may.rises h.so_far;
    bound = floor-seals s t f may.most h.bound;
  }

  -- rows were drained
  module _ (new : List Record) (knows : hands q ≡ record (hands p) { feed = view.with_drained new (hands p).feed }) (all : IsDrained (setting_of c) (hands q).feed) where
    fed-now : view.feed_of (hands q).feed ≡ feed_of f
    fed-now = ap (λ (w : Hands). view.feed_of w.feed) knows ∙ drained-fed new (hands p).feed ∙ h.fed

    drained-now : (hands q).feed.drained ≡ rows ++ new
    drained-now = ap (λ (w : Hands). w.feed.drained) knows ∙ ap (λ l. l ++ new) h.drained

    exact-now : IsExact (plan_of c) all.moment (records_of_feed f)
    exact-now =
        subst (IsExact (plan_of c) all.moment) (λ i s. fed-are f s i)
        (subst (λ (g : tally.Feed). IsExact (plan_of c) all.moment (tally.records_of_feed g)) fed-now all.exact)

    tallied-now : IsTallied (plan_of c) all.moment all.diaries (feed_of f)
    tallied-now = subst (IsTallied (plan_of c) all.moment all.diaries) fed-now all.tallied

    pub drained-so_far : AreRowsSoFar (plan_of c) f (rows ++ new)
    drained-so_far =
        subst (AreRowsSoFar (plan_of c) f) (all.rows ∙ drained-now)
        (moment_so_far (plan_of c) all.moment all.diaries f all.sound tallied-now h.is_plan exact-now h.bound)

    pub drained-in_time : All (λ r. r.time < END_MARK) new
    drained-in_time =
        All-from_recursion (λ (r : Record). r.time < END_MARK) new
        (back (λ (r : Record). r.time < END_MARK) rows new
        (subst (AllByRecursion (λ (r : Record). r.time < END_MARK)) (all.rows ∙ drained-now)
        (moment_in_time (plan_of c) all.moment all.diaries f all.sound tallied-now h.is_plan h.bound)))

    pub fed-drained : IsReady c q → IsFeeder q → IsEmptyHanded q → HasFed c q f (rows ++ new)
    fed-drained ready feeder empty = record {
      ready = ready;
      feeder = feeder;
      empty = empty;
      is_plan = h.is_plan;
      fed = fed-now;
      drained = drained-now;
      so_far = drained-so_far;
      bound = h.bound;
    }

-- what the feeder may bring, by what the cascade says was fed
module _ (c : Cascade) (p : CascadePass) (f : Fed) (rows : List Record) (h : HasFed c p f rows) where
  marks-are : (s : Stream) → (view.stream_feed s (hands p).feed).marks ≡ marks_in f s
  marks-are s = ap (λ (g : tally.Feed). g.marks s) h.fed

  floors-are : (s : Stream) → next_floor (sealed_lane s p) ≡ floor_in f s
  floors-are s = sym (floor_is (view.stream_feed s (hands p).feed).marks) ∙ ap (last_or 0) (marks-are s)

  pub may-bring : (s : Stream) (b : Bundle) → MayArrive (plan_of c) (setting_of c).bundle f s b → bring.MayArrive c p s b
  may-bring s b may =
      let d = goes (plan_of c) s may.reads in
      record {
        place = d.0;
        goes = d.1;
        some = may.some;
        most = may.most;
        epoch = may.epoch ∙ ap length (sym (marks-are s));
        floor = may.floor ∙ sym (floors-are s);
        times = subst (λ x. AllByRecursion (λ (r : Record). (x ≤ r.time) × (r.time ≤ MAX_TIME)) b.records) (sym may.floor) may.timely;
      }

  pub may-mark : (s : Stream) (t : ℕ) → MaySeal (plan_of c) f s t → bring.MaySeal c p s t
  may-mark s t may =
      let d = goes (plan_of c) s may.reads in
      record { place = d.0; goes = d.1; bound = may.most; rises = subst (λ x. x ≤ t) (sym (floors-are s)) may.rises }
