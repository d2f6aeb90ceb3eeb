-- What a pass knows that it fed, drained and raised, after a leaving or a raise of the state word.
use Rattle.std.proofs.Common.{◌≡◌, ℕ, Bool, true, false, cond, nat_lt, List, [], ◌∷◌, ◌++◌, length, map, sym, refl, ◌∙◌, append-nil, inl, inr}
use Rattle.std.proofs.lemmas.List.{map-append}
use Rattle.std.specs.declared.snapshot.Snapshot.{Snapshot}
use Rattle.sb_shown.specs.base.records.declared.item.Record.{Record}
use Rattle.sb_shown.specs.base.records.declared.item.Stream.{Stream}
use Rattle.sb_shown.specs.base.records.declared.item.Stream.TheVariants.{A, B}
use Rattle.sb_shown.specs.core.declared.event.Event.TheVariants as event
use Rattle.sb_shown.specs.tally.Keeping.{feed_after, one_more_of}
use Rattle.sb_shared.specs.declared.telling.Change.{Change}
use Rattle.sb_shared.specs.declared.telling.Change.TheVariants.{Arrive, Seal, Take, Deliver, Finish, Begin, Rows, Pass, End}
use Rattle.sb_shared.specs.declared.telling.Change.TheVariants.{Idle, NotYet, Full, Drain, Spent, Nothing}
use Rattle.sb_shared.specs.declared.telling.Feed.{Feed}
use Rattle.sb_shared.specs.declared.telling.Hands.{Hands}
use Rattle.sb_shared.specs.declared.telling.Setting.{Setting}
use Rattle.sb_shared.specs.Doings.{doing_of, drained_rows}
use Rattle.sb_shared.specs.Linked.{LinksBy}
use Rattle.sb_shared.specs.Leavings.{Does, Feeds}
use Rattle.sb_shared.specs.SharedNodes.{SharedView}
use Rattle.sb_shared.specs.Views.{after, fed_bundle, hands_after_raise, stream_feed, feed_of, with_bundle, with_drained, with_mark, with_raise}
use Rattle.sb_shared.proofs.leavings.Acts.{Acts}

-- whether the change is the feeder's alone
abbrev pub is_feeding : Change → Bool
is_feeding (Arrive stream records) = true
is_feeding (Seal stream mark) = true
is_feeding (Drain rows) = true
is_feeding (Take c link) = false
is_feeding (Deliver c place) = false
is_feeding (Finish c delivered) = false
is_feeding (Begin c passed) = false
is_feeding (Rows c first most place) = false
is_feeding (Pass c) = false
is_feeding (End c) = false
is_feeding Idle = false
is_feeding (NotYet why) = false
is_feeding (Full lane) = false
is_feeding Spent = false
is_feeding Nothing = false

-- any other change feeds and drains nothing
pub feeds-nothing : (w : Hands) (k : ℕ) (c : Change) → is_feeding c ≡ false → Feeds w (after w k c) (doing_of k c) (drained_rows c)
feeds-nothing w k (Arrive stream records) is = cc
feeds-nothing w k (Seal stream mark) is = cc
feeds-nothing w k (Drain rows) is = cc
feeds-nothing w k (Take c link) is = inl (record { same = refl; nothing = λ feed. refl; none = refl })
feeds-nothing w k (Deliver c place) is = inl (record { same = refl; nothing = λ feed. refl; none = refl })
feeds-nothing w k (Finish c delivered) is = inl (record { same = refl; nothing = λ feed. refl; none = refl })
feeds-nothing w k (Begin c passed) is = inl (record { same = refl; nothing = λ feed. refl; none = refl })
feeds-nothing w k (Rows c first most place) is = inl (record { same = refl; nothing = λ feed. refl; none = refl })
feeds-nothing w k (Pass c) is = inl (record { same = refl; nothing = λ feed. refl; none = refl })
feeds-nothing w k (End c) is = inl (record { same = refl; nothing = λ feed. refl; none = refl })
feeds-nothing w k Idle is = inl (record { same = refl; nothing = λ feed. refl; none = refl })
feeds-nothing w k (NotYet why) is = inl (record { same = refl; nothing = λ feed. refl; none = refl })
feeds-nothing w k (Full lane) is = inl (record { same = refl; nothing = λ feed. refl; none = refl })
feeds-nothing w k Spent is = inl (record { same = refl; nothing = λ feed. refl; none = refl })
feeds-nothing w k Nothing is = inl (record { same = refl; nothing = λ feed. refl; none = refl })

-- ---- a bundle
-- the feeder stays on
bundle-on : (s : Stream) (records : List Record) (f : Feed) → (with_bundle s records f).on ≡ f.on
bundle-on A records f = refl
bundle-on B records f = refl

-- nothing is drained
pub bundle-dry : (s : Stream) (records : List Record) (f : Feed) → (with_bundle s records f).drained ≡ f.drained ++ []
bundle-dry A records f = sym (append-nil f.drained)
bundle-dry B records f = sym (append-nil f.drained)

-- a bundle more came of the stream, and none of the other
one-fed : (s t : Stream) (records : List Record) (f : Feed)
    → map fed_bundle (stream_feed t (with_bundle s records f)).bundles ≡ one_more_of s (record { epoch = length (stream_feed s f).marks; records = records }) (λ z. map fed_bundle (stream_feed z f).bundles) t
one-fed A A records f = map-append fed_bundle f.a.bundles (record { epoch = length f.a.marks; records = records } ∷ [])
one-fed A B records f = refl
one-fed B A records f = refl
one-fed B B records f = map-append fed_bundle f.b.bundles (record { epoch = length f.b.marks; records = records } ∷ [])

-- the marks are as they were
same-marks : (s t : Stream) (records : List Record) (f : Feed) → (stream_feed t (with_bundle s records f)).marks ≡ (stream_feed t f).marks
same-marks A A records f = refl
same-marks A B records f = refl
same-marks B A records f = refl
same-marks B B records f = refl

-- the tally has the bundle
pub bundle-fed : (s : Stream) (records : List Record) (f : Feed) → feed_of (with_bundle s records f) ≡ feed_after (event.Arrive s records) (feed_of f)
bundle-fed s records f = λ i. record { bundles = λ t. one-fed s t records f i; marks = λ t. same-marks s t records f i; drained = 0 }

-- ---- a mark
-- the feeder stays on
mark-on : (s : Stream) (mark : ℕ) (f : Feed) → (with_mark s mark f).on ≡ f.on
mark-on A mark f = refl
mark-on B mark f = refl

-- nothing is drained
pub mark-dry : (s : Stream) (mark : ℕ) (f : Feed) → (with_mark s mark f).drained ≡ f.drained ++ []
mark-dry A mark f = sym (append-nil f.drained)
mark-dry B mark f = sym (append-nil f.drained)

-- the bundles are as they were
same-bundles : (s t : Stream) (mark : ℕ) (f : Feed) → map fed_bundle (stream_feed t (with_mark s mark f)).bundles ≡ map fed_bundle (stream_feed t f).bundles
same-bundles A A mark f = refl
same-bundles A B mark f = refl
same-bundles B A mark f = refl
same-bundles B B mark f = refl

-- a mark more came of the stream, and none of the other
one-mark : (s t : Stream) (mark : ℕ) (f : Feed) → (stream_feed t (with_mark s mark f)).marks ≡ one_more_of s mark (λ z. (stream_feed z f).marks) t
one-mark A A mark f = refl
one-mark A B mark f = refl
one-mark B A mark f = refl
one-mark B B mark f = refl

-- the tally has the mark
pub mark-fed : (s : Stream) (mark : ℕ) (f : Feed) → feed_of (with_mark s mark f) ≡ feed_after (event.Seal s mark) (feed_of f)
mark-fed s mark f = λ i. record { bundles = λ t. same-bundles s t mark f i; marks = λ t. one-mark s t mark f i; drained = 0 }

-- ---- rows that are drained
-- what was fed is as it was
same-feed : (rows : List Record) (t : Stream) (f : Feed) → stream_feed t (with_drained rows f) ≡ stream_feed t f
same-feed rows A f = refl
same-feed rows B f = refl

-- and so it is for the tally
pub drained-fed : (rows : List Record) (f : Feed) → feed_of (with_drained rows f) ≡ feed_of f
drained-fed rows f = λ i. record { bundles = λ t. map fed_bundle (same-feed rows t f i).bundles; marks = λ t. (same-feed rows t f i).marks; drained = 0 }

-- ---- a raise of the state word
-- what was fed is as it was
feed-raised : (n : ℕ) (t : Stream) (f : Feed) → stream_feed t (with_raise n f) ≡ stream_feed t f
feed-raised n A f = refl
feed-raised n B f = refl

-- and so it is for the tally
pub raise-fed : (n : ℕ) (f : Feed) → feed_of (with_raise n f) ≡ feed_of f
raise-fed n f = λ i. record { bundles = λ t. map fed_bundle (feed-raised n t f i).bundles; marks = λ t. (feed-raised n t f i).marks; drained = 0 }

-- what a view says of something stays, if it does at a raise that the view tells
pub raise-keeps : {A : Type 0} (f : Hands → A) (w : Hands) (n : ℕ) → f (record w { feed = with_raise n w.feed }) ≡ f w → f (hands_after_raise w n) ≡ f w
raise-keeps f w n same = by_case (nat_lt n 3)
  where
    by_case : (b : Bool) → f (cond b (record w { feed = with_raise n w.feed }) w) ≡ f w
    by_case true = same
    by_case false = refl

-- a bundle raises nothing
bundle-raised : (s : Stream) (records : List Record) (f : Feed) → (with_bundle s records f).raised ≡ f.raised
bundle-raised A records f = refl
bundle-raised B records f = refl

-- and no mark does
mark-raised : (s : Stream) (mark : ℕ) (f : Feed) → (with_mark s mark f).raised ≡ f.raised
mark-raised A mark f = refl
mark-raised B mark f = refl

-- so no leaving does
pub after-raised : (w : Hands) (k : ℕ) (c : Change) → (after w k c).feed.raised ≡ w.feed.raised
after-raised w k (Arrive stream records) = bundle-raised stream records.value w.feed
after-raised w k (Seal stream mark) = mark-raised stream mark w.feed
after-raised w k c = refl

-- ---- the feeder's changes
module _ (w : Hands) (k : ℕ) (on : w.feed.on ≡ true) where
  -- a bundle
  pub feeds-bundle : (s : Stream) (t : Snapshot (List Record)) → Feeds w (after w k (Arrive s t)) (doing_of k (Arrive s t)) (drained_rows (Arrive s t))
  feeds-bundle s t = inr (record { was = on; is = bundle-on s t.value w.feed ∙ on; drained = bundle-dry s t.value w.feed; feed = bundle-fed s t.value w.feed })

  -- a mark
  pub feeds-mark : (s : Stream) (mark : ℕ) → Feeds w (after w k (Seal s mark)) (doing_of k (Seal s mark)) (drained_rows (Seal s mark))
  feeds-mark s mark = inr (record { was = on; is = mark-on s mark w.feed ∙ on; drained = mark-dry s mark w.feed; feed = mark-fed s mark w.feed })

  -- rows that are drained
  pub feeds-drained : (t : Snapshot (List Record)) → Feeds w (after w k (Drain t)) (doing_of k (Drain t)) (drained_rows (Drain t))
  feeds-drained t = inr (record { was = on; is = on; drained = refl; feed = drained-fed t.value w.feed })

-- ---- both halves of a leaving
pub does-so : (a : Setting) (w : Hands) (seen k : ℕ) (x y : SharedView) (c : Change) → is_feeding c ≡ false → Acts a w seen k x y c → LinksBy a w k x y c → Does a w seen k x y c
does-so a w seen k x y c is acts links = record { feeds = feeds-nothing w k c is; part = acts; links = links }
