-- What becomes of a whole hand: by a step, a bundle, a watermark, and a drain.
use Rattle.std.proofs.Common.{◌≡◌, ◌≤◌, ℕ, Bool, false, List, [], ◌∷◌, ◌++◌, length, map, refl, sym, ap, subst, ◌∙◌, append_assoc, append-nil, arith}
use Rattle.std.proofs.lemmas.List.{map-append}
use Rattle.std.proofs.lemmas.List.Concat.{flat_map-append}
use Rattle.sb_feeds.specs.base.records.declared.item.Record.{Record}
use Rattle.sb_feeds.specs.base.records.declared.item.Stream.{Stream}
use Rattle.sb_feeds.specs.base.records.declared.item.Stream.TheVariants.{A, B}
use Rattle.sb_feeds.specs.base.records.declared.item.TheConstants.{END_MARK}
use Rattle.sb_feeds.specs.base.records.Streams.{last_or}
use Rattle.sb_feeds.specs.base.bundle.declared.bundle.Bundle.{Bundle}
use Rattle.sb_feeds.specs.base.bundle.declared.bundle.TheConstants.{MAX_BUNDLE}
use Rattle.sb_feeds.specs.base.bundle.Calls.{records_in_order, parts_of}
use Rattle.sb_feeds.specs.base.pipeline.Shapes.{Shape}
use Rattle.sb_feeds.specs.base.pipeline.Plans.{IsPlan}
use Rattle.sb_hand.specs.core.declared.event.Event.{Event}
use Rattle.sb_hand.specs.core.declared.event.Event.TheVariants.{Arrive, Seal}
use Rattle.sb_hand.specs.core.Exactness.{IsExact}
use Rattle.sb_hand.specs.core.Laws.{records_fed_after, records_fed_by}
use Rattle.sb_hand.specs.core.Moments.{first}
use Rattle.sb_hand.proofs.core.sound.AfterSound.{runs-keep}
use Rattle.sb_hand.proofs.core.sound.FirstMoment.{runs-are_sound}
use Rattle.sb_hand.specs.tally.Keeping.{feed_by, no_feed, one_more_of}
use Rattle.sb_hand.specs.tally.Tally.{Feed, IsTallied}
use Rattle.sb_hand.specs.tally.Tally as tally
use Rattle.sb_hand.specs.tally.Whole.{fed_bundle}
use Rattle.sb_hand.proofs.tally.EventsKeep.{runs-keep_tally}
use Rattle.sb_hand.proofs.tally.First.{first-is_tallied}
use Rattle.sb_hand.specs.declared.did.Did.{Did}
use Rattle.sb_hand.specs.declared.did.Did.TheVariants as did
use Rattle.sb_hand.specs.node.declared.state.NodeState.{NodeState}
use Rattle.sb_hand.specs.Hands.{HandView, IsNewHand, KeepsAllButNodes}
use Rattle.sb_hand.specs.Runs.{bundle_events}
use Rattle.sb_hand.specs.Showing.{Does, Stands, diaries_of, settings_at, settings_of}
use Rattle.sb_hand.specs.Stepping.{Steps}
use Rattle.sb_hand.proofs.FeedingNothing.{bundles-feed_nothing, closings-feed_nothing}
use Rattle.sb_feeds.specs.one_feed.Feeds.{Fed, bundles_in, records_of_feed, floor_in, marks_in, nothing_fed, with_bundle, with_mark}
use Rattle.sb_alone.specs.Rested.{HasSameSetting, IsWhole, feed_of}

-- the hand with other nodes and another tray
abbrev pub with_nodes : List NodeState → List Record → HandView → HandView
with_nodes nodes tray h = record h { nodes = nodes; tray = tray }

-- a hand that is all as it was but its nodes and its tray
same_but : (h n : HandView) → n.plan ≡ h.plan → n.bundle ≡ h.bundle → n.pending ≡ h.pending → n.spent ≡ h.spent → with_nodes n.nodes n.tray h ≡ n
same_but h n plan bundle pending spent =
    λ i. record { plan = sym plan i; bundle = sym bundle i; pending = sym pending i; nodes = n.nodes; tray = n.tray; spent = sym spent i }

-- events lead from a whole hand to a whole one
whole-then : (h : HandView) (nodes : List NodeState) (tray added : List Record) (events : List Event) (f g : Fed) (rows : List Record)
    → IsWhole h f rows → settings_of nodes ≡ settings_of h.nodes → tray ≡ h.tray ++ added
    → Does h.plan h.bundle events h.nodes [] nodes [] added
    → records_fed_by events (records_of_feed f) ≡ records_of_feed g → feed_by events (feed_of f) ≡ feed_of g → ((s : Stream) → floor_in g s ≤ END_MARK)
    → IsWhole (with_nodes nodes tray h) g rows
whole-then h nodes tray added events f g rows w settings is_tray does fed feed bound =
    let r = does (rows ++ h.tray) w.moment w.shows in
    let k = runs-keep h.plan w.is_plan events w.moment r.later (records_of_feed f) r.runs w.shows.sound w.exact in
    let t = runs-keep_tally h.plan w.is_plan events w.moment r.later (diaries_of h.nodes) (feed_of f) r.runs w.shows.sound w.tallied in
    record {
      is_plan = w.is_plan;
      unspent = w.unspent;
      some_bundles = w.some_bundles;
      keeps = w.keeps;
      settings = settings ∙ w.settings;
      moment = r.later;
      shows = subst (λ l. Stands h.plan h.bundle nodes [] l r.later) (append_assoc rows h.tray added ∙ ap (λ l. rows ++ l) (sym is_tray)) r.stands;
      exact = subst (IsExact h.plan r.later) fed k.1;
      tallied = subst (λ x. IsTallied h.plan r.later (diaries_of nodes) x) feed (subst (λ d. IsTallied h.plan r.later d (feed_by events (feed_of f))) (sym r.told) t);
      bound = bound;
    }

-- a step of a node
pub whole-stepped : (h n : HandView) (node : ℕ) (what : Did) (f : Fed) (rows : List Record)
    → Steps h.plan h.bundle node h.nodes h.tray n.nodes n.tray what → n.spent ≡ false → HasSameSetting h n
    → IsWhole h f rows → IsWhole n f rows
whole-stepped h n node did.Bundle f rows s is same w =
    let none = bundles-feed_nothing node s.0 s.2.number s.2.gave in
    subst (λ x. IsWhole x f rows) (same_but h n same.plan same.bundle same.pending (is ∙ sym w.unspent))
    (whole-then h n.nodes n.tray [] (bundle_events node s.0 s.2.number s.2.gave) f f rows w (same.settings is) (s.3 ∙ sym (append-nil h.tray)) s.2.does (none.fed (records_of_feed f)) (none.feed (feed_of f)) w.bound)
whole-stepped h n node did.Closing f rows s is same w =
    let none = closings-feed_nothing h.plan node s.0 s.2.events s.2.are in
    subst (λ x. IsWhole x f rows) (same_but h n same.plan same.bundle same.pending (is ∙ sym w.unspent))
    (whole-then h n.nodes n.tray s.2.added s.2.events f f rows w (same.settings is) s.2.tray_is s.2.does (none.fed (records_of_feed f)) (none.feed (feed_of f)) w.bound)
whole-stepped h n node did.Nothing f rows s is same w =
    let equal : h ≡ with_nodes n.nodes n.tray h = λ i. record h { nodes = sym s.1 i; tray = sym s.2 i } in
    subst (λ x. IsWhole x f rows) (equal ∙ same_but h n same.plan same.bundle same.pending (is ∙ sym w.unspent)) w

-- a bundle of a stream arrives
one_more : (l : List Bundle) (b : Bundle) → records_in_order (parts_of l) ++ b.records ≡ records_in_order (parts_of (l ++ b ∷ []))
one_more l b =
    ap (λ x. records_in_order (parts_of l) ++ x) (sym (append-nil b.records))
    ∙ sym (ap records_in_order (map-append (λ (c : Bundle). c.records) l (b ∷ [])) ∙ flat_map-append (λ p. p) (parts_of l) (b.records ∷ []))

fed-arrives : (s : Stream) (b : Bundle) (f : Fed) (u : Stream) → records_fed_after (Arrive s b.records) (records_of_feed f) u ≡ records_of_feed (with_bundle s b f) u
fed-arrives A b f A = one_more f.bundles_a b
fed-arrives A b f B = refl
fed-arrives B b f A = refl
fed-arrives B b f B = one_more f.bundles_b b

pub feed-arrives : (s : Stream) (b : Bundle) (f : Fed) → b.epoch ≡ length (marks_in f s) → feed_by (Arrive s b.records ∷ []) (feed_of f) ≡ feed_of (with_bundle s b f)
feed-arrives s b f epoch = λ i. record { bundles = λ u. bundles s epoch u i; marks = λ u. marks s u i; drained = 0 }
  where
    was : (n : ℕ) → tally.Fed
    was n = record { epoch = n; records = b.records }

    more : (l : List Bundle) (n : ℕ) → b.epoch ≡ n → map fed_bundle l ++ was n ∷ [] ≡ map fed_bundle (l ++ b ∷ [])
    more l n e = ap (λ n. map fed_bundle l ++ was n ∷ []) (sym e) ∙ sym (map-append fed_bundle l (b ∷ []))

    bundles : (s : Stream) → b.epoch ≡ length (marks_in f s) → (u : Stream)
        → one_more_of s (was (length (marks_in f s))) (λ v. map fed_bundle (bundles_in f v)) u ≡ map fed_bundle (bundles_in (with_bundle s b f) u)
    bundles A e A = more f.bundles_a (length f.marks_a) e
    bundles A e B = refl
    bundles B e A = refl
    bundles B e B = more f.bundles_b (length f.marks_b) e

    marks : (s u : Stream) → marks_in f u ≡ marks_in (with_bundle s b f) u
    marks A A = refl
    marks A B = refl
    marks B A = refl
    marks B B = refl

pub floor-arrives : (s : Stream) (b : Bundle) (f : Fed) → ((u : Stream) → floor_in f u ≤ END_MARK) → (u : Stream) → floor_in (with_bundle s b f) u ≤ END_MARK
floor-arrives A b f h A = h A
floor-arrives A b f h B = h B
floor-arrives B b f h A = h A
floor-arrives B b f h B = h B

-- a call that changes the nodes alone
changed_nodes : (h n : HandView) → KeepsAllButNodes h n → with_nodes n.nodes h.tray h ≡ n
changed_nodes h n k = λ i. record { plan = sym k.plan i; bundle = sym k.bundle i; pending = sym k.pending i; nodes = n.nodes; tray = sym k.tray i; spent = sym k.spent i }

pub whole-arrived : (h n : HandView) (s : Stream) (b : Bundle) (f : Fed) (rows : List Record)
    → Does h.plan h.bundle (Arrive s b.records ∷ []) h.nodes [] n.nodes [] [] → settings_of n.nodes ≡ settings_of h.nodes → KeepsAllButNodes h n
    → b.epoch ≡ length (marks_in f s)
    → IsWhole h f rows → IsWhole n (with_bundle s b f) rows
whole-arrived h n s b f rows does settings rest epoch w =
    subst (λ x. IsWhole x (with_bundle s b f) rows) (changed_nodes h n rest)
    (whole-then h n.nodes h.tray [] (Arrive s b.records ∷ []) f (with_bundle s b f) rows w settings (sym (append-nil h.tray)) does (λ i u. fed-arrives s b f u i) (feed-arrives s b f epoch) (floor-arrives s b f w.bound))

-- a watermark of a stream comes
fed-seals : (s : Stream) (t : ℕ) (f : Fed) (u : Stream) → records_of_feed f u ≡ records_of_feed (with_mark s t f) u
fed-seals A t f A = refl
fed-seals A t f B = refl
fed-seals B t f A = refl
fed-seals B t f B = refl

pub feed-seals : (s : Stream) (t : ℕ) (f : Fed) → feed_by (Seal s t ∷ []) (feed_of f) ≡ feed_of (with_mark s t f)
feed-seals s t f = λ i. record { bundles = λ u. bundles s u i; marks = λ u. marks s u i; drained = 0 }
  where
    bundles : (s u : Stream) → map fed_bundle (bundles_in f u) ≡ map fed_bundle (bundles_in (with_mark s t f) u)
    bundles A A = refl
    bundles A B = refl
    bundles B A = refl
    bundles B B = refl

    marks : (s u : Stream) → one_more_of s t (marks_in f) u ≡ marks_in (with_mark s t f) u
    marks A A = refl
    marks A B = refl
    marks B A = refl
    marks B B = refl

-- the last of a list with one more
pub last_more : (n t : ℕ) (xs : List ℕ) → last_or n (xs ++ t ∷ []) ≡ t
last_more n t [] = refl
last_more n t (x ∷ xs) = last_more x t xs

pub floor-seals : (s : Stream) (t : ℕ) (f : Fed) → t ≤ END_MARK → ((u : Stream) → floor_in f u ≤ END_MARK) → (u : Stream) → floor_in (with_mark s t f) u ≤ END_MARK
floor-seals A t f le h A = subst (λ x. x ≤ END_MARK) (sym (last_more 0 t f.marks_a)) le
floor-seals A t f le h B = h B
floor-seals B t f le h A = h A
floor-seals B t f le h B = subst (λ x. x ≤ END_MARK) (sym (last_more 0 t f.marks_b)) le

pub whole-sealed : (h n : HandView) (s : Stream) (t : ℕ) (f : Fed) (rows : List Record)
    → Does h.plan h.bundle (Seal s t ∷ []) h.nodes [] n.nodes [] [] → settings_of n.nodes ≡ settings_of h.nodes → KeepsAllButNodes h n
    → t ≤ END_MARK
    → IsWhole h f rows → IsWhole n (with_mark s t f) rows
whole-sealed h n s t f rows does settings rest le w =
    subst (λ x. IsWhole x (with_mark s t f) rows) (changed_nodes h n rest)
    (whole-then h n.nodes h.tray [] (Seal s t ∷ []) f (with_mark s t f) rows w settings (sym (append-nil h.tray)) does (λ i u. fed-seals s t f u i) (feed-seals s t f) (floor-seals s t f le w.bound))

-- the rows that lie ready are drained
pub whole-drained : (h : HandView) (f : Fed) (rows : List Record) → IsWhole h f rows → IsWhole (record h { tray = [] }) f (rows ++ h.tray)
whole-drained h f rows w = record {
  is_plan = w.is_plan;
  unspent = w.unspent;
  some_bundles = w.some_bundles;
  keeps = w.keeps;
  settings = w.settings;
  moment = w.moment;
  shows = subst (λ l. Stands h.plan h.bundle h.nodes [] l w.moment) (sym (append-nil (rows ++ h.tray))) w.shows;
  exact = w.exact;
  tallied = w.tallied;
  bound = w.bound;
}

-- a new hand was fed nothing
pub whole-new : (plan : Shape) → IsPlan plan → (bundle pending : ℕ) (keeps : Bool) (h : HandView) → 1 ≤ bundle → bundle ≤ MAX_BUNDLE → 1 ≤ pending
    → IsNewHand plan bundle pending keeps h → IsWhole h nothing_fed []
whole-new plan is_plan bundle pending keeps h some most some_bundles new =
    let exact = (runs-are_sound plan is_plan bundle some most [] (first plan bundle) refl).1 in
    let tallied = first-is_tallied plan is_plan bundle some most in
    let tallied2 = subst (λ d. IsTallied plan (first plan bundle) d no_feed) (sym new.diaries) tallied in
    record {
      is_plan = subst IsPlan (sym new.plan_is) is_plan;
      unspent = new.unspent;
      some_bundles = subst (λ n. 1 ≤ n) (sym new.pending_is) some_bundles;
      keeps = keeps;
      settings = new.settings ∙ (λ i. settings_at keeps (sym new.pending_is i) (sym new.plan_is i));
      moment = first plan bundle;
      shows = new.shows;
      exact = subst (λ p. IsExact p (first plan bundle) (records_of_feed nothing_fed)) (sym new.plan_is) (subst (IsExact plan (first plan bundle)) (λ i u. none u i) exact);
      tallied = subst (λ p. IsTallied p (first plan bundle) (diaries_of h.nodes) (feed_of nothing_fed)) (sym new.plan_is)
          (subst (λ x. IsTallied plan (first plan bundle) (diaries_of h.nodes) x) (λ i. record { bundles = λ u. no_bundles u i; marks = λ u. no_marks u i; drained = 0 }) tallied2);
      bound = λ u. none_passed u;
    }
  where
    none : (u : Stream) → [] ≡ records_of_feed nothing_fed u
    none A = refl
    none B = refl

    no_bundles : (u : Stream) → [] ≡ map fed_bundle (bundles_in nothing_fed u)
    no_bundles A = refl
    no_bundles B = refl

    no_marks : (u : Stream) → [] ≡ marks_in nothing_fed u
    no_marks A = refl
    no_marks B = refl

    none_passed : (u : Stream) → floor_in nothing_fed u ≤ END_MARK
    none_passed A = omega arith
    none_passed B = omega arith
