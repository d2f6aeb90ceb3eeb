-- The hand that is made of the states of the nodes, once the last pass is given up.
use Rattle.std.proofs.Common.{◌≡◌, ℕ, zero, suc, ◌+◌, ◌≤◌, ◌<◌, Bool, true, false, ◌||◌, List, [], ◌∷◌, ◌++◌, length, map, sym, refl, ap, ◌∙◌, subst, arith, Some, length-append}
use Rattle.std.specs.Prelude.{slice_get}
use Rattle.std.specs.List.{list_any}
use Rattle.std.proofs.lemmas.List.{map-append}
use Rattle.std.proofs.lemmas.List.Recursion.{or_push}
use Rattle.std.proofs.lemmas.Option.{same_Some}
use lib.ListN.{get_elem?, length-map}
use mathlib.Core.Option.{some, some-injective, some-ne-none}
use Rattle.sb_hand.specs.base.records.declared.item.Record.{Record}
use Rattle.sb_hand.specs.base.pipeline.declared.transform.Step.{Step}
use Rattle.sb_hand.specs.base.pipeline.Operators.{operator_of}
use Rattle.sb_hand.specs.base.pipeline.Operators.Operator.{Sink}
use Rattle.sb_hand.specs.core.declared.moment.Moment.{Moment}
use Rattle.sb_hand.specs.core.declared.moment.Node.{Node}
use Rattle.sb_hand.specs.diary.declared.event.DiaryEvent.{DiaryEvent}
use Rattle.sb_hand.specs.tally.Tally.{IsTallied}
use Rattle.sb_hand.specs.node.declared.state.NodeState.{NodeState}
use Rattle.sb_hand.specs.Hands.{HandView}
use Rattle.sb_hand.specs.Showing.{CanStand, ShowsNode, Stands, diaries_of, settings_at, settings_for, settings_of}
use Rattle.sb_shared.specs.turn.declared.turns.View.{View}
use Rattle.sb_shared.specs.turn.Turning.{log_of}
use Rattle.sb_shared.proofs.turn.Totals.{there}
use Rattle.sb_shared.specs.declared.telling.Change.{Change}
use Rattle.sb_shared.specs.declared.telling.Hands.{Hands}
use Rattle.sb_shared.specs.declared.telling.Setting.{Setting}
use Rattle.sb_shared.specs.Doings.{replay}
use Rattle.sb_cascade.specs.Ends.{IsShut}
use Rattle.sb_cascade.specs.Lives.{GivesBack, IsToldBy, ShowsAll}
use Rattle.sb_shared.specs.SharedNodes.{SharedView}
use Rattle.sb_shared.specs.Shown.{AreLater, beginning_of, diaries_in, moment_of, operator_of as operator_in, settings_in}
use Rattle.sb_shared.specs.Views.{feed_of}
use Rattle.sb_cascade.proofs.lives.Opening.{setting_at}

-- a list is that of the images, if each image stands at its place
images_are : {X Y : Type 0} (f : X → Y) (xs : List X) (ys : List Y) → length xs ≡ length ys
    → ((k : ℕ) (x : X) → get_elem? xs k ≡ some x → slice_get ys k ≡ Some (f x)) → map f xs ≡ ys
images_are f [] [] same at = refl
images_are f [] (y ∷ ys) same at = absurd (omega (arith, same))
images_are f (x ∷ xs) [] same at = absurd (omega (arith, same))
images_are f (x ∷ xs) (y ∷ ys) same at =
    ap (λ z. z ∷ map f xs) (sym (same_Some y (f x) (at 0 x refl)))
    ∙ ap (λ l. y ∷ l) (images_are f xs ys (omega (arith, same)) (λ k z e. at (suc k) z e))

-- the nodes of the states
abbrev pub own_states : List SharedView → List NodeState
own_states states = map (λ x. x.own) states

-- whether one is spent
abbrev pub has_spent : List SharedView → Bool
has_spent states = list_any (λ x. x.spent) states

-- the state of a node
state_at : (states : List SharedView) (k : ℕ) (own : NodeState) → slice_get (own_states states) k ≡ Some own
    → (x : SharedView) × (get_elem? states k ≡ some x) × (x.own ≡ own)
state_at [] k own e = cc
state_at (x ∷ states) zero own e = (x, refl, same_Some x.own own e)
state_at (x ∷ states) (suc k) own e = state_at states k own e

-- none is spent, if each is not
none_spent : (states : List SharedView) → ((k : ℕ) (x : SharedView) → get_elem? states k ≡ some x → x.spent ≡ false) → has_spent states ≡ false
none_spent [] off = refl
none_spent (x ∷ states) off = ap (λ b. b || has_spent states) (off 0 x refl) ∙ none_spent states (λ k y e. off (suc k) y e)

-- each is not spent, if none is
first_unspent : (b c : Bool) → (b || c) ≡ false → (b ≡ false) × (c ≡ false)
first_unspent true c e = cc
first_unspent false c e = (refl, e)

each_unspent : (states : List SharedView) → has_spent states ≡ false → (k : ℕ) (x : SharedView) → get_elem? states k ≡ some x → x.spent ≡ false
each_unspent [] off k x e = absurd (some-ne-none x (sym e))
each_unspent (y ∷ states) off zero x e = ap (λ (z : SharedView). z.spent) (sym (some-injective y x e)) ∙ (first_unspent y.spent (has_spent states) off).0
each_unspent (y ∷ states) off (suc k) x e = each_unspent states (first_unspent y.spent (has_spent states) off).1 k x e

-- the settings and the diaries of the nodes are those of the states
settings_same : (states : List SharedView) → settings_of (own_states states) ≡ map settings_in states
settings_same [] = refl
settings_same (x ∷ states) = ap (λ l. settings_in x ∷ l) (settings_same states)

diaries_same : (states : List SharedView) → diaries_of (own_states states) ≡ diaries_in states
diaries_same [] = refl
diaries_same (x ∷ states) = ap (λ l. x.own.diary.events ∷ l) (diaries_same states)

-- these are the rows of the last tray
abbrev pub AreLast : List SharedView → List Record → Type 0
AreLast states tray = (k : ℕ) (x : SharedView) → k + 1 ≡ length states → get_elem? states k ≡ some x → tray ≡ x.tray

-- a state more
pub own_push : (states : List SharedView) (y : SharedView) → own_states (states ++ y ∷ []) ≡ own_states states ++ y.own ∷ []
own_push states y = map-append (λ (x : SharedView). x.own) states (y ∷ [])

pub last_push : (states : List SharedView) (y : SharedView) → AreLast (states ++ y ∷ []) y.tray
last_push [] y zero x many e = ap (λ (z : SharedView). z.tray) (some-injective y x e)
last_push [] y (suc k) x many e = absurd (omega (arith, many))
last_push (z ∷ states) y zero x many e = absurd (omega (arith, many, length-append states (y ∷ [])))
last_push (z ∷ states) y (suc k) x many e = last_push states y k x (omega (arith, many)) e

pub spent_push : (states : List SharedView) (y : SharedView) → has_spent (states ++ y ∷ []) ≡ (has_spent states || y.spent)
spent_push states y = or_push has_spent (λ (x : SharedView). x.spent) refl (λ x xs. refl) states y

module _ (a : Setting) (v : View SharedView Change Hands) (states : List SharedView) (s : IsShut a v states) where
  -- the moment that they show
  abbrev now : Moment
  now = moment_of a.bundle s.parts [] s.rows

  -- a state for each transform, and the sink's
  pub shut_count : length states ≡ length a.plan.steps + 1
  shut_count = s.as_many ∙ s.sound.nodes

  -- the sink's
  sink : (x : SharedView) × (get_elem? states (length a.plan.steps) ≡ some x)
  sink = there states (length a.plan.steps) (omega (arith, shut_count))

  -- the nodes are as they were made
  shut_settings : settings_of (own_states states) ≡ settings_at a.keeps a.pending a.plan
  shut_settings =
      settings_same states
      ∙ images_are settings_in states (settings_at a.keeps a.pending a.plan) (shut_count ∙ sym many) (λ k x e.
      let near = within k x e in
      setting_at a.keeps a.pending a.plan.steps k near ∙ ap Some (sym (s.settings k x e)))
    where
      many : length (settings_at a.keeps a.pending a.plan) ≡ length a.plan.steps + 1
      many =
          length-append (map (λ (t : Step). settings_for a.keeps a.pending (operator_of t.kind)) a.plan.steps) (settings_for a.keeps a.pending Sink ∷ [])
          ∙ ap (λ n. n + 1) (length-map a.plan.steps (λ (t : Step). settings_for a.keeps a.pending (operator_of t.kind)))

      before : {X : Type 0} (l : List X) (k : ℕ) (x : X) → get_elem? l k ≡ some x → k < length l
      before [] k x e = absurd (some-ne-none x (sym e))
      before (y ∷ l) zero x e = omega arith
      before (y ∷ l) (suc k) x e = let b = before l k x e in omega arith

      within : (k : ℕ) (x : SharedView) → get_elem? states k ≡ some x → k ≤ length a.plan.steps
      within k x e = omega (arith, before states k x e, shut_count)

  -- if none is spent, the nodes show the moment, with nothing in hand
  pub shut_stands : has_spent states ≡ false → Stands a.plan a.bundle (own_states states) [] s.rows now
  shut_stands off = record {
    bundle_is = refl;
    count = sym s.as_many ∙ sym (length-map states (λ (x : SharedView). x.own));
    each = λ k own n e f.
        let i = state_at states k own e in
        let h = s.shown k i.0 i.1 in
        let is : h.0 ≡ n = same_Some h.0 n (sym h.1 ∙ f) in
        let shows : ShowsNode (operator_in a k) i.0.own h.0 = record { lanes = h.2.lanes; closings = h.2.closings; kept = h.2.kept (each_unspent states off k i.0 i.1) } in
        subst (λ (t : NodeState × Node). ShowsNode (operator_in a k) t.0 t.1) (λ j. (i.2 j, is j)) shows;
    held_is = refl;
    rows_is = refl;
    sound = s.sound;
  }

  -- so there is a moment that they show
  pub shut_can : has_spent states ≡ false → CanStand a.plan a.bundle (own_states states) []
  shut_can off = record { rows = s.rows; moment = now; stands = shut_stands off }

  module _ (tray : List Record) (last : AreLast states tray) where
    -- the hand of them
    abbrev hand : HandView
    hand = record { plan = a.plan; bundle = a.bundle; pending = a.pending; nodes = own_states states; tray = tray; spent = has_spent states }

    -- its rows
    tray_is : tray ≡ sink.0.tray
    tray_is = last (length a.plan.steps) sink.0 (sym shut_count) sink.1

    -- what the events made of each node
    told : IsToldBy a v (own_states states) now
    told = record {
      logs = s.logs;
      replayed = λ k own n e f.
          let i = state_at states k own e in
          let h = s.shown k i.0 i.1 in
          let is : h.0 ≡ n = same_Some h.0 n (sym h.1 ∙ f) in
          subst
          (λ (t : NodeState × Node). replay a k (log_of s.logs k) (beginning_of a k) ≡ Some (record { node = t.1; lines = t.0.diary.events }))
          (λ j. (i.2 j, is j)) h.3;
      listed = s.listed;
      once = s.once;
    }

    -- it shows all that the cascade showed
    shows_all : has_spent states ≡ false → ShowsAll a v hand
    shows_all off = record {
      moment = now;
      shows = subst (λ rows. Stands a.plan a.bundle (own_states states) [] rows now)
          (s.tray sink.0 sink.1 ∙ ap (λ t. v.client.feed.drained ++ t) (sym tray_is)) (shut_stands off);
      exact = s.exact;
      tallied = subst (λ (d : List (List DiaryEvent)). IsTallied a.plan now d (feed_of v.client.feed)) (sym (diaries_same states)) s.tallied;
      told = told;
    }

    gives : GivesBack a v hand
    gives = record {
      plan = refl;
      bundle = refl;
      pending = refl;
      settings = shut_settings;
      unspent = λ n is low. none_spent states (s.sane n is low);
      shows = shows_all;
      later = subst (AreLater v.client.feed.drained) (sym tray_is) (s.later sink.0 sink.1);
    }

    -- the hand that is made of these parts
    pub gives_back : (h : HandView) → a.plan ≡ h.plan → a.bundle ≡ h.bundle → a.pending ≡ h.pending → own_states states ≡ h.nodes → tray ≡ h.tray
        → has_spent states ≡ h.spent → GivesBack a v h
    gives_back h plan bundle pending nodes rows spent =
        subst (GivesBack a v) (λ i. record { plan = plan i; bundle = bundle i; pending = pending i; nodes = nodes i; tray = rows i; spent = spent i }) gives
