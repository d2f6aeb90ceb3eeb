-- What is known at the end, by the rule and the traces.
use Rattle.std.proofs.Common.{◌≡◌, ℕ, ◌+◌, ◌-◌, ◌<◌, ◌≤◌, List, [], ◌∷◌, ◌++◌, length, replicate, sym, refl, ap, ◌∙◌, subst, arith, append-nil, length-append, ⊎_elim, Option, Some, None}
use Rattle.std.proofs.lemmas.Bool.Decides.{nat_tests}
use Rattle.std.proofs.lemmas.Bool.{cases_lt, false_from_ne_true}
use Rattle.std.proofs.lemmas.List.{get_or_past}
use mathlib.Core.Option.{some, some-injective, some-ne-none}
use lib.ListN.{get_elem?}
use Rattle.sb_hand.proofs.base.records.Numbers.{bind_some}
use Rattle.sb_hand.specs.core.declared.held.Held.{Held}
use Rattle.sb_hand.specs.core.declared.moment.Node.{Node}
use Rattle.sb_hand.specs.core.Exactness.{IsExact}
use Rattle.sb_hand.specs.core.Soundness.{IsSound}
use Rattle.sb_hand.specs.tally.Tally.{IsTallied}
use Rattle.sb_shared.specs.turn.declared.turns.Entry.{Entry}
use Rattle.sb_shared.specs.turn.declared.turns.View.{View}
use Rattle.sb_shared.specs.turn.Held.{flat, on_place}
use Rattle.sb_shared.specs.turn.Owed.{Closes}
use Rattle.sb_shared.specs.turn.Turning.{Listed, events, log_of, once_in}
use Rattle.sb_shared.proofs.turn.Held.{flat_none}
use Rattle.sb_shared.proofs.turn.Totals.{there}
use Rattle.sb_shared.specs.declared.telling.Change.{Change}
use Rattle.sb_shared.specs.declared.telling.Hands.{Hands}
use Rattle.sb_shared.specs.declared.telling.Piece.{Piece}
use Rattle.sb_shared.specs.declared.telling.Setting.{Setting}
use Rattle.sb_shared.specs.Doings.{Doing, Quiet, Fresh, Of, Story, doing_of, is_event, lines_by, part_by, replay}
use Rattle.sb_cascade.specs.Ends.{IsShut}
use Rattle.sb_shared.specs.SharedNodes.{SharedView, lines_of}
use Rattle.sb_shared.specs.Shown.{AreLater, ShowsMoment, beginning_of, diaries_in, moment_of}
use Rattle.sb_shared.specs.Views.{all_in_hand, records_of_feed, feed_of, held_by, idle_hands, as_list, work_on}
use Rattle.sb_shared.proofs.links.LinkedSteps.{are-empty, end-linked}
use Rattle.sb_shared.proofs.diaries.Replaying.{next}

-- a leaving writes at most one line
one_line : (a : Setting) (d : Doing) (p : Node) → length (lines_by a d p) ≤ 1
one_line a Quiet p = omega arith
one_line a (Fresh e) p = omega arith
one_line a (Of e h) p = omega arith

-- a log makes no more lines than it has leavings
few_lines : (a : Setting) (k : ℕ) (l : List Change) (s t : Story) → replay a k l s ≡ Some t → length t.lines ≤ length s.lines + length l
few_lines a k [] s t e = let same : length s.lines ≡ length t.lines = ap (λ (o : Option Story). many o) e in omega arith
  where
    many : Option Story → ℕ
    many None = 0
    many (Some s) = length s.lines
few_lines a k (c ∷ l) s t e =
    let b = bind_some (part_by a (doing_of k c) s.node) (λ p. replay a k l (next a k c s p)) t e in
    omega (arith, few_lines a k l (next a k c s b.0) t b.2, length-append s.lines (lines_by a (doing_of k c) s.node), one_line a (doing_of k c) s.node)

-- no number stands in an empty list
none_once : (base n : ℕ) → once_in base 0 n ≡ 0
none_once base n = grind (arith, nat_tests)

module _ (a : Setting) (v : View SharedView Change Hands) (states : List SharedView) (bare : v.client.held ≡ None) (c : Closes lines_of is_event idle_hands (ShowsMoment a) v states) where
  -- what close tells
  abbrev logs : List (List Change)
  logs = c.1

  abbrev base : ℕ → ℕ
  base = c.2

  abbrev views : List Hands
  views = v.client ∷ replicate c.3 idle_hands

  abbrev shelf : List (Option Piece)
  shelf = replicate 64 None

  abbrev r : ShowsMoment a shelf c.0 states logs views
  r = c.8

  -- nothing is in hand
  out : all_in_hand views shelf ≡ []
  out =
      ap (λ l. flat held_by views ++ l) (flat_none (on_place work_on) 64 None refl)
      ∙ append-nil (flat held_by views)
      ∙ ap (λ l. held_by v.client ++ l) (flat_none held_by c.3 idle_hands refl)
      ∙ append-nil (held_by v.client)
      ∙ ap as_list bare

  -- the only pass left is the feeder's
  feeder : r.feeder ≡ v.client
  feeder = sym (some-injective v.client r.feeder r.first)

  -- the diaries had no line at the start
  from_nothing : (k : ℕ) → k < length states → base k ≡ 0
  from_nothing k near =
      let x = there states k near in
      let s = r.shown k x.0 x.1 in
      let many = c.6.1 k x.0 x.1 in
      let few = few_lines a k (log_of logs k) (beginning_of a k) (record { node = s.0; lines = x.0.own.diary.events }) s.3 in omega arith

  -- there are no other nodes
  past : (k : ℕ) → length states ≤ k → log_of logs k ≡ []
  past k far = get_or_past logs k [] (omega (arith, far, c.6.0))

  -- the numbers of a node's events begin with 1
  lists : (es : List (Entry Change)) → Listed is_event base logs es → Listed is_event (λ k. 0) logs es
  lists es l j k m ch e ev = ⊎_elim
      (λ near. subst (λ b. (b + 1 ≤ m) × (get_elem? (log_of logs k) (m - (b + 1)) ≡ some ch)) (from_nothing k near) (l j k m ch e ev))
      (λ far. absurd (some-ne-none ch (sym (l j k m ch e ev).1 ∙ ap (λ log. get_elem? log (m - (base k + 1))) (past k far))))
      (cases_lt k (length states))

  -- each of them stands once in what the passes tell
  once : (k n : ℕ) → events is_event k n v ≡ once_in 0 (length (log_of logs k)) n
  once k n = c.7.1 k n ∙ ⊎_elim
      (λ near. ap (λ b. once_in b (length (log_of logs k)) n) (from_nothing k near))
      (λ far. ap (λ log. once_in (base k) (length log) n) (past k far) ∙ none_once (base k) n ∙ sym (none_once 0 n) ∙ ap (λ log. once_in 0 (length log) n) (sym (past k far)))
      (cases_lt k (length states))

  -- what is known once the last pass is given up
  pub shuts : IsShut a v states
  shuts = record {
    parts = r.parts;
    rows = r.rows;
    logs = logs;
    as_many = r.as_many;
    shown = r.shown;
    settings = r.settings;
    listed = (lists v.trace c.7.0.0, lists v.joined c.7.0.1);
    once = once;
    sound = subst (λ (l : List Held). IsSound a.plan (moment_of a.bundle r.parts l r.rows)) out r.sound;
    exact = subst (λ (t : List Held × Hands). IsExact a.plan (moment_of a.bundle r.parts t.0 r.rows) (records_of_feed t.1.feed)) (λ i. (out i, feeder i)) r.exact;
    tallied = subst (λ (t : List Held × Hands). IsTallied a.plan (moment_of a.bundle r.parts t.0 r.rows) (diaries_in states) (feed_of t.1.feed)) (λ i. (out i, feeder i)) r.tallied;
    sane = λ n is low k x e. false_from_ne_true x.spent (λ s. let high = r.spent k x e s in let same : c.0 ≡ n = c.5 n is in omega arith);
    tray = λ x e. r.tray x e ∙ ap (λ (w : Hands). w.feed.drained ++ x.tray) feeder;
    later = λ x e. subst (λ (w : Hands). AreLater w.feed.drained x.tray) feeder (r.later x e);
    linked = end-linked a _ states _ r.linked (are-empty 64 _ v.client bare);
  }
