-- What the rule gives to passes, and that a new pass breaks nothing.
use Rattle.std.proofs.Common.{◌≡◌, ℕ, zero, suc, Bool, true, false, List, [], ◌∷◌, ◌++◌, sym, refl, ap, ◌∙◌, subst}
use Rattle.std.proofs.Common.{append_assoc, ⊎_elim, Some, Option}
use Rattle.std.specs.List.Sorted.{IsPermutation}
use Rattle.std.proofs.lemmas.List.Sorted.{IsPermutation-trans, IsPermutation-append_left, IsPermutation-append_comm}
use mathlib.Core.Option.{some, some-injective}
use lib.ListN.{get_elem?}
use Rattle.atomic_table.proofs.Lists.{at_longer, at_snoc}
use Rattle.sb_turn.specs.Facts.{Finds, Fits}
use Rattle.sb_turn.specs.Held.{flat, on_place}
use Rattle.sb_turn.proofs.Held.{in_front, flat_more}
use Rattle.sb_shown.specs.core.declared.held.Held.{Held}
use Rattle.sb_shown.specs.core.Soundness.{IsSound}
use Rattle.sb_shown.specs.core.Exactness.{IsExact}
use Rattle.sb_shown.specs.AnyOrder.{held-in_any_order}
use Rattle.sb_shown.specs.tally.Tally.{IsTallied}
use Rattle.sb_shown.specs.TallyOrders.{tally-in_any_order}
use Rattle.sb_shared.specs.declared.telling.Change.{Change}
use Rattle.sb_shared.specs.declared.telling.Hands.{Hands}
use Rattle.sb_shared.specs.declared.telling.Piece.{Piece}
use Rattle.sb_shared.specs.declared.telling.Setting.{Setting}
use Rattle.sb_shared.specs.SharedNodes.{SharedView}
use Rattle.sb_shared.specs.Views.{all_in_hand, records_of_feed, feed_of, held_by, idle_hands, no_feed, work_on}
use Rattle.sb_shared.specs.Found.{IsFound, IsLaid}
use Rattle.sb_shared.specs.LinkedPassing.{place-here, splits-linked}
use Rattle.sb_shared.specs.Shown.{AreLater, ShowsMoment, diaries_in, moment_of}

-- what a pass has in hand, in front of all else that is in hand
pub pass_first : (views : List Hands) (shelf : List (Option Piece)) (id : ℕ) (w : Hands) → get_elem? views id ≡ some w
    → (rest : List Held) × IsPermutation (all_in_hand views shelf) (held_by w ++ rest)
pass_first views shelf id w at =
    let o = in_front held_by views id w w at in
    let laid : List Held = flat (on_place work_on) shelf in (
      o.0 ++ laid,
      subst (IsPermutation (all_in_hand views shelf)) (append_assoc (held_by w) o.0 laid)
          (IsPermutation-append_left laid (flat held_by views) (held_by w ++ o.0) o.1),
    )

-- a bundle on the shelf, in front of all else that is in hand
pub piece_first : (views : List Hands) (shelf : List (Option Piece)) (k : ℕ) (p : Piece)
    → get_elem? shelf k ≡ some (Some p)
    → (rest : List Held) × IsPermutation (all_in_hand views shelf) (work_on p ++ rest)
piece_first views shelf k p at =
    let o = in_front (on_place work_on) shelf k (Some p) (Some p) at in
    let laid : List Held = flat (on_place work_on) shelf in
    let out : List Held = flat held_by views in (
      o.0 ++ out,
      subst (IsPermutation (out ++ laid)) (append_assoc (work_on p) o.0 out)
          (IsPermutation-trans (out ++ laid) (laid ++ out) ((work_on p ++ o.0) ++ out)
          (IsPermutation-append_comm out laid)
          (IsPermutation-append_left out laid (work_on p ++ o.0) o.1)),
    )

abbrev Off : Bool → Type 0
Off true = ⊥
Off false = Unit {0}

-- only the first pass feeds
pub is_feeder : (views : List Hands) (f w : Hands) (id : ℕ) → get_elem? views 0 ≡ some f
    → ((j : ℕ) (u : Hands) → get_elem? views (suc j) ≡ some u → u.feed ≡ no_feed) → get_elem? views id ≡ some w
    → w.feed.on ≡ true → f ≡ w
is_feeder views f w zero first others at on = some-injective f w (sym first ∙ at)
is_feeder views f w (suc id) first others at on = absurd (subst Off (ap (λ u. u.on) (sym (others id w at)) ∙ on) tt)

-- what a pass may rely on as it enters
pub found : (a : Setting) → Finds (ShowsMoment a) (IsFound a)
found a shelf status states logs views id k w x r here at =
    let s = r.shown k x here in
    let o = pass_first views shelf id w at in
    let m = moment_of a.bundle r.parts (all_in_hand views shelf) r.rows in
    record {
      plan = r.plan;
      moment = moment_of a.bundle r.parts (held_by w ++ o.0) r.rows;
      part = s.0;
      rest = o.0;
      diaries = diaries_in states;
      feed = feed_of r.feeder.feed;
      sound = (held-in_any_order a.plan m (held_by w ++ o.0) o.1 r.sound).0;
      tallied = tally-in_any_order a.plan m (held_by w ++ o.0) (diaries_in states) (feed_of r.feeder.feed)
          o.1 r.sound r.tallied;
      bundle = refl;
      there = s.1;
      shown = s.2;
      held = refl;
      feed_is = λ on. ap (λ (u : Hands). feed_of u.feed) (is_feeder views r.feeder w id r.first r.others at on);
      exact = λ on. subst (λ (u : Hands). IsExact a.plan (moment_of a.bundle r.parts (held_by w ++ o.0) r.rows)
          (records_of_feed u.feed)) (is_feeder views r.feeder w id r.first r.others at on)
          ((held-in_any_order a.plan m (held_by w ++ o.0) o.1 r.sound).1 (records_of_feed r.feeder.feed) r.exact);
      rows = λ on sink. r.tray x (ap (get_elem? states) (sym sink) ∙ here)
          ∙ ap (λ (u : Hands). u.feed.drained ++ x.tray) (is_feeder views r.feeder w id r.first r.others at on);
      later = λ on sink. subst (λ (u : Hands). AreLater u.feed.drained x.tray)
          (is_feeder views r.feeder w id r.first r.others at on) (r.later x (ap (get_elem? states) (sym sink) ∙ here));
      place = place-here a shelf states views r.linked id k w x here at;
    }

-- what a pass may rely on of a bundle on the shelf
pub fitting : (a : Setting) → Fits (ShowsMoment a) (IsLaid a)
fitting a shelf status states logs views k p r at =
    let o = piece_first views shelf k p at in
    let m = moment_of a.bundle r.parts (all_in_hand views shelf) r.rows in
    record {
      plan = r.plan;
      moment = moment_of a.bundle r.parts (work_on p ++ o.0) r.rows;
      rest = o.0;
      sound = (held-in_any_order a.plan m (work_on p ++ o.0) o.1 r.sound).0;
      held = refl;
    }

-- a new pass breaks nothing
pub splits : (a : Setting) (shelf : List (Option Piece)) (status : ℕ) (states : List SharedView)
    (logs : List (List Change)) (views : List Hands)
    → ShowsMoment a shelf status states logs views → ShowsMoment a shelf status states logs (views ++ idle_hands ∷ [])
splits a shelf status states logs views r =
    let laid : List Held = flat (on_place work_on) shelf in
    let same : all_in_hand (views ++ idle_hands ∷ []) shelf ≡ all_in_hand views shelf =
    ap (λ l. l ++ laid) (flat_more held_by views idle_hands refl) in
    record {
      plan = r.plan;
      parts = r.parts;
      rows = r.rows;
      feeder = r.feeder;
      as_many = r.as_many;
      shown = r.shown;
      settings = r.settings;
      spent = r.spent;
      first = at_longer views (idle_hands ∷ []) 0 r.feeder r.first;
      feeds = r.feeds;
      others = λ j w e. ⊎_elim (λ t. r.others j w t) (λ t. ap (λ (w : Hands). w.feed) (sym t))
          (at_snoc views idle_hands w (suc j) e);
      word = r.word;
      sound = subst (λ (l : List Held). IsSound a.plan (moment_of a.bundle r.parts l r.rows)) (sym same) r.sound;
      exact = subst (λ (l : List Held). IsExact a.plan (moment_of a.bundle r.parts l r.rows)
          (records_of_feed r.feeder.feed)) (sym same) r.exact;
      tallied = subst (λ (l : List Held). IsTallied a.plan (moment_of a.bundle r.parts l r.rows) (diaries_in states)
          (feed_of r.feeder.feed)) (sym same) r.tallied;
      tray = r.tray;
      later = r.later;
      linked = splits-linked a shelf states views r.linked;
    }
