-- A leaving keeps the rule, and is the one event that it is said to be.
use Rattle.std.proofs.Common.{◌≡◌, ◌≢◌, ℕ, ◌<◌, ◌≤◌, List, ◌++◌, length, set, sym, refl, ap, ◌∙◌, subst, arith, length-set, append_assoc, ⊎_elim, Option, Some}
use Rattle.std.specs.Prelude.{slice_get, slice_set}
use Rattle.std.specs.List.Sorted.{IsPermutation}
use Rattle.std.proofs.lemmas.List.{map-set}
use Rattle.std.proofs.lemmas.List.Sorted.{IsPermutation-append_left}
use mathlib.Core.Option.{some}
use lib.ListN.{get_elem?}
use Rattle.atomic_table.proofs.Lists.{at_set}
use Rattle.sb_turn.specs.Held.{flat, on_place}
use Rattle.sb_turn.specs.Owed.{Leaves}
use Rattle.sb_turn.specs.Turning.{log_of, logs_after}
use Rattle.sb_turn.proofs.Held.{in_front}
use Rattle.sb_turn.proofs.Logs.{grown_else}
use Rattle.sb_turn.proofs.Totals.{within}
use Rattle.sb_shown.specs.base.records.declared.item.Record.{Record}
use Rattle.sb_shown.specs.core.declared.held.Held.{Held}
use Rattle.sb_shown.specs.core.declared.moment.Node.{Node}
use Rattle.sb_shown.specs.core.Parts.{Part}
use Rattle.sb_shown.specs.core.Laws.{written_to}
use Rattle.sb_shown.proofs.core.exact.Nodes.{slice_get-set_same, slice_get-set_other}
use Rattle.sb_shown.specs.diary.declared.event.DiaryEvent.{DiaryEvent}
use Rattle.sb_shown.specs.tally.Tally as tally
use Rattle.sb_shown.proofs.Single.{get-map}
use Rattle.sb_shown.specs.Showing.{Settings, settings_for}
use Rattle.sb_shared.specs.declared.telling.Change.{Change}
use Rattle.sb_shared.specs.declared.telling.Hands.{Hands}
use Rattle.sb_shared.specs.declared.telling.Piece.{Piece}
use Rattle.sb_shared.specs.declared.telling.Setting.{Setting}
use Rattle.sb_shared.specs.Doings.{doing_of, drained_rows, is_event, lines_by, replay}
use Rattle.sb_shared.specs.Found.{IsFound}
use Rattle.sb_shared.specs.Laws.{IsLeaving, shown_by}
use Rattle.sb_shared.specs.Leavings.{Does, DoesPart}
use Rattle.sb_shared.specs.Passing.{is_feeder}
use Rattle.sb_shared.specs.SharedNodes.{SharedView}
use Rattle.sb_shared.specs.Shown.{AreLater, ShowsMoment, ShowsPart, beginning_of, diaries_in, moment_of, operator_of, settings_in}
use Rattle.sb_shown.specs.core.Exactness.{IsExact}
use Rattle.sb_shared.specs.Views.{after, all_in_hand, records_of_feed, feed_of, held_by, work_on}
use Rattle.sb_shared.proofs.leavings.Acting.{IsGood, acts, in_any_order, is_event_of}
use Rattle.sb_shared.specs.LinkedPassing.{place-here}
use Rattle.sb_shared.proofs.links.LinksKept.{links-kept}
use Rattle.sb_shared.proofs.feeds.FedViews.{IsFed, fed_on, kept_on, more_none}
use Rattle.sb_shared.proofs.feeds.FeedOfChanges.{after-raised}
use Rattle.sb_shared.proofs.leavings.LaterRows.{added_high, drained_low, later_none, later_too}
use Rattle.sb_shared.proofs.entered.Lookups.{slice_at}
use Rattle.sb_shared.proofs.diaries.Replaying.{replays}

-- the diary of a node among those of all
pub diary_there : (states : List SharedView) (k : ℕ) (x : SharedView) → get_elem? states k ≡ some x → slice_get (diaries_in states) k ≡ Some x.own.diary.events
diary_there states k x e = get-map (λ (x : SharedView). x.own.diary.events) states k x (slice_at states k x e)

-- what one pass has in hand, in front of all else that is in hand, before and after its view changes
pub hand_changes : (views : List Hands) (shelf : List (Option Piece)) (id : ℕ) (w w' : Hands) → get_elem? views id ≡ some w
    → (rest : List Held) × IsPermutation (all_in_hand views shelf) (held_by w ++ rest) × IsPermutation (held_by w' ++ rest) (all_in_hand (set views id w') shelf)
hand_changes views shelf id w w' at =
    let o = in_front held_by views id w w' at in
    let laid : List Held = flat (on_place work_on) shelf in (
      o.0 ++ laid,
      subst (IsPermutation (all_in_hand views shelf)) (append_assoc (held_by w) o.0 laid)
          (IsPermutation-append_left laid (flat held_by views) (held_by w ++ o.0) o.1),
      subst (λ l. IsPermutation l (all_in_hand (set views id w') shelf)) (append_assoc (held_by w') o.0 laid)
          (IsPermutation-append_left laid (held_by w' ++ o.0) (flat held_by (set views id w')) o.2),
    )

module _ (a : Setting) where
  -- what is shown of one node
  abbrev ShownAt : List Node → List (List Change) → ℕ → SharedView → Type 0
  ShownAt parts logs k x = (p : Node) × (slice_get parts k ≡ Some p) × ShowsPart (operator_of a k) x p
      × (replay a k (log_of logs k) (beginning_of a k) ≡ Some (record { node = p; lines = x.own.diary.events }))

  -- one leaving, of a pass that knows w, from node k, found as x and left as y, by the change c
  module _ (id k seen : ℕ) (w : Hands) (x y : SharedView) (c : Change) (does : Does a w seen k x y c) where
    module _ (shelf : List (Option Piece)) (status : ℕ) (states : List SharedView) (logs : List (List Change)) (views : List Hands)
        (r : ShowsMoment a shelf status states logs views) (known : seen ≤ status) (as_long : length logs ≡ length states)
        (here : get_elem? states k ≡ some x) (at : get_elem? views id ≡ some w) where
      -- the node has a list of events
      near : k < length logs
      near = let n = within states k x here in omega arith

      abbrev w' : Hands
      w' = after w k c

      -- what was shown of it
      abbrev was : ShownAt r.parts logs k x
      was = r.shown k x here

      abbrev p : Node
      p = was.0

      -- what the pass has in hand, in front of the rest
      hand : (rest : List Held) × IsPermutation (all_in_hand views shelf) (held_by w ++ rest) × IsPermutation (held_by w' ++ rest) (all_in_hand (set views id w') shelf)
      hand = hand_changes views shelf id w w' at

      abbrev rest : List Held
      rest = hand.0

      abbrev fed : tally.Feed
      fed = feed_of r.feeder.feed

      -- the moment that was shown
      good : IsGood a r.parts (held_by w ++ rest) r.rows (diaries_in states) fed
      good = in_any_order a r.parts (all_in_hand views shelf) (held_by w ++ rest) r.rows (diaries_in states) fed hand.1 (record { sound = r.sound; exact = r.exact; tallied = r.tallied })

      -- what the pass found
      abbrev found : IsFound a w k x
      found = record {
        plan = r.plan;
        moment = moment_of a.bundle r.parts (held_by w ++ rest) r.rows;
        part = p;
        rest = rest;
        diaries = diaries_in states;
        feed = fed;
        sound = good.sound;
        tallied = good.tallied;
        bundle = refl;
        there = was.1;
        shown = was.2;
        held = refl;
        feed_is = λ on. ap (λ (u : Hands). feed_of u.feed) (is_feeder views r.feeder w id r.first r.others at on);
        exact = λ on. subst (λ (u : Hands). IsExact a.plan (moment_of a.bundle r.parts (held_by w ++ rest) r.rows) (records_of_feed u.feed))
            (is_feeder views r.feeder w id r.first r.others at on) good.exact;
        rows = λ on sink. r.tray x (ap (get_elem? states) (sym sink) ∙ here)
            ∙ ap (λ (u : Hands). u.feed.drained ++ x.tray) (is_feeder views r.feeder w id r.first r.others at on);
        later = λ on sink. subst (λ (u : Hands). AreLater u.feed.drained x.tray)
            (is_feeder views r.feeder w id r.first r.others at on) (r.later x (ap (get_elem? states) (sym sink) ∙ here));
        place = place-here a shelf states views r.linked id k w x here at;
      }

      -- what the leaving does
      part : DoesPart a w w' seen k x y c p
      part = does.part found

      abbrev q : Part
      q = part.q

      abbrev parts' : List Node
      parts' = slice_set r.parts k q.node

      abbrev rows' : List Record
      rows' = r.rows ++ q.rows

      abbrev states' : List SharedView
      states' = slice_set states k y

      abbrev logs' : List (List Change)
      logs' = logs_after is_event k c logs

      abbrev views' : List Hands
      views' = slice_set views id w'

      -- what was fed then
      is_fed : IsFed views' r.feeder (doing_of k c) (drained_rows c)
      is_fed = fed_on views id w w' r.feeder (doing_of k c) (drained_rows c) at r.first r.feeds r.others does.feeds

      -- the diaries then
      diaries_are : slice_set (diaries_in states) k (x.own.diary.events ++ lines_by a (doing_of k c) p) ≡ diaries_in states'
      diaries_are = ap (slice_set (diaries_in states) k) (sym part.lines) ∙ sym (map-set (λ (x : SharedView). x.own.diary.events) states k y)

      -- the moment after it
      now : IsGood a parts' (all_in_hand views' shelf) rows' (diaries_in states') (feed_of is_fed.g.feed)
      now =
          subst (λ (t : List (List DiaryEvent) × tally.Feed). IsGood a parts' (all_in_hand views' shelf) rows' t.0 t.1) (λ i. (diaries_are i, sym is_fed.feed i))
          (in_any_order a parts' (held_by w' ++ rest) (all_in_hand views' shelf) rows' _ _ hand.2
          (acts a r.plan r.parts r.rows k p w w' rest (diaries_in states) x.own.diary.events fed was.1 (diary_there states k x here) (doing_of k c) q part.may good))

      -- the parts then
      there : slice_get parts' k ≡ Some q.node
      there = slice_get-set_same r.parts k p q.node was.1

      -- what is shown of each node
      shown : (j : ℕ) (z : SharedView) → get_elem? states' j ≡ some z → ShownAt parts' logs' j z
      shown j z g = ⊎_elim
          (λ t. subst (λ (u : ℕ × SharedView). ShownAt parts' logs' u.0 u.1) (λ i. (sym t.0 i, t.1 i)) (
            q.node,
            there,
            part.shows,
            replays a k w w' (beginning_of a k) p x.own.diary.events c q logs near was.3 part.may (is_event c) refl
                ∙ ap (λ l. Some (record { node = q.node; lines = l })) (sym part.lines),
          ))
          (λ t. let o = r.shown j z t.1 in (
            o.0,
            slice_get-set_other r.parts k j q.node t.0 ∙ o.1,
            o.2,
            ap (λ l. replay a j l (beginning_of a j)) (grown_else k c logs near (is_event c) j t.0) ∙ o.3,
          ))
          (at_set states k j y z g)

      abbrev sink : ℕ
      sink = length a.plan.steps

      abbrev drained' : List Record
      drained' = is_fed.g.feed.drained

      -- a leaving of another node than the sink drains nothing
      same_drained : k ≢ sink → drained' ≡ r.feeder.feed.drained
      same_drained ne = is_fed.drained ∙ more_none r.feeder.feed.drained (drained_rows c) (part.rows ne).1

      -- the rows are those drained and the tray
      tray : (z : SharedView) → get_elem? states' sink ≡ some z → rows' ≡ drained' ++ z.tray
      tray z g = ⊎_elim
          (λ t.
          ap (λ l. l ++ q.rows) (r.tray x (ap (get_elem? states) t.0 ∙ here))
          ∙ append_assoc r.feeder.feed.drained x.tray q.rows
          ∙ ap (λ l. r.feeder.feed.drained ++ l) (sym part.tray)
          ∙ sym (append_assoc r.feeder.feed.drained (drained_rows c) y.tray)
          ∙ (λ i. sym is_fed.drained i ++ (t.1 i).tray))
          (λ t. let ne : k ≢ sink = λ e. t.0 (sym e) in
          more_none r.rows q.rows (part.rows ne).0 ∙ r.tray z t.1 ∙ ap (λ l. l ++ z.tray) (sym (same_drained ne)))
          (at_set states k sink y z g)

      -- at the sink: the rows that come are later, or the tray is empty
      later_here : sink ≡ k → AreLater (r.feeder.feed.drained ++ drained_rows c) y.tray
      later_here e =
          let m = moment_of a.bundle r.parts (all_in_hand views shelf) r.rows in
          let old : get_elem? states sink ≡ some x = ap (get_elem? states) e ∙ here in
          ⊎_elim
          (λ dry. subst (λ (u : List Record × List Record). AreLater u.0 u.1)
          (λ i. (sym (more_none r.feeder.feed.drained (drained_rows c) dry) i, (sym part.tray ∙ ap (λ rs. rs ++ y.tray) dry) i))
          (later_too (written_to a.plan m) r.feeder.feed.drained x.tray q.rows (r.later x old)
          (drained_low a m r.sound r.feeder.feed.drained x.tray (r.tray x old))
          (added_high a m r.sound k p w w' (doing_of k c) q refl was.1 part.may)))
          (λ empty. subst (AreLater (r.feeder.feed.drained ++ drained_rows c)) (sym empty) (later_none (r.feeder.feed.drained ++ drained_rows c)))
          part.dry

      -- and the tray is later
      later : (z : SharedView) → get_elem? states' sink ≡ some z → AreLater drained' z.tray
      later z g = ⊎_elim
          (λ t. subst (λ (u : List Record × SharedView). AreLater u.0 u.1.tray) (λ i. (sym is_fed.drained i, t.1 i)) (later_here t.0))
          (λ t. subst (λ rs. AreLater rs z.tray) (sym (same_drained (λ e. t.0 (sym e)))) (r.later z t.1))
          (at_set states k sink y z g)

      -- the rule
      kept : ShowsMoment a shelf status states' logs' views'
      kept = record {
        plan = r.plan;
        parts = parts';
        rows = rows';
        feeder = is_fed.g;
        as_many = length-set states k y ∙ r.as_many ∙ sym (length-set r.parts k q.node);
        shown = shown;
        settings = λ j z g. ⊎_elim
            (λ t. (λ i. settings_in (sym t.1 i)) ∙ part.settings ∙ r.settings k x here ∙ (λ i. settings_of_node (sym t.0 i)))
            (λ t. r.settings j z t.1)
            (at_set states k j y z g);
        spent = λ j z g is. ⊎_elim
            (λ t. ⊎_elim (λ s. r.spent k x here s) (λ s. omega arith) (part.spent (ap (λ (z : SharedView). z.spent) t.1 ∙ is)))
            (λ t. r.spent j z t.1 is)
            (at_set states k j y z g);
        first = is_fed.at;
        feeds = is_fed.on;
        others = is_fed.others;
        word = λ low. r.word low ∙ sym (kept_on (λ u. u.feed.raised) views id w w' r.feeder is_fed.g at r.first (after-raised w k c) is_fed.at);
        sound = now.sound;
        exact = now.exact;
        tallied = now.tallied;
        tray = tray;
        later = later;
        linked = links-kept a shelf status states logs views r r.linked id k w x y here at seen c does does.links;
      }
        where
          settings_of_node : ℕ → Settings
          settings_of_node j = settings_for a.keeps a.pending (operator_of a j)

      -- the one event
      is : IsLeaving a.plan (doing_of k c) (moment_of a.bundle r.parts (all_in_hand views shelf) r.rows) (moment_of a.bundle parts' (all_in_hand views' shelf) rows')
      is = is_event_of a r.parts r.rows k p w w' rest (doing_of k c) q (all_in_hand views shelf) (all_in_hand views' shelf) was.1 part.may good.sound hand.1 hand.2

  -- the rule after a leaving, and what it did to the moment that is shown
  pub leaves_to : (id k seen : ℕ) (w : Hands) (x y : SharedView) (c : Change) → Does a w seen k x y c
      → (shelf : List (Option Piece)) (status : ℕ) (states : List SharedView) (logs : List (List Change)) (views : List Hands)
      → (r : ShowsMoment a shelf status states logs views) → seen ≤ status → length logs ≡ length states
      → get_elem? states k ≡ some x → get_elem? views id ≡ some w
      → (later : ShowsMoment a shelf status (slice_set states k y) (logs_after is_event k c logs) (slice_set views id (after w k c)))
      × IsLeaving a.plan (doing_of k c) (shown_by r) (shown_by later)
  unfolding kept
  leaves_to id k seen w x y c does shelf status states logs views r known as_long here at = (
    kept id k seen w x y c does shelf status states logs views r known as_long here at,
    is id k seen w x y c does shelf status states logs views r known as_long here at,
  )

  -- the rule after a leaving
  pub leaves_by : (id k seen : ℕ) (w : Hands) (x y : SharedView) (c : Change) → Does a w seen k x y c
      → Leaves is_event (ShowsMoment a) id w seen k x y c (after w k c)
  leaves_by id k seen w x y c does shelf status states logs views r known as_long here at =
      kept id k seen w x y c does shelf status states logs views r known as_long here at
