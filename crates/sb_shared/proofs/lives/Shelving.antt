-- Raising the state word keeps the rule, and so do laying a bundle on the shelf and claiming one.
use Rattle.std.proofs.Common.{◌≡◌, ℕ, suc, ◌≤◌, ◌<◌, false, cond, List, [], ◌++◌, set, max, sym, refl, ap, ◌∙◌, subst, arith, append-nil, inl, ⊎_elim, Option, Some, None}
use Rattle.std.specs.List.Sorted.{IsPermutation}
use Rattle.std.proofs.lemmas.Bool.{cases_lt, le-ltb, lt-ltb}
use Rattle.std.proofs.lemmas.List.Sorted.{IsPermutation-refl, IsPermutation-trans}
use mathlib.Core.Option.{some, some-injective}
use lib.ListN.{get_elem?}
use Rattle.atomic_table.proofs.Lists.{at_set, set_here}
use Rattle.sb_turn.specs.Owed.{Lays, Raises, Takes}
use Rattle.sb_turn.proofs.Held.{laying, taking}
use Rattle.sb_turn.proofs.Totals.{within}
use Rattle.sb_shown.specs.core.declared.held.Held.{Held}
use Rattle.sb_shared.specs.declared.telling.Change.{Change}
use Rattle.sb_shared.specs.declared.telling.Hands.{Hands}
use Rattle.sb_shared.specs.declared.telling.Piece.{Piece}
use Rattle.sb_shared.specs.declared.telling.Setting.{Setting}
use Rattle.sb_shared.specs.Doings.{Quiet, work_of}
use Rattle.sb_shared.specs.SharedNodes.{SharedView}
use Rattle.sb_shared.specs.Shown.{AreLater, ShowsMoment, diaries_in}
use Rattle.sb_shared.specs.Views.{all_in_hand, hands_after_claim, hands_after_raise, feed_of, held_by, hands_after_put, as_list, with_raise, work_on}
use Rattle.sb_shared.proofs.leavings.Acting.{IsGood, in_any_order}
use Rattle.sb_shared.proofs.leavings.Leaving.{hand_changes}
use Rattle.sb_shared.specs.Linked.{AreLinked}
use Rattle.sb_shared.proofs.feeds.FedViews.{IsFed, fed_on, kept_on}
use Rattle.sb_shared.proofs.feeds.FeedOfChanges.{raise-fed}
use Rattle.sb_shared.proofs.links.LinkedSteps.{claimed-linked, laid-linked, raised-linked}

-- what a pass knows after it ended the work
view-after-end : (w : Hands) (n : ℕ) → n < 3 → hands_after_raise w n ≡ record w { feed = with_raise n w.feed }
view-after-end w n low = ap (λ b. cond b (record w { feed = with_raise n w.feed }) w) (lt-ltb n 3 low)

-- and after it said that there was no memory
view-after-memory : (w : Hands) (n : ℕ) → 3 ≤ n → hands_after_raise w n ≡ w
view-after-memory w n high = ap (λ b. cond b (record w { feed = with_raise n w.feed }) w) (le-ltb n 3 high)

module _ (a : Setting) where
  -- only a pass, the shelf and the state word change, and what passes and shelf have together is the same
  moved : (shelf shelf' : List (Option Piece)) (status status' : ℕ) (states : List SharedView) (logs : List (List Change)) (views : List Hands) (id : ℕ) (w' : Hands)
      → (r : ShowsMoment a shelf status states logs views) (fed : IsFed (set views id w') r.feeder Quiet []) → status ≤ status' → (status' < 3 → status' ≡ fed.g.feed.raised)
      → IsPermutation (all_in_hand views shelf) (all_in_hand (set views id w') shelf') → AreLinked a shelf' states (set views id w') → ShowsMoment a shelf' status' states logs (set views id w')
  moved shelf shelf' status status' states logs views id w' r fed rises word same linked =
      let drained : r.feeder.feed.drained ≡ fed.g.feed.drained = sym (fed.drained ∙ append-nil r.feeder.feed.drained) in
      let good : IsGood a r.parts (all_in_hand (set views id w') shelf') r.rows (diaries_in states) (feed_of fed.g.feed) =
      subst (IsGood a r.parts (all_in_hand (set views id w') shelf') r.rows (diaries_in states)) (sym fed.feed)
      (in_any_order a r.parts (all_in_hand views shelf) (all_in_hand (set views id w') shelf') r.rows (diaries_in states) (feed_of r.feeder.feed) same (record { sound = r.sound; exact = r.exact; tallied = r.tallied })) in
      record {
        plan = r.plan;
        parts = r.parts;
        rows = r.rows;
        feeder = fed.g;
        as_many = r.as_many;
        shown = r.shown;
        settings = r.settings;
        spent = λ k x e s. let o = r.spent k x e s in omega arith;
        first = fed.at;
        feeds = fed.on;
        others = fed.others;
        word = word;
        sound = good.sound;
        exact = good.exact;
        tallied = good.tallied;
        tray = λ x e. r.tray x e ∙ ap (λ l. l ++ x.tray) drained;
        later = λ x e. subst (λ l. AreLater l x.tray) drained (r.later x e);
        linked = linked;
      }

  -- only a pass and the shelf change
  pub moves : (shelf shelf' : List (Option Piece)) (status : ℕ) (states : List SharedView) (logs : List (List Change)) (views : List Hands) (id : ℕ) (w w' : Hands)
      → ShowsMoment a shelf status states logs views → get_elem? views id ≡ some w → w'.feed ≡ w.feed
      → IsPermutation (all_in_hand views shelf) (all_in_hand (set views id w') shelf') → AreLinked a shelf' states (set views id w') → ShowsMoment a shelf' status states logs (set views id w')
  moves shelf shelf' status states logs views id w w' r at feed same linked =
      let fed : IsFed (set views id w') r.feeder Quiet [] = fed_on views id w w' r.feeder Quiet [] at r.first r.feeds r.others (inl (record { same = feed; nothing = λ f. refl; none = refl })) in
      moved shelf shelf' status status states logs views id w' r fed (omega arith)
      (λ low. r.word low ∙ sym (kept_on (λ u. u.feed.raised) views id w w' r.feeder fed.g at r.first (ap (λ f. f.raised) feed) fed.at))
      same linked

  -- the feeder ends the work
  feeder-ends : (n : ℕ) (w : Hands) → n < 3 → Raises (ShowsMoment a) 0 w n (record w { feed = with_raise n w.feed })
  feeder-ends n w low shelf status states logs views r at =
      let w' : Hands = record w { feed = with_raise n w.feed } in
      let is : w ≡ r.feeder = some-injective w r.feeder (sym at ∙ r.first) in
      let fed : IsFed (set views 0 w') r.feeder Quiet [] = record {
        g = w';
        at = set_here views 0 w' (within views 0 w at);
        on = ap (λ (u : Hands). u.feed.on) is ∙ r.feeds;
        others = λ j u e. ⊎_elim (λ t. absurd (omega (arith, t.0))) (λ t. r.others j u t.1) (at_set views 0 (suc j) w' u e);
        drained = ap (λ (u : Hands). u.feed.drained) is ∙ sym (append-nil r.feeder.feed.drained);
        feed = raise-fed n w.feed ∙ ap (λ (u : Hands). feed_of u.feed) is;
      } in
      let o = hand_changes views shelf 0 w w' at in
      moved shelf shelf status (max status n) states logs views 0 w' r fed (omega arith)
      (λ less. ap (λ s. max s n) (r.word (omega (arith, less)) ∙ ap (λ (u : Hands). u.feed.raised) (sym is)))
      (IsPermutation-trans (all_in_hand views shelf) (held_by w ++ o.0) (all_in_hand (set views 0 w') shelf) o.1 o.2)
      (raised-linked a shelf states views r.linked 0 w at w' refl refl)

  -- any pass says that there was no memory
  memory-said : (id n : ℕ) (w : Hands) → 3 ≤ n → Raises (ShowsMoment a) id w n w
  memory-said id n w high shelf status states logs views r at =
      let fed : IsFed (set views id w) r.feeder Quiet [] = fed_on views id w w r.feeder Quiet [] at r.first r.feeds r.others (inl (record { same = refl; nothing = λ f. refl; none = refl })) in
      let o = hand_changes views shelf id w w at in
      moved shelf shelf status (max status n) states logs views id w r fed (omega arith)
      (λ less. absurd (omega (arith, less, high)))
      (IsPermutation-trans (all_in_hand views shelf) (held_by w ++ o.0) (all_in_hand (set views id w) shelf) o.1 o.2)
      (raised-linked a shelf states views r.linked id w at w refl refl)

  -- a raise of the state word: it says that there was no memory, or it is the feeder's
  pub raises_by : (id n : ℕ) (w : Hands) → (n < 3 → id ≡ 0) → Raises (ShowsMoment a) id w n (hands_after_raise w n)
  raises_by id n w first = ⊎_elim
      (λ low. subst (λ (t : ℕ × Hands). Raises (ShowsMoment a) t.0 w n t.1) (λ i. (sym (first low) i, sym (view-after-end w n low) i)) (feeder-ends n w low))
      (λ high. subst (Raises (ShowsMoment a) id w n) (sym (view-after-memory w n high)) (memory-said id n w high))
      (cases_lt n 3)

  -- a pass lays the bundle that it has in hand on the shelf
  pub lays_by : (id : ℕ) (w : Hands) (p : Piece) → w.held ≡ Some (work_of p.claim false) → w.link ≡ p.link → Lays (ShowsMoment a) id w p (hands_after_put w p)
  lays_by id w p has link k shelf status states logs views r free at =
      moves shelf (set shelf k (Some p)) status states logs views id w (hands_after_put w p) r at refl
      (laying held_by work_on views shelf id k w (hands_after_put w p) at p free
      (subst (λ (o : Option Held). IsPermutation (as_list o) (work_on p)) (sym has) (IsPermutation-refl (work_on p))))
      (laid-linked a shelf states views r.linked id w at k p has link)

  -- a pass with nothing in hand takes the bundle of a place
  pub takes_by : (id : ℕ) (w : Hands) → w.held ≡ None → Takes (ShowsMoment a) id w hands_after_claim
  takes_by id w bare k p shelf status states logs views r there at =
      moves shelf (set shelf k None) status states logs views id w (hands_after_claim w p) r at refl
      (taking held_by work_on views shelf id k w (hands_after_claim w p) at p there
      (subst (λ (o : Option Held). IsPermutation (as_list o ++ work_on p) (work_on p)) (sym bare) (IsPermutation-refl (work_on p))))
      (claimed-linked a shelf states views r.linked id w at k p there bare)
