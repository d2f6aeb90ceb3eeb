-- A step that leaves no node changes nothing that is shown.
use Rattle.std.proofs.Common.{◌≡◌, ℕ, suc, List, [], ◌∷◌, ◌++◌, length, max, set, sym, refl, ap, ◌∙◌, subst, arith, Option, Some, None}
use Rattle.std.specs.Prelude.{slice_get}
use Rattle.std.specs.List.Sorted.{IsPermutation}
use Rattle.std.proofs.lemmas.List.Sorted.{IsPermutation-refl, IsPermutation-trans}
use Rattle.std.proofs.lemmas.Option.{same_Some}
use mathlib.Core.Option.{some, some-injective}
use lib.ListN.{get_elem?}
use Rattle.atomic_table.proofs.Lists.{at_longer}
use Rattle.sb_turn.specs.Held.{flat, on_place}
use Rattle.sb_turn.proofs.Held.{flat_more, laying, taking}
use Rattle.sb_turn.proofs.Totals.{there}
use Rattle.sb_shown.specs.base.records.declared.item.Record.{Record}
use Rattle.sb_shown.specs.core.declared.held.Held.{Held}
use Rattle.sb_shared.specs.declared.telling.Change.{Change}
use Rattle.sb_shared.specs.declared.telling.Hands.{Hands}
use Rattle.sb_shared.specs.declared.telling.Piece.{Piece}
use Rattle.sb_shared.specs.declared.telling.Setting.{Setting}
use Rattle.sb_shared.specs.Doings.{Story}
use Rattle.sb_shared.specs.Laws.{IsSameMoment, OnlyLeavingsChangeWhatIsShown, shown_by}
use Rattle.sb_shared.specs.Laws.IsOtherStep.{Lays, Claims, Raises, Splits, Stays}
use Rattle.sb_shared.specs.SharedNodes.{SharedView}
use Rattle.sb_shared.specs.Shown.{ShowsMoment}
use Rattle.sb_shared.specs.Views.{all_in_hand, as_list, hands_after_claim, hands_after_put, hands_after_raise, held_by, idle_hands, work_on}
use Rattle.sb_shared.proofs.feeds.FedViews.{kept_on}
use Rattle.sb_shared.proofs.feeds.FeedOfChanges.{raise-keeps}
use Rattle.sb_shared.proofs.leavings.Leaving.{hand_changes}

-- two lists are the same, if they are as long as a third, and the same at each of its places
same_lists : {X Y : Type 0} (xs : List X) (ys zs : List Y) → length xs ≡ length ys → length xs ≡ length zs
    → ((k : ℕ) (x : X) → get_elem? xs k ≡ some x → slice_get ys k ≡ slice_get zs k) → ys ≡ zs
same_lists [] [] [] many more at = refl
same_lists [] [] (z ∷ zs) many more at = absurd (omega (arith, more))
same_lists [] (y ∷ ys) zs many more at = absurd (omega (arith, many))
same_lists (x ∷ xs) [] zs many more at = absurd (omega (arith, many))
same_lists (x ∷ xs) (y ∷ ys) [] many more at = absurd (omega (arith, more))
same_lists (x ∷ xs) (y ∷ ys) (z ∷ zs) many more at =
    ap (λ u. u ∷ ys) (same_Some y z (at 0 x refl))
    ∙ ap (λ l. z ∷ l) (same_lists xs ys zs (omega (arith, many)) (omega (arith, more)) (λ k u e. at (suc k) u e))

-- two times with the same states and the same events of nodes
module _ (a : Setting) (states : List SharedView) (logs : List (List Change)) (shelf shelf' : List (Option Piece)) (status status' : ℕ) (views views' : List Hands)
    (r : ShowsMoment a shelf status states logs views) (later : ShowsMoment a shelf' status' states logs views') where
  -- the parts are what the events made of them
  same_parts : later.parts ≡ r.parts
  same_parts = same_lists states later.parts r.parts later.as_many r.as_many (λ k x e.
      let (p, here, shows, made) = r.shown k x e in
      let (p', here', shows', made') = later.shown k x e in
      let old : Story = record { node = p; lines = x.own.diary.events } in
      let new : Story = record { node = p'; lines = x.own.diary.events } in
      here' ∙ ap (λ (s : Story). Some s.node) (same_Some new old (sym made' ∙ made)) ∙ sym here)

  -- the state of the sink
  sink : (x : SharedView) × (get_elem? states (length a.plan.steps) ≡ some x)
  sink = there states (length a.plan.steps) (omega (arith, r.as_many, r.sound.nodes))

  -- the rows are those that were drained, and then its tray
  same_rows : later.feeder.feed.drained ≡ r.feeder.feed.drained → later.rows ≡ r.rows
  same_rows drained = later.tray sink.0 sink.1 ∙ ap (λ (l : List Record). l ++ sink.0.tray) drained ∙ sym (r.tray sink.0 sink.1)

  -- so the moment is the same, if the same was drained and the same is in hand
  same_moment : later.feeder.feed.drained ≡ r.feeder.feed.drained → IsPermutation (all_in_hand views shelf) (all_in_hand views' shelf') → IsSameMoment (shown_by r) (shown_by later)
  same_moment drained held = (same_parts, same_rows drained, held)

  -- the feeder's view is the one that is known to be there
  same_drained : (f : Hands) → get_elem? views' 0 ≡ some f → f.feed.drained ≡ r.feeder.feed.drained → later.feeder.feed.drained ≡ r.feeder.feed.drained
  same_drained f at drained = ap (λ (u : Hands). u.feed.drained) (some-injective later.feeder f (sym later.first ∙ at)) ∙ drained

-- a pass has other things in hand, and has drained the same
module _ (a : Setting) (states : List SharedView) (logs : List (List Change)) (shelf shelf' : List (Option Piece)) (status status' : ℕ) (views : List Hands) (id : ℕ) (w w' : Hands)
    (r : ShowsMoment a shelf status states logs views) (later : ShowsMoment a shelf' status' states logs (set views id w')) where
  moved : get_elem? views id ≡ some w → w'.feed.drained ≡ w.feed.drained → IsPermutation (all_in_hand views shelf) (all_in_hand (set views id w') shelf') → IsSameMoment (shown_by r) (shown_by later)
  moved at drained held =
      same_moment a states logs shelf shelf' status status' views (set views id w') r later
      (kept_on (λ (u : Hands). u.feed.drained) views id w w' r.feeder later.feeder at r.first drained later.first) held

-- what all have in hand stays, if what one has does
held_stays : (views : List Hands) (shelf : List (Option Piece)) (id : ℕ) (w w' : Hands) → get_elem? views id ≡ some w → w'.held ≡ w.held
    → IsPermutation (all_in_hand views shelf) (all_in_hand (set views id w') shelf)
held_stays views shelf id w w' at same =
    let (rest, before, behind) = hand_changes views shelf id w w' at in
    IsPermutation-trans (all_in_hand views shelf) (held_by w ++ rest) (all_in_hand (set views id w') shelf) before
    (subst (λ (o : Option Held). IsPermutation (as_list o ++ rest) (all_in_hand (set views id w') shelf)) same behind)

-- a step that leaves no node
pub only_leavings : OnlyLeavingsChangeWhatIsShown
only_leavings a s _ (Lays id k w p at free has) r later = (
  moved a s.states s.logs s.shelf (set s.shelf k (Some p)) s.status s.status s.views id w (hands_after_put w p) r later at refl
      (laying held_by work_on s.views s.shelf id k w (hands_after_put w p) at p free
      (subst (λ (o : Option Held). IsPermutation (as_list o) (work_on p)) (sym has) (IsPermutation-refl (work_on p)))),
  refl,
)
only_leavings a s _ (Claims id k w p at full bare) r later = (
  moved a s.states s.logs s.shelf (set s.shelf k None) s.status s.status s.views id w (hands_after_claim w p) r later at refl
      (taking held_by work_on s.views s.shelf id k w (hands_after_claim w p) at p full
      (subst (λ (o : Option Held). IsPermutation (as_list o ++ work_on p) (work_on p)) (sym bare) (IsPermutation-refl (work_on p)))),
  refl,
)
only_leavings a s _ (Raises id n w at) r later =
    let told : Hands = hands_after_raise w n in (
      moved a s.states s.logs s.shelf s.shelf s.status (max s.status n) s.views id w told r later at (raise-keeps (λ u. u.feed.drained) w n refl)
          (held_stays s.views s.shelf id w told at (raise-keeps (λ u. u.held) w n refl)),
      refl,
    )
only_leavings a s _ Splits r later =
    let more : List Hands = s.views ++ idle_hands ∷ [] in
    let same : all_in_hand more s.shelf ≡ all_in_hand s.views s.shelf = ap (λ (l : List Held). l ++ flat (on_place work_on) s.shelf) (flat_more held_by s.views idle_hands refl) in (
      same_moment a s.states s.logs s.shelf s.shelf s.status s.status s.views more r later
          (same_drained a s.states s.logs s.shelf s.shelf s.status s.status s.views more r later r.feeder (at_longer s.views (idle_hands ∷ []) 0 r.feeder r.first) refl)
          (subst (IsPermutation (all_in_hand s.views s.shelf)) (sym same) (IsPermutation-refl (all_in_hand s.views s.shelf))),
      refl,
    )
only_leavings a s _ Stays r later = (
  same_moment a s.states s.logs s.shelf s.shelf s.status s.status s.views s.views r later
      (same_drained a s.states s.logs s.shelf s.shelf s.status s.status s.views s.views r later r.feeder r.first refl)
      (IsPermutation-refl (all_in_hand s.views s.shelf)),
  refl,
)
