-- Each kind of leaving keeps nodes and passes linked.
use Rattle.std.proofs.Common.{◌≡◌, ℕ, ◌≤◌, ◌<◌, Bool, true, false, cond, List, [], ◌∷◌, length, Some, None, Option, sym, refl, ap, subst, ◌∙◌, arith, ⊎_elim}
use Rattle.std.specs.Prelude.{◌≢◌, slice_get, slice_set}
use Rattle.std.proofs.lemmas.Option.{same_Some}
use mathlib.Core.Option.{some}
use lib.ListN.{get_elem?}
use Rattle.atomic_table.proofs.Lists.{set_here}
use Rattle.sb_turn.proofs.Totals.{within}
use Rattle.sb_shown.proofs.base.records.Numbers.{bind_some}
use Rattle.sb_shown.specs.base.records.declared.item.Record.{Record}
use Rattle.sb_shown.specs.base.records.declared.item.Stream.{Stream}
use Rattle.sb_shown.specs.base.pipeline.declared.transform.Step.{Step}
use Rattle.sb_shown.specs.base.pipeline.Shapes.{source}
use Rattle.sb_shown.proofs.base.pipeline.Feeding.{apart, sources_apart}
use Rattle.sb_shown.specs.core.declared.held.Held.{Held}
use Rattle.sb_shown.specs.core.declared.held.Held.TheVariants.{Work}
use Rattle.sb_shown.specs.core.declared.moment.Moment.{Moment}
use Rattle.sb_shown.specs.core.Bounds.{bound_at}
use Rattle.sb_shown.specs.core.Events.{below}
use Rattle.sb_shown.specs.core.containers.LaneOrder.{IsLane}
use Rattle.sb_shown.proofs.core.exact.Nodes.{slice_get-set_same}
use Rattle.sb_shown.specs.lane.LaneView.{LaneView, lane_of}
use Rattle.sb_shown.specs.lane.Links.{links_of, with_place}
use Rattle.sb_shown.proofs.lane.OrderKept.{end-kept}
use Rattle.sb_shown.specs.node.Changes.{HasLane}
use Rattle.sb_shown.specs.node.LinkChanges.{DropsLink, LinksStay}
use Rattle.sb_shown.specs.Linking.{place_in}
use Rattle.sb_shown.proofs.Unsealed.{oldest}
use Rattle.sb_shown.specs.work.declared.claim.Claim.{Claim}
use Rattle.sb_shown.specs.node.declared.closing.Closing.{Closing}
use Rattle.sb_shared.specs.declared.telling.Change.{Change}
use Rattle.sb_shared.specs.declared.telling.Hands.{Hands}
use Rattle.sb_shared.specs.declared.telling.Piece.{Piece}
use Rattle.sb_shared.specs.declared.telling.Setting.{Setting}
use Rattle.sb_shared.specs.Doings.{close_of, work_of}
use Rattle.sb_shared.specs.Linked.{AreLinked, HasLaneIn, IsDelivered, KnowsLink, LanesStay, LeadsRight, PlacesNext, SetsLinks, SetsLinksAt, epoch_below, giver, is_pardo_at, link_left}
use Rattle.sb_shared.specs.SharedNodes.{FinishesLinked, PutsAt, SharedView}
use Rattle.sb_shared.specs.Shown.{ShowsMoment, moment_of}
use Rattle.sb_shared.specs.Views.{all_in_hand, with_empty_hands, hands_with, held_by}
use Rattle.sb_shared.proofs.links.LeftLanes.{delivered-kept, one-lane, one-lane-in, same-moved, set-moved}
use Rattle.sb_shared.proofs.links.LinkMoves.{KeepsDelivered, end-moved, finish-moved, placed-moved, stay-moved}
use Rattle.sb_shared.proofs.links.LinkedAfter.{has-now, keeps-closing, keeps-empty, keeps-same, keeps-working, only-listed, linked-closing, linked-empty, linked-same, linked-work, stands-place, under-here}
use Rattle.sb_shared.proofs.links.LinkedMoments.{closing-here, down-linked, first-lane, lane-here, lane-shown, none-below}
use Rattle.sb_shared.proofs.links.MovedLanes.{IsGivenInto, StandsUnder, WasMoved, stands-kept}
use Rattle.sb_shared.proofs.links.UnsealedBelow.{links-rise}

module _ (a : Setting) (shelf : List (Option Piece)) (status : ℕ) (states : List SharedView) (logs : List (List Change)) (views : List Hands) (r : ShowsMoment a shelf status states logs views) (linked : AreLinked a shelf states views) where
  -- the moment that is shown before
  abbrev m : Moment
  m = moment_of a.bundle r.parts (all_in_hand views shelf) r.rows

  module _ (id k : ℕ) (w : Hands) (x y : SharedView) (here : get_elem? states k ≡ some x) (at : get_elem? views id ≡ some w) where
    -- the states after
    abbrev new : List SharedView
    new = slice_set states k y

    -- what passes know after, if this one knows w'
    abbrev so : Hands → List Hands
    so w' = slice_set views id w'

    -- what this step leaves a delivered bundle to, in hand
    abbrev Keeps : Hands → Type 0
    Keeps w' = (j e : ℕ) → IsDelivered j e views → IsDelivered j e (so w')

    -- what each lane was that is there after
    abbrev AllMoved : Hands → Type 0
    AllMoved w' = (j i : ℕ) (is : LaneView) → HasLaneIn j i is new → WasMoved a states views (so w') k j i is

    -- what is to be proved
    abbrev AreLinkedNow : Hands → Type 0
    AreLinkedNow w' = AreLinked a shelf new (so w')

    -- no place is not a place
    none-some : (place : ℕ) → ◌≡◌ {A = Option ℕ} None (Some place) → ⊥
    none-some place e = cc

    -- ---- what becomes of lanes
    -- the links of a lane stay
    stays-moved : (w' : Hands) (l : ℕ) → SetsLinks l 0 LinksStay x y → Keeps w' → AllMoved w'
    stays-moved w' l s keeps =
        set-moved a states views (so w') k x y here l 0 LinksStay s
        (stay-moved a states views (so w') k k l s.lane s.now s.linked.links (omega (arith, s.marks)) (λ e pardo first d. keeps k e d))
        (λ j i is other e pardo first d. keeps j e d)

    -- an epoch of a lane has a place, that it got now or had before
    places-moved : (w' : Hands) (l more p place : ℕ) (shape : LaneView → LaneView → Type 0) (s : SetsLinks l more shape x y) → links_of s.now.containers ≡ with_place p place (links_of s.lane.containers)
        → (length s.now.marks ≤ p → IsGivenInto a states views (so w') k l p) → Keeps w' → AllMoved w'
    places-moved w' l more p place shape s links given keeps =
        set-moved a states views (so w') k x y here l more shape s
        (placed-moved a states views (so w') k k l s.lane s.now s.lane.ended p place (links-rise a.plan r.plan m r.sound k l s.lane (lane-shown a shelf status states logs views r k l s.lane (lane-here a shelf status states logs views r k x here l s.lane s.in_it))) links refl
        (omega (arith, s.marks)) given (λ e pardo first d. keeps k e d)
        (λ e pardo first none. none-below a shelf status states logs views r (so w') k s.lane pardo (subst (λ z. HasLaneIn k z s.lane states) first (lane-here a shelf status states logs views r k x here l s.lane s.in_it)) e none))
        (λ j i is other e pardo first d. keeps j e d)

    -- ---- nothing is done, or the feeder brings something
    -- nothing is done
    pub quiet-linked : (w' : Hands) → w'.held ≡ w.held → w'.link ≡ w.link → LanesStay x y → AreLinkedNow w'
    quiet-linked w' held link stays =
        linked-same a shelf states views linked id w w' at k new r.plan
        (same-moved a states views (so w') k x y here stays (λ j i was is e pardo first d. keeps-same a shelf states views linked id w w' at held j e d))
        held link

    -- the feeder brings a bundle or a mark
    pub fed-linked : (w' : Hands) (stream : Stream) (more : ℕ) → w'.held ≡ w.held → w'.link ≡ w.link → SetsLinksAt (source a.plan stream) k more PlacesNext x y → AreLinkedNow w'
    fed-linked w' stream more held link s =
        linked-same a shelf states views linked id w w' at k new r.plan
        (places-moved w' s.lane more (length s.sets.lane.marks) s.sets.linked.place PlacesNext s.sets s.sets.linked.links
        (λ from y st is pardo to. absurd (sources_apart a.plan r.plan stream (record { node = k; lane = s.lane }) y st s.place_is is to))
        (keeps-same a shelf states views linked id w w' at held))
        held link

    -- ---- of what is in hand
    -- the lane that is changed, as it is now
    sets-now : (l more : ℕ) (shape : LaneView → LaneView → Type 0) (s : SetsLinks l more shape x y) (under : LaneView) → HasLaneIn k l under new → s.now ≡ under
    sets-now l more shape s under h =
        one-lane l y s.now under
        (ap (λ (ls : List LaneView). slice_get ls l) s.lanes ∙ slice_get-set_same x.own.lanes.items l s.lane s.now s.in_it)
        (one-lane-in k l new y under (set_here states k y (within states k x here)) h)

    -- what is put below stands where it was put
    puts-right : (h : Held) (place : ℕ) → SetsLinksAt (below a.plan (giver h)) k 0 (PutsAt (epoch_below h) place) x y → LeadsRight a new h (Some place)
    puts-right h place s other under is gives u from =
        let same : s.sets.now ≡ under = sets-now s.lane 0 (PutsAt (epoch_below h) place) s.sets under (under-here a (giver h) k s.lane new under s.place_is u) in
        subst (λ (z : LaneView). place_in (epoch_below h) (links_of z.containers) ≡ Some other) same (stands-place (epoch_below h) place s.sets.now s.sets.linked.stands ∙ is)

    -- a bundle is put below
    put-moved : (w' : Hands) (n p place : ℕ) (s : SetsLinksAt (below a.plan n) k 0 (PutsAt p place) x y) → IsGivenInto a states views (so w') k s.lane p → Keeps w' → AllMoved w'
    put-moved w' n p place s given keeps = ⊎_elim
        (λ same. set-moved a states views (so w') k x y here s.lane 0 (PutsAt p place) s.sets
        (stay-moved a states views (so w') k k s.lane s.sets.lane s.sets.now same (omega (arith, s.sets.marks)) (λ e pardo first d. keeps k e d))
        (λ j i is other e pardo first d. keeps j e d))
        (λ made. places-moved w' s.lane 0 p made.0 (PutsAt p place) s.sets made.1 (λ from. given) keeps)
        s.sets.linked.links

    -- the only transform that gives into the place below another is that one
    one-above : (n l j : ℕ) (st : Step) → below a.plan n ≡ Some (record { node = k; lane = l }) → slice_get a.plan.steps j ≡ Some st → st.down ≡ record { node = k; lane = l } → j ≡ n
    one-above n l j st goes is to =
        let b = bind_some (slice_get a.plan.steps n) (λ s. Some s.down) (record { node = k; lane = l }) goes in
        apart a.plan r.plan j n st b.0 is b.1 (to ∙ sym (same_Some b.0.down (record { node = k; lane = l }) b.2))

    -- ---- a bundle
    -- a bundle is taken
    pub taken-linked : (c : Claim) (link : Option ℕ) → c.node ≡ k → held_by w ≡ [] → SetsLinks c.lane 0 LinksStay x y → KnowsLink a k c.bundle.epoch link x → AreLinkedNow (hands_with (work_of c false) link w)
    taken-linked c link node empty s knows =
        linked-work a shelf states views linked id w w' at k new r.plan all c.node c.lane c.bundle.epoch c.bundle.floor c.bundle.number c.bundle.records false refl
        (λ place under is gives u from. stands-kept a states views (so w') k new r.plan all c.node c.bundle.epoch place under (stands place is gives) u from)
        (λ no. cc)
      where
        w' : Hands
        w' = hands_with (work_of c false) link w

        all : AllMoved w'
        all = stays-moved w' c.lane s (keeps-empty a shelf states views linked id w w' at empty)

        stands : (place : ℕ) → link ≡ Some place → is_pardo_at a c.node ≡ true → StandsUnder a states views (so w') c.node c.bundle.epoch place
        stands place is pardo under u from =
            let pardo_k : is_pardo_at a k ≡ true = subst (λ n. is_pardo_at a n ≡ true) node pardo in
            let in_first : HasLane 0 s.lane x.own = subst (λ l. HasLane l s.lane x.own) (first-lane a shelf status states logs views r k x here c.lane s.lane pardo_k s.in_it) s.in_it in
            let d = down-linked c.bundle.epoch place (links_of s.lane.containers) (sym (knows pardo_k s.lane in_first) ∙ is) in
            ⊎_elim (λ q. sym q ∙ d.2) (λ none. absurd (none-some place (sym none.0 ∙ d.2)))
            (linked.own c.node s.lane under pardo (subst (λ n. HasLaneIn n 0 s.lane states) (sym node) (lane-here a shelf status states logs views r k x here 0 s.lane in_first)) u c.bundle.epoch d.0 d.1 from)

    -- what it gives is delivered
    pub delivered-linked : (c : Claim) (place : ℕ) → held_by w ≡ work_of c false ∷ [] → SetsLinksAt (below a.plan c.node) k 0 (PutsAt c.bundle.epoch place) x y → AreLinkedNow (hands_with (work_of c true) (Some place) w)
    delivered-linked c place has s =
        linked-work a shelf states views linked id w w' at k new r.plan
        (put-moved w' c.node c.bundle.epoch place s given (keeps-working a shelf states views linked id w w' at c.node c.lane c.bundle.epoch c.bundle.floor c.bundle.number c.bundle.records has))
        c.node c.lane c.bundle.epoch c.bundle.floor c.bundle.number c.bundle.records true refl (puts-right (work_of c true) place s) (λ yes. (place, refl))
      where
        w' : Hands
        w' = hands_with (work_of c true) (Some place) w

        given : IsGivenInto a states views (so w') k s.lane c.bundle.epoch
        given j st is pardo to = subst (λ n. IsDelivered n c.bundle.epoch (so w')) (sym (one-above c.node s.lane j st s.place_is is to)) (record {
          id = id;
          pass = w';
          there = has-now a shelf states views linked id w w' at;
          lane = c.lane;
          floor = c.bundle.floor;
          number = c.bundle.number;
          records = c.bundle.records;
          held = refl;
        })

    -- it is finished
    pub finished-linked : (c : Claim) (delivered : Bool) → c.node ≡ k → held_by w ≡ work_of c delivered ∷ [] → SetsLinks c.lane 0 (FinishesLinked c.bundle.epoch (link_left a k w)) x y → AreLinkedNow (with_empty_hands w)
    finished-linked c delivered node has s =
        linked-empty a shelf states views linked id w w' at k new r.plan
        (set-moved a states views (so w') k x y here c.lane 0 (FinishesLinked c.bundle.epoch (link_left a k w)) s
        (finish-moved a states views (so w') k k c.lane s.lane s.now c.bundle.epoch (omega (arith, s.marks)) (link_left a k w) s.linked stands other known) elsewhere)
        refl
      where
        w' : Hands
        w' = with_empty_hands w

        held : w.held ≡ Some (work_of c delivered)
        held = only-listed w.held (work_of c delivered) has

        -- a delivered bundle in this pass's hand is the one that is finished
        one : (j l e floor number : ℕ) (records : List Record) → w.held ≡ Some (Work j l e floor number records true) → work_of c delivered ≡ Work j l e floor number records true
        one j l e floor number records is = same_Some (work_of c delivered) (Work j l e floor number records true) (sym held ∙ is)

        used : is_pardo_at a k ≡ true → link_left a k w ≡ w.link
        used pardo = ap (λ b. cond b w.link None) pardo

        stands : (place : ℕ) → link_left a k w ≡ Some place → is_pardo_at a k ≡ true → StandsUnder a states views (so w') k c.bundle.epoch place
        stands place is pardo = subst (λ n. StandsUnder a states views (so w') n c.bundle.epoch place) node
            (λ under u from. linked.in_hand id w (work_of c delivered) at held place under (sym (used pardo) ∙ is) (subst (λ n. is_pardo_at a n ≡ true) (sym node) pardo) u from)

        other : (e : ℕ) → e ≢ c.bundle.epoch → KeepsDelivered a states views (so w') k k c.lane s.lane s.now e
        other e ne pardo first = delivered-kept views id w w' at k e (λ l floor number records is. absurd (ne (sym (ap epoch_below (one k l e floor number records is)))))

        known : link_left a k w ≡ None → (e : ℕ) → KeepsDelivered a states views (so w') k k c.lane s.lane s.now e
        known none e pardo first = delivered-kept views id w w' at k e (λ l floor number records is.
            let o = linked.delivered k e (record { id = id; pass = w; there = at; lane = l; floor = floor; number = number; records = records; held = is }) in
            absurd (none-some o.0 (sym (sym (used pardo) ∙ none) ∙ o.1)))

        elsewhere : (j i : ℕ) (is : LaneView) → (((j ≡ k) × (i ≡ c.lane)) → ⊥) → (e : ℕ) → KeepsDelivered a states views (so w') k j i is is e
        elsewhere j i is apart_from e pardo first = delivered-kept views id w w' at j e (λ l floor number records has_it.
            let j_is : j ≡ k = sym (ap giver (one j l e floor number records has_it)) ∙ node in
            let pardo_k : is_pardo_at a k ≡ true = subst (λ n. is_pardo_at a n ≡ true) j_is pardo in
            absurd (apart_from (j_is, first ∙ sym (first-lane a shelf status states logs views r k x here c.lane s.lane pardo_k s.in_it))))

    -- ---- a closing
    -- a closing begins
    pub begun-linked : (c : Closing) (passed : Bool) → held_by w ≡ [] → SetsLinks c.lane 0 LinksStay x y → AreLinkedNow (hands_with (close_of c c.rows.items passed) None w)
    begun-linked c passed empty s =
        let w' : Hands = hands_with (close_of c c.rows.items passed) None w in
        linked-closing a shelf states views linked id w w' at k new r.plan (stays-moved w' c.lane s (keeps-empty a shelf states views linked id w w' at empty))
        c.node c.lane c.epoch c.serial c.floor c.mark c.rows.items passed refl (λ place under is gives u from. absurd (none-some place is))

    -- rows of it are put below
    pub rows-linked : (c : Closing) (rows left : List Record) (place : ℕ) → held_by w ≡ close_of c rows false ∷ [] → (is_pardo_at a c.node ≡ true → ⊥) → SetsLinksAt (below a.plan c.node) k 0 (PutsAt c.serial place) x y
        → AreLinkedNow (hands_with (close_of c left false) (Some place) w)
    rows-linked c rows left place has no_pardo s =
        let w' : Hands = hands_with (close_of c left false) (Some place) w in
        linked-closing a shelf states views linked id w w' at k new r.plan
        (put-moved w' c.node c.serial place s (λ j st is pardo to. absurd (no_pardo (subst (λ n. is_pardo_at a n ≡ true) (one-above c.node s.lane j st s.place_is is to) pardo)))
        (keeps-closing a shelf states views linked id w w' at c.node c.lane c.epoch c.serial c.floor c.mark rows false has))
        c.node c.lane c.epoch c.serial c.floor c.mark left false refl (puts-right (close_of c left false) place s)

    -- its mark is passed below
    pub passed-linked : (c : Closing) (rows : List Record) → held_by w ≡ close_of c rows false ∷ [] → SetsLinksAt (below a.plan c.node) k 1 PlacesNext x y → AreLinkedNow (hands_with (close_of c rows true) None w)
    passed-linked c rows has s =
        let w' : Hands = hands_with (close_of c rows true) None w in
        linked-closing a shelf states views linked id w w' at k new r.plan
        (places-moved w' s.lane 1 (length s.sets.lane.marks) s.sets.linked.place PlacesNext s.sets s.sets.linked.links (λ from. absurd (omega (arith, from, s.sets.marks)))
        (keeps-closing a shelf states views linked id w w' at c.node c.lane c.epoch c.serial c.floor c.mark rows false has))
        c.node c.lane c.epoch c.serial c.floor c.mark rows true refl (λ place under is gives u from. absurd (none-some place is))

    -- it ends
    pub ended-linked : (c : Closing) (rows : List Record) → c.node ≡ k → held_by w ≡ close_of c rows true ∷ [] → SetsLinks c.lane 0 DropsLink x y → AreLinkedNow (with_empty_hands w)
    ended-linked c rows node has s =
        let w' : Hands = with_empty_hands w in
        let closing = closing-here a shelf status states logs views r k x here id w at c rows true node has s.lane s.in_it in
        let ok : IsLane (bound_at a.plan k) (lane_of s.lane) = r.sound.lanes (record { node = k; lane = c.lane }) (lane_of s.lane) (lane-shown a shelf status states logs views r k c.lane s.lane (lane-here a shelf status states logs views r k x here c.lane s.lane s.in_it)) in
        let less : s.lane.ended < length s.lane.marks = (end-kept (bound_at a.plan k) (lane_of s.lane) ok closing).0 in
        let first = oldest (bound_at a.plan k) (lane_of s.lane) ok less in
        let keeps : Keeps w' = keeps-closing a shelf states views linked id w w' at c.node c.lane c.epoch c.serial c.floor c.mark rows true has in
        linked-empty a shelf states views linked id w w' at k new r.plan
        (set-moved a states views (so w') k x y here c.lane 0 DropsLink s
        (end-moved a states views (so w') k k c.lane s.lane s.now s.lane.ended (links-rise a.plan r.plan m r.sound k c.lane s.lane (lane-shown a shelf status states logs views r k c.lane s.lane (lane-here a shelf status states logs views r k x here c.lane s.lane s.in_it))) s.linked.links (omega (arith, s.marks)) first (omega (arith, first.epoch_is, less)) (λ e pardo zero d. keeps k e d))
        (λ j i is other e pardo zero d. keeps j e d))
        refl
