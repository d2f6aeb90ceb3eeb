-- The rule holds of the nodes of a new hand.
use Rattle.std.proofs.Common.{◌≡◌, ℕ, zero, suc, ◌+◌, ◌≤◌, Bool, true, false, List, [], ◌∷◌, ◌++◌, length, map, replicate, sym, refl, ap, ◌∙◌, subst, arith, Option, Some, None}
use Rattle.std.specs.Prelude.{slice_get, sum_by}
use Rattle.std.specs.List.{AllByRecursion}
use Rattle.std.proofs.lemmas.List.Elements.{All-from_recursion}
use Rattle.std.proofs.lemmas.List.Sums.{sum_by-cons}
use Rattle.std.proofs.lemmas.Option.{same_Some, slice_get_within}
use lib.ListN.{length-map}
use mathlib.Core.Option.{some-ne-none}
use Rattle.sb_hand.specs.base.records.declared.item.Stream.{Stream}
use Rattle.sb_hand.specs.base.records.declared.item.Stream.TheVariants.{A, B}
use Rattle.sb_hand.specs.base.pipeline.declared.transform.Step.{Step}
use Rattle.sb_hand.specs.base.pipeline.Plans.{IsPlan}
use Rattle.sb_hand.specs.base.pipeline.Operators.{operator_at, operator_of, lanes_of}
use Rattle.sb_hand.specs.base.pipeline.Operators.Operator.{Sink}
use Rattle.sb_hand.specs.core.declared.held.Held.{Held}
use Rattle.sb_hand.specs.core.containers.declared.container.CoreLane.{CoreLane}
use Rattle.sb_hand.specs.core.declared.moment.Node.{Node}
use Rattle.sb_hand.specs.core.Exactness.{IsExact}
use Rattle.sb_hand.specs.core.Moments as moments
use Rattle.sb_hand.specs.core.Soundness.{IsSound}
use Rattle.sb_hand.proofs.core.sound.FirstMoment.{at_node, first-exact, node_count}
use Rattle.sb_hand.specs.diary.declared.event.DiaryEvent.{DiaryEvent}
use Rattle.sb_hand.specs.tally.Keeping as keeping
use Rattle.sb_hand.specs.tally.Tally as tally
use Rattle.sb_hand.specs.tally.Tally.{IsTallied}
use Rattle.sb_hand.proofs.tally.First.{first-is_tallied}
use Rattle.sb_hand.specs.lane.LaneView.{LaneView, lane_of}
use Rattle.sb_hand.specs.lane.Placed.{Placed, conts_of}
use Rattle.sb_hand.specs.node.declared.state.NodeState.{NodeState}
use Rattle.sb_hand.specs.Hands.{HandView, IsNewHand}
use Rattle.sb_hand.specs.Showing.{ShowsNode, Stands, diaries_of, settings_for}
use Rattle.sb_hand.proofs.Single.{get-map}
use Rattle.sb_shared.specs.turn.Held.{on_place}
use Rattle.sb_shared.specs.turn.Passes.{AllShort}
use Rattle.sb_shared.specs.turn.Turning.{log_of}
use Rattle.sb_shared.proofs.turn.Held.{flat_none}
use Rattle.sb_shared.specs.declared.telling.Change.{Change}
use Rattle.sb_shared.specs.declared.telling.Piece.{Piece}
use Rattle.sb_shared.specs.declared.telling.Setting.{Setting}
use Rattle.sb_shared.specs.Doings.{replay}
use Rattle.sb_cascade.specs.Ends.{fresh_state}
use Rattle.sb_shared.specs.SharedNodes.{SharedView, lines_of, owed_lines, owed_in}
use Rattle.sb_shared.specs.Shown.{ShowsMoment, ShowsPart, beginning_of, diaries_in, moment_of, settings_in}
use Rattle.sb_shared.specs.Shown as shown
use Rattle.sb_shared.specs.Views.{all_in_hand, fed_bundle, stream_feed, feed_of, first_hands, work_on}
use Rattle.sb_shared.specs.Linked.{HasLaneIn}
use Rattle.sb_shared.proofs.links.LinkedSteps.{are-empty, bare-linked}
use Rattle.sb_shared.proofs.entered.Lookups.{image_at}

-- no node has an event
no_log : (n k : ℕ) → log_of {C = Change} (replicate n []) k ≡ []
no_log zero k = refl
no_log (suc n) zero = refl
no_log (suc n) (suc k) = no_log n k

-- one of many alike
one_of : {X : Type 0} (n k : ℕ) (x y : X) → slice_get (replicate n x) k ≡ Some y → y ≡ x
one_of zero k x y e = cc
one_of (suc n) zero x y e = sym (same_Some x y e)
one_of (suc n) (suc k) x y e = one_of n k x y e

-- the shelf at the beginning
abbrev empty_shelf : List (Option Piece)
empty_shelf = replicate 64 None

-- nothing is in hand
none_laid : all_in_hand (first_hands ∷ []) empty_shelf ≡ []
none_laid = flat_none (on_place work_on) 64 None refl

-- the diaries of fresh states are those of the nodes
diaries_fresh : (owns : List NodeState) → diaries_in (map fresh_state owns) ≡ diaries_of owns
diaries_fresh [] = refl
diaries_fresh (own ∷ owns) = ap (λ l. own.diary.events ∷ l) (diaries_fresh owns)

-- no bundle came
no_bundles : (s : Stream) → [] ≡ map fed_bundle (stream_feed s first_hands.feed).bundles
no_bundles A = refl
no_bundles B = refl

-- no mark came
no_marks : (s : Stream) → [] ≡ (stream_feed s first_hands.feed).marks
no_marks A = refl
no_marks B = refl

-- nothing was fed
nothing_came : keeping.no_feed ≡ feed_of first_hands.feed
nothing_came = λ i. record { bundles = λ s. no_bundles s i; marks = λ s. no_marks s i; drained = 0 }

-- what node k of a new hand was made with
pub setting_at : (keeps : Bool) (pending : ℕ) (steps : List Step) (k : ℕ) → k ≤ length steps
    → slice_get (map (λ s. settings_for keeps pending (operator_of s.kind)) steps ++ settings_for keeps pending Sink ∷ []) k ≡ Some (settings_for keeps pending (operator_at (slice_get steps k)))
setting_at keeps pending [] zero b = refl
setting_at keeps pending [] (suc k) b = absurd (omega arith)
setting_at keeps pending (s ∷ steps) zero b = refl
setting_at keeps pending (s ∷ steps) (suc k) b = setting_at keeps pending steps k (omega arith)

module _ (a : Setting) (h : HandView) (ok : IsPlan a.plan) (new : IsNewHand a.plan a.bundle a.pending a.keeps h) where
  -- the nodes of the first moment
  abbrev parts : List Node
  parts = (moments.first a.plan a.bundle).nodes

  -- the nodes show the first moment
  stands : Stands a.plan a.bundle h.nodes [] [] (moments.first a.plan a.bundle)
  stands = subst (λ z. z) (λ i. Stands (new.plan_is i) (new.bundle_is i) h.nodes [] (new.tray i) (moments.first a.plan a.bundle)) new.shows

  -- a state for each transform and the sink
  pub fresh_count : length (map fresh_state h.nodes) ≡ length a.plan.steps + 1
  fresh_count = length-map h.nodes fresh_state ∙ sym stands.count ∙ node_count a.plan.steps

  -- as many as turns can have
  pub fresh_few : (1 ≤ length (map fresh_state h.nodes)) × (length (map fresh_state h.nodes) ≤ 13)
  fresh_few = let most : length a.plan.steps ≤ 12 = ok.most in (omega (arith, fresh_count), omega (arith, fresh_count, most))

  -- the node that a fresh state is of
  record IsFresh (k : ℕ) (own : NodeState) : Type 0 where
    within : k ≤ length a.plan.steps
    shows : ShowsNode (shown.operator_of a k) own (moments.empty_node (shown.operator_of a k))
    at : slice_get parts k ≡ Some (moments.empty_node (shown.operator_of a k))
    no_lines : own.diary.events ≡ []

  -- each node of a new hand is one
  fresh_at : (k : ℕ) (own : NodeState) → slice_get h.nodes k ≡ Some own → IsFresh k own
  fresh_at k own there =
      let near = slice_get_within h.nodes k own there in
      let many = sym stands.count ∙ node_count a.plan.steps in
      let b : k ≤ length a.plan.steps = omega arith in
      let at = at_node a.plan.steps k b in record {
        within = b;
        shows = stands.each k own (moments.empty_node (shown.operator_of a k)) there at;
        at = at;
        no_lines = one_of (length a.plan.steps + 1) k [] own.diary.events
            (ap (λ l. slice_get l k) (sym new.diaries) ∙ get-map (λ (n : NodeState). n.diary.events) h.nodes k own there);
      }

  -- no lane has a container
  none_there : (k l : ℕ) (lane : LaneView) → HasLaneIn k l lane (map fresh_state h.nodes) → lane.containers ≡ []
  none_there k l lane has =
      let i = image_at fresh_state h.nodes k has.state has.there in
      let f = fresh_at k i.0 i.1 in
      let in_it : slice_get i.0.lanes.items l ≡ Some lane = ap (λ (x : SharedView). slice_get x.own.lanes.items l) i.2 ∙ has.in_it in
      let empty : lane_of lane ≡ moments.empty_lane = one_of (lanes_of (shown.operator_of a k)) l moments.empty_lane (lane_of lane)
      (ap (λ ls. slice_get ls l) f.shows.lanes ∙ get-map lane_of i.0.lanes.items l lane in_it) in
      unmapped lane.containers (ap (λ (c : CoreLane). c.conts) empty)
    where
      unmapped : (xs : List Placed) → conts_of xs ≡ [] → xs ≡ []
      unmapped [] e = refl
      unmapped (x ∷ xs) e = cc

  -- the rule at the start
  pub starts : (xs : List SharedView) → xs ≡ map fresh_state h.nodes → ShowsMoment a (replicate 64 None) 0 xs (replicate (length xs) []) (first_hands ∷ [])
  starts xs is = subst (λ (l : List SharedView). ShowsMoment a empty_shelf 0 l (replicate (length l) []) (first_hands ∷ [])) (sym is) record {
    plan = ok;
    parts = parts;
    rows = [];
    feeder = first_hands;
    as_many = length-map h.nodes fresh_state ∙ sym stands.count;
    shown = λ k x e. let i = image_at fresh_state h.nodes k x e in let f = fresh_at k i.0 i.1 in
        subst
        (λ (x : SharedView). (p : Node) × (slice_get parts k ≡ Some p) × ShowsPart (shown.operator_of a k) x p
        × (replay a k (log_of (replicate (length (map fresh_state h.nodes)) []) k) (beginning_of a k) ≡ Some (record { node = p; lines = x.own.diary.events })))
        i.2 (
          moments.empty_node (shown.operator_of a k),
          f.at,
          record { lanes = f.shows.lanes; closings = f.shows.closings; kept = λ _. f.shows.kept },
          ap (λ l. replay a k l (beginning_of a k)) (no_log (length (map fresh_state h.nodes)) k)
              ∙ ap (λ l. Some (record { node = moments.empty_node (shown.operator_of a k); lines = l })) (sym f.no_lines),
        );
    settings = λ k x e. let i = image_at fresh_state h.nodes k x e in let f = fresh_at k i.0 i.1 in
        ap settings_in (sym i.2)
        ∙ same_Some (settings_in (fresh_state i.0)) (settings_for a.keeps a.pending (shown.operator_of a k))
        (sym (get-map (λ own. settings_in (fresh_state own)) h.nodes k i.0 i.1) ∙ ap (λ l. slice_get l k) new.settings ∙ setting_at a.keeps a.pending a.plan.steps k f.within);
    spent = λ k x e s. let i = image_at fresh_state h.nodes k x e in
        let off : false ≡ true = ap (λ (x : SharedView). x.spent) i.2 ∙ s in absurd (cc off);
    first = refl;
    feeds = refl;
    others = λ j w e. absurd (some-ne-none w (sym e));
    word = λ low. refl;
    sound = subst (λ l. IsSound a.plan (moment_of a.bundle parts l [])) (sym none_laid) stands.sound;
    exact = subst (λ (t : List Held × tally.Feed). IsExact a.plan (moment_of a.bundle parts t.0 []) (tally.records_of_feed t.1)) (λ i. (sym none_laid i, nothing_came i))
        (first-exact a.plan ok a.bundle);
    tallied = subst (λ (t : List Held × (List (List DiaryEvent) × tally.Feed)). IsTallied a.plan (moment_of a.bundle parts t.0 []) t.1.0 t.1.1)
        (λ i. (sym none_laid i, (sym (diaries_fresh h.nodes ∙ new.diaries) i, nothing_came i)))
        (first-is_tallied a.plan ok a.bundle stands.sound.bundle.0 stands.sound.bundle.1);
    tray = λ x e. let i = image_at fresh_state h.nodes (length a.plan.steps) x e in ap (λ (x : SharedView). x.tray) i.2;
    later = λ x e. tt;
    linked = bare-linked a empty_shelf (map fresh_state h.nodes) (first_hands ∷ []) none_there (are-empty 64 0 first_hands refl);
  }

  -- no fresh state has a line
  pub fresh_short : AllShort lines_of (map fresh_state h.nodes)
  fresh_short = each_short h.nodes (λ k own there. (fresh_at k own there).no_lines)
    where
      each_short : (owns : List NodeState) → ((k : ℕ) (own : NodeState) → slice_get owns k ≡ Some own → own.diary.events ≡ []) → AllShort lines_of (map fresh_state owns)
      each_short owns none = All-from_recursion (λ x. lines_of x ≤ 1152921504606846976) (map fresh_state owns) (go owns none)
        where
          go : (owns : List NodeState) → ((k : ℕ) (own : NodeState) → slice_get owns k ≡ Some own → own.diary.events ≡ []) → AllByRecursion (λ x. lines_of x ≤ 1152921504606846976) (map fresh_state owns)
          go [] none = tt
          go (own ∷ owns) none = (let few : length own.diary.events ≡ 0 = ap length (none 0 own refl) in omega arith, go owns (λ k x e. none (suc k) x e))

  -- no fresh node has a line to write
  pub fresh_owes_none : (k : ℕ) (own : NodeState) → slice_get h.nodes k ≡ Some own → owed_lines own.lanes.items ≡ 0
  fresh_owes_none k own there =
      owed_as own.lanes.items
      ∙ ap (sum_by owed_on) (sym (fresh_at k own there).shows.lanes)
      ∙ none_owed (lanes_of (shown.operator_of a k))
    where
      owed_on : CoreLane → ℕ
      owed_on lane = sum_by owed_in lane.conts

      owed_as : (lanes : List LaneView) → owed_lines lanes ≡ sum_by owed_on (map lane_of lanes)
      owed_as [] = refl
      owed_as (l ∷ lanes) = omega (arith, sum_by-cons (λ lane. sum_by owed_in (conts_of lane.containers)) l lanes, sum_by-cons owed_on (lane_of l) (map lane_of lanes), owed_as lanes)

      none_owed : (n : ℕ) → sum_by owed_on (replicate n moments.empty_lane) ≡ 0
      none_owed zero = refl
      none_owed (suc n) = omega (arith, sum_by-cons owed_on moments.empty_lane (replicate n moments.empty_lane), none_owed n)
