-- An event of one node, seen in what all nodes show.
use Rattle.std.proofs.Common.{◌≡◌, ℕ, suc, zero, true, List, [], ◌∷◌, ◌++◌, length, map, Some, None, Option, cond, sym, refl, ap, subst, ◌∙◌, arith, ⊎_elim}
use Rattle.std.specs.Prelude.{◌≢◌, Bool}
use Rattle.std.specs.List.{slice_get, slice_set}
use Rattle.std.proofs.lemmas.Bool.{cases_eq}
use Rattle.std.proofs.lemmas.List.{length-set, map-set}
use Rattle.std.proofs.lemmas.Option.{same_Some, get_or_from_slice_get}
use Rattle.sb_node.specs.base.records.declared.item.Record.{Record}
use Rattle.sb_node.specs.base.records.Reading.{◌>>=◌}
use Rattle.sb_node.specs.base.pipeline.Shapes.{Shape}
use Rattle.sb_node.specs.base.pipeline.Plans.{IsPlan}
use Rattle.sb_node.specs.base.pipeline.Operators.{operator_at}
use Rattle.sb_tally.specs.core.declared.moment.Node.{Node}
use Rattle.sb_tally.specs.core.declared.moment.Moment.{Moment}
use Rattle.sb_tally.specs.core.declared.held.Held.{Held}
use Rattle.sb_tally.specs.core.declared.event.Event.{Event}
use Rattle.sb_tally.specs.core.containers.Choices.{only_if, first_and_rest}
use Rattle.sb_tally.specs.core.Events.{after, run}
use Rattle.sb_tally.specs.core.Laws.{place_of, concerns}
use Rattle.sb_tally.specs.core.Moments.{with_held, node_at}
use Rattle.sb_tally.specs.core.Parts.{Part, part_after, held_after, with_part}
use Rattle.sb_tally.specs.core.Soundness.{IsSound}
use Rattle.sb_tally.proofs.core.sound.AfterSound.{events-keep_sound}
use Rattle.sb_tally.proofs.core.exact.Nodes.{slice_get-set_same, slice_get-set_other}
use Rattle.sb_tally.proofs.core.parts.PartsLaw.{parts-are_events, held-parts_are_events}
use Rattle.sb_node.specs.declared.state.NodeState.{NodeState}
use Rattle.sb_node.specs.diary.declared.event.DiaryEvent.{DiaryEvent}
use Rattle.sb_tally.specs.Written.{diaries_with, line_after, held_line}
use Rattle.sb_tally.specs.Keeping.{line_at, diaries_with_line, diaries_after, if_some, diaries_by}
use Rattle.sb_shown.specs.Showing.{ShowsNode, Stands, Reaches, diaries_of}
use Rattle.sb_shown.proofs.Calm.{node_is}

-- a chain that is known step by step
pub chain : {X Y : Type 0} (o : Option X) (f : X → Option Y) (x : X) (y : Y) → o ≡ Some x → f x ≡ Some y → (o >>= f) ≡ Some y
chain o f x y h k = ap (λ o. o >>= f) h ∙ k

pub passing : {X : Type 0} (b : Bool) (o : Option X) (x : X) → b ≡ true → o ≡ Some x → only_if b o ≡ Some x
passing b o x h k = ap (λ b. cond b o None) h ∙ k

pub there-too : {X Y : Type 0} (xs : List X) (ys : List Y) (k : ℕ) (x : X) → length ys ≡ length xs → slice_get xs k ≡ Some x → (y : Y) × (slice_get ys k ≡ Some y)
there-too [] ys k x e h = cc
there-too (z ∷ xs) [] k x e h = absurd (omega (arith, e))
there-too (z ∷ xs) (y ∷ ys) zero x e h = (y, refl)
there-too (z ∷ xs) (y ∷ ys) (suc k) x e h = there-too xs ys k x (omega (arith, e)) h

pub get-map : {X Y : Type 0} (f : X → Y) (xs : List X) (k : ℕ) (x : X) → slice_get xs k ≡ Some x → slice_get (map f xs) k ≡ Some (f x)
get-map f [] k x h = cc
get-map f (z ∷ xs) zero x h = ap (λ o. o >>= λ z. Some (f z)) h
get-map f (z ∷ xs) (suc k) x h = get-map f xs k x h

-- a line more in the diary of a node
pub told-one : (nodes : List NodeState) (k : ℕ) (own with : NodeState) (line : DiaryEvent) → slice_get nodes k ≡ Some own → with.diary.events ≡ own.diary.events ++ line ∷ []
    → diaries_of (slice_set nodes k with) ≡ diaries_with k line (diaries_of nodes)
told-one nodes k own with line at more =
    map-set (λ (n : NodeState). n.diary.events) nodes k with
    ∙ ap (slice_set (diaries_of nodes) k) (more ∙ ap (λ d. d ++ line ∷ []) (sym (get_or_from_slice_get (diaries_of nodes) k own.diary.events [] (get-map (λ (n : NodeState). n.diary.events) nodes k own at))))

-- the diaries after one event, of which the line is known
pub told-by : (plan : Shape) (m later : Moment) (e : Event) (k : ℕ) (line : DiaryEvent) (ds : List (List DiaryEvent)) → after plan m e ≡ Some later → place_of plan e ≡ Some k
    → line_at plan m.bundle e (first_and_rest (concerns e) m.held) (node_at m k) ≡ line → diaries_with k line ds ≡ diaries_by plan (e ∷ []) m ds
told-by plan m later e k line ds is place line_is =
    ap (λ x. diaries_with k x ds) (sym line_is) ∙ (λ i. diaries_with_line (sym place i) plan m e ds) ∙ (λ i. if_some (sym is i) (λ x. diaries_by plan [] x (diaries_after plan m e ds)) ds)

module _ (plan : Shape) (is_plan : IsPlan plan) (bundle : ℕ) (nodes : List NodeState) (held : List Held) (rows : List Record) (m : Moment) (s : Stands plan bundle nodes held rows m) (k : ℕ) (own with : NodeState) (n : Node) (p : Part)
    (at : slice_get nodes k ≡ Some own) (at_m : slice_get m.nodes k ≡ Some n) where
  -- the nodes with this one another
  each : (rest : List Held) (later : Moment) → later ≡ with_part k rest m p → ShowsNode (operator_at (slice_get plan.steps k)) with p.node
      → (j : ℕ) (x : NodeState) (y : Node) → slice_get (slice_set nodes k with) j ≡ Some x → slice_get later.nodes j ≡ Some y → ShowsNode (operator_at (slice_get plan.steps j)) x y
  each rest later is shows j x y h g = ⊎_elim here elsewhere (cases_eq j k)
    where
      g' : slice_get (slice_set m.nodes k p.node) j ≡ Some y
      g' = sym (ap (λ (z : Moment). slice_get z.nodes j) is) ∙ g

      here : j ≡ k → ShowsNode (operator_at (slice_get plan.steps j)) x y
      here e =
          let a : with ≡ x = same_Some with x (sym (slice_get-set_same nodes k own with at) ∙ sym (ap (slice_get (slice_set nodes k with)) e) ∙ h) in
          let b : p.node ≡ y = same_Some p.node y (sym (slice_get-set_same m.nodes k n p.node at_m) ∙ sym (ap (slice_get (slice_set m.nodes k p.node)) e) ∙ g') in
          subst (λ z. z) (λ i. ShowsNode (operator_at (slice_get plan.steps (sym e i))) (a i) (b i)) shows

      elsewhere : j ≢ k → ShowsNode (operator_at (slice_get plan.steps j)) x y
      elsewhere ne = s.each j x y (sym (slice_get-set_other nodes k j with ne) ∙ h) (sym (slice_get-set_other m.nodes k j p.node ne) ∙ g')

  reached : (e : Event) (rest : List Held) (line : DiaryEvent) → after plan m e ≡ Some (with_part k rest m p) → place_of plan e ≡ Some k → with.diary.events ≡ own.diary.events ++ line ∷ [] → line_at plan bundle e (first_and_rest (concerns e) m.held) n ≡ line
      → (IsSound plan (with_part k rest m p) → ShowsNode (operator_at (slice_get plan.steps k)) with p.node) → Reaches plan bundle (e ∷ []) m (diaries_of nodes) (slice_set nodes k with) (rest ++ p.held) (rows ++ p.rows)
  reached e rest line is place more line_is shows =
      let sound = (events-keep_sound plan is_plan m (with_part k rest m p) e is s.sound).0 in
      record {
        later = with_part k rest m p;
        runs = ap (λ o. o >>= run plan []) is;
        told =
            told-one nodes k own with line at more
            ∙ told-by plan m (with_part k rest m p) e k line (diaries_of nodes) is place
            ((λ i. line_at plan (s.bundle_is i) e (first_and_rest (concerns e) m.held) (node_is m k n at_m i)) ∙ line_is);
        stands = record {
          bundle_is = s.bundle_is;
          count = omega (arith, s.count, length-set m.nodes k p.node, length-set nodes k with);
          each = each rest (with_part k rest m p) refl (shows sound);
          held_is = refl;
          rows_is = ap (λ l. l ++ p.rows) s.rows_is;
          sound = sound;
        };
      }

  -- of an event that concerns nothing held, where nothing is
  pub event-free : (e : Event) (line : DiaryEvent) → held ≡ [] → place_of plan e ≡ Some k → part_after plan bundle e n ≡ Some p → with.diary.events ≡ own.diary.events ++ line ∷ [] → line_after plan e n ≡ line
      → (IsSound plan (with_part k held m p) → ShowsNode (operator_at (slice_get plan.steps k)) with p.node)
      → Reaches plan bundle (e ∷ []) m (diaries_of nodes) (slice_set nodes k with) (held ++ p.held) (rows ++ p.rows)
  event-free e line none place h more line_is shows =
      reached e held line (parts-are_events plan m e k n p s.sound place at_m (ap (λ b. part_after plan b e n) s.bundle_is ∙ h) ∙ ap (λ l. Some (with_part k l m p)) s.held_is) place more
      ((λ i. line_at plan bundle e (first_and_rest (concerns e) ((s.held_is ∙ none) i)) n) ∙ line_is) shows

  -- and of the one thing held
  pub event-held : (e : Event) (h : Held) (line : DiaryEvent) → held ≡ h ∷ [] → concerns e h ≡ true → place_of plan e ≡ Some k → held_after plan bundle e h n ≡ Some p → with.diary.events ≡ own.diary.events ++ line ∷ [] → held_line plan bundle e h n ≡ line
      → (IsSound plan (with_part k [] m p) → ShowsNode (operator_at (slice_get plan.steps k)) with p.node)
      → Reaches plan bundle (e ∷ []) m (diaries_of nodes) (slice_set nodes k with) p.held (rows ++ p.rows)
  event-held e h line only c place g more line_is shows =
      let same : with_held (h ∷ []) m ≡ m = λ i. record m { held = sym (s.held_is ∙ only) i } in
      reached e [] line (ap (λ z. after plan z e) (sym same) ∙ held-parts_are_events plan m e h [] k n p c place at_m (ap (λ b. held_after plan b e h n) s.bundle_is ∙ g)) place more
      ((λ i. line_at plan bundle e (first_and_rest (concerns e) ((s.held_is ∙ only) i)) n) ∙ (λ i. line_at plan bundle e (cond (c i) (Some (h, [])) (first_and_rest (concerns e) [] >>= λ q. Some (q.0, h ∷ q.1))) n) ∙ line_is) shows
