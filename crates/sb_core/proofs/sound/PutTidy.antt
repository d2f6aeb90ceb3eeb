-- A bundle comes into a lane: the moment stays tidy.
use Rattle.sb_containers.specs.base.ElementLemmas.{every}
use Rattle.std.proofs.Common.{◌≡◌, ℕ, suc, zero, ◌+◌, ◌≤◌, Bool, true, false, List, [], ◌∷◌, Some, sym, refl, ap, subst, ◌∙◌, ⊎_elim, set as slice_set}
use Rattle.std.specs.Prelude.{◌||◌, count_by}
use Rattle.std.specs.List.{slice_get, list_any, AllByRecursion}
use Rattle.std.proofs.lemmas.Bool.{cases_eq}
use Rattle.std.proofs.Math.Bool.{or-true}
use Rattle.sb_containers.specs.base.records.declared.item.Record.{Record}
use Rattle.sb_containers.specs.declared.container.Cont.{Cont}
use Rattle.sb_containers.specs.declared.container.CoreLane.{CoreLane}
use Rattle.sb_containers.specs.base.records.declared.item.Stream.{Stream}
use Rattle.sb_containers.specs.base.pipeline.declared.transform.Down.{Down}
use Rattle.sb_core.specs.declared.moment.Node.{Node}
use Rattle.sb_containers.specs.base.pipeline.declared.transform.Step.{Step}
use Rattle.sb_containers.specs.base.pipeline.Shapes.{Shape, source}
use Rattle.sb_core.specs.declared.moment.Moment.{Moment}
use Rattle.sb_core.specs.declared.held.Held.{Held}
use Rattle.sb_containers.specs.base.pipeline.Operators.{Operator, operator_at}
use Rattle.sb_containers.specs.base.pipeline.Plans.{IsPlan}
use Rattle.sb_containers.specs.base.pipeline.Operators.Operator.{ParDo, Windowed, Sink}
use Rattle.sb_core.specs.Moments.{is_work, lane_at, set_lane, set_node, with_held, node_at}
use Rattle.sb_containers.specs.Lanes.{next_epoch, with_bundle, with_arrival}
use Rattle.sb_core.specs.Holdings.{is_unpassed, IsCloseOf}
use Rattle.sb_core.specs.Soundness.{has_cont, IsOpenAtSource, IsOpenBelow}
use Rattle.sb_core.proofs.sound.Orderly.{IsTidy}
use Rattle.sb_containers.proofs.Stays.{IsKept, mark-kept}
use Rattle.sb_core.proofs.exact.Nodes.{node_at-same, node_at-set_same, node_at-set_other, lane_at-is}
use Rattle.sb_core.proofs.sound.TidyLanes.{numbered-arrival, outs-arrival, All-in_epoch, has-in_epoch}
use Rattle.sb_core.proofs.sound.TidyFrame.{closes_still, tidy_still}

-- ---- what is open below, where lanes and what is held change
pub open_moves : (o : Operator) (lanes later : List CoreLane) (unpassed then : Bool) (next e f : ℕ) → (list_any (has_cont e f) lanes ≡ true → list_any (has_cont e f) later ≡ true) → (unpassed ≡ true → then ≡ true)
    → IsOpenBelow o lanes unpassed next e f → IsOpenBelow o later then next e f
open_moves (ParDo op) lanes later unpassed then next e f has up h = has h
open_moves (Windowed g) lanes later unpassed then next e f has up h = (up h.0, h.1)
open_moves Sink lanes later unpassed then next e f has up h = h

has_set : (e f : ℕ) (lanes : List CoreLane) (l : ℕ) (lane with : CoreLane) → slice_get lanes l ≡ Some lane → (has_cont e f lane ≡ true → has_cont e f with ≡ true) → list_any (has_cont e f) lanes ≡ true → list_any (has_cont e f) (slice_set lanes l with) ≡ true
has_set e f [] l lane with at up h = cc
has_set e f (x ∷ lanes) zero lane with at up h = let k : x ≡ lane = cc in by_case (has_cont e f x) refl h (subst (λ (x : CoreLane). has_cont e f x ≡ true → has_cont e f with ≡ true) (sym k) up)
  where
    by_case : (b : Bool) → has_cont e f x ≡ b → (b || list_any (has_cont e f) lanes) ≡ true → (has_cont e f x ≡ true → has_cont e f with ≡ true) → (has_cont e f with || list_any (has_cont e f) lanes) ≡ true
    by_case true q h up = ap (λ b. b || list_any (has_cont e f) lanes) (up q)
    by_case false q h up = ap (λ b. has_cont e f with || b) h ∙ or-true (has_cont e f with)
has_set e f (x ∷ lanes) (suc l) lane with at up h = by_case (has_cont e f x) h (λ k. has_set e f lanes l lane with at up k)
  where
    by_case : (b : Bool) → (b || list_any (has_cont e f) lanes) ≡ true → (list_any (has_cont e f) lanes ≡ true → list_any (has_cont e f) (slice_set lanes l with) ≡ true) → (b || list_any (has_cont e f) (slice_set lanes l with)) ≡ true
    by_case true h ih = refl
    by_case false h ih = ih h

pub lanes_move : (m : Moment) (n l : ℕ) (node new : Node) (lane with : CoreLane) → slice_get m.nodes n ≡ Some node → slice_get node.lanes l ≡ Some lane → new.lanes ≡ slice_set node.lanes l with → (held : List Held)
    → (k e f : ℕ) → (has_cont e f lane ≡ true → has_cont e f with ≡ true) → list_any (has_cont e f) (node_at m k).lanes ≡ true → list_any (has_cont e f) (node_at (set_node n new (with_held held m)) k).lanes ≡ true
lanes_move m n l node new lane with at in_it lanes held k e f up h = ⊎_elim
    (λ q. ap (λ k. list_any (has_cont e f) (node_at (set_node n new (with_held held m)) k).lanes) q ∙ ap (λ (x : Node). list_any (has_cont e f) x.lanes) (node_at-set_same m n node new at) ∙ ap (list_any (has_cont e f)) lanes
    ∙ has_set e f node.lanes l lane with in_it up (ap (λ (x : Node). list_any (has_cont e f) x.lanes) (sym (node_at-same m n node new at)) ∙ ap (λ k. list_any (has_cont e f) (node_at m k).lanes) (sym q) ∙ h))
    (λ ne. ap (λ (x : Node). list_any (has_cont e f) x.lanes) (node_at-set_other m n node new at k ne) ∙ h) (cases_eq k n)

-- ---- a bundle comes, in any epoch
pub put-tidy : (plan : Shape) (is_plan : IsPlan plan) (m : Moment) (d : Down) (node : Node) (lane : CoreLane) (epoch floor : ℕ) (records : List Record) (held : List Held)
    → slice_get m.nodes d.node ≡ Some node → slice_get node.lanes d.lane ≡ Some lane → IsKept lane (with_arrival epoch floor records lane) → IsTidy plan m
    → ((k l i : ℕ) → count_by (is_work k l i) held ≡ count_by (is_work k l i) m.held)
    → ((k : ℕ) → list_any (is_unpassed k) held ≡ list_any (is_unpassed k) m.held)
    → ((s : Stream) → source plan s ≡ Some d → IsOpenAtSource (next_epoch lane) epoch floor)
    → ((k : ℕ) (s : Step) → slice_get plan.steps k ≡ Some s → s.down ≡ d → IsOpenBelow (operator_at (slice_get plan.steps k)) (node_at m k).lanes (list_any (is_unpassed k) m.held) (next_epoch lane) epoch floor)
    → AllByRecursion (IsCloseOf plan m) held
    → IsTidy plan (set_node d.node (set_lane d.lane (with_arrival epoch floor records lane) node) (with_held held m))
put-tidy plan is_plan m d node lane epoch floor records held at in_it kept tidy works unpassed source_here below_here closes =
    tidy_still plan m d.node d.lane node (set_lane d.lane (with_arrival epoch floor records lane) node) lane (with_arrival epoch floor records lane) at in_it refl (mark-kept kept) held tidy
    (numbered-arrival epoch floor records lane (tidy.numbers d lane was))
    (λ i. outs-arrival epoch floor records lane i ∙ tidy.outs d lane was i ∙ sym (works d.node d.lane i))
    (λ e ne i. works e.node e.lane i)
    (λ s is. All-in_epoch epoch floor change (λ c. refl) (λ c. refl) (λ e f. next_epoch lane ≤ e → IsOpenAtSource (next_epoch lane) e f) (λ _. source_here s is) lane.conts (tidy.open_source s d lane is was))
    (λ k s is e. every (λ c z b. moves k (next_epoch lane) c.epoch c.floor (z b)) (in_epoch_of lane.conts)
    (All-in_epoch epoch floor change (λ c. refl) (λ c. refl) (λ e f. next_epoch lane ≤ e → IsOpenBelow (operator_at (slice_get plan.steps k)) (node_at m k).lanes (list_any (is_unpassed k) m.held) (next_epoch lane) e f)
    (λ _. below_here k s is e) lane.conts (tidy.open_below k s lane is (ap (lane_at m) e ∙ was))))
    (λ k s under is ne at_under e f b z. moves k (next_epoch under) e f z)
    (λ xs h. h)
    (λ k s own is e lone. tidy.own_marks k s lane own is (ap (lane_at m) e ∙ was) lone)
    is_plan.further (λ all. all) (closes_still plan m d.node d.lane node (set_lane d.lane (with_arrival epoch floor records lane) node) lane (with_arrival epoch floor records lane) at in_it refl (mark-kept kept) held refl held closes)
  where
    change : Cont → Cont
    change = with_bundle (record { number = lane.arrived + 1; epoch = epoch; floor = floor; records = records })

    in_epoch_of : List Cont → List Cont
    in_epoch_of cs = (with_arrival epoch floor records (record lane { conts = cs })).conts

    was : lane_at m d ≡ Some lane
    was = lane_at-is m d node lane at in_it

    moves : (k next e f : ℕ) → IsOpenBelow (operator_at (slice_get plan.steps k)) (node_at m k).lanes (list_any (is_unpassed k) m.held) next e f
        → IsOpenBelow (operator_at (slice_get plan.steps k)) (node_at (set_node d.node (set_lane d.lane (with_arrival epoch floor records lane) node) (with_held held m)) k).lanes (list_any (is_unpassed k) held) next e f
    moves k next e f =
        open_moves (operator_at (slice_get plan.steps k)) (node_at m k).lanes (node_at (set_node d.node (set_lane d.lane (with_arrival epoch floor records lane) node) (with_held held m)) k).lanes (list_any (is_unpassed k) m.held) (list_any (is_unpassed k) held) next e f
        (lanes_move m d.node d.lane node (set_lane d.lane (with_arrival epoch floor records lane) node) lane (with_arrival epoch floor records lane) at in_it refl held k e f (has-in_epoch epoch floor change (λ c. refl) (λ c. refl) e f lane.conts))
        (λ h. unpassed k ∙ h)
