-- A bundle is finished.
use Rattle.std.proofs.Common.{◌≡◌, ℕ, ◌≤◌, Bool, true, false, List, [], ◌∷◌, ◌++◌, length, map, Some, Option, sym, refl, ap, subst, ◌∙◌, arith, append-nil, inl, add-zero}
use Rattle.std.specs.Prelude.{◌||◌, ◌&&◌}
use Rattle.std.specs.List.{slice_get, slice_set, AllByRecursion}
use Rattle.std.proofs.lemmas.Bool.{eq-eqb}
use Rattle.std.proofs.lemmas.List.{map-set}
use Rattle.sb_shown.specs.base.records.declared.item.Record.{Record}
use Rattle.sb_shown.specs.base.records.Reading.{◌>>=◌}
use Rattle.sb_shown.specs.base.records.declared.element.KeptRec.{KeptRec}
use Rattle.sb_shown.specs.base.records.Elements.{on_lane}
use Rattle.sb_shown.specs.base.pipeline.Shapes.{Shape}
use Rattle.sb_shown.specs.base.pipeline.Plans.{IsPlan}
use Rattle.sb_shown.specs.base.pipeline.Operators.{Operator, operator_at}
use Rattle.sb_shown.specs.base.pipeline.Operators.Operator.{ParDo, Windowed, Sink}
use Rattle.sb_shown.specs.core.containers.declared.container.CoreLane.{CoreLane}
use Rattle.sb_shown.specs.core.declared.moment.Node.{Node}
use Rattle.sb_shown.specs.core.declared.moment.Moment.{Moment}
use Rattle.sb_shown.specs.core.declared.held.Held.{Held}
use Rattle.sb_shown.specs.core.declared.held.Held.TheVariants.{Work}
use Rattle.sb_shown.specs.core.declared.event.Event.TheVariants.{Finish}
use Rattle.sb_shown.specs.core.Bounds.{bound_at}
use Rattle.sb_shown.specs.core.containers.Choices.{is_empty}
use Rattle.sb_shown.specs.core.Closings.{delivery, kept_elements, is_pardo}
use Rattle.sb_shown.specs.core.Holdings.{IsHeld, IsWork}
use Rattle.sb_shown.specs.core.containers.LaneOrder.{IsWithin}
use Rattle.sb_shown.specs.core.containers.Lanes.{finish_in}
use Rattle.sb_shown.specs.core.Laws.{concerns}
use Rattle.sb_shown.specs.core.containers.Marks.{least_begun_mark}
use Rattle.sb_shown.specs.core.Moments.{set_lane}
use Rattle.sb_shown.specs.core.Parts.{Part, only_node, with_part}
use Rattle.sb_shown.specs.core.Soundness.{IsSound}
use Rattle.sb_shown.proofs.core.containers.Begun.{work_floor, closed_least, begun_mark}
use Rattle.sb_shown.proofs.core.exact.Nodes.{slice_get-set_same}
use Rattle.sb_shown.specs.lane.LaneView.{LaneView, lane_of}
use Rattle.sb_shown.specs.lane.Placed.{conts_of}
use Rattle.sb_shown.specs.lane.Taking.{finish_first}
use Rattle.sb_shown.specs.node.declared.state.NodeState.{NodeState}
use Rattle.sb_shown.specs.base.window.Groupings.{IsFrom}
use Rattle.sb_shown.specs.node.declared.kept.Kept.{Kept}
use Rattle.sb_shown.specs.node.Keeping.{IsMadeFor, IsSpent, IsPartFor, ShowsKept, closed_mark, gives}
use Rattle.sb_shown.specs.work.declared.outputs.Part.{Part as WorkPart}
use Rattle.sb_shown.specs.Sets.{Turns, Absorbs}
use Rattle.sb_shown.specs.diary.declared.event.DiaryEvent.TheVariants as line
use Rattle.sb_shown.specs.Showing.{ShowsNode, Reaches, Does, diaries_of}
use Rattle.sb_shown.proofs.Calm.{calm}
use Rattle.sb_shown.proofs.LaneEvents.{lane_in, lane-held}
use Rattle.sb_shown.proofs.lane.InTheCore.{finish_first-is}
use Rattle.sb_shown.proofs.ShowsKept.{StandsFor, shows-adds}
use Rattle.sb_shown.proofs.Single.{chain, passing, there-too, get-map, event-held}

not_pardo : (op : Operator) (records : List Record) → is_pardo op ≡ false → delivery op records ≡ []
not_pardo (ParDo op) records h = cc
not_pardo (Windowed g) records h = refl
not_pardo Sink records h = refl

absorbs_all : (op : Operator) (es : List KeptRec) → is_pardo op ≡ false → kept_elements op es ≡ es
absorbs_all (ParDo op) es h = cc
absorbs_all (Windowed g) es h = refl
absorbs_all Sink es h = refl

absorbs_none : (op : Operator) (es : List KeptRec) → is_pardo op ≡ true → kept_elements op es ≡ []
absorbs_none (ParDo op) es h = refl
absorbs_none (Windowed g) es h = cc
absorbs_none Sink es h = cc

-- the bundle in hand
pub the_work : (plan : Shape) (m : Moment) → IsSound plan m → (k l epoch floor number : ℕ) (records : List Record) (delivered : Bool) → m.held ≡ Work k l epoch floor number records delivered ∷ [] → IsWork plan m k l epoch floor number records delivered
the_work plan m sound k l epoch floor number records delivered held = (subst (λ (hs : List Held). AllByRecursion (IsHeld plan m) hs) held sound.holds).0

-- its records are from the mark of its node on
pub work_from : (plan : Shape) (m : Moment) → IsSound plan m → (k l epoch floor number : ℕ) (records : List Record) (delivered : Bool) → m.held ≡ Work k l epoch floor number records delivered ∷ [] → (n : Node) → slice_get m.nodes k ≡ Some n → IsFrom (least_begun_mark n.lanes) (on_lane l records)
work_from plan m sound k l epoch floor number records delivered held n at =
    let w = the_work plan m sound k l epoch floor number records delivered held in
    let in_it : slice_get n.lanes l ≡ Some w.lane = sym (ap (λ (o : Option Node). o >>= λ y. slice_get y.lanes l) at) ∙ w.there in
    let a : least_begun_mark n.lanes ≤ begun_mark w.lane = closed_least n.lanes l w.lane in_it in
    let b = work_floor (bound_at plan k) w.lane (sound.lanes (record { node = k; lane = l }) w.lane w.there) epoch number w.cont w.of_epoch w.is_out in
    go records w.times (omega (arith, a, b, w.floor_is))
  where
    go : (rs : List Record) → IsWithin floor (bound_at plan k) rs → least_begun_mark n.lanes ≤ floor → IsFrom (least_begun_mark n.lanes) (on_lane l rs)
    go [] all h = tt
    go (r ∷ rs) all h = (omega (arith, all.0.0), go rs all.1 h)

module _ (plan : Shape) (is_plan : IsPlan plan) (bundle : ℕ) (old new : List NodeState) (k l epoch floor number : ℕ) (records : List Record) where
  found : (delivered : Bool) → concerns (Finish k l number) (Work k l epoch floor number records delivered) ≡ true
  found delivered = λ i. eq-eqb k k refl i && (eq-eqb l l refl i && eq-eqb number number refl i)

  -- a ParDo keeps nothing
  pub finish-does : (delivered : Bool) (lane : LaneView) (count : ℕ) → count ≡ length (delivery (operator_at (slice_get plan.steps k)) records) → is_pardo (operator_at (slice_get plan.steps k)) ≡ true → (delivered || is_empty (delivery (operator_at (slice_get plan.steps k)) records)) ≡ true
      → Turns k l old new lane (record (lane_of lane) { conts = finish_first epoch number (conts_of lane.containers) }) (line.Finish l number count)
      → Does plan bundle (Finish k l number ∷ []) old (Work k l epoch floor number records delivered ∷ []) new [] []
  finish-does delivered lane count count_is pardo done t = λ rows m s.
      let at = there-too old m.nodes k t.sets.own s.count t.sets.there in
      let n = at.0 in
      let op = operator_at (slice_get plan.steps k) in
      let held : List Held = Work k l epoch floor number records delivered ∷ [] in
      let in_it = lane_in plan is_plan bundle old new held rows m s k l lane t.now (line.Finish l number count) t.sets n at.1 in
      let ok = s.sound.lanes (record { node = k; lane = l }) (lane_of lane) (ap (λ (o : Option Node). o >>= λ y. slice_get y.lanes l) at.1 ∙ in_it) in
      let is : lane_of t.now ≡ record (lane_of lane) { conts = finish_in epoch number (conts_of lane.containers) } = t.is ∙ ap (λ cs. record (lane_of lane) { conts = cs }) (finish_first-is (bound_at plan k) epoch number (lane_of lane) ok) in
      let none : n.kept ++ kept_elements op (on_lane l records) ≡ n.kept = ap (λ es. n.kept ++ es) (absorbs_none op (on_lane l records) pardo) ∙ append-nil n.kept in
      lane-held plan is_plan bundle old new held rows m s k l lane t.now (line.Finish l number count) t.sets n at.1 (inl (ap (λ (x : CoreLane). x.marks) t.is)) (Finish k l number) (Work k l epoch floor number records delivered) [] refl (found delivered) refl
      (chain (slice_get n.lanes l) _ (lane_of lane) _ in_it
      (passing _ _ _ done (λ i. Some (only_node [] (record (set_lane l (sym is i) n) { kept = none i })))))
      (ap (λ n. line.Finish l number n) (sym count_is))

  -- any other node takes its part in
  pub absorb-does : (lane : LaneView) (part : WorkPart) → is_pardo (operator_at (slice_get plan.steps k)) ≡ false
      → ((own : NodeState) → slice_get old k ≡ Some own → IsPartFor own.kept part l records)
      → Absorbs k l old new lane epoch number part
      → Does plan bundle (Finish k l number ∷ []) old (Work k l epoch floor number records false ∷ []) new [] []
  absorb-does lane part other is_part a = λ rows m s.
      let at = there-too old m.nodes k a.sets.own s.count a.sets.there in
      let n = at.0 in
      let op = operator_at (slice_get plan.steps k) in
      let held : List Held = Work k l epoch floor number records false ∷ [] in
      let sh : ShowsNode op a.sets.own n = s.each k a.sets.own n a.sets.there at.1 in
      let in_it : slice_get n.lanes l ≡ Some (lane_of lane) = ap (λ ls. slice_get ls l) sh.lanes ∙ get-map lane_of a.sets.own.lanes.items l lane a.sets.in_it in
      let ok = s.sound.lanes (record { node = k; lane = l }) (lane_of lane) (ap (λ (o : Option Node). o >>= λ y. slice_get y.lanes l) at.1 ∙ in_it) in
      let done_lane : CoreLane = record (lane_of lane) { conts = finish_in epoch number (conts_of lane.containers) } in
      let is : lane_of a.now ≡ done_lane = a.lane_is ∙ ap (λ cs. record (lane_of lane) { conts = cs }) (finish_first-is (bound_at plan k) epoch number (lane_of lane) ok) in
      let p : Part = only_node [] (record (set_lane l done_lane n) { kept = n.kept ++ kept_elements op (on_lane l records) }) in
      let from = work_from plan m s.sound k l epoch floor number records false s.held_is n at.1 in
      let shows : IsSound plan (with_part k [] m p) → ShowsNode op a.sets.with p.node = λ still.
      let same : least_begun_mark p.node.lanes ≡ least_begun_mark n.lanes = calm plan m (with_part k [] m p) s.sound still k l n p.node (lane_of lane) done_lane at.1 (slice_get-set_same m.nodes k n p.node at.1) in_it refl refl (inl refl) in
      let was_closed : closed_mark a.was ≡ least_begun_mark n.lanes = ap closed_mark (sym a.sets.was_so) ∙ sh.kept.closed_is in
      let shows0 : ShowsKept op a.was n.kept = subst (λ (x : Kept). ShowsKept op x n.kept) a.sets.was_so sh.kept.kept in
      let made0 : IsMadeFor op a.was = subst (λ (x : Kept). IsMadeFor op x) a.sets.was_so sh.kept.made in
      let es = on_lane l records in
      let part_for : IsPartFor a.was part l records = subst (λ (x : Kept). IsPartFor x part l records) a.sets.was_so (is_part a.sets.own a.sets.there) in
      let more : StandsFor op (closed_mark a.was) (gives a.is) (n.kept ++ es) =
      shows-adds op (closed_mark a.was) (gives a.was) (gives a.is) n.kept es shows0 (subst (λ x. IsFrom x es) (sym was_closed) from) (a.adds records part_for) in
      record {
        lanes = ap (λ ls. slice_set ls l done_lane) sh.lanes ∙ ap (slice_set (map lane_of a.sets.own.lanes.items) l) (sym is) ∙ sym (map-set lane_of a.sets.own.lanes.items l a.now) ∙ ap (map lane_of) (sym a.sets.lanes);
        closings = sh.closings ∙ sym (a.sets.closings ∙ add-zero a.sets.own.closings);
        kept = record {
          made = subst (λ (x : Kept). IsMadeFor op x) (sym a.sets.kept) (a.made op made0);
          unspent = subst (λ (x : Kept). IsSpent x → ⊥) (sym a.sets.kept) a.unspent;
          closed_is = ap closed_mark a.sets.kept ∙ a.closed ∙ was_closed ∙ sym same;
          kept = subst (λ z. z) (λ i. ShowsKept op (sym a.sets.kept i) (n.kept ++ sym (absorbs_all op es other) i))
              (subst (λ x. StandsFor op x (gives a.is) (n.kept ++ es)) (sym a.closed) more);
        };
      } in
      subst (λ (z : List NodeState). Reaches plan bundle (Finish k l number ∷ []) m (diaries_of old) z [] (rows ++ [])) (sym a.sets.set)
      (event-held plan is_plan bundle old held rows m s k a.sets.own a.sets.with n p a.sets.there at.1 (Finish k l number) (Work k l epoch floor number records false) (line.Finish l number 0) refl (found false) refl
      (chain (slice_get n.lanes l) _ (lane_of lane) _ in_it (passing _ _ _ (ap is_empty (not_pardo op records other)) refl)) a.sets.diary (ap (λ (x : List Record). line.Finish l number (length x)) (not_pardo op records other)) shows)
