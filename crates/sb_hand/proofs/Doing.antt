-- The events of a hand, one by one.
use Rattle.std.proofs.Common.{◌≡◌, ℕ, ◌+◌, ◌-◌, ◌≤◌, ◌<◌, ◌^◌, true, false, not, List, [], ◌∷◌, length, take, drop, Some, Option, cond, eqb, sym, refl, ap, subst, ◌∙◌, arith, inl, inr, ⊎_elim, suc, zero, zero-add}
use Rattle.std.specs.Prelude.{◌&&◌, min}
use Rattle.std.specs.List.{slice_get}
use Rattle.std.proofs.lemmas.Bool.{eq-eqb, ne_eqb}
use Rattle.sb_shown.specs.base.records.declared.item.Record.{Record}
use Rattle.sb_shown.specs.base.records.Reading.{◌>>=◌}
use Rattle.sb_shown.specs.base.bundle.declared.bundle.Bundle.{Bundle}
use Rattle.sb_shown.specs.base.pipeline.declared.transform.Down.{Down}
use Rattle.sb_shown.specs.base.pipeline.declared.transform.Step.{Step}
use Rattle.sb_shown.specs.base.pipeline.Shapes.{Shape}
use Rattle.sb_shown.specs.base.pipeline.Plans.{IsPlan}
use Rattle.sb_shown.specs.base.pipeline.Operators.{operator_at}
use Rattle.sb_shown.specs.core.containers.declared.container.CoreLane.{CoreLane}
use Rattle.sb_shown.specs.core.declared.held.Held.{Held}
use Rattle.sb_shown.specs.core.declared.held.Held.TheVariants.{Work, Close}
use Rattle.sb_shown.specs.core.declared.event.Event.TheVariants.{Take, Deliver, Pass, End}
use Rattle.sb_shown.specs.core.containers.Choices.{is_empty}
use Rattle.sb_shown.specs.core.Closings.{delivery}
use Rattle.sb_shown.specs.core.Events.{below}
use Rattle.sb_shown.specs.core.containers.Lanes.{next_epoch, take_from, with_arrival, with_seal}
use Rattle.sb_shown.specs.core.Laws.{concerns}
use Rattle.sb_shown.specs.core.Moments.{set_lane}
use Rattle.sb_shown.specs.core.Parts.{only_node, put_in}
use Rattle.sb_shown.specs.lane.LaneView.{LaneView, lane_of}
use Rattle.sb_shown.specs.lane.Placed.{conts_of}
use Rattle.sb_shown.specs.lane.Taking.{take_first}
use Rattle.sb_shown.specs.node.declared.state.NodeState.{NodeState}
use Rattle.std.proofs.lemmas.List.{length-drop, take_min}
use Rattle.std.proofs.lemmas.Bool.{cases_lt}
use Rattle.std.specs.Option.{option_map}
use Rattle.sb_shown.specs.node.declared.closing.Closing.{Closing}
use Rattle.sb_hand.specs.Runs.{close_of, deliveries, Delivers, Ends}
use Rattle.sb_hand.proofs.Composing.{does-then}
use Rattle.sb_hand.proofs.LeftToDo.{lowers-then, below-lowers, ends-lowers}
use Rattle.sb_shown.specs.Sets.{HasLane, Turns, SetsLane}
use Rattle.sb_hand.proofs.Having.{has-down}
use Rattle.sb_shown.proofs.Steps.{below-is, step-of}
use Rattle.sb_shown.specs.Showing.{CanStand, Does}
use Rattle.sb_shown.specs.diary.declared.event.DiaryEvent.{DiaryEvent}
use Rattle.sb_shown.specs.diary.declared.event.DiaryEvent.TheVariants as line
use Rattle.sb_shown.specs.tally.Written as written
use Rattle.sb_shown.specs.tally.Written.{arrival_line, seal_line}
use Rattle.sb_shown.proofs.LaneEvents.{lane_in, the_lane-is, lane-free, lane-held, put-is}
use Rattle.sb_hand.proofs.Numbers.{work_number}
use Rattle.sb_shown.proofs.SettingsStay.{settings-lane}
use Rattle.sb_shown.proofs.Single.{chain, passing, there-too}
use Rattle.sb_shown.proofs.lane.InTheCore.{take_first-is}

module _ (plan : Shape) (is_plan : IsPlan plan) (bundle : ℕ) (old new : List NodeState) where
  -- a bundle is taken
  pub take-does : (k l : ℕ) (lane now : LaneView) (b : Bundle) → SetsLane k l lane now (line.Take l b.number) old new → take_first (conts_of lane.containers) ≡ Some (b, conts_of now.containers) → lane_of now ≡ record (lane_of lane) { conts = conts_of now.containers }
      → Does plan bundle (Take k l b.number ∷ []) old [] new (Work k l b.epoch b.floor b.number b.records false ∷ []) []
  take-does k l lane now b sets took is = λ rows m s.
      let at = there-too old m.nodes k sets.own s.count sets.there in
      let work : List Held = Work k l b.epoch b.floor b.number b.records false ∷ [] in
      lane-free plan is_plan bundle old new [] rows m s k l lane now (line.Take l b.number) sets at.0 at.1 (inl (ap (λ (x : CoreLane). x.marks) is)) (Take k l b.number) work refl refl
      (chain (slice_get at.0.lanes l) _ (lane_of lane) _ (lane_in plan is_plan bundle old new [] rows m s k l lane now (line.Take l b.number) sets at.0 at.1)
      (chain (take_from b.number (conts_of lane.containers)) _ (b, conts_of now.containers) _ (take_first-is (conts_of lane.containers) (b, conts_of now.containers) took)
      (ap (λ x. Some (only_node work (set_lane l x at.0))) (sym is)))) refl

  -- what a ParDo gives for a bundle is put below
  pub deliver-does : (k l epoch floor number : ℕ) (records images : List Record) (st : Step) (lane now : LaneView) → slice_get plan.steps k ≡ Some st → images ≡ delivery (operator_at (slice_get plan.steps k)) records → is_empty images ≡ false
      → SetsLane st.down.node st.down.lane lane now (line.Arrive st.down.lane epoch (lane.arrived + 1) (length images)) old new → lane.arrived < 2 ^ 64 - 1 → lane_of now ≡ with_arrival epoch floor images (lane_of lane)
      → Does plan bundle (Deliver k l number ∷ []) old (Work k l epoch floor number records false ∷ []) new (Work k l epoch floor number records true ∷ []) []
  deliver-does k l epoch floor number records images st lane now step gives some sets room is = λ rows m s.
      let at = there-too old m.nodes st.down.node sets.own s.count sets.there in
      let held : List Held = Work k l epoch floor number records false ∷ [] in
      let work : List Held = Work k l epoch floor number records true ∷ [] in
      let number_is : eqb number 0 ≡ false = ne_eqb number 0 (λ e. let h = work_number plan m s.sound k l epoch floor number records false s.held_is in absurd (omega arith)) in
      let found : concerns (Deliver k l number) (Work k l epoch floor number records false) ≡ true = (λ i. cond (number_is i) false (eq-eqb k k refl i && (eq-eqb l l refl i && eq-eqb number number refl i))) in
      let told : DiaryEvent = line.Arrive st.down.lane epoch (lane.arrived + 1) (length images) in
      lane-held plan is_plan bundle old new held rows m s st.down.node st.down.lane lane now told sets at.0 at.1 (inl (ap (λ (x : CoreLane). x.marks) is)) (Deliver k l number) (Work k l epoch floor number records false) work refl found
      (ap (λ (o : Option Down). o >>= λ d. Some d.node) (below-is plan k st step))
      (chain (below plan k) _ st.down _ (below-is plan k st step)
      (passing _ _ _ (ap (λ x. not (is_empty x)) (sym gives) ∙ ap not some)
      (ap (λ x. put_in st.down.lane epoch floor x work at.0) (sym gives)
      ∙ put-is st.down.lane epoch floor images work at.0 (lane_of lane) (lane_in plan is_plan bundle old new held rows m s st.down.node st.down.lane lane now told sets at.0 at.1) room
      ∙ ap (λ x. Some (only_node work (set_lane st.down.lane x at.0))) (sym is))))
      ((λ i. arrival_line (written.lane_of (below-is plan k st step i)) epoch (sym gives i) at.0)
      ∙ ap (λ (x : CoreLane). line.Arrive st.down.lane epoch (x.arrived + 1) (length images)) (the_lane-is plan is_plan bundle old new held rows m s st.down.node st.down.lane lane now told sets at.0 at.1))

  -- the next rows of a closing are put below
  pub rows-does : (k l epoch serial floor mark : ℕ) (records : List Record) (st : Step) (lane now : LaneView) → slice_get plan.steps k ≡ Some st → is_empty records ≡ false
      → SetsLane st.down.node st.down.lane lane now (line.Arrive st.down.lane serial (lane.arrived + 1) (length (take bundle records))) old new → lane.arrived < 2 ^ 64 - 1 → lane_of now ≡ with_arrival serial floor (take bundle records) (lane_of lane)
      → Does plan bundle (Deliver k l 0 ∷ []) old (Close k l epoch serial floor mark records false ∷ []) new (Close k l epoch serial floor mark (drop bundle records) false ∷ []) []
  rows-does k l epoch serial floor mark records st lane now step some sets room is = λ rows m s.
      let at = there-too old m.nodes st.down.node sets.own s.count sets.there in
      let held : List Held = Close k l epoch serial floor mark records false ∷ [] in
      let left : List Held = Close k l epoch serial floor mark (drop bundle records) false ∷ [] in
      let found : concerns (Deliver k l 0) (Close k l epoch serial floor mark records false) ≡ true = (λ i. eq-eqb k k refl i && eq-eqb l l refl i) in
      let told : DiaryEvent = line.Arrive st.down.lane serial (lane.arrived + 1) (length (take bundle records)) in
      lane-held plan is_plan bundle old new held rows m s st.down.node st.down.lane lane now told sets at.0 at.1 (inl (ap (λ (x : CoreLane). x.marks) is)) (Deliver k l 0) (Close k l epoch serial floor mark records false) left refl found
      (ap (λ (o : Option Down). o >>= λ d. Some d.node) (below-is plan k st step))
      (chain (below plan k) _ st.down _ (below-is plan k st step)
      (passing _ _ _ (ap not some)
      (put-is st.down.lane serial floor (take bundle records) left at.0 (lane_of lane) (lane_in plan is_plan bundle old new held rows m s st.down.node st.down.lane lane now told sets at.0 at.1) room
      ∙ ap (λ x. Some (only_node left (set_lane st.down.lane x at.0))) (sym is))))
      ((λ i. arrival_line (written.lane_of (below-is plan k st step i)) serial (take bundle records) at.0)
      ∙ ap (λ (x : CoreLane). line.Arrive st.down.lane serial (x.arrived + 1) (length (take bundle records))) (the_lane-is plan is_plan bundle old new held rows m s st.down.node st.down.lane lane now told sets at.0 at.1))

  -- a mark is passed
  pub pass-does : (k l epoch serial floor mark : ℕ) (st : Step) (lane now : LaneView) → slice_get plan.steps k ≡ Some st
      → SetsLane st.down.node st.down.lane lane now (line.Seal st.down.lane (next_epoch (lane_of lane)) mark) old new → lane_of now ≡ with_seal mark (lane_of lane)
      → Does plan bundle (Pass k ∷ []) old (Close k l epoch serial floor mark [] false ∷ []) new (Close k l epoch serial floor mark [] true ∷ []) []
  pass-does k l epoch serial floor mark st lane now step sets is = λ rows m s.
      let at = there-too old m.nodes st.down.node sets.own s.count sets.there in
      let held : List Held = Close k l epoch serial floor mark [] false ∷ [] in
      let done : List Held = Close k l epoch serial floor mark [] true ∷ [] in
      let told : DiaryEvent = line.Seal st.down.lane (next_epoch (lane_of lane)) mark in
      lane-held plan is_plan bundle old new held rows m s st.down.node st.down.lane lane now told sets at.0 at.1 (inr (mark, ap (λ (x : CoreLane). x.marks) is)) (Pass k) (Close k l epoch serial floor mark [] false) done refl (eq-eqb k k refl)
      (ap (λ (o : Option Down). o >>= λ d. Some d.node) (below-is plan k st step))
      (chain (below plan k) _ st.down _ (below-is plan k st step)
      (chain (slice_get at.0.lanes st.down.lane) _ (lane_of lane) _ (lane_in plan is_plan bundle old new held rows m s st.down.node st.down.lane lane now told sets at.0 at.1)
      (ap (λ x. Some (only_node done (set_lane st.down.lane x at.0))) (sym is))))
      ((λ i. seal_line (written.lane_of (below-is plan k st step i)) mark at.0)
      ∙ ap (λ (x : CoreLane). line.Seal st.down.lane (next_epoch x) mark) (the_lane-is plan is_plan bundle old new held rows m s st.down.node st.down.lane lane now told sets at.0 at.1))

  -- a closing ends
  pub end-does : (k l epoch serial floor mark : ℕ) (records : List Record) (lane now : LaneView) → SetsLane k l lane now (line.End l epoch) old new
      → lane_of now ≡ record (lane_of lane) { conts = drop 1 (conts_of lane.containers); ended = lane.ended + 1 }
      → Does plan bundle (End k ∷ []) old (Close k l epoch serial floor mark records true ∷ []) new [] []
  end-does k l epoch serial floor mark records lane now sets is = λ rows m s.
      let at = there-too old m.nodes k sets.own s.count sets.there in
      let held : List Held = Close k l epoch serial floor mark records true ∷ [] in
      lane-held plan is_plan bundle old new held rows m s k l lane now (line.End l epoch) sets at.0 at.1 (inl (ap (λ (x : CoreLane). x.marks) is)) (End k) (Close k l epoch serial floor mark records true) [] refl (eq-eqb k k refl) refl
      (chain (slice_get at.0.lanes l) _ (lane_of lane) _ (lane_in plan is_plan bundle old new held rows m s k l lane now (line.End l epoch) sets at.0 at.1)
      (ap (λ x. Some (only_node [] (set_lane l x at.0))) (sym is))) refl

drop-past : {X : Type 0} (l : List X) (n : ℕ) → length l ≤ n → drop n l ≡ []
drop-past [] zero h = refl
drop-past [] (suc n) h = refl
drop-past (x ∷ l) zero h = absurd (omega arith)
drop-past (x ∷ l) (suc n) h = drop-past l n (omega arith)

drop-drop_is : {X : Type 0} (a b : ℕ) (l : List X) → drop (a + b) l ≡ drop b (drop a l)
drop-drop_is zero b l = ap (λ n. drop n l) (zero-add b)
drop-drop_is (suc a) b [] = drop-past [] (suc a + b) (omega arith) ∙ sym (drop-past [] b (omega arith))
drop-drop_is (suc a) b (x ∷ l) = let e : suc a + b ≡ suc (a + b) = omega arith in ap (λ n. drop n (x ∷ l)) e ∙ drop-drop_is a b l

-- ---- the same, by where what a transform gives goes
drop-least : {X : Type 0} (n : ℕ) (l : List X) → drop (min n (length l)) l ≡ drop n l
drop-least n l = ⊎_elim
    (λ lt. let e : min n (length l) ≡ n = omega arith in ap (λ k. drop k l) e)
    (λ le. let e : min n (length l) ≡ length l = omega arith in ap (λ k. drop k l) e ∙ drop-past l (length l) (omega arith) ∙ sym (drop-past l n le))
    (cases_lt n (length l))

pub delivers-next : (plan : Shape) (is_plan : IsPlan plan) (bundle : ℕ) (c : Closing) (old new : List NodeState) (from count : ℕ) (piece : List Record) (d : Down) → CanStand plan bundle old (close_of c (drop from c.rows.items) false ∷ [])
    → option_map (λ (s : Step). s.down) (slice_get plan.steps c.node) ≡ Some d → from < length c.rows.items → count ≡ min bundle (length (drop from c.rows.items)) → piece ≡ take count (drop from c.rows.items)
    → ((at : LaneView) → HasLane d.node d.lane at old → (at.arrived < 2 ^ 64 - 1) × Turns d.node d.lane old new at (with_arrival c.serial c.floor piece (lane_of at)) (line.Arrive d.lane c.serial (at.arrived + 1) (length piece)))
    → Delivers plan bundle c old (drop from c.rows.items) new (drop (from + count) c.rows.items)
delivers-next plan is_plan bundle c old new from count piece d can down more count_is piece_is put =
    let st = step-of plan.steps c.node d down in
    let has = has-down plan bundle old (close_of c (drop from c.rows.items) false ∷ []) can c.node d down in
    let t = put has.0 has.1 in
    let rest = drop from c.rows.items in
    let some : is_empty rest ≡ false = not_empty rest (omega (arith, length-drop from c.rows.items)) in
    let first_is : piece ≡ take bundle rest = piece_is ∙ ap (λ n. take n rest) count_is ∙ take_min bundle rest in
    let is : lane_of t.1.now ≡ with_arrival c.serial c.floor (take bundle rest) (lane_of has.0) = t.1.is ∙ ap (λ x. with_arrival c.serial c.floor x (lane_of has.0)) first_is in
    let left : drop bundle rest ≡ drop (from + count) c.rows.items = sym (drop-drop_is from count c.rows.items ∙ ap (λ n. drop n rest) count_is ∙ drop-least bundle rest) in
    record {
      count = 1;
      does = subst (λ (l : List Record). Does plan bundle (Deliver c.node c.lane 0 ∷ []) old (close_of c rest false ∷ []) new (close_of c l false ∷ []) []) left
          (rows-does plan is_plan bundle old new c.node c.lane c.epoch c.serial c.floor c.mark rest st.0 has.0 t.1.now st.1 some
          (subst (λ z. z) (λ i. SetsLane (sym st.2 i).node (sym st.2 i).lane has.0 t.1.now (line.Arrive (sym st.2 i).lane c.serial (has.0.arrived + 1) (length (first_is i))) old new) t.1.sets) t.0 is);
      lowers = below-lowers c.node d.node d.lane old new has.0 t.1.now (line.Arrive d.lane c.serial (has.0.arrived + 1) (length piece)) (subst (λ (x : Down). c.node < x.node) st.2 (is_plan.further c.node st.0 st.1)) t.1.sets;
      settings = settings-lane old new d.node d.lane has.0 t.1.now (line.Arrive d.lane c.serial (has.0.arrived + 1) (length piece)) t.1.sets;
    }
  where
    not_empty : (l : List Record) → 0 < length l → is_empty l ≡ false
    not_empty [] h = absurd (omega arith)
    not_empty (r ∷ l) h = refl

-- the mark goes below
pub passes : (plan : Shape) (is_plan : IsPlan plan) (bundle : ℕ) (c : Closing) (mid sealed : List NodeState) (d : Down) (d_lane : LaneView) → option_map (λ (s : Step). s.down) (slice_get plan.steps c.node) ≡ Some d
    → Turns d.node d.lane mid sealed d_lane (with_seal c.mark (lane_of d_lane)) (line.Seal d.lane (next_epoch (lane_of d_lane)) c.mark) → Does plan bundle (Pass c.node ∷ []) mid (close_of c [] false ∷ []) sealed (close_of c [] true ∷ []) []
passes plan is_plan bundle c mid sealed d d_lane down t =
    let st = step-of plan.steps c.node d down in
    pass-does plan is_plan bundle mid sealed c.node c.lane c.epoch c.serial c.floor c.mark st.0 d_lane t.now st.1 (subst (λ (x : Down). SetsLane x.node x.lane d_lane t.now (line.Seal x.lane (next_epoch (lane_of d_lane)) c.mark) mid sealed) (sym st.2) t.sets) t.is

-- the mark goes below and the closing ends
pub ends : (plan : Shape) (is_plan : IsPlan plan) (bundle : ℕ) (c : Closing) (old mid sealed new : List NodeState) (d : Down) (d_lane lane : LaneView) → Delivers plan bundle c old c.rows.items mid [] → option_map (λ (s : Step). s.down) (slice_get plan.steps c.node) ≡ Some d
    → Turns d.node d.lane mid sealed d_lane (with_seal c.mark (lane_of d_lane)) (line.Seal d.lane (next_epoch (lane_of d_lane)) c.mark)
    → Turns c.node c.lane sealed new lane (record (lane_of lane) { conts = drop 1 (conts_of lane.containers); ended = lane.ended + 1 }) (line.End c.lane c.epoch)
    → lane.ended < length lane.marks
    → Ends plan bundle c old new
ends plan is_plan bundle c old mid sealed new d d_lane lane delivers down t u less =
    let over : Does plan bundle (End c.node ∷ []) sealed (close_of c [] true ∷ []) new [] [] =
    end-does plan is_plan bundle sealed new c.node c.lane c.epoch c.serial c.floor c.mark [] lane u.now u.sets u.is in
    record {
      count = delivers.count;
      does = does-then plan bundle (deliveries c.node c.lane delivers.count) (Pass c.node ∷ End c.node ∷ []) old mid new (close_of c c.rows.items false ∷ []) (close_of c [] false ∷ []) [] [] [] delivers.does
          (does-then plan bundle (Pass c.node ∷ []) (End c.node ∷ []) mid sealed new (close_of c [] false ∷ []) (close_of c [] true ∷ []) [] [] [] (passes plan is_plan bundle c mid sealed d d_lane down t) over);
      lowers =
          let st = step-of plan.steps c.node d down in
          lowers-then c.node 0 1 old mid new delivers.lowers (lowers-then c.node 0 1 mid sealed new
          (below-lowers c.node d.node d.lane mid sealed d_lane t.now (line.Seal d.lane (next_epoch (lane_of d_lane)) c.mark) (subst (λ (x : Down). c.node < x.node) st.2 (is_plan.further c.node st.0 st.1)) t.sets)
          (ends-lowers c.node c.lane sealed new lane (line.End c.lane c.epoch) less u));
      settings =
          settings-lane sealed new c.node c.lane lane u.now (line.End c.lane c.epoch) u.sets
          ∙ settings-lane mid sealed d.node d.lane d_lane t.now (line.Seal d.lane (next_epoch (lane_of d_lane)) c.mark) t.sets
          ∙ delivers.settings;
    }
