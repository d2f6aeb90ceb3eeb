-- What the code makes of the moment at each event is the moment after it.
use Rattle.std.proofs.Common.{◌≡◌, ℕ, zero, suc, ◌+◌, ◌-◌, ◌^◌, Bool, true, false, not, cond, eqb, ltb, List, [], ◌∷◌, ◌++◌, take, drop, Some, None, Option, refl, sym, ap, ◌∙◌, append-nil}
use Rattle.std.specs.Prelude.{◌&&◌, ◌||◌, slice_get}
use Rattle.std.specs.List.{list_any, AllByRecursion}
use Rattle.std.proofs.lemmas.Bool.{eqb-true, and_parts}
use Rattle.std.proofs.lemmas.Option.{same_Some}
use Rattle.sb_containers.specs.base.records.declared.item.Record.{Record}
use Rattle.sb_containers.specs.base.records.declared.item.Stream.{Stream}
use Rattle.sb_containers.specs.base.records.Reading.{◌>>=◌}
use Rattle.sb_containers.specs.base.pipeline.declared.transform.Down.{Down}
use Rattle.sb_containers.specs.base.pipeline.Operators.{operator_at}
use Rattle.sb_containers.specs.base.pipeline.Shapes.{Shape, source}
use Rattle.sb_containers.specs.declared.container.CoreLane.{CoreLane}
use Rattle.sb_core.specs.declared.moment.Moment.{Moment}
use Rattle.sb_core.specs.declared.moment.Node.{Node}
use Rattle.sb_core.specs.declared.held.Held.{Held}
use Rattle.sb_core.specs.declared.held.Held.TheVariants.{Work, Close}
use Rattle.sb_core.specs.declared.event.Event.{Event}
use Rattle.sb_core.specs.declared.event.Event.TheVariants.{Arrive, Seal, Take, Deliver, Finish, Begin, Pass, End}
use Rattle.sb_containers.specs.Choices.{only_if, is_empty, first_and_rest}
use Rattle.sb_core.specs.Closings.{delivery}
use Rattle.sb_core.specs.Events.{below, place_of, concerns, Part, only_node, put_in, held_after, with_part, held_moment_after, after}
use Rattle.sb_core.specs.Holdings.{IsHeld}
use Rattle.sb_containers.specs.Lanes.{next_epoch, next_floor, with_arrival, with_seal, take_from, closable}
use Rattle.sb_containers.specs.Marks.{first_is_closing}
use Rattle.sb_core.specs.LaneSteps.{arrived_at}
use Rattle.sb_core.specs.MomentSteps.{deliver_rows, deliver_work, after_finish, after_pass, after_end, made}
use Rattle.sb_core.specs.Moments.{lane_at, set_lane, set_node, with_lane, with_held, is_work, is_close, is_close_of}
use Rattle.sb_core.proofs.sound.TidyLanes.{pulled-passes}
use Rattle.sb_core.proofs.places.Carried.{then_never}
use Rattle.sb_core.proofs.places.InPlace.{then_some}
use Rattle.sb_core.proofs.sound.Orderly.{IsLawful}

-- ---- a Close of a node is held exactly while a lane of it is closing
-- whether a lane of the list is closing
none_closing : (lanes : List CoreLane) → list_any (λ (x : CoreLane). first_is_closing x.conts) lanes ≡ false → (l : ℕ) (lane : CoreLane) → slice_get lanes l ≡ Some lane → first_is_closing lane.conts ≡ false
none_closing [] h l lane at = cc
none_closing (x ∷ lanes) h l lane at = by_case (first_is_closing x.conts) refl h l at (λ k l at. none_closing lanes k l lane at)
  where
    by_case : (b : Bool) → first_is_closing x.conts ≡ b → (b || list_any (λ (x : CoreLane). first_is_closing x.conts) lanes) ≡ false → (l : ℕ) → slice_get (x ∷ lanes) l ≡ Some lane
        → (list_any (λ (x : CoreLane). first_is_closing x.conts) lanes ≡ false → (l : ℕ) → slice_get lanes l ≡ Some lane → first_is_closing lane.conts ≡ false) → first_is_closing lane.conts ≡ false
    by_case true e h l at ih = cc
    by_case false e h zero at ih = ap (λ (x : CoreLane). first_is_closing x.conts) (sym (same_Some x lane at)) ∙ e
    by_case false e h (suc l) at ih = ih h l at

none_of : (n i : ℕ) (hs : List Held) → list_any (is_close n) hs ≡ false → list_any (is_close_of n i) hs ≡ false
none_of n i [] h = refl
none_of n i (Work y j epoch floor number records delivered ∷ hs) h = none_of n i hs h
none_of n i (Close y j epoch serial floor mark rows passed ∷ hs) h = both (eqb y n) (eqb j i) h (λ h. none_of n i hs h)
  where
    both : (a b : Bool) → (a || list_any (is_close n) hs) ≡ false → (list_any (is_close n) hs ≡ false → list_any (is_close_of n i) hs ≡ false) → ((a && b) || list_any (is_close_of n i) hs) ≡ false
    both true b h ih = cc
    both false b h ih = ih h

module _ (plan : Shape) (m : Moment) (lawful : IsLawful plan m) where
  -- where no lane is closing, no Close is held
  pub idle : (k : ℕ) → ((l : ℕ) (lane : CoreLane) → lane_at m (record { node = k; lane = l }) ≡ Some lane → first_is_closing lane.conts ≡ false) → list_any (is_close k) m.held ≡ false
  idle k calm = go m.held lawful.holds
    where
      go : (hs : List Held) → AllByRecursion (IsHeld plan m) hs → list_any (is_close k) hs ≡ false
      go [] all = refl
      go (Work n l epoch floor number records delivered ∷ hs) all = go hs all.1
      go (Close n l epoch serial floor mark rows passed ∷ hs) all = by_case (eqb n k) refl (go hs all.1)
        where
          by_case : (b : Bool) → eqb n k ≡ b → list_any (is_close k) hs ≡ false → (b || list_any (is_close k) hs) ≡ false
          by_case true e ih =
              let there : lane_at m (record { node = k; lane = l }) ≡ Some all.0.lane = ap (λ k. lane_at m (record { node = k; lane = l })) (sym (eqb-true n k e)) ∙ all.0.there in
              let f : false ≡ true = sym (calm l all.0.lane there) ∙ all.0.closing in cc
          by_case false e ih = ih

  busy-is : (n : ℕ) (node : Node) → slice_get m.nodes n ≡ Some node → list_any (λ (x : CoreLane). first_is_closing x.conts) node.lanes ≡ list_any (is_close n) m.held
  busy-is n node at = by_case (list_any (λ (x : CoreLane). first_is_closing x.conts) node.lanes) (list_any (is_close n) m.held) refl refl
    where
      of_node : (i : ℕ) → lane_at m (record { node = n; lane = i }) ≡ slice_get node.lanes i
      of_node i = then_some (slice_get m.nodes n) node _ at

      by_case : (a b : Bool) → list_any (λ (x : CoreLane). first_is_closing x.conts) node.lanes ≡ a → list_any (is_close n) m.held ≡ b → a ≡ b
      by_case true true p q = refl
      by_case false false p q = refl
      by_case false true p q = sym (idle n (λ l lane z. none_closing node.lanes p l lane (sym (of_node l) ∙ z))) ∙ q
      by_case true false p q = sym p ∙ calm node.lanes (λ i x e. not_closing i x e)
        where
          not_closing : (i : ℕ) (x : CoreLane) → slice_get node.lanes i ≡ Some x → first_is_closing x.conts ≡ false
          not_closing i x e = by_closing (first_is_closing x.conts) refl
            where
              by_closing : (c : Bool) → first_is_closing x.conts ≡ c → first_is_closing x.conts ≡ false
              by_closing true c = let z : false ≡ true = sym (none_of n i m.held q) ∙ lawful.closing_held (record { node = n; lane = i }) x (of_node i ∙ e) c in cc
              by_closing false c = c

          calm : (lanes : List CoreLane) → ((j : ℕ) (x : CoreLane) → slice_get lanes j ≡ Some x → first_is_closing x.conts ≡ false) → list_any (λ (x : CoreLane). first_is_closing x.conts) lanes ≡ false
          calm [] each = refl
          calm (x ∷ lanes) each = ap (λ b. b || list_any (λ (x : CoreLane). first_is_closing x.conts) lanes) (each zero x refl) ∙ calm lanes (λ j y e. each (suc j) y e)

-- ---- a step of the code, by the part
module _ (m : Moment) where
  -- the moment with a part, as the code writes it
  bare : (k : ℕ) (rest : List Held) (node : Node) → with_part k rest m (only_node [] node) ≡ set_node k node (with_held rest m)
  bare k rest node = λ i. set_node k node (record m { held = append-nil rest i; rows = append-nil m.rows i })

  full : (k : ℕ) (rest held : List Held) (node : Node) → with_part k rest m (only_node held node) ≡ set_node k node (with_held (rest ++ held) m)
  full k rest held node = λ i. set_node k node (record m { held = rest ++ held; rows = append-nil m.rows i })

  -- where the test passes, as before
  tested : (k : ℕ) (rest : List Held) (b c : Bool) (part : Option Part) (made : Option Moment) → b ≡ c → (part >>= λ p. Some (with_part k rest m p)) ≡ made
      → (only_if b part >>= λ p. Some (with_part k rest m p)) ≡ only_if c made
  tested k rest true true part made e h = h
  tested k rest false false part made e h = refl
  tested k rest true false part made e h = cc
  tested k rest false true part made e h = cc

  -- a lane of the node changes
  by_lane : (k l : ℕ) (rest : List Held) (F : Node → CoreLane → Option Part) (G : Node → CoreLane → Option Moment)
      → ((node : Node) (lane : CoreLane) → slice_get m.nodes k ≡ Some node → slice_get node.lanes l ≡ Some lane → (F node lane >>= λ p. Some (with_part k rest m p)) ≡ G node lane)
      → (slice_get m.nodes k >>= λ node. (slice_get node.lanes l >>= F node) >>= λ p. Some (with_part k rest m p)) ≡ (slice_get m.nodes k >>= λ node. slice_get node.lanes l >>= G node)
  by_lane k l rest F G same = by_node (slice_get m.nodes k) refl
    where
      in_node : (node : Node) → slice_get m.nodes k ≡ Some node → (o : Option CoreLane) → slice_get node.lanes l ≡ o → ((o >>= F node) >>= λ p. Some (with_part k rest m p)) ≡ (o >>= G node)
      in_node node at None e = refl
      in_node node at (Some lane) e = same node lane at e

      by_node : (o : Option Node) → slice_get m.nodes k ≡ o → (o >>= λ node. (slice_get node.lanes l >>= F node) >>= λ p. Some (with_part k rest m p)) ≡ (o >>= λ node. slice_get node.lanes l >>= G node)
      by_node None e = refl
      by_node (Some node) e = in_node node e (slice_get node.lanes l) refl

  -- the lane of a place is that of its node
  through : (d : Down) (G : CoreLane → Option Moment) → (slice_get m.nodes d.node >>= λ node. slice_get node.lanes d.lane >>= G) ≡ (lane_at m d >>= G)
  through d G = go (slice_get m.nodes d.node)
    where
      go : (o : Option Node) → (o >>= λ node. slice_get node.lanes d.lane >>= G) ≡ ((o >>= λ node. slice_get node.lanes d.lane) >>= G)
      go None = refl
      go (Some node) = refl

  -- a lane is put in its place
  put : (d : Down) (rest held : List Held) (node : Node) (new : CoreLane) → slice_get m.nodes d.node ≡ Some node → Some (with_part d.node rest m (only_node held (set_lane d.lane new node))) ≡ with_lane d new (with_held (rest ++ held) m)
  put d rest held node new at = ap Some (full d.node rest held (set_lane d.lane new node)) ∙ sym (then_some (slice_get m.nodes d.node) node _ at)

  put_bare : (d : Down) (rest : List Held) (node : Node) (new : CoreLane) → slice_get m.nodes d.node ≡ Some node → Some (with_part d.node rest m (only_node [] (set_lane d.lane new node))) ≡ with_lane d new (with_held rest m)
  put_bare d rest node new at = ap Some (bare d.node rest (set_lane d.lane new node)) ∙ sym (then_some (slice_get m.nodes d.node) node _ at)

  -- a bundle comes
  comes : (d : Down) (epoch floor : ℕ) (records : List Record) (rest held : List Held) (node : Node) → slice_get m.nodes d.node ≡ Some node
      → (put_in d.lane epoch floor records held node >>= λ p. Some (with_part d.node rest m p)) ≡ arrived_at d epoch floor records (with_held (rest ++ held) m)
  comes d epoch floor records rest held node at = go (slice_get node.lanes d.lane) ∙ ap (λ (o : Option CoreLane). o >>= λ lane. only_if (ltb lane.arrived (2 ^ 64 - 1)) (with_lane d (with_arrival epoch floor records lane) (with_held (rest ++ held) m))) (sym there)
    where
      there : lane_at m d ≡ slice_get node.lanes d.lane
      there = then_some (slice_get m.nodes d.node) node _ at

      go : (o : Option CoreLane) → ((o >>= λ lane. only_if (ltb lane.arrived (2 ^ 64 - 1)) (Some (only_node held (set_lane d.lane (with_arrival epoch floor records lane) node)))) >>= λ p. Some (with_part d.node rest m p))
          ≡ (o >>= λ lane. only_if (ltb lane.arrived (2 ^ 64 - 1)) (with_lane d (with_arrival epoch floor records lane) (with_held (rest ++ held) m)))
      go None = refl
      go (Some lane) = tested d.node rest (ltb lane.arrived (2 ^ 64 - 1)) (ltb lane.arrived (2 ^ 64 - 1)) (Some (only_node held (set_lane d.lane (with_arrival epoch floor records lane) node))) _ refl (put d rest held node (with_arrival epoch floor records lane) at)

  -- at the place that is named
  at_place : (o : Option Down) (rest : List Held) (F : Down → Node → Option Part) (G : Down → Option Moment) → ((d : Down) → (slice_get m.nodes d.node >>= λ node. F d node >>= λ p. Some (with_part d.node rest m p)) ≡ G d)
      → ((o >>= λ d. Some d.node) >>= λ k. slice_get m.nodes k >>= λ node. (o >>= λ d. F d node) >>= λ p. Some (with_part k rest m p)) ≡ (o >>= G)
  at_place None rest F G same = refl
  at_place (Some d) rest F G same = same d

  -- a lane in its place changes
  by_place : (d : Down) (rest : List Held) (F : Node → CoreLane → Option Part) (G : CoreLane → Option Moment)
      → ((node : Node) (lane : CoreLane) → slice_get m.nodes d.node ≡ Some node → (F node lane >>= λ p. Some (with_part d.node rest m p)) ≡ G lane)
      → (slice_get m.nodes d.node >>= λ node. (slice_get node.lanes d.lane >>= F node) >>= λ p. Some (with_part d.node rest m p)) ≡ (lane_at m d >>= G)
  by_place d rest F G same = by_lane d.node d.lane rest F (λ node lane. G lane) (λ node lane at in_it. same node lane at) ∙ through d G

  -- what is there goes on
  then_same : {X : Type 0} (k : ℕ) (rest : List Held) (o : Option X) (F : X → Option Part) (G : X → Option Moment) → ((x : X) → (F x >>= λ p. Some (with_part k rest m p)) ≡ G x)
      → ((o >>= F) >>= λ p. Some (with_part k rest m p)) ≡ (o >>= G)
  then_same k rest None F G same = refl
  then_same k rest (Some x) F G same = same x

  -- a bundle comes where the test passes
  arrives : (d : Down) (epoch floor : ℕ) (records : List Record) (rest held : List Held) (t : Bool)
      → (slice_get m.nodes d.node >>= λ node. only_if t (put_in d.lane epoch floor records held node) >>= λ p. Some (with_part d.node rest m p)) ≡ only_if t (arrived_at d epoch floor records (with_held (rest ++ held) m))
  arrives d epoch floor records rest held t = go (slice_get m.nodes d.node) refl
    where
      never : (t : Bool) → only_if {X = Moment} t None ≡ None
      never true = refl
      never false = refl

      go : (o : Option Node) → slice_get m.nodes d.node ≡ o → (o >>= λ node. only_if t (put_in d.lane epoch floor records held node) >>= λ p. Some (with_part d.node rest m p)) ≡ only_if t (arrived_at d epoch floor records (with_held (rest ++ held) m))
      go None e =
          sym (ap (λ (o : Option Node). only_if t ((o >>= λ node. slice_get node.lanes d.lane) >>= λ lane. only_if (ltb lane.arrived (2 ^ 64 - 1)) (with_lane d (with_arrival epoch floor records lane) (with_held (rest ++ held) m)))) e ∙ never t)
      go (Some node) e = tested d.node rest t t (put_in d.lane epoch floor records held node) _ refl (comes d epoch floor records rest held node e)

-- ---- all events
module _ (plan : Shape) (m : Moment) where
  pub arrive-made : (s : Stream) (records : List Record) → after plan m (Arrive s records) ≡ made plan m (Arrive s records)
  arrive-made s records =
      at_place m (source plan s) m.held _ _ (λ d.
      by_place m d m.held _ _ (λ node lane at.
      tested m d.node m.held _ _ _ _ refl
      (comes m d (next_epoch lane) (next_floor lane) records m.held [] node at ∙ ap (λ hs. arrived_at d (next_epoch lane) (next_floor lane) records (with_held hs m)) (append-nil m.held))))

  pub seal-made : (s : Stream) (mark : ℕ) → after plan m (Seal s mark) ≡ made plan m (Seal s mark)
  seal-made s mark =
      at_place m (source plan s) m.held _ _ (λ d.
      by_place m d m.held _ _ (λ node lane at.
      tested m d.node m.held _ _ _ _ refl (put_bare m d m.held node (with_seal mark lane) at)))

  take-made : (n l number : ℕ) → after plan m (Take n l number) ≡ made plan m (Take n l number)
  take-made n l number =
      by_place m (record { node = n; lane = l }) m.held _ _ (λ node lane at.
      then_same m n m.held (take_from number lane.conts) _ _ (λ q.
      put m (record { node = n; lane = l }) m.held (Work n l q.0.epoch q.0.floor number q.0.records false ∷ []) node (record lane { conts = q.1 }) at))

  begin-made : IsLawful plan m → (n l : ℕ) → after plan m (Begin n l) ≡ made plan m (Begin n l)
  begin-made lawful n l =
      by_lane m n l m.held _ _ (λ node lane at in_it.
      then_same m n m.held (closable lane.ended lane.conts) _ _ (λ c.
      tested m n m.held _ _ _ _ (ap not (busy-is plan m lawful n node at)) refl))

  -- an event of the first Work or Close that it concerns
  first_found : (event : Event) (G : Held × List Held → Option Moment)
      → ((q : Held × List Held) → concerns event q.0 ≡ true → (place_of plan event >>= λ k. slice_get m.nodes k >>= λ node. held_after plan m.bundle event q.0 node >>= λ p. Some (with_part k q.1 m p)) ≡ G q)
      → (place_of plan event >>= λ k. slice_get m.nodes k >>= λ node. held_moment_after plan m event k node) ≡ (first_and_rest (concerns event) m.held >>= G)
  first_found event G same = go (first_and_rest (concerns event) m.held) refl
    where
      go : (o : Option (Held × List Held)) → first_and_rest (concerns event) m.held ≡ o
          → (place_of plan event >>= λ k. slice_get m.nodes k >>= λ node. o >>= λ q. held_after plan m.bundle event q.0 node >>= λ p. Some (with_part k q.1 m p)) ≡ (o >>= G)
      go None e = then_never (place_of plan event) _ (λ k. then_never (slice_get m.nodes k) _ (λ node. refl))
      go (Some q) e = same q (pulled-passes (concerns event) m.held q e)

  -- it is of the node that owns it
  moved : (event : Event) (h : Held) (others : List Held) (place : ℕ → Option ℕ) (y n : ℕ) → y ≡ n
      → (place n >>= λ k. slice_get m.nodes k >>= λ node. held_after plan m.bundle event h node >>= λ p. Some (with_part k others m p))
      ≡ (place y >>= λ k. slice_get m.nodes k >>= λ node. held_after plan m.bundle event h node >>= λ p. Some (with_part k others m p))
  moved event h others place y n e = ap (λ n. place n >>= λ k. slice_get m.nodes k >>= λ node. held_after plan m.bundle event h node >>= λ p. Some (with_part k others m p)) (sym e)

  abbrev under : ℕ → Option ℕ
  under n = below plan n >>= λ d. Some d.node

  finish-made : (n l number : ℕ) → after plan m (Finish n l number) ≡ made plan m (Finish n l number)
  finish-made n l number = first_found (Finish n l number) (λ q. after_finish plan m q.0 q.1) each
    where
      each : (q : Held × List Held) → is_work n l number q.0 ≡ true → (slice_get m.nodes n >>= λ node. held_after plan m.bundle (Finish n l number) q.0 node >>= λ p. Some (with_part n q.1 m p)) ≡ after_finish plan m q.0 q.1
      each (Close y i epoch serial floor mark rows passed, others) c = cc
      each (Work y i epoch floor other records delivered, others) c =
          moved (Finish n l number) (Work y i epoch floor other records delivered) others (λ k. Some k) y n (eqb-true y n (and_parts (eqb y n) _ c).0)
          ∙ by_lane m y i others _ _ (λ node lane at in_it. tested m y others _ _ _ _ refl (ap Some (bare m y others _)))

  pass-made : (n : ℕ) → after plan m (Pass n) ≡ made plan m (Pass n)
  pass-made n = first_found (Pass n) (λ q. after_pass plan m q.0 q.1) each
    where
      each : (q : Held × List Held) → is_close n q.0 ≡ true → (under n >>= λ k. slice_get m.nodes k >>= λ node. held_after plan m.bundle (Pass n) q.0 node >>= λ p. Some (with_part k q.1 m p)) ≡ after_pass plan m q.0 q.1
      each (Work y i epoch floor other records delivered, others) c = cc
      each (Close y i epoch serial floor mark rows passed, others) c =
          moved (Pass n) (Close y i epoch serial floor mark rows passed) others under y n (eqb-true y n c)
          ∙ at_place m (below plan y) others _ _ (λ d.
          by_place m d others _ _ (λ node lane at.
          tested m d.node others _ _ _ _ refl (put m d others (Close y i epoch serial floor mark rows true ∷ []) node (with_seal mark lane) at)))

  end-made : (n : ℕ) → after plan m (End n) ≡ made plan m (End n)
  end-made n = first_found (End n) (λ q. after_end m q.0 q.1) each
    where
      each : (q : Held × List Held) → is_close n q.0 ≡ true → (slice_get m.nodes n >>= λ node. held_after plan m.bundle (End n) q.0 node >>= λ p. Some (with_part n q.1 m p)) ≡ after_end m q.0 q.1
      each (Work y i epoch floor other records delivered, others) c = cc
      each (Close y i epoch serial floor mark rows passed, others) c =
          moved (End n) (Close y i epoch serial floor mark rows passed) others (λ k. Some k) y n (eqb-true y n c)
          ∙ by_place m (record { node = y; lane = i }) others _ _ (λ node lane at.
          tested m y others _ _ _ _ refl (put_bare m (record { node = y; lane = i }) others node (record lane { conts = drop 1 lane.conts; ended = lane.ended + 1 }) at))

  deliver-made : (n l number : ℕ) → after plan m (Deliver n l number) ≡ made plan m (Deliver n l number)
  deliver-made n l number = first_found (Deliver n l number) (λ q. cond (eqb number 0) (deliver_rows plan m q.0 q.1) (deliver_work plan m q.0 q.1)) each ∙ by_number (eqb number 0)
    where
      by_number : (b : Bool) → (first_and_rest (λ h. cond b (is_close_of n l h) (is_work n l number h)) m.held >>= λ q. cond b (deliver_rows plan m q.0 q.1) (deliver_work plan m q.0 q.1))
          ≡ cond b (first_and_rest (is_close_of n l) m.held >>= λ q. deliver_rows plan m q.0 q.1) (first_and_rest (is_work n l number) m.held >>= λ q. deliver_work plan m q.0 q.1)
      by_number true = refl
      by_number false = refl

      each : (q : Held × List Held) → concerns (Deliver n l number) q.0 ≡ true
          → (under n >>= λ k. slice_get m.nodes k >>= λ node. held_after plan m.bundle (Deliver n l number) q.0 node >>= λ p. Some (with_part k q.1 m p)) ≡ cond (eqb number 0) (deliver_rows plan m q.0 q.1) (deliver_work plan m q.0 q.1)
      each (Close y i epoch serial floor mark rows passed, others) c = by_case (eqb number 0) c
        where
          by_case : (b : Bool) → cond b (eqb y n && eqb i l) false ≡ true
              → (under n >>= λ k. slice_get m.nodes k >>= λ node. held_after plan m.bundle (Deliver n l number) (Close y i epoch serial floor mark rows passed) node >>= λ p. Some (with_part k others m p))
              ≡ cond b (deliver_rows plan m (Close y i epoch serial floor mark rows passed) others) None
          by_case false c = cc
          by_case true c =
              moved (Deliver n l number) (Close y i epoch serial floor mark rows passed) others under y n (eqb-true y n (and_parts (eqb y n) (eqb i l) c).0)
              ∙ at_place m (below plan y) others _ _ (λ d. arrives m d serial floor (take m.bundle rows) others (Close y i epoch serial floor mark (drop m.bundle rows) passed ∷ []) (not (is_empty rows)))
      each (Work y i epoch floor other records delivered, others) c = by_case (eqb number 0) c
        where
          by_case : (b : Bool) → cond b false (eqb y n && (eqb i l && eqb other number)) ≡ true
              → (under n >>= λ k. slice_get m.nodes k >>= λ node. held_after plan m.bundle (Deliver n l number) (Work y i epoch floor other records delivered) node >>= λ p. Some (with_part k others m p))
              ≡ cond b None (deliver_work plan m (Work y i epoch floor other records delivered) others)
          by_case true c = cc
          by_case false c =
              moved (Deliver n l number) (Work y i epoch floor other records delivered) others under y n (eqb-true y n (and_parts (eqb y n) _ c).0)
              ∙ at_place m (below plan y) others _ _ (λ d.
              arrives m d epoch floor (delivery (operator_at (slice_get plan.steps y)) records) others (Work y i epoch floor other records true ∷ []) (not delivered && not (is_empty (delivery (operator_at (slice_get plan.steps y)) records))))

  pub after-made : IsLawful plan m → (event : Event) → after plan m event ≡ made plan m event
  after-made lawful (Arrive stream records) = arrive-made stream records
  after-made lawful (Seal stream mark) = seal-made stream mark
  after-made lawful (Take node lane number) = take-made node lane number
  after-made lawful (Deliver node lane number) = deliver-made node lane number
  after-made lawful (Finish node lane number) = finish-made node lane number
  after-made lawful (Begin node lane) = begin-made lawful node lane
  after-made lawful (Pass node) = pass-made node
  after-made lawful (End node) = end-made node
