-- A Work or a Close goes on, where what it brings has come into the lane below.
use Rattle.std.proofs.Common.{◌≡◌, ℕ, ◌-◌, ◌^◌, Bool, true, false, not, cond, eqb, ltb, List, [], ◌∷◌, ◌++◌, length, take, drop, Some, None, Option, refl, sym, ap, ◌∙◌, arith}
use Rattle.std.specs.Prelude.{◌&&◌}
use Rattle.std.specs.Option.{option_map}
use Rattle.std.specs.List.{slice_get}
use Rattle.std.proofs.lemmas.Bool.{ne_eqb}
use Rattle.std.proofs.lemmas.Option.{same_Some}
use Rattle.sb_containers.specs.base.records.declared.item.Record.{Record}
use Rattle.sb_containers.specs.base.records.Reading.{◌>>=◌}
use Rattle.sb_containers.specs.base.pipeline.declared.transform.Down.{Down}
use Rattle.sb_containers.specs.base.pipeline.declared.transform.Step.{Step}
use Rattle.sb_containers.specs.base.pipeline.Operators.{operator_at}
use Rattle.sb_containers.specs.base.pipeline.Shapes.{Shape}
use Rattle.sb_containers.specs.declared.container.CoreLane.{CoreLane}
use Rattle.sb_core.specs.declared.moment.Node.{Node}
use Rattle.sb_core.specs.declared.moment.Moment.{Moment}
use Rattle.sb_core.specs.declared.held.Held.{Held}
use Rattle.sb_core.specs.declared.held.Held.TheVariants.{Work, Close}
use Rattle.sb_containers.specs.Choices.{first_and_rest, is_empty}
use Rattle.sb_core.specs.Closings.{delivery}
use Rattle.sb_core.specs.Events.{below}
use Rattle.sb_core.specs.MomentSteps.{bundle_delivered, rows_delivered, mark_passed}
use Rattle.sb_containers.specs.Lanes.{with_arrival, with_seal}
use Rattle.sb_core.specs.LaneSteps.{arrived_at, sealed_at}
use Rattle.sb_core.specs.Moments.{lane_at, set_lane, set_node, with_lane, with_held, is_work, is_close, is_close_of}
use Rattle.sb_core.proofs.places.InPlace.{then_some}

-- an answer that never goes on
pub then_never : {A B : Type 0} (o : Option A) (f : A → Option B) → ((x : A) → f x ≡ None) → (o >>= f) ≡ None
then_never None f h = refl
then_never (Some x) f h = h x

-- the place below a node
pub below-down : (plan : Shape) (k : ℕ) (d : Down) → option_map (λ s. s.down) (slice_get plan.steps k) ≡ Some d → below plan k ≡ Some d
below-down plan k d h = go (slice_get plan.steps k) ∙ h
  where
    go : (o : Option Step) → (o >>= λ s. Some s.down) ≡ option_map (λ s. s.down) o
    go None = refl
    go (Some s) = refl

-- whether a list is empty, as code asks
pub empty-by_length : {X : Type 0} (xs : List X) → eqb (length xs) 0 ≡ is_empty xs
empty-by_length [] = refl
empty-by_length (x ∷ xs) = ne_eqb (length (x ∷ xs)) 0 (λ e. absurd (omega (arith, e)))

-- a lane changes alike, whatever is held
pub lane-held : (m : Moment) (hs : List Held) (d : Down) (lane : CoreLane) → with_lane d lane (with_held hs m) ≡ option_map (with_held hs) (with_lane d lane m)
lane-held m hs d lane = go (slice_get m.nodes d.node)
  where
    go : (o : Option Node) → (o >>= λ node. Some (set_node d.node (set_lane d.lane lane node) (with_held hs m))) ≡ option_map (with_held hs) (o >>= λ node. Some (set_node d.node (set_lane d.lane lane node) m))
    go None = refl
    go (Some node) = refl

pub sealed-held : (m : Moment) (hs : List Held) (d : Down) (mark : ℕ) → sealed_at d mark (with_held hs m) ≡ option_map (with_held hs) (sealed_at d mark m)
sealed-held m hs d mark = go (lane_at m d)
  where
    go : (o : Option CoreLane) → (o >>= λ lane. with_lane d (with_seal mark lane) (with_held hs m)) ≡ option_map (with_held hs) (o >>= λ lane. with_lane d (with_seal mark lane) m)
    go None = refl
    go (Some lane) = lane-held m hs d (with_seal mark lane)

pub arrived-held : (m : Moment) (hs : List Held) (d : Down) (epoch floor : ℕ) (records : List Record) → arrived_at d epoch floor records (with_held hs m) ≡ option_map (with_held hs) (arrived_at d epoch floor records m)
arrived-held m hs d epoch floor records = go (lane_at m d)
  where
    by_case : (b : Bool) (lane : CoreLane) → cond b (with_lane d (with_arrival epoch floor records lane) (with_held hs m)) None ≡ option_map (with_held hs) (cond b (with_lane d (with_arrival epoch floor records lane) m) None)
    by_case true lane = lane-held m hs d (with_arrival epoch floor records lane)
    by_case false lane = refl

    go : (o : Option CoreLane) → (o >>= λ lane. cond (ltb lane.arrived (2 ^ 64 - 1)) (with_lane d (with_arrival epoch floor records lane) (with_held hs m)) None)
        ≡ option_map (with_held hs) (o >>= λ lane. cond (ltb lane.arrived (2 ^ 64 - 1)) (with_lane d (with_arrival epoch floor records lane) m) None)
    go None = refl
    go (Some lane) = by_case (ltb lane.arrived (2 ^ 64 - 1)) lane

-- so as much is held as before
pub held-after : (m after : Moment) (o : Option Moment) → o ≡ option_map (with_held m.held) o → o ≡ Some after → after.held ≡ m.held
held-after m after o same is = ap (λ (x : Moment). x.held) (same_Some after (with_held m.held after) (sym is ∙ same ∙ ap (option_map (with_held m.held)) is))

-- the watermark of a Close that is found is passed
module _ (plan : Shape) (m : Moment) (k l epoch serial floor mark : ℕ) (rows : List Record) (passed : Bool) (others : List Held)
    (found : first_and_rest (is_close k) m.held ≡ Some (Close k l epoch serial floor mark rows passed, others)) where
  abbrev pub held-passed : List Held
  held-passed = others ++ Close k l epoch serial floor mark rows true ∷ []

  pub pass-is : (d : Down) → below plan k ≡ Some d → passed ≡ false → is_empty rows ≡ true → mark_passed plan m k ≡ option_map (with_held held-passed) (sealed_at d mark m)
  pass-is d at not_yet none =
      then_some (first_and_rest (is_close k) m.held) (Close k l epoch serial floor mark rows passed, others) _ found
      ∙ then_some (below plan k) d _ at
      ∙ (λ i. lane_at m d >>= λ under. cond (not (not_yet i) && none i) (with_lane d (with_seal mark under) (with_held held-passed m)) None)
      ∙ sealed-held m held-passed d mark

-- the next rows of a Close that is found are delivered
module _ (plan : Shape) (m : Moment) (k l epoch serial floor mark : ℕ) (rows : List Record) (passed : Bool) (others : List Held)
    (found : first_and_rest (is_close_of k l) m.held ≡ Some (Close k l epoch serial floor mark rows passed, others)) where
  abbrev pub held-fewer : List Held
  held-fewer = others ++ Close k l epoch serial floor mark (drop m.bundle rows) passed ∷ []

  pub rows-is : (d : Down) → below plan k ≡ Some d → is_empty rows ≡ false → rows_delivered plan m k l ≡ option_map (with_held held-fewer) (arrived_at d serial floor (take m.bundle rows) m)
  rows-is d at some =
      then_some (first_and_rest (is_close_of k l) m.held) (Close k l epoch serial floor mark rows passed, others) _ found
      ∙ then_some (below plan k) d _ at
      ∙ (λ i. cond (not (some i)) (arrived_at d serial floor (take m.bundle rows) (with_held held-fewer m)) None)
      ∙ arrived-held m held-fewer d serial floor (take m.bundle rows)

-- what a Work that is found gives is delivered
module _ (plan : Shape) (m : Moment) (k l number epoch floor : ℕ) (records : List Record) (delivered : Bool) (others : List Held)
    (found : first_and_rest (is_work k l number) m.held ≡ Some (Work k l epoch floor number records delivered, others)) where
  abbrev pub held-delivered : List Held
  held-delivered = others ++ Work k l epoch floor number records true ∷ []

  abbrev pub images : List Record
  images = delivery (operator_at (slice_get plan.steps k)) records

  pub work-is : (d : Down) → below plan k ≡ Some d → delivered ≡ false → is_empty images ≡ false → bundle_delivered plan m k l number ≡ option_map (with_held held-delivered) (arrived_at d epoch floor images m)
  work-is d at not_yet some =
      then_some (first_and_rest (is_work k l number) m.held) (Work k l epoch floor number records delivered, others) _ found
      ∙ then_some (below plan k) d _ at
      ∙ (λ i. cond (not (not_yet i) && not (some i)) (arrived_at d epoch floor images (with_held held-delivered m)) None)
      ∙ arrived-held m held-delivered d epoch floor images
