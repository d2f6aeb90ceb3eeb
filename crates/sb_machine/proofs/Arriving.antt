-- When a bundle of a stream may come.
use Rattle.std.proofs.Common.{◌≡◌, ℕ, ◌≤◌, ◌<◌, Bool, true, false, not, eqb, leb, List, [], ◌∷◌, length, Some, None, Option, sym, refl, ap, subst, ◌∙◌, arith}
use Rattle.std.specs.Prelude.{◌&&◌}
use Rattle.std.specs.List.{list_all}
use Rattle.std.proofs.lemmas.Bool.{eqb-true, le-leb, lt-leb}
use Rattle.sb_slow.specs.base.records.declared.item.Record.{Record}
use Rattle.sb_slow.specs.base.records.declared.item.Stream.{Stream}
use Rattle.sb_slow.specs.base.records.declared.item.TheConstants.{MAX_TIME}
use Rattle.sb_slow.specs.base.records.Reading.{◌>>=◌}
use Rattle.sb_slow.specs.base.pipeline.declared.transform.Down.{Down}
use Rattle.sb_slow.specs.base.pipeline.Shapes.{Shape, source}
use Rattle.sb_core.specs.containers.declared.container.CoreLane.{CoreLane}
use Rattle.sb_core.specs.declared.moment.Moment.{Moment}
use Rattle.sb_core.specs.containers.Choices.{only_if, is_empty}
use Rattle.sb_core.specs.containers.Lanes.{next_epoch, next_floor}
use Rattle.sb_core.specs.Moments.{lane_at}
use Rattle.sb_core.specs.LaneSteps.{arrived_at}
use Rattle.sb_core.specs.MomentSteps.{after_arrive}

empty_is : (l : List Record) (b : Bool) → b ≡ eqb (length l) 0 → is_empty l ≡ b
empty_is [] b e = sym e
empty_is (x ∷ l) true e = let n : length (x ∷ l) ≡ 0 = eqb-true (length (x ∷ l)) 0 (sym e) in absurd (omega arith)
empty_is (x ∷ l) false e = refl

and_middle : (a c : Bool) → (a && (false && c)) ≡ false
and_middle true c = refl
and_middle false c = refl

and_last : (a b : Bool) → (a && (b && false)) ≡ false
and_last true true = refl
and_last true false = refl
and_last false b = refl

abbrev pub are_timely : ℕ → List Record → Bool
are_timely floor l = list_all (λ r. leb floor r.time && leb r.time MAX_TIME) l

module _ (plan : Shape) (m : Moment) (stream : Stream) (records list : List Record) (d : Down) (lane : CoreLane) (epoch floor : ℕ)
    (to : Some d ≡ source plan stream) (at : lane_at m d ≡ Some lane) (epoch_is : epoch ≡ next_epoch lane) (floor_is : floor ≡ next_floor lane) (same : list ≡ records) where
  abbrev test : List Record → Bool → Bool → Bool
  test l few timely = not (is_empty l) && (few && timely)

  arrive-is : after_arrive plan m stream records ≡ only_if (test records (leb (length records) m.bundle) (are_timely floor records)) (arrived_at d epoch floor records m)
  arrive-is =
      ap (λ (o : Option Down). o >>= λ d. lane_at m d >>= λ lane. only_if (test records (leb (length records) m.bundle) (are_timely (next_floor lane) records)) (arrived_at d (next_epoch lane) (next_floor lane) records m)) (sym to)
      ∙ ap (λ (o : Option CoreLane). o >>= λ lane. only_if (test records (leb (length records) m.bundle) (are_timely (next_floor lane) records)) (arrived_at d (next_epoch lane) (next_floor lane) records m)) at
      ∙ (λ i. only_if (test records (leb (length records) m.bundle) (are_timely (sym floor_is i) records)) (arrived_at d (sym epoch_is i) (sym floor_is i) records m))

  by_test : (b : Bool) → test records (leb (length records) m.bundle) (are_timely floor records) ≡ b → after_arrive plan m stream records ≡ only_if b (arrived_at d epoch floor records m)
  by_test b e = arrive-is ∙ ap (λ b. only_if b (arrived_at d epoch floor records m)) e

  pub arrive-empty : true ≡ eqb (length list) 0 → after_arrive plan m stream records ≡ None
  arrive-empty none = by_test false (ap (λ b. not b && (leb (length records) m.bundle && are_timely floor records)) (ap is_empty (sym same) ∙ empty_is list true none))

  pub arrive-many : m.bundle < length list → after_arrive plan m stream records ≡ None
  arrive-many many =
      by_test false (ap (λ b. not (is_empty records) && (b && are_timely floor records)) (lt-leb (length records) m.bundle (subst (λ l. m.bundle < length l) same many)) ∙ and_middle (not (is_empty records)) (are_timely floor records))

  pub arrive-late : false ≡ are_timely floor list → after_arrive plan m stream records ≡ None
  arrive-late late =
      by_test false (ap (λ b. not (is_empty records) && (leb (length records) m.bundle && b)) (ap (are_timely floor) (sym same) ∙ sym late) ∙ and_last (not (is_empty records)) (leb (length records) m.bundle))

  pub arrive-timely : false ≡ eqb (length list) 0 → length list ≤ m.bundle → true ≡ are_timely floor list → after_arrive plan m stream records ≡ arrived_at d epoch floor records m
  arrive-timely some few timely =
      by_test true (
      ap (λ b. not b && (leb (length records) m.bundle && are_timely floor records)) (ap is_empty (sym same) ∙ empty_is list false some)
      ∙ ap (λ b. b && are_timely floor records) (le-leb (length records) m.bundle (subst (λ l. length l ≤ m.bundle) same few))
      ∙ ap (are_timely floor) (sym same) ∙ sym timely)
