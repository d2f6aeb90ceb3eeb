-- A bundle comes to a lane: the lane stays in order.
use Rattle.std.proofs.Common.{◌≡◌, ℕ, ◌+◌, ◌-◌, ◌≤◌, Bool, true, false, not, cond, eqb, ltb, List, [], ◌∷◌, length, drop, sym, refl, ap, subst, ◌∙◌, arith, get_or, length-drop, suc, zero}
use Rattle.std.proofs.lemmas.Bool.{ne_eqb, le-ltb}
use Rattle.sb_base.specs.records.declared.item.Record.{Record}
use Rattle.sb_containers.specs.declared.container.Cont.{Cont}
use Rattle.sb_containers.specs.declared.container.CoreLane.{CoreLane}
use Rattle.sb_containers.specs.LaneOrder.{AreContainers, IsLane, NeverFalls, IsWithin, AreOpen}
use Rattle.sb_containers.proofs.LaneLaws.{last_from, containers-arrival}
use Rattle.sb_containers.proofs.Begun.{begun_mark, ups}
use Rattle.std.proofs.Math.Numerals.{sub-one}
use Rattle.sb_base.specs.bundle.declared.bundle.Bundle.{Bundle}
use Rattle.sb_containers.specs.Lanes.{fresh, in_epoch, with_bundle, with_arrival, next_epoch, next_floor}
use Rattle.sb_containers.specs.Marks.{first_is_closing, last_of_first}
use Rattle.sb_containers.proofs.Fitting.{Fits}
use Rattle.sb_containers.proofs.InEpoch.{containers_out, others_calm, still_ready}
use Rattle.sb_containers.proofs.Stays.{IsKept}

-- ---- the first container of a lane stays what it is where a later epoch changes
pub calm : (bound epoch floor : ℕ) (change : Cont → Cont) → ((c : Cont) → (change c).closing ≡ c.closing) → (e f : ℕ) (ms : List ℕ) (cs : List Cont) → AreContainers bound e f ms cs → e + length ms ≤ epoch
    → first_is_closing (in_epoch epoch floor change cs) ≡ first_is_closing cs
calm bound epoch floor change same e f [] [] are h = same (fresh epoch floor)
calm bound epoch floor change same e f [] (c ∷ cs) are h = by_case (eqb c.epoch epoch) (ltb epoch c.epoch)
  where
    by_case : (a b : Bool) → first_is_closing (cond a (change c ∷ cs) (cond b (change (fresh epoch floor) ∷ c ∷ cs) (c ∷ in_epoch epoch floor change cs))) ≡ c.closing
    by_case true b = same c
    by_case false true = same (fresh epoch floor) ∙ sym are.0.not_closing
    by_case false false = refl
calm bound epoch floor change same e f (m ∷ ms) [] are h = absurd are
calm bound epoch floor change same e f (m ∷ ms) (c ∷ cs) are h =
    ap (λ b. first_is_closing (cond b (change c ∷ cs) (cond (ltb epoch c.epoch) (change (fresh epoch floor) ∷ c ∷ cs) (c ∷ in_epoch epoch floor change cs)))) (ne_eqb c.epoch epoch (λ z. omega (arith, are.0.epoch_is)))
    ∙ ap (λ b. first_is_closing (cond b (change (fresh epoch floor) ∷ c ∷ cs) (c ∷ in_epoch epoch floor change cs))) (le-ltb epoch c.epoch (omega (arith, are.0.epoch_is)))

pub arrival_calm : (bound epoch floor : ℕ) (records : List Record) (lane : CoreLane) → IsLane bound lane → next_epoch lane ≤ epoch → begun_mark (with_arrival epoch floor records lane) ≡ begun_mark lane
arrival_calm bound epoch floor records lane ok h =
    ap (λ b. last_of_first (cond b (lane.ended + 1) lane.ended) lane.marks)
    (calm bound epoch floor (with_bundle (record { number = lane.arrived + 1; epoch = epoch; floor = floor; records = records })) (λ c. refl) lane.ended (last_of_first lane.ended lane.marks) (drop lane.ended lane.marks) lane.conts ok.containers
    (omega (arith, length-drop lane.ended lane.marks, ok.ended_in)))

-- ---- the last mark
last_from-drop : (low : ℕ) (marks : List ℕ) (n : ℕ) → n ≤ length marks → last_from (cond (eqb n 0) low (get_or marks (n - 1) 0)) (drop n marks) ≡ last_from low marks
last_from-drop low marks zero h = refl
last_from-drop low [] (suc n) h = absurd (omega arith)
last_from-drop low (m ∷ ms) (suc n) h = ap (λ z. last_from z (drop n ms)) (at n) ∙ last_from-drop m ms n (omega arith)
  where
    at : (n : ℕ) → cond (eqb (suc n) 0) low (get_or (m ∷ ms) (suc n - 1) 0) ≡ cond (eqb n 0) m (get_or ms (n - 1) 0)
    at zero = refl
    at (suc n) =
        ap (λ b. cond b low (get_or (m ∷ ms) (suc (suc n) - 1) 0)) (ne_eqb (suc (suc n)) 0 (λ e. omega arith)) ∙ ap (λ j. get_or (m ∷ ms) j 0) (sub-one (suc (suc n)))
        ∙ sym (ap (λ b. cond b m (get_or ms (suc n - 1) 0)) (ne_eqb (suc n) 0 (λ e. omega arith)) ∙ ap (λ j. get_or ms j 0) (sub-one (suc n)))

last_from-last : (low : ℕ) (m : ℕ) (ms : List ℕ) → last_from low (m ∷ ms) ≡ get_or (m ∷ ms) (length (m ∷ ms) - 1) 0
last_from-last low m [] = ap (λ n. get_or (m ∷ []) n 0) zero_is
  where
    zero_is : 0 ≡ length (m ∷ []) - 1
    zero_is = omega arith
last_from-last low m (n ∷ ms) = last_from-last m n ms ∙ sym (ap (λ j. get_or (m ∷ n ∷ ms) j 0) more)
  where
    more : length (m ∷ n ∷ ms) - 1 ≡ suc (length (n ∷ ms) - 1)
    more = omega arith

pub last-next_floor : (lane : CoreLane) → lane.ended ≤ length lane.marks → last_from (last_of_first lane.ended lane.marks) (drop lane.ended lane.marks) ≡ next_floor lane
last-next_floor lane h = last_from-drop 0 lane.marks lane.ended h ∙ exact lane.marks
  where
    exact : (marks : List ℕ) → last_from 0 marks ≡ get_or marks (length marks - 1) 0
    exact [] = refl
    exact (m ∷ ms) = last_from-last 0 m ms

-- ---- the next epoch and its floor fit
rises_to : (f : ℕ) (ms : List ℕ) → NeverFalls f ms → f ≤ last_from f ms
rises_to f [] up = omega arith
rises_to f (m ∷ ms) up = let k : m ≤ last_from m ms = rises_to m ms up.1 in omega (arith, up.0)

open_fits : (bound n g e f : ℕ) (cs : List Cont) → AreOpen bound n g e f cs → n ≤ e → g ≤ f → Fits n g cs
open_fits bound n g e f [] are h k = tt
open_fits bound n g e f (c ∷ cs) are h k =
    ((λ low. absurd (omega (arith, are.0.epoch_from)), λ high. omega (arith, are.0.floor_from), are.0.next_is), open_fits bound n g (c.epoch + 1) c.floor cs are.1 (omega (arith, are.0.epoch_from)) (omega (arith, are.0.floor_from)))

containers_fit : (bound e f : ℕ) (ms : List ℕ) (cs : List Cont) → AreContainers bound e f ms cs → NeverFalls f ms → (n g : ℕ) → n ≡ e + length ms → g ≡ last_from f ms → Fits n g cs
containers_fit bound e f [] cs are up n g en eg =
    let a : n ≡ e = omega arith in
    subst (λ z. Fits z g cs) (sym a) (subst (λ z. Fits e z cs) (sym eg) (open_fits bound e f e f cs are (omega arith) (omega arith)))
containers_fit bound e f (m ∷ ms) [] are up n g en eg = absurd are
containers_fit bound e f (m ∷ ms) (c ∷ cs) are up n g en eg =
    let k : m ≤ last_from m ms = rises_to m ms up.1 in
    ((λ low. omega (arith, are.0.floor_is, up.0), λ high. absurd (omega (arith, are.0.epoch_is)), λ same. absurd (omega (arith, are.0.epoch_is))), containers_fit bound (e + 1) m ms cs are.1 up.1 n g (omega arith) eg)

-- ---- a lane with one more bundle, in an epoch that is not sealed
module _ (bound epoch floor : ℕ) (records : List Record) (lane : CoreLane) (ok : IsLane bound lane) (times : IsWithin floor bound records)
    (from : next_epoch lane ≤ epoch) (above : next_floor lane ≤ floor) (is_next : epoch ≡ next_epoch lane → floor ≡ next_floor lane) (fits : Fits epoch floor lane.conts) where
  bundle : Bundle
  bundle = record { number = lane.arrived + 1; epoch = epoch; floor = floor; records = records }

  sealed_all : lane.ended + length (drop lane.ended lane.marks) ≡ next_epoch lane
  sealed_all = omega (arith, length-drop lane.ended lane.marks, ok.ended_in)

  low : last_from (last_of_first lane.ended lane.marks) (drop lane.ended lane.marks) ≡ next_floor lane
  low = last-next_floor lane ok.ended_in

  up : NeverFalls (last_of_first lane.ended lane.marks) (drop lane.ended lane.marks)
  up = ups bound lane ok

  pub put-lane : IsLane bound (with_arrival epoch floor records lane)
  put-lane =
      record {
        ended_in = ok.ended_in;
        rising = ok.rising;
        containers = containers-arrival bound epoch floor (lane.arrived + 1) records times lane.ended (last_of_first lane.ended lane.marks) (drop lane.ended lane.marks) lane.conts ok.containers up
            (omega (arith, sealed_all)) (omega (arith, low)) (λ e. is_next (e ∙ sealed_all) ∙ sym low) fits;
        ready = still_ready bound epoch floor (with_bundle (record { number = lane.arrived + 1; epoch = epoch; floor = floor; records = records })) (λ c. refl) (λ c. refl) (λ c. refl) (λ c. refl) lane.ended (last_of_first lane.ended lane.marks) (drop lane.ended lane.marks) lane.conts ok.containers (omega (arith, sealed_all)) ok.ready;
        others = others_calm bound epoch floor (with_bundle (record { number = lane.arrived + 1; epoch = epoch; floor = floor; records = records })) (λ c. refl) (λ c. refl) (λ c. refl) (λ c. refl) lane.ended (last_of_first lane.ended lane.marks) (drop lane.ended lane.marks) lane.conts ok.containers (omega (arith, sealed_all)) ok.others;
      }

  pub put-kept : IsKept lane (with_arrival epoch floor records lane)
  put-kept =
      record {
        marks = refl;
        ended = refl;
        closing = calm bound epoch floor (with_bundle (record { number = lane.arrived + 1; epoch = epoch; floor = floor; records = records })) (λ c. refl) lane.ended (last_of_first lane.ended lane.marks) (drop lane.ended lane.marks) lane.conts ok.containers (omega (arith, sealed_all));
        out = λ at number c is out. containers_out bound epoch floor (with_bundle (record { number = lane.arrived + 1; epoch = epoch; floor = floor; records = records })) (λ c. refl) (λ c. refl) (λ c. refl) (λ c. refl) lane.ended (last_of_first lane.ended lane.marks) at number (drop lane.ended lane.marks) c lane.conts ok.containers (omega (arith, sealed_all)) out is;
      }

-- the next epoch fits
pub next_fits : (bound : ℕ) (lane : CoreLane) → IsLane bound lane → Fits (next_epoch lane) (next_floor lane) lane.conts
next_fits bound lane ok =
    containers_fit bound lane.ended (last_of_first lane.ended lane.marks) (drop lane.ended lane.marks) lane.conts ok.containers (ups bound lane ok) (next_epoch lane) (next_floor lane)
    (omega (arith, length-drop lane.ended lane.marks, ok.ended_in)) (sym (last-next_floor lane ok.ended_in))

pub arrival-lane : (bound : ℕ) (records : List Record) (lane : CoreLane) → IsLane bound lane → IsWithin (next_floor lane) bound records → IsLane bound (with_arrival (next_epoch lane) (next_floor lane) records lane)
arrival-lane bound records lane ok times = put-lane bound (next_epoch lane) (next_floor lane) records lane ok times (omega arith) (omega arith) (λ _. refl) (next_fits bound lane ok)

pub arrival-kept : (bound : ℕ) (records : List Record) (lane : CoreLane) → IsLane bound lane → IsWithin (next_floor lane) bound records → IsKept lane (with_arrival (next_epoch lane) (next_floor lane) records lane)
arrival-kept bound records lane ok times = put-kept bound (next_epoch lane) (next_floor lane) records lane ok times (omega arith) (omega arith) (λ _. refl) (next_fits bound lane ok)
