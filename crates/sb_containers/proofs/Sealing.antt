-- An epoch of a lane is sealed: the lane stays in order.
use Rattle.sb_base.specs.ElementLemmas.{every}
use Rattle.std.proofs.Common.{◌≡◌, ℕ, ◌+◌, ◌-◌, ◌≤◌, cond, List, [], ◌∷◌, ◌++◌, length, drop, Some, sym, refl, ap, subst, ◌∙◌, arith, get_or, length-drop, length-append}
use Rattle.std.specs.List.{AllByRecursion}
use Rattle.std.proofs.lemmas.List.{get_or-append_right}
use Rattle.sb_containers.specs.declared.container.Cont.{Cont}
use Rattle.sb_containers.specs.declared.container.CoreLane.{CoreLane}
use Rattle.sb_containers.specs.Marks.{begun_count, first_is_closing, last_of_first}
use Rattle.sb_containers.specs.Lanes.{in_epoch, next_epoch, next_floor, with_seal}
use Rattle.sb_containers.specs.LaneOrder.{NeverFalls, AreContainers, IsLane}
use Rattle.sb_containers.proofs.LaneLaws.{last_from, MarkFits, containers-seal}
use Rattle.sb_containers.proofs.Begun.{begun_mark, begun_within, drop-snoc, last_of_first-longer}
use Rattle.sb_containers.proofs.InEpoch.{containers_out, others_calm, still_ready}
use Rattle.sb_containers.proofs.Arriving.{last-next_floor, calm}
use Rattle.sb_containers.proofs.Stays.{IsOutAt}

falls-snoc : (low mark : ℕ) (ms : List ℕ) → NeverFalls low ms → last_from low ms ≤ mark → NeverFalls low (ms ++ mark ∷ [])
falls-snoc low mark [] up h = (h, tt)
falls-snoc low mark (m ∷ ms) up h = (up.0, falls-snoc m mark ms up.1 h)

-- where no container is of an epoch after the next one
pub marks_fit : (mark next : ℕ) (cs : List Cont) → AllByRecursion (λ c. next ≤ c.epoch → c.epoch ≡ next) cs → MarkFits mark next cs
marks_fit mark next = every (λ c h low. absurd (let k : c.epoch ≡ next = h (omega arith) in omega arith))

module _ (bound mark : ℕ) (lane : CoreLane) (ok : IsLane bound lane) (up : next_floor lane ≤ mark) (fits : MarkFits mark (next_epoch lane) lane.conts) where
  sealed_all : lane.ended + length (drop lane.ended lane.marks) ≡ next_epoch lane
  sealed_all = omega (arith, length-drop lane.ended lane.marks, ok.ended_in)

  low : last_from (last_of_first lane.ended lane.marks) (drop lane.ended lane.marks) ≡ next_floor lane
  low = last-next_floor lane ok.ended_in

  pub seal-lane : IsLane bound (with_seal mark lane)
  seal-lane =
      record {
        ended_in = omega (arith, length-append lane.marks (mark ∷ []), ok.ended_in);
        rising = falls-snoc 0 mark lane.marks ok.rising (subst (λ n. n ≤ mark) (sym (last-next_floor (record lane { ended = 0 }) (omega arith))) up);
        containers = subst (λ n. AreContainers bound lane.ended n (drop lane.ended (lane.marks ++ mark ∷ [])) (in_epoch (next_epoch lane) (next_floor lane) (λ c. record c { mark = Some mark }) lane.conts)) (sym (last_of_first-longer lane.ended mark lane.marks ok.ended_in))
            (subst (λ ms. AreContainers bound lane.ended (last_of_first lane.ended lane.marks) ms (in_epoch (next_epoch lane) (next_floor lane) (λ c. record c { mark = Some mark }) lane.conts)) (sym (drop-snoc lane.ended mark lane.marks ok.ended_in))
            (containers-seal bound mark lane.ended (last_of_first lane.ended lane.marks) (next_epoch lane) (next_floor lane) (drop lane.ended lane.marks) lane.conts ok.containers (sym sealed_all) (sym low) fits));
        ready = still_ready bound (next_epoch lane) (next_floor lane) (λ c. record c { mark = Some mark }) (λ c. refl) (λ c. refl) (λ c. refl) (λ c. refl) lane.ended (last_of_first lane.ended lane.marks) (drop lane.ended lane.marks) lane.conts ok.containers (omega (arith, sealed_all)) ok.ready;
        others = others_calm bound (next_epoch lane) (next_floor lane) (λ c. record c { mark = Some mark }) (λ c. refl) (λ c. refl) (λ c. refl) (λ c. refl) lane.ended (last_of_first lane.ended lane.marks) (drop lane.ended lane.marks) lane.conts ok.containers (omega (arith, sealed_all)) ok.others;
      }

  pub seal-closing : first_is_closing (with_seal mark lane).conts ≡ first_is_closing lane.conts
  seal-closing = calm bound (next_epoch lane) (next_floor lane) (λ c. record c { mark = Some mark }) (λ c. refl) lane.ended (last_of_first lane.ended lane.marks) (drop lane.ended lane.marks) lane.conts ok.containers (omega (arith, sealed_all))

  pub seal-begun : begun_count (with_seal mark lane) ≡ begun_count lane
  seal-begun = ap (λ b. cond b (lane.ended + 1) lane.ended) seal-closing

  pub seal-out : (epoch floor number : ℕ) → IsOutAt epoch floor number lane → IsOutAt epoch floor number (with_seal mark lane)
  seal-out epoch floor number o =
      let k = containers_out bound (next_epoch lane) (next_floor lane) (λ c. record c { mark = Some mark }) (λ c. refl) (λ c. refl) (λ c. refl) (λ c. refl) lane.ended (last_of_first lane.ended lane.marks) epoch number (drop lane.ended lane.marks) o.0 lane.conts ok.containers (omega (arith, sealed_all)) o.3 o.1 in
      (k.0, k.1, k.2 ∙ o.2, k.3)

-- ---- a lane is sealed
pub seal_calm : (bound mark : ℕ) (lane : CoreLane) → IsLane bound lane → begun_mark (with_seal mark lane) ≡ begun_mark lane
seal_calm bound mark lane ok =
    ap (λ b. last_of_first (cond b (lane.ended + 1) lane.ended) (lane.marks ++ mark ∷ []))
    (calm bound (next_epoch lane) (next_floor lane) (λ c. record c { mark = Some mark }) (λ c. refl) lane.ended (last_of_first lane.ended lane.marks) (drop lane.ended lane.marks) lane.conts ok.containers (omega (arith, length-drop lane.ended lane.marks, ok.ended_in)))
    ∙ last_of_first-longer (begun_count lane) mark lane.marks (begun_within bound lane ok)

pub sealed_floor : (mark : ℕ) (lane : CoreLane) → next_floor (with_seal mark lane) ≡ mark
sealed_floor mark lane =
    let a : length (lane.marks ++ mark ∷ []) - 1 ≡ length lane.marks = omega (arith, length-append lane.marks (mark ∷ [])) in
    let b : length lane.marks - length lane.marks ≡ 0 = omega arith in
    ap (λ n. get_or (lane.marks ++ mark ∷ []) n 0) a ∙ get_or-append_right lane.marks (mark ∷ []) (length lane.marks) (length lane.marks) 0 refl (omega arith) ∙ ap (λ n. get_or (mark ∷ []) n 0) b
