-- The first container of a lane ends: the lane stays in order.
use Rattle.std.proofs.Common.{◌≡◌, ℕ, suc, zero, ◌+◌, true, false, not, cond, eqb, List, [], ◌∷◌, length, drop, Some, sym, refl, ap, subst, ◌∙◌, arith, length-drop}
use Rattle.std.specs.List.{list_any, AllByRecursion}
use Rattle.sb_containers.specs.declared.container.Cont.{Cont}
use Rattle.sb_containers.specs.declared.container.CoreLane.{CoreLane}
use Rattle.sb_containers.specs.Marks.{begun_count, first_is_closing, last_of_first}
use Rattle.sb_containers.specs.LaneOrder.{AreContainers, IsLane, IsReady, cont_at}
use Rattle.sb_containers.proofs.Begun.{begun_mark, next_mark, out_behind}
use Rattle.sb_containers.proofs.InEpoch.{tail_calm, ready_calm}
use Rattle.sb_containers.proofs.Stays.{IsOutAt}

-- ---- the lane without its first container
abbrev pub shorter : CoreLane → CoreLane
shorter lane = record lane { conts = drop 1 lane.conts; ended = lane.ended + 1 }

calm_first : (cs : List Cont) → AllByRecursion (λ c. c.closing ≡ false) cs → first_is_closing cs ≡ false
calm_first [] all = refl
calm_first (c ∷ cs) all = all.0

module _ (bound : ℕ) (lane : CoreLane) (ok : IsLane bound lane) (closing : first_is_closing lane.conts ≡ true) where
  pub end-calm : first_is_closing (shorter lane).conts ≡ false
  end-calm = calm_first (drop 1 lane.conts) ok.others

  pub end-begun : begun_count (shorter lane) ≡ begun_count lane
  end-begun = ap (λ b. cond b (lane.ended + 1 + 1) (lane.ended + 1)) end-calm ∙ sym (ap (λ b. cond b (lane.ended + 1) lane.ended) closing)

  pub end-mark : begun_mark (shorter lane) ≡ begun_mark lane
  end-mark = ap (λ n. last_of_first n lane.marks) end-begun

  pub end-lane : IsLane bound (shorter lane)
  end-lane = go lane.conts refl (drop lane.ended lane.marks) refl ok.containers closing
    where
      go : (cs : List Cont) → lane.conts ≡ cs → (ms : List ℕ) → drop lane.ended lane.marks ≡ ms → AreContainers bound lane.ended (last_of_first lane.ended lane.marks) ms cs → first_is_closing cs ≡ true → IsLane bound (shorter lane)
      go [] e ms em are c = cc
      go (x ∷ cs) e [] em are c = let k : false ≡ true = sym are.0.not_closing ∙ c in cc
      go (x ∷ cs) e (m ∷ ms) em are c =
          let long : length (drop lane.ended lane.marks) ≡ suc (length ms) = ap length em in
          record {
            ended_in = omega (arith, length-drop lane.ended lane.marks);
            rising = ok.rising;
            containers = subst (λ l. AreContainers bound (lane.ended + 1) (last_of_first (lane.ended + 1) lane.marks) (drop (lane.ended + 1) lane.marks) (drop 1 l)) (sym e)
                (subst (λ n. AreContainers bound (lane.ended + 1) n (drop (lane.ended + 1) lane.marks) cs) (sym (next_mark bound lane ok m ms em))
                (subst (λ l. AreContainers bound (lane.ended + 1) m l cs) (sym (ap (λ n. drop n lane.marks) (one_more lane.ended) ∙ drop_more lane.ended lane.marks m ms em)) are.1));
            ready = ready_calm (drop 1 lane.conts) ok.others;
            others = tail_calm (drop 1 lane.conts) ok.others;
          }
        where
          one_more : (n : ℕ) → n + 1 ≡ suc n
          one_more n = omega arith

          drop_more : (n : ℕ) (l : List ℕ) (m : ℕ) (ms : List ℕ) → drop n l ≡ m ∷ ms → drop (suc n) l ≡ ms
          drop_more zero [] m ms e = cc
          drop_more zero (x ∷ l) m ms e = cc
          drop_more (suc n) [] m ms e = cc
          drop_more (suc n) (x ∷ l) m ms e = drop_more n l m ms e

  -- what is out is not of the container that goes
  pub end-out : (epoch floor number : ℕ) → IsOutAt epoch floor number lane → IsOutAt epoch floor number (shorter lane)
  end-out epoch floor number o = go lane.conts ok.ready closing o.1
    where
      go : (cs : List Cont) → IsReady cs → first_is_closing cs ≡ true → cont_at epoch cs ≡ Some o.0 → (c : Cont) × (cont_at epoch (drop 1 cs) ≡ Some c) × (c.floor ≡ floor) × (list_any (λ n. eqb n number) c.out ≡ true)
      go [] ready c h = cc
      go (x ∷ cs) ready c h = (o.0, out_behind epoch number o.0 x cs o.3 (ready c).1 h, o.2, o.3)
