-- How far a lane has begun to close: its marks never fall, and what waits or is out is of a later epoch.
use Rattle.std.proofs.Common.{◌≡◌, ℕ, suc, zero, ◌+◌, Bool, true, false, cond, eqb, List, [], ◌∷◌, Some, sym, refl, ap, subst, ◌∙◌, arith, ⊎_elim, ◌-◌, ◌≤◌, ◌<◌, ◌++◌, length, drop, get_or-drop, length-drop, get_or, not}
use Rattle.std.specs.Prelude.{◌≢◌, ◌⊎◌, min}
use Rattle.std.specs.List.{slice_get, list_any}
use Rattle.std.proofs.lemmas.List.{get_or_append_left}
use Rattle.std.proofs.lemmas.Option.{same_Some}
use Rattle.std.proofs.lemmas.Bool.{eq-eqb, ne_eqb, cases_eq, eqb-true}
use Rattle.sb_containers.specs.declared.container.CoreLane.{CoreLane}
use Rattle.sb_containers.specs.Marks.{begun_count, last_of_first, least_begun_mark, first_is_closing}
use Rattle.std.proofs.Math.Numerals.{sub-one}
use Rattle.sb_containers.specs.declared.container.Cont.{Cont}
use Rattle.sb_containers.specs.Lanes.{next_floor}
use Rattle.sb_containers.specs.LaneOrder.{NeverFalls, AreOpen, AreContainers, IsLane, IsReady, cont_at}
use Rattle.sb_containers.proofs.InEpoch.{open-from}

-- the mark of the last epoch that has begun to close, or 0
abbrev pub begun_mark : CoreLane → ℕ
begun_mark lane = last_of_first (begun_count lane) lane.marks

-- ---- marks
last-rises : (low : ℕ) (marks : List ℕ) (j n : ℕ) → NeverFalls low marks → j ≤ n → n < length marks → get_or marks j 0 ≤ get_or marks n 0
last-rises low [] j n up h b = absurd (omega arith)
last-rises low (m ∷ ms) zero zero up h b = omega arith
last-rises low (m ∷ ms) zero (suc n) up h b = let k : m ≤ get_or ms n 0 = above m ms n up.1 (omega arith) in k
  where
    above : (low : ℕ) (ms : List ℕ) (n : ℕ) → NeverFalls low ms → n < length ms → low ≤ get_or ms n 0
    above low [] n up b = absurd (omega arith)
    above low (m ∷ ms) zero up b = up.0
    above low (m ∷ ms) (suc n) up b = let k : m ≤ get_or ms n 0 = above m ms n up.1 (omega arith) in omega (arith, up.0)
last-rises low (m ∷ ms) (suc j) zero up h b = absurd (omega arith)
last-rises low (m ∷ ms) (suc j) (suc n) up h b = last-rises m ms j n up.1 (omega arith) (omega arith)

pub last_of_first-rises : (marks : List ℕ) (j n : ℕ) → NeverFalls 0 marks → j ≤ n → n ≤ length marks → last_of_first j marks ≤ last_of_first n marks
last_of_first-rises marks j n up h b = ⊎_elim first later (cases_eq j 0)
  where
    first : j ≡ 0 → last_of_first j marks ≤ last_of_first n marks
    first e = subst (λ b. cond b 0 (get_or marks (j - 1) 0) ≤ last_of_first n marks) (sym (eq-eqb j 0 e)) (omega arith)

    later : j ≢ 0 → last_of_first j marks ≤ last_of_first n marks
    later ne =
        subst (λ b. cond b 0 (get_or marks (j - 1) 0) ≤ last_of_first n marks) (sym (ne_eqb j 0 ne))
        (subst (λ b. get_or marks (j - 1) 0 ≤ cond b 0 (get_or marks (n - 1) 0)) (sym (ne_eqb n 0 (λ e. ne (omega arith))))
        (last-rises 0 marks (j - 1) (n - 1) up (omega arith) (omega arith)))

pub next_floor_is : (lane : CoreLane) → next_floor lane ≡ last_of_first (length lane.marks) lane.marks
next_floor_is lane = go lane.marks
  where
    go : (marks : List ℕ) → get_or marks (length marks - 1) 0 ≡ last_of_first (length marks) marks
    go [] = refl
    go (m ∷ ms) = ap (λ b. cond b 0 (get_or (m ∷ ms) (length (m ∷ ms) - 1) 0)) (sym (ne_eqb (length (m ∷ ms)) 0 (λ e. omega arith)))

-- what is left of marks that never fall, from the last of those before on
falls-drop : (low : ℕ) (marks : List ℕ) (n : ℕ) → NeverFalls low marks → n ≤ length marks → NeverFalls (cond (eqb n 0) low (get_or marks (n - 1) 0)) (drop n marks)
falls-drop low marks zero up h = up
falls-drop low [] (suc n) up h = absurd (omega arith)
falls-drop low (m ∷ ms) (suc n) up h = subst (λ z. NeverFalls z (drop n ms)) (at n) (falls-drop m ms n up.1 (omega arith))
  where
    at : (n : ℕ) → cond (eqb n 0) m (get_or ms (n - 1) 0) ≡ cond (eqb (suc n) 0) low (get_or (m ∷ ms) (suc n - 1) 0)
    at zero = refl
    at (suc n) =
        ap (λ b. cond b m (get_or ms (suc n - 1) 0)) (ne_eqb (suc n) 0 (λ e. omega arith)) ∙ ap (λ j. get_or ms j 0) (sub-one (suc n))
        ∙ sym (ap (λ b. cond b low (get_or (m ∷ ms) (suc (suc n) - 1) 0)) (ne_eqb (suc (suc n)) 0 (λ e. omega arith)) ∙ ap (λ j. get_or (m ∷ ms) j 0) (sub-one (suc (suc n))))

-- the floor of a container that is there
open_floor : (bound n g e f epoch : ℕ) (cs : List Cont) (c : Cont) → AreOpen bound n g e f cs → cont_at epoch cs ≡ Some c → f ≤ c.floor
open_floor bound n g e f epoch [] c are h = cc
open_floor bound n g e f epoch (x ∷ cs) c are h = by_case (eqb x.epoch epoch) h (λ k. open_floor bound n g (x.epoch + 1) x.floor epoch cs c are.1 k)
  where
    by_case : (b : Bool) → cond b (Some x) (cont_at epoch cs) ≡ Some c → (cont_at epoch cs ≡ Some c → x.floor ≤ c.floor) → f ≤ c.floor
    by_case true h ih = let k : x ≡ c = cc in subst (λ (c : Cont). f ≤ c.floor) k are.0.floor_from
    by_case false h ih = let k : x.floor ≤ c.floor = ih h in omega (arith, are.0.floor_from)

container_floor : (bound e f epoch : ℕ) (ms : List ℕ) (cs : List Cont) (c : Cont) → AreContainers bound e f ms cs → NeverFalls f ms → cont_at epoch cs ≡ Some c → f ≤ c.floor
container_floor bound e f epoch [] cs c are up h = open_floor bound e f e f epoch cs c are h
container_floor bound e f epoch (m ∷ ms) [] c are up h = absurd are
container_floor bound e f epoch (m ∷ ms) (x ∷ cs) c are up h = by_case (eqb x.epoch epoch) h (λ k. container_floor bound (e + 1) m epoch ms cs c are.1 up.1 k)
  where
    by_case : (b : Bool) → cond b (Some x) (cont_at epoch cs) ≡ Some c → (cont_at epoch cs ≡ Some c → m ≤ c.floor) → f ≤ c.floor
    by_case true h ih = let k : x ≡ c = cc in subst (λ (c : Cont). f ≤ c.floor) k (omega (arith, are.0.floor_is))
    by_case false h ih = let k : m ≤ c.floor = ih h in omega (arith, up.0)

-- what is out is not of a container that has nothing out
pub out_behind : (epoch number : ℕ) (c x : Cont) (cs : List Cont) → list_any (λ n. eqb n number) c.out ≡ true → x.out ≡ [] → cont_at epoch (x ∷ cs) ≡ Some c → cont_at epoch cs ≡ Some c
out_behind epoch number c x cs out none at = by_case (eqb x.epoch epoch) at
  where
    by_case : (b : Bool) → cond b (Some x) (cont_at epoch cs) ≡ Some c → cont_at epoch cs ≡ Some c
    by_case true h = let n : false ≡ true = sym (ap (λ (c : Cont). list_any (λ n. eqb n number) c.out) (sym (same_Some x c h)) ∙ ap (list_any (λ n. eqb n number)) none) ∙ out in cc
    by_case false h = h

-- ---- a lane: what waits and works there is from the last begun mark on
module _ (bound : ℕ) (lane : CoreLane) (ok : IsLane bound lane) where
  pub ups : NeverFalls (last_of_first lane.ended lane.marks) (drop lane.ended lane.marks)
  ups = falls-drop 0 lane.marks lane.ended ok.rising ok.ended_in

  pub next_mark : (m : ℕ) (ms : List ℕ) → drop lane.ended lane.marks ≡ m ∷ ms → last_of_first (lane.ended + 1) lane.marks ≡ m
  next_mark m ms e =
      ap (λ b. cond b 0 (get_or lane.marks (lane.ended + 1 - 1) 0)) (ne_eqb (lane.ended + 1) 0 (λ e. omega arith))
      ∙ ap (λ n. get_or lane.marks n 0) (omega arith) ∙ sym (get_or-drop lane.ended lane.marks 0 0) ∙ ap (λ l. get_or l 0 0) e

  pub work_floor : (epoch number : ℕ) (c : Cont) → cont_at epoch lane.conts ≡ Some c → list_any (λ n. eqb n number) c.out ≡ true → begun_mark lane ≤ c.floor
  work_floor epoch number c = go lane.conts refl (drop lane.ended lane.marks) refl ok.containers ok.ready ups
    where
      go : (cs : List Cont) → lane.conts ≡ cs → (ms : List ℕ) → drop lane.ended lane.marks ≡ ms → AreContainers bound lane.ended (last_of_first lane.ended lane.marks) ms cs → IsReady cs → NeverFalls (last_of_first lane.ended lane.marks) ms
          → cont_at epoch cs ≡ Some c → list_any (λ n. eqb n number) c.out ≡ true → last_of_first (cond (first_is_closing cs) (lane.ended + 1) lane.ended) lane.marks ≤ c.floor
      go [] e ms em are ready up at out = cc
      go (x ∷ cs) e [] em are ready up at out =
          subst (λ b. last_of_first (cond b (lane.ended + 1) lane.ended) lane.marks ≤ c.floor) (sym are.0.not_closing) (container_floor bound lane.ended (last_of_first lane.ended lane.marks) epoch [] (x ∷ cs) c are tt at)
      go (x ∷ cs) e (m ∷ ms) em are ready up at out = by_case x.closing refl
        where
          by_case : (b : Bool) → x.closing ≡ b → last_of_first (cond x.closing (lane.ended + 1) lane.ended) lane.marks ≤ c.floor
          by_case true h =
              subst (λ b. last_of_first (cond b (lane.ended + 1) lane.ended) lane.marks ≤ c.floor) (sym h)
              (subst (λ n. n ≤ c.floor) (sym (next_mark m ms em)) (container_floor bound (lane.ended + 1) m epoch ms cs c are.1 up.1 (out_behind epoch number c x cs out (ready h).1 at)))
          by_case false h =
              subst (λ b. last_of_first (cond b (lane.ended + 1) lane.ended) lane.marks ≤ c.floor) (sym h) (container_floor bound lane.ended (last_of_first lane.ended lane.marks) epoch (m ∷ ms) (x ∷ cs) c are up at)

  -- what is out is of an epoch that has not begun to close
  pub work_epoch : (epoch number : ℕ) (c : Cont) → cont_at epoch lane.conts ≡ Some c → list_any (λ n. eqb n number) c.out ≡ true → begun_count lane ≤ epoch
  work_epoch epoch number c = go lane.conts (drop lane.ended lane.marks) ok.containers ok.ready
    where
      of_all : (e f : ℕ) (ms : List ℕ) (cs : List Cont) → AreContainers bound e f ms cs → cont_at epoch cs ≡ Some c → e ≤ epoch
      of_all e f [] cs are h = open-from bound e f e f epoch c cs are h
      of_all e f (m ∷ ms) [] are h = absurd are
      of_all e f (m ∷ ms) (x ∷ cs) are h = by_case (eqb x.epoch epoch) refl h (λ k. of_all (e + 1) m ms cs are.1 k)
        where
          by_case : (b : Bool) → eqb x.epoch epoch ≡ b → cond b (Some x) (cont_at epoch cs) ≡ Some c → (cont_at epoch cs ≡ Some c → e + 1 ≤ epoch) → e ≤ epoch
          by_case true e h ih = omega (arith, are.0.epoch_is, eqb-true x.epoch epoch e)
          by_case false e h ih = omega (arith, ih h)

      go : (cs : List Cont) (ms : List ℕ) → AreContainers bound lane.ended (last_of_first lane.ended lane.marks) ms cs → IsReady cs → cont_at epoch cs ≡ Some c → list_any (λ n. eqb n number) c.out ≡ true → cond (first_is_closing cs) (lane.ended + 1) lane.ended ≤ epoch
      go [] ms are ready h out = cc
      go (x ∷ cs) [] are ready h out = subst (λ b. cond b (lane.ended + 1) lane.ended ≤ epoch) (sym are.0.not_closing) (of_all lane.ended (last_of_first lane.ended lane.marks) [] (x ∷ cs) are h)
      go (x ∷ cs) (m ∷ ms) are ready h out = by_case x.closing refl
        where
          by_case : (b : Bool) → x.closing ≡ b → cond x.closing (lane.ended + 1) lane.ended ≤ epoch
          by_case true e = subst (λ b. cond b (lane.ended + 1) lane.ended ≤ epoch) (sym e) (of_all (lane.ended + 1) m ms cs are.1 (out_behind epoch number c x cs out (ready e).1 h))
          by_case false e = subst (λ b. cond b (lane.ended + 1) lane.ended ≤ epoch) (sym e) (of_all lane.ended (last_of_first lane.ended lane.marks) (m ∷ ms) (x ∷ cs) are h)

  -- a lane has begun no more than is sealed
  pub begun_within : begun_count lane ≤ length lane.marks
  begun_within = go lane.conts (drop lane.ended lane.marks) refl ok.containers
    where
      go : (cs : List Cont) (ms : List ℕ) → drop lane.ended lane.marks ≡ ms → AreContainers bound lane.ended (last_of_first lane.ended lane.marks) ms cs → cond (first_is_closing cs) (lane.ended + 1) lane.ended ≤ length lane.marks
      go [] ms e are = ok.ended_in
      go (c ∷ cs) [] e are = subst (λ b. cond b (lane.ended + 1) lane.ended ≤ length lane.marks) (sym are.0.not_closing) ok.ended_in
      go (c ∷ cs) (m ∷ ms) e are = by_case c.closing
        where
          by_case : (b : Bool) → cond b (lane.ended + 1) lane.ended ≤ length lane.marks
          by_case true = let k : length (drop lane.ended lane.marks) ≡ suc (length ms) = ap length e in omega (arith, length-drop lane.ended lane.marks)
          by_case false = ok.ended_in

  pub begun_behind : begun_mark lane ≤ next_floor lane
  begun_behind = subst (λ n. begun_mark lane ≤ n) (sym (next_floor_is lane)) (last_of_first-rises lane.marks (begun_count lane) (length lane.marks) ok.rising begun_within (omega arith))

-- ---- the least over the lanes
pub closed_least : (lanes : List CoreLane) (l : ℕ) (lane : CoreLane) → slice_get lanes l ≡ Some lane → least_begun_mark lanes ≤ begun_mark lane
closed_least [] l lane h = cc
closed_least (first ∷ []) zero lane h = let k : first ≡ lane = cc in subst (λ (x : CoreLane). begun_mark first ≤ begun_mark x) k (omega arith)
closed_least (first ∷ []) (suc l) lane h = cc
closed_least (first ∷ second ∷ lanes) zero lane h = let k : first ≡ lane = cc in subst (λ (x : CoreLane). min (begun_mark first) (least_begun_mark (second ∷ lanes)) ≤ begun_mark x) k (omega arith)
closed_least (first ∷ second ∷ lanes) (suc l) lane h = let k : least_begun_mark (second ∷ lanes) ≤ begun_mark lane = closed_least (second ∷ lanes) l lane h in omega arith

pub drop-snoc : (n mark : ℕ) (ms : List ℕ) → n ≤ length ms → drop n (ms ++ mark ∷ []) ≡ drop n ms ++ mark ∷ []
drop-snoc zero mark ms h = refl
drop-snoc (suc n) mark [] h = absurd (omega arith)
drop-snoc (suc n) mark (m ∷ ms) h = drop-snoc n mark ms (omega arith)

pub last_of_first-longer : (n mark : ℕ) (marks : List ℕ) → n ≤ length marks → last_of_first n (marks ++ mark ∷ []) ≡ last_of_first n marks
last_of_first-longer n mark marks h = ⊎_elim
    (λ e. ap (λ b. cond b 0 (get_or (marks ++ mark ∷ []) (n - 1) 0)) (eq-eqb n 0 e) ∙ sym (ap (λ b. cond b 0 (get_or marks (n - 1) 0)) (eq-eqb n 0 e)))
    (λ ne. ap (cond (eqb n 0) 0) (get_or_append_left marks (mark ∷ []) 0 (n - 1) (omega arith)))
    (cases_eq n 0)
