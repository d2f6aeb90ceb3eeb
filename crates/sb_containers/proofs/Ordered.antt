-- The containers of a lane in order of epoch and floor, and those of the lane below a ParDo.
use Rattle.std.proofs.Common.{◌≡◌, ℕ, ◌+◌, ◌≤◌, ◌<◌, Bool, true, false, cond, eqb, List, [], ◌∷◌, drop, Some, sym, refl, ap, subst, ◌∙◌, arith}
use Rattle.std.specs.Prelude.{◌&&◌, ◌||◌}
use Rattle.std.specs.List.{list_any, AllByRecursion}
use Rattle.std.proofs.lemmas.Bool.{eqb-true, eq-eqb, ne_eqb, and_parts}
use Rattle.std.proofs.lemmas.Option.{same_Some}
use Rattle.sb_containers.specs.declared.container.Cont.{Cont}
use Rattle.sb_containers.specs.declared.container.CoreLane.{CoreLane}
use Rattle.sb_containers.specs.Marks.{begun_count, first_is_closing, last_of_first}
use Rattle.sb_containers.specs.LaneOrder.{NeverFalls, AreOpen, AreContainers, IsLane, cont_at}
use Rattle.sb_containers.proofs.Fitting.{Fits}
use Rattle.sb_containers.proofs.Begun.{ups, next_mark, begun_mark}
use Rattle.sb_base.specs.ElementLemmas.{every}

-- epochs rise, and floors do not fall
abbrev pub AreRising : ℕ → ℕ → List Cont → Type 0
AreRising e f [] = Unit {0}
AreRising e f (c ∷ cs) = (e ≤ c.epoch) × (f ≤ c.floor) × AreRising (c.epoch + 1) c.floor cs

rising_weaker : (e f g h : ℕ) (cs : List Cont) → e ≤ g → f ≤ h → AreRising g h cs → AreRising e f cs
rising_weaker e f g h [] a b r = tt
rising_weaker e f g h (c ∷ cs) a b r = (omega (arith, r.0), omega (arith, r.1), r.2)

rising-open : (bound n g e f : ℕ) (cs : List Cont) → AreOpen bound n g e f cs → AreRising e f cs
rising-open bound n g e f [] are = tt
rising-open bound n g e f (c ∷ cs) are = (are.0.epoch_from, are.0.floor_from, rising-open bound n g (c.epoch + 1) c.floor cs are.1)

pub rising-containers : (bound e f : ℕ) (ms : List ℕ) (cs : List Cont) → AreContainers bound e f ms cs → NeverFalls f ms → AreRising e f cs
rising-containers bound e f [] cs are up = rising-open bound e f e f cs are
rising-containers bound e f (m ∷ ms) [] are up = absurd are
rising-containers bound e f (m ∷ ms) (c ∷ cs) are up =
    (omega (arith, are.0.epoch_is), omega (arith, are.0.floor_is), rising_weaker (c.epoch + 1) c.floor (e + 1) m cs (omega (arith, are.0.epoch_is)) (omega (arith, are.0.floor_is, up.0)) (rising-containers bound (e + 1) m ms cs are.1 up.1))

-- all of them from an epoch and a floor on
abbrev IsFrom : ℕ → ℕ → Cont → Type 0
IsFrom e f c = (e ≤ c.epoch) × (f ≤ c.floor)

all_from : (e f : ℕ) (cs : List Cont) → AreRising e f cs → AllByRecursion (IsFrom e f) cs
all_from e f [] r = tt
all_from e f (c ∷ cs) r = ((r.0, r.1), all_from e f cs (rising_weaker e f (c.epoch + 1) c.floor cs (omega (arith, r.0)) r.1 r.2))

found : (P : Cont → Type 0) (epoch : ℕ) (cs : List Cont) (c : Cont) → AllByRecursion P cs → cont_at epoch cs ≡ Some c → P c × (c.epoch ≡ epoch)
found P epoch [] c all h = cc
found P epoch (x ∷ cs) c all h = by_case (eqb x.epoch epoch) refl h (λ k. found P epoch cs c all.1 k)
  where
    by_case : (b : Bool) → eqb x.epoch epoch ≡ b → cond b (Some x) (cont_at epoch cs) ≡ Some c → (cont_at epoch cs ≡ Some c → P c × (c.epoch ≡ epoch)) → P c × (c.epoch ≡ epoch)
    by_case true e h ih = let k : x ≡ c = same_Some x c h in subst (λ c. P c × (c.epoch ≡ epoch)) k (all.0, eqb-true x.epoch epoch e)
    by_case false e h ih = ih h

-- a container of the lane fits beside the others
own_fits : (e f epoch : ℕ) (cs : List Cont) (c : Cont) → AreRising e f cs → cont_at epoch cs ≡ Some c → Fits epoch c.floor cs
own_fits e f epoch [] c r h = tt
own_fits e f epoch (x ∷ cs) c r h = by_case (eqb x.epoch epoch) refl h (λ k. own_fits (x.epoch + 1) x.floor epoch cs c r.2 k)
  where
    after : (l : List Cont) → x.epoch ≡ epoch → x.floor ≡ c.floor → AllByRecursion (IsFrom (x.epoch + 1) x.floor) l → Fits epoch c.floor l
    after [] a b all = tt
    after (y ∷ l) a b all = ((λ k. absurd (omega (arith, all.0.0)), λ k. omega (arith, all.0.1), λ k. absurd (omega (arith, all.0.0))), after l a b all.1)

    by_case : (b : Bool) → eqb x.epoch epoch ≡ b → cond b (Some x) (cont_at epoch cs) ≡ Some c → (cont_at epoch cs ≡ Some c → Fits epoch c.floor cs) → Fits epoch c.floor (x ∷ cs)
    by_case true q h ih =
        let k : x ≡ c = same_Some x c h in
        let a : x.epoch ≡ epoch = eqb-true x.epoch epoch q in
        let b : x.floor ≡ c.floor = ap (λ (c : Cont). c.floor) k in
        ((λ k. absurd (omega arith), λ k. omega arith, λ _. b), after cs a b (all_from (x.epoch + 1) x.floor cs r.2))
    by_case false q h ih =
        let k = found (IsFrom (x.epoch + 1) x.floor) epoch cs c (all_from (x.epoch + 1) x.floor cs r.2) h in
        ((λ _. k.0.1, λ z. absurd (omega (arith, k.0.0, k.1)), λ z. absurd (omega (arith, k.0.0, k.1))), ih h)

-- what holds of each container holds of one that is there
pub has_one : (P : ℕ → ℕ → Type 0) (epoch floor : ℕ) (cs : List Cont) → AllByRecursion (λ c. P c.epoch c.floor) cs → list_any (λ c. (eqb c.epoch epoch) && (eqb c.floor floor)) cs ≡ true → P epoch floor
has_one P epoch floor [] all h = cc
has_one P epoch floor (x ∷ cs) all h = by_case (eqb x.epoch epoch && eqb x.floor floor) refl h (λ k. has_one P epoch floor cs all.1 k)
  where
    by_case : (b : Bool) → (eqb x.epoch epoch && eqb x.floor floor) ≡ b → (b || list_any (λ c. (eqb c.epoch epoch) && (eqb c.floor floor)) cs) ≡ true → (list_any (λ c. (eqb c.epoch epoch) && (eqb c.floor floor)) cs ≡ true → P epoch floor) → P epoch floor
    by_case true e h ih = let k = and_parts (eqb x.epoch epoch) (eqb x.floor floor) e in subst (λ z. P z floor) (eqb-true x.epoch epoch k.0) (subst (λ z. P x.epoch z) (eqb-true x.floor floor k.1) all.0)
    by_case false e h ih = ih h

-- the first epoch has the first floor
first_floor : (bound e f : ℕ) (ms : List ℕ) (cs : List Cont) (c : Cont) → AreContainers bound e f ms cs → cont_at e cs ≡ Some c → c.floor ≡ f
first_floor bound e f [] [] c are h = cc
first_floor bound e f [] (x ∷ cs) c are h = by_case (eqb x.epoch e) refl h
  where
    by_case : (b : Bool) → eqb x.epoch e ≡ b → cond b (Some x) (cont_at e cs) ≡ Some c → c.floor ≡ f
    by_case true q h = let k : x ≡ c = same_Some x c h in ap (λ (c : Cont). c.floor) (sym k) ∙ are.0.next_is (eqb-true x.epoch e q)
    by_case false q h =
        let k = found (IsFrom (x.epoch + 1) x.floor) e cs c (all_from (x.epoch + 1) x.floor cs (rising-open bound e f (x.epoch + 1) x.floor cs are.1)) h in
        absurd (omega (arith, k.0.0, k.1, are.0.epoch_from))
first_floor bound e f (m ∷ ms) [] c are h = absurd are
first_floor bound e f (m ∷ ms) (x ∷ cs) c are h =
    let k : x ≡ c = same_Some x c (ap (λ b. cond b (Some x) (cont_at e cs)) (sym (eq-eqb x.epoch e are.0.epoch_is)) ∙ h) in
    ap (λ (c : Cont). c.floor) (sym k) ∙ are.0.floor_is

-- the same of each container of that epoch
first_floors : (bound e f : ℕ) (ms : List ℕ) (cs : List Cont) → AreContainers bound e f ms cs → NeverFalls f ms → AllByRecursion (λ c. c.epoch ≡ e → c.floor ≡ f) cs
first_floors bound e f [] [] are up = tt
first_floors bound e f [] (x ∷ cs) are up = (are.0.next_is, every (λ y h k. absurd (omega (arith, h.0, are.0.epoch_from))) cs (all_from (x.epoch + 1) x.floor cs (rising-open bound e f (x.epoch + 1) x.floor cs are.1)))
first_floors bound e f (m ∷ ms) [] are up = absurd are
first_floors bound e f (m ∷ ms) (x ∷ cs) are up = (λ _. are.0.floor_is, every (λ y h k. absurd (omega (arith, h.0))) cs (all_from (e + 1) m cs (rising-containers bound (e + 1) m ms cs are.1 up.1)))

module _ (bound : ℕ) (lane : CoreLane) (ok : IsLane bound lane) where
  -- a container of the epoch that is next to begin has the floor where the lane has begun
  pub begun_floor : (c : Cont) → cont_at (begun_count lane) lane.conts ≡ Some c → c.floor ≡ begun_mark lane
  begun_floor c h = go lane.conts refl (drop lane.ended lane.marks) refl ok.containers h
    where
      go : (cs : List Cont) → lane.conts ≡ cs → (ms : List ℕ) → drop lane.ended lane.marks ≡ ms → AreContainers bound lane.ended (last_of_first lane.ended lane.marks) ms cs
          → cont_at (cond (first_is_closing cs) (lane.ended + 1) lane.ended) cs ≡ Some c → c.floor ≡ last_of_first (cond (first_is_closing cs) (lane.ended + 1) lane.ended) lane.marks
      go [] e ms em are h = cc
      go (x ∷ cs) e ms em are h = by_case x.closing refl ms em are h
        where
          by_case : (b : Bool) → x.closing ≡ b → (ms : List ℕ) → drop lane.ended lane.marks ≡ ms → AreContainers bound lane.ended (last_of_first lane.ended lane.marks) ms (x ∷ cs)
              → cont_at (cond b (lane.ended + 1) lane.ended) (x ∷ cs) ≡ Some c → c.floor ≡ last_of_first (cond b (lane.ended + 1) lane.ended) lane.marks
          by_case false q ms em are h = first_floor bound lane.ended (last_of_first lane.ended lane.marks) ms (x ∷ cs) c are h
          by_case true q [] em are h = let k : false ≡ true = sym are.0.not_closing ∙ q in cc
          by_case true q (m ∷ ms) em are h =
              first_floor bound (lane.ended + 1) m ms cs c are.1 (ap (λ b. cond b (Some x) (cont_at (lane.ended + 1) cs)) (sym (ne_eqb x.epoch (lane.ended + 1) (λ z. omega (arith, are.0.epoch_is)))) ∙ h) ∙ sym (next_mark bound lane ok m ms em)

  pub lane-fits : (epoch : ℕ) (c : Cont) → cont_at epoch lane.conts ≡ Some c → Fits epoch c.floor lane.conts
  lane-fits epoch c h = own_fits lane.ended (last_of_first lane.ended lane.marks) epoch lane.conts c (rising-containers bound lane.ended (last_of_first lane.ended lane.marks) (drop lane.ended lane.marks) lane.conts ok.containers (ups bound lane ok)) h

  -- while its first container is closing: those of later epochs fit its mark
  pub closing_fits : first_is_closing lane.conts ≡ true → AllByRecursion (λ c. lane.ended < c.epoch → (begun_mark lane ≤ c.floor) × (c.epoch ≡ lane.ended + 1 → c.floor ≡ begun_mark lane)) lane.conts
  closing_fits closing = subst (λ n. AllByRecursion (λ c. lane.ended < c.epoch → (n ≤ c.floor) × (c.epoch ≡ lane.ended + 1 → c.floor ≡ n)) lane.conts) (sym (ap (λ b. last_of_first (cond b (lane.ended + 1) lane.ended) lane.marks) closing)) (go lane.conts (drop lane.ended lane.marks) refl ok.containers (ups bound lane ok) closing)
    where
      all_of : (m : ℕ) (l : List Cont) → AllByRecursion (IsFrom (lane.ended + 1) m) l → AllByRecursion (λ c. c.epoch ≡ lane.ended + 1 → c.floor ≡ m) l
          → AllByRecursion (λ c. lane.ended < c.epoch → (m ≤ c.floor) × (c.epoch ≡ lane.ended + 1 → c.floor ≡ m)) l
      all_of m [] a b = tt
      all_of m (c ∷ l) a b = (λ _. (a.0.1, b.0), all_of m l a.1 b.1)

      go : (cs : List Cont) (ms : List ℕ) → drop lane.ended lane.marks ≡ ms → AreContainers bound lane.ended (last_of_first lane.ended lane.marks) ms cs → NeverFalls (last_of_first lane.ended lane.marks) ms → first_is_closing cs ≡ true
          → AllByRecursion (λ c. lane.ended < c.epoch → (last_of_first (lane.ended + 1) lane.marks ≤ c.floor) × (c.epoch ≡ lane.ended + 1 → c.floor ≡ last_of_first (lane.ended + 1) lane.marks)) cs
      go [] ms em are up c = tt
      go (x ∷ cs) [] em are up c = let k : false ≡ true = sym are.0.not_closing ∙ c in cc
      go (x ∷ cs) (m ∷ ms) em are up c = (
        λ z. absurd (omega (arith, are.0.epoch_is)),
        subst (λ n. AllByRecursion (λ c. lane.ended < c.epoch → (n ≤ c.floor) × (c.epoch ≡ lane.ended + 1 → c.floor ≡ n)) cs) (sym (next_mark bound lane ok m ms em))
            (all_of m cs (all_from (lane.ended + 1) m cs (rising-containers bound (lane.ended + 1) m ms cs are.1 up.1)) (first_floors bound (lane.ended + 1) m ms cs are.1 up.1)),
      )
