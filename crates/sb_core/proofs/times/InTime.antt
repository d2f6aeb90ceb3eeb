-- In a lawful moment nothing comes late.
use Rattle.std.proofs.Common.{◌≡◌, ℕ, ◌+◌, ◌-◌, ◌≤◌, Bool, true, false, cond, List, [], ◌∷◌, ◌++◌, drop, refl, ap, ◌∙◌, arith}
use Rattle.std.specs.List.{flat_map, sum_by, AllByRecursion}
use Rattle.std.proofs.lemmas.List.Sums.{sum_by-append, sum_by-cons}
use Rattle.sb_containers.specs.base.records.declared.item.Record.{Record}
use Rattle.sb_containers.specs.base.bundle.declared.bundle.Bundle.{Bundle}
use Rattle.sb_containers.specs.declared.container.Cont.{Cont}
use Rattle.sb_containers.specs.declared.container.CoreLane.{CoreLane}
use Rattle.sb_containers.specs.Marks.{first_is_closing, last_of_first}
use Rattle.sb_core.specs.Exactness.{waiting_in}
use Rattle.sb_containers.specs.LaneOrder.{NeverFalls, IsWithin, IsBundleOf, AreOpen, AreContainers, IsLane, IsReady}
use Rattle.sb_containers.proofs.Lists.{waiting_of, of_cont}
use Rattle.sb_containers.proofs.Begun.{begun_mark, ups, next_mark}
use Rattle.sb_core.proofs.windows.Groupings.{early}
use Rattle.sb_core.proofs.times.Timely.{zero_early}

-- ---- what waits in containers, from the floor on
bundles_late : (bound low : ℕ) (c : Cont) → low ≤ c.floor → (l : List Bundle) → AllByRecursion (IsBundleOf bound c) l → sum_by (early low) (flat_map (λ b. b.records) l) ≡ 0
bundles_late bound low c h [] all = refl
bundles_late bound low c h (b ∷ l) all = sum_by-append (early low) b.records (flat_map (λ b. b.records) l) ∙ (λ i. times b.records all.0.times i + bundles_late bound low c h l all.1 i)
  where
    times : (l : List Record) → IsWithin c.floor bound l → sum_by (early low) l ≡ 0
    times [] all = refl
    times (r ∷ l) all = sum_by-cons (early low) r l ∙ (λ i. zero_early low r.time (omega (arith, all.0.0)) i + times l all.1 i)

open_late : (bound n g e f low : ℕ) (cs : List Cont) → AreOpen bound n g e f cs → low ≤ f → sum_by (early low) (waiting_of cs) ≡ 0
open_late bound n g e f low [] are h = refl
open_late bound n g e f low (c ∷ cs) are h =
    sum_by-append (early low) (of_cont c) (waiting_of cs)
    ∙ (λ i. bundles_late bound low c (omega (arith, are.0.floor_from)) c.waiting are.0.bundles i + open_late bound n g (c.epoch + 1) c.floor low cs are.1 (omega (arith, are.0.floor_from)) i)

containers_late : (bound e f low : ℕ) (ms : List ℕ) (cs : List Cont) → AreContainers bound e f ms cs → NeverFalls f ms → low ≤ f → sum_by (early low) (waiting_of cs) ≡ 0
containers_late bound e f low [] cs are up h = open_late bound e f e f low cs are h
containers_late bound e f low (m ∷ ms) [] are up h = absurd are
containers_late bound e f low (m ∷ ms) (c ∷ cs) are up h =
    sum_by-append (early low) (of_cont c) (waiting_of cs)
    ∙ (λ i. bundles_late bound low c (omega (arith, are.0.floor_is)) c.waiting are.0.bundles i + containers_late bound (e + 1) m low ms cs are.1 up.1 (omega (arith, up.0)) i)

-- ---- a lane: what waits there is from the last begun mark on
module _ (bound : ℕ) (lane : CoreLane) (ok : IsLane bound lane) where
  pub lane_late : sum_by (early (begun_mark lane)) (waiting_in lane) ≡ 0
  lane_late = go lane.conts refl (drop lane.ended lane.marks) refl ok.containers ok.ready (ups bound lane ok)
    where
      go : (cs : List Cont) → lane.conts ≡ cs → (ms : List ℕ) → drop lane.ended lane.marks ≡ ms → AreContainers bound lane.ended (last_of_first lane.ended lane.marks) ms cs → IsReady cs → NeverFalls (last_of_first lane.ended lane.marks) ms
          → sum_by (early (last_of_first (cond (first_is_closing cs) (lane.ended + 1) lane.ended) lane.marks)) (waiting_of cs) ≡ 0
      go [] e ms em are ready up = refl
      go (c ∷ cs) e [] em are ready up = ap (λ b. sum_by (early (last_of_first (cond b (lane.ended + 1) lane.ended) lane.marks)) (waiting_of (c ∷ cs))) are.0.not_closing ∙ containers_late bound lane.ended _ (last_of_first lane.ended lane.marks) [] (c ∷ cs) are tt (omega arith)
      go (c ∷ cs) e (m ∷ ms) em are ready up = by_case c.closing refl
        where
          by_case : (b : Bool) → c.closing ≡ b → sum_by (early (last_of_first (cond c.closing (lane.ended + 1) lane.ended) lane.marks)) (waiting_of (c ∷ cs)) ≡ 0
          by_case true h =
              ap (λ b. sum_by (early (last_of_first (cond b (lane.ended + 1) lane.ended) lane.marks)) (waiting_of (c ∷ cs))) h
              ∙ ap (λ n. sum_by (early n) (waiting_of (c ∷ cs))) (next_mark bound lane ok m ms em)
              ∙ ap (λ w. sum_by (early m) (flat_map (λ b. b.records) w ++ waiting_of cs)) (ready h).0
              ∙ containers_late bound (lane.ended + 1) m m ms cs are.1 up.1 (omega arith)
          by_case false h =
              ap (λ b. sum_by (early (last_of_first (cond b (lane.ended + 1) lane.ended) lane.marks)) (waiting_of (c ∷ cs))) h
              ∙ containers_late bound lane.ended (last_of_first lane.ended lane.marks) (last_of_first lane.ended lane.marks) (m ∷ ms) (c ∷ cs) are up (omega arith)
