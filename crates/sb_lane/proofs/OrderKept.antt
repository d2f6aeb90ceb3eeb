-- Each change keeps the order of a lane.
use Rattle.std.proofs.Common.{◌≡◌, ℕ, ◌+◌, ◌≤◌, ◌<◌, Bool, true, false, cond, eqb, ltb, List, [], ◌∷◌, ◌++◌, length, drop, Some, None, sym, refl, ap, subst, ◌∙◌, arith}
use Rattle.std.specs.Prelude.{Ok, filter, not}
use Rattle.std.specs.List.{AllByRecursion}
use Rattle.std.proofs.lemmas.List.{length-drop}
use Rattle.std.proofs.lemmas.Option.{same_Some}
use Rattle.sb_containers.specs.base.records.declared.item.Record.{Record}
use Rattle.sb_containers.proofs.base.records.Numbers.{bind_some}
use Rattle.sb_containers.specs.base.bundle.declared.bundle.Bundle.{Bundle}
use Rattle.sb_containers.specs.declared.container.Cont.{Cont}
use Rattle.sb_containers.specs.declared.container.CoreLane.{CoreLane}
use Rattle.sb_containers.specs.LaneOrder.{IsLane, IsWithin, IsBundleOf, AreContainers, IsReady}
use Rattle.sb_containers.specs.Lanes.{fresh, in_epoch, next_epoch, next_floor, with_arrival, with_bundle, with_seal, with_first_closing}
use Rattle.sb_containers.specs.Marks.{first_is_closing, last_of_first}
use Rattle.sb_containers.proofs.Ending.{end-lane}
use Rattle.sb_containers.proofs.InEpoch.{others_calm, still_ready}
use Rattle.sb_containers.proofs.LaneLaws.{DifferInBundles, containers-differ, take_from-differ, finish_in-differ, same-bundles}
use Rattle.sb_containers.proofs.Arriving.{put-lane, next_fits}
use Rattle.sb_containers.proofs.Taking.{differ-tail}
use Rattle.sb_containers.proofs.Sealing.{seal-lane}
use Rattle.sb_lane.specs.declared.answers.LaneClose.{LaneClose}
use Rattle.sb_lane.specs.Laws.{FitsEpoch, FitsNext}
use Rattle.sb_lane.specs.Looks.{look_of}
use Rattle.sb_lane.specs.Taking.{first_taken, take_first, with_finished, finish_first}
use Rattle.sb_lane.proofs.InTheCore.{take_first-is, finish_first-is, Closes, look-closes}

-- ---- a bundle comes, an epoch is sealed, the oldest container ends
pub arrival-kept : (bound epoch floor : ℕ) (records : List Record) (lane : CoreLane) → IsLane bound lane → FitsEpoch epoch floor lane → IsWithin floor bound records → IsLane bound (with_arrival epoch floor records lane)
arrival-kept bound epoch floor records lane ok fits times = put-lane bound epoch floor records lane ok times fits.from fits.above fits.next_is fits.beside

pub next-fits : (bound : ℕ) (lane : CoreLane) → IsLane bound lane → FitsEpoch (next_epoch lane) (next_floor lane) lane
next-fits bound lane ok = record { from = omega arith; above = omega arith; next_is = λ _. refl; beside = next_fits bound lane ok }

pub seal-kept : (bound mark : ℕ) (lane : CoreLane) → IsLane bound lane → FitsNext mark lane → IsLane bound (with_seal mark lane)
seal-kept bound mark lane ok fits = seal-lane bound mark lane ok fits.above fits.below

pub end-kept : (bound : ℕ) (lane : CoreLane) → IsLane bound lane → first_is_closing lane.conts ≡ true → (lane.ended < length lane.marks) × IsLane bound (record lane { conts = drop 1 lane.conts; ended = lane.ended + 1 })
end-kept bound lane ok closing =
    let later = end-lane bound lane ok closing in
    let n : lane.ended + 1 ≤ length lane.marks = later.ended_in in
    (omega arith, later)

-- ---- a container is made, as if a bundle had come to it
module _ (bound epoch floor : ℕ) (b : Bundle) where
  unchanged : (cs : List Cont) → DifferInBundles bound cs cs
  unchanged [] = tt
  unchanged (c ∷ cs) = (refl, λ all. all, unchanged cs)

  emptied : (c : Cont) → AllByRecursion (IsBundleOf bound (with_bundle b c)) (c.waiting ++ b ∷ []) → AllByRecursion (IsBundleOf bound (with_bundle b c)) c.waiting
  emptied c all = front c.waiting all
    where
      front : (bs : List Bundle) → AllByRecursion (IsBundleOf bound (with_bundle b c)) (bs ++ b ∷ []) → AllByRecursion (IsBundleOf bound (with_bundle b c)) bs
      front [] all = tt
      front (x ∷ bs) all = (all.0, front bs all.1)

  without_bundle : (cs : List Cont) → DifferInBundles bound (in_epoch epoch floor (with_bundle b) cs) (in_epoch epoch floor (λ c. c) cs)
  without_bundle [] = (refl, emptied (fresh epoch floor), tt)
  without_bundle (c ∷ cs) = by_case (eqb c.epoch epoch) (ltb epoch c.epoch) (without_bundle cs)
    where
      by_case : (here before : Bool) → DifferInBundles bound (in_epoch epoch floor (with_bundle b) cs) (in_epoch epoch floor (λ c. c) cs)
          → DifferInBundles bound (cond here (with_bundle b c ∷ cs) (cond before (with_bundle b (fresh epoch floor) ∷ c ∷ cs) (c ∷ in_epoch epoch floor (with_bundle b) cs))) (cond here (c ∷ cs) (cond before (fresh epoch floor ∷ c ∷ cs) (c ∷ in_epoch epoch floor (λ c. c) cs)))
      by_case true before rest = (refl, emptied c, unchanged cs)
      by_case false true rest = (refl, emptied (fresh epoch floor), unchanged (c ∷ cs))
      by_case false false rest = (refl, λ all. all, rest)

-- it keeps the order where a bundle would
pub place-within : (bound epoch floor : ℕ) (records : List Record) (lane : CoreLane) → IsLane bound lane → next_epoch lane ≤ epoch → IsLane bound (with_arrival epoch floor records lane) → IsLane bound (record lane { conts = in_epoch epoch floor (λ c. c) lane.conts })
place-within bound epoch floor records lane ok from came =
    let b : Bundle = record { number = lane.arrived + 1; epoch = epoch; floor = floor; records = records } in
    let sealed : lane.ended + length (drop lane.ended lane.marks) ≤ epoch = omega (arith, length-drop lane.ended lane.marks, ok.ended_in, from) in
    record {
      ended_in = ok.ended_in;
      rising = ok.rising;
      containers = containers-differ bound lane.ended (last_of_first lane.ended lane.marks) (drop lane.ended lane.marks) (in_epoch epoch floor (with_bundle b) lane.conts) (in_epoch epoch floor (λ c. c) lane.conts) (without_bundle bound epoch floor b lane.conts) came.containers;
      ready = still_ready bound epoch floor (λ c. c) (λ c. refl) (λ c. refl) (λ c. refl) (λ c. refl) lane.ended (last_of_first lane.ended lane.marks) (drop lane.ended lane.marks) lane.conts ok.containers sealed ok.ready;
      others = others_calm bound epoch floor (λ c. c) (λ c. refl) (λ c. refl) (λ c. refl) (λ c. refl) lane.ended (last_of_first lane.ended lane.marks) (drop lane.ended lane.marks) lane.conts ok.containers sealed ok.others;
    }

pub place-kept : (bound epoch floor : ℕ) (lane : CoreLane) → IsLane bound lane → FitsEpoch epoch floor lane → IsLane bound (record lane { conts = in_epoch epoch floor (λ c. c) lane.conts })
place-kept bound epoch floor lane ok fits = place-within bound epoch floor [] lane ok fits.from (arrival-kept bound epoch floor [] lane ok fits tt)

-- ---- a bundle is taken, and finished: nothing becomes of a container that is closing
ready-taken : (cs : List Cont) (q : Bundle × List Cont) → take_first cs ≡ Some q → IsReady cs → IsReady q.1
ready-taken [] q h ready = cc
ready-taken (c ∷ cs) q h ready = by_case c.waiting refl h
  where
    by_case : (w : List Bundle) → c.waiting ≡ w → first_taken w c cs (take_first cs) ≡ Some q → IsReady q.1
    by_case [] e h =
        let b = bind_some (take_first cs) _ q h in
        let same : ◌≡◌ {A = Bundle × List Cont} (b.0.0, c ∷ b.0.1) q = same_Some _ _ b.2 in
        subst (λ (r : Bundle × List Cont). IsReady r.1) same ready
    by_case (b ∷ bs) e h =
        let same : ◌≡◌ {A = Bundle × List Cont} (b, record c { waiting = bs; out = c.out ++ b.number ∷ [] } ∷ cs) q = same_Some _ _ h in
        subst (λ (r : Bundle × List Cont). IsReady r.1) same (λ f. let k : [] ≡ b ∷ bs = sym (ready f).0 ∙ e in cc)

pub take-kept : (bound : ℕ) (lane : CoreLane) (bundle : Bundle) (later : List Cont) → IsLane bound lane → take_first lane.conts ≡ Some (bundle, later) → IsLane bound (record lane { conts = later })
take-kept bound lane bundle later ok h =
    let differ = take_from-differ bound bundle.number lane.conts (bundle, later) (take_first-is lane.conts (bundle, later) h) in
    record {
      ended_in = ok.ended_in;
      rising = ok.rising;
      containers = containers-differ bound lane.ended (last_of_first lane.ended lane.marks) (drop lane.ended lane.marks) lane.conts later differ ok.containers;
      ready = ready-taken lane.conts (bundle, later) h ok.ready;
      others = differ-tail bound lane.conts later differ ok.others;
    }

ready-finished : (epoch number : ℕ) (cs : List Cont) → IsReady cs → IsReady (finish_first epoch number cs)
ready-finished epoch number [] ready = tt
ready-finished epoch number (c ∷ cs) ready = by_case (eqb c.epoch epoch)
  where
    by_case : (here : Bool) → IsReady (cond here (with_finished number c ∷ cs) (c ∷ finish_first epoch number cs))
    by_case true = λ f. let r = ready f in (r.0, ap (filter (λ n. not (eqb n number))) r.1)
    by_case false = ready

pub finish-kept : (bound epoch number : ℕ) (lane : CoreLane) → IsLane bound lane → IsLane bound (record lane { conts = finish_first epoch number lane.conts })
finish-kept bound epoch number lane ok =
    let differ : DifferInBundles bound lane.conts (finish_first epoch number lane.conts) = subst (DifferInBundles bound lane.conts) (sym (finish_first-is bound epoch number lane ok)) (finish_in-differ bound epoch number lane.conts) in
    record {
      ended_in = ok.ended_in;
      rising = ok.rising;
      containers = containers-differ bound lane.ended (last_of_first lane.ended lane.marks) (drop lane.ended lane.marks) lane.conts (finish_first epoch number lane.conts) differ ok.containers;
      ready = ready-finished epoch number lane.conts ok.ready;
      others = differ-tail bound lane.conts (finish_first epoch number lane.conts) differ ok.others;
    }

-- ---- a closing begins
pub begin-kept : (bound : ℕ) (lane : CoreLane) (close : LaneClose) → IsLane bound lane → look_of lane.conts ≡ Ok close → IsLane bound (record lane { conts = with_first_closing lane.conts })
begin-kept bound lane close ok h =
    let k = look-closes lane.conts close h in
    subst (λ cs. IsLane bound (record lane { conts = with_first_closing cs })) (sym k.conts)
    (go k (drop lane.ended lane.marks) refl (subst (λ cs. AreContainers bound lane.ended (last_of_first lane.ended lane.marks) (drop lane.ended lane.marks) cs) k.conts ok.containers)
    (subst (λ cs. AllByRecursion (λ c. c.closing ≡ false) (drop 1 cs)) k.conts ok.others))
  where
    go : (k : Closes lane.conts close) (ms : List ℕ) → drop lane.ended lane.marks ≡ ms → AreContainers bound lane.ended (last_of_first lane.ended lane.marks) ms (k.first ∷ k.rest) → AllByRecursion (λ c. c.closing ≡ false) k.rest
        → IsLane bound (record lane { conts = record k.first { closing = true } ∷ k.rest })
    go k [] e are others = let n : None ≡ Some close.mark = sym are.0.no_mark ∙ k.marked in cc
    go k (m ∷ ms) e are others = record {
      ended_in = ok.ended_in;
      rising = ok.rising;
      containers = subst (λ ms. AreContainers bound lane.ended (last_of_first lane.ended lane.marks) ms (record k.first { closing = true } ∷ k.rest)) (sym e)
          (record { epoch_is = are.0.epoch_is; floor_is = are.0.floor_is; mark_is = are.0.mark_is; bundles = same-bundles bound k.first _ refl refl k.first.waiting are.0.bundles }, are.1);
      ready = λ _. (k.none_waits, k.none_out);
      others = others;
    }
