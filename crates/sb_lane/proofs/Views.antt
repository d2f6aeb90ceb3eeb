-- Changes of one container, seen as changes of the core's list.
use Rattle.std.proofs.Common.{◌≡◌, ℕ, suc, zero, ◌<◌, ◌≤◌, cond, ltb, List, [], ◌∷◌, length, get_or, set, Some, None, sym, refl, ap, ◌∙◌, arith, inl, inr}
use Rattle.std.specs.Prelude.{slice_get}
use Rattle.std.specs.List.{insert}
use Rattle.std.proofs.lemmas.Bool.{eq-eqb, ne_eqb, lt-ltb, le-ltb, cases_lt}
use Rattle.std.proofs.lemmas.List.{length-map, set-get_or}
use Rattle.sb_containers.specs.declared.container.Cont.{Cont}
use Rattle.sb_containers.specs.Lanes.{in_epoch, fresh}
use Rattle.sb_containers.proofs.Placing.{in_epoch-there, in_epoch-new, in_epoch-last}
use Rattle.sb_lane.specs.Finding.{LowerBefore}
use Rattle.sb_lane.specs.Changes.{Changes, DifferInRooms, ChangesEpoch}
use Rattle.sb_lane.specs.Links.{Link, link_of, links_of, new_link, with_place}
use Rattle.sb_lane.specs.Placed.{Placed, conts_of}
use Rattle.sb_lane.proofs.Inserts.{map-insert}

-- the link at an index has the epoch of the container there
pub link_epoch : (xs : List Placed) (i : ℕ) (k : Link) (c : Cont) → i < length xs → (get_or (links_of xs) i k).epoch ≡ (get_or (conts_of xs) i c).epoch
link_epoch [] i k c h = absurd (omega arith)
link_epoch (x ∷ xs) zero k c h = refl
link_epoch (x ∷ xs) (suc i) k c h = link_epoch xs i k c (omega arith)

module _ (epoch place : ℕ) where
  with_place-past : (x : Link) (ks : List Link) → x.epoch < epoch → with_place epoch place (x ∷ ks) ≡ x ∷ with_place epoch place ks
  with_place-past x ks before =
      ap (λ b. cond b (x ∷ ks) (cond (ltb epoch x.epoch) (new_link epoch place ∷ x ∷ ks) (x ∷ with_place epoch place ks))) (ne_eqb x.epoch epoch (λ e. absurd (omega arith)))
      ∙ ap (λ b. cond b (new_link epoch place ∷ x ∷ ks) (x ∷ with_place epoch place ks)) (le-ltb epoch x.epoch (omega arith))

  pub with_place-there : (xs : List Placed) (i : ℕ) → LowerBefore epoch i (conts_of xs) → i < length xs → ((d : Cont) → (get_or (conts_of xs) i d).epoch ≡ epoch) → with_place epoch place (links_of xs) ≡ links_of xs
  with_place-there [] i before h is = absurd (omega arith)
  with_place-there (x ∷ xs) zero before h is =
      ap (λ b. cond b (link_of x ∷ links_of xs) (cond (ltb epoch x.cont.epoch) (new_link epoch place ∷ link_of x ∷ links_of xs) (link_of x ∷ with_place epoch place (links_of xs)))) (eq-eqb x.cont.epoch epoch (is x.cont))
  with_place-there (x ∷ xs) (suc i) before h is =
      with_place-past (link_of x) (links_of xs) (before 0 x.cont (omega arith)) ∙ ap (λ l. link_of x ∷ l) (with_place-there xs i (λ k d h. before (suc k) d (omega arith)) (omega arith) is)

  pub with_place-new : (xs : List Placed) (i : ℕ) → LowerBefore epoch i (conts_of xs) → i ≤ length xs → (i < length xs → (d : Cont) → epoch < (get_or (conts_of xs) i d).epoch) → with_place epoch place (links_of xs) ≡ insert (links_of xs) i (new_link epoch place)
  with_place-new [] zero before h above = refl
  with_place-new [] (suc i) before h above = absurd (omega arith)
  with_place-new (x ∷ xs) zero before h above =
      let a : epoch < x.cont.epoch = above (omega arith) x.cont in
      ap (λ b. cond b (link_of x ∷ links_of xs) (cond (ltb epoch x.cont.epoch) (new_link epoch place ∷ link_of x ∷ links_of xs) (link_of x ∷ with_place epoch place (links_of xs)))) (ne_eqb x.cont.epoch epoch (λ e. absurd (omega arith)))
      ∙ ap (λ b. cond b (new_link epoch place ∷ link_of x ∷ links_of xs) (link_of x ∷ with_place epoch place (links_of xs))) (lt-ltb epoch x.cont.epoch a)
  with_place-new (x ∷ xs) (suc i) before h above =
      with_place-past (link_of x) (links_of xs) (before 0 x.cont (omega arith)) ∙ ap (λ l. link_of x ∷ l) (with_place-new xs i (λ k d h. before (suc k) d (omega arith)) (omega arith) (λ h d. above (omega arith) d))

module _ (epoch floor : ℕ) (change : Cont → Cont) (old : List Placed) (i : ℕ) (before : LowerBefore epoch i (conts_of old)) where
  -- the container is there
  module _ (h : i < length old) (here : (d : Cont) → (get_or (conts_of old) i d).epoch ≡ epoch) where
    conts-there : in_epoch epoch floor change (conts_of old) ≡ set (conts_of old) i (change (get_or (conts_of old) i (fresh 0 0)))
    conts-there =
        let c = get_or (conts_of old) i (fresh 0 0) in
        let n : i < length (conts_of old) = omega (arith, length-map old (λ (x : Placed). x.cont)) in
        in_epoch-there epoch floor change (conts_of old) i c before (slice_get_of (conts_of old) i n) (here (fresh 0 0))
      where
        slice_get_of : (cs : List Cont) (i : ℕ) → i < length cs → slice_get cs i ≡ Some (get_or cs i (fresh 0 0))
        slice_get_of [] i h = absurd (omega arith)
        slice_get_of (c ∷ cs) zero h = refl
        slice_get_of (c ∷ cs) (suc i) h = slice_get_of cs i (omega arith)

    pub put-there : (new : List Placed) → Changes change i old new → ChangesEpoch epoch floor change old new
    put-there new c = record {
      conts = c.conts (fresh 0 0) ∙ sym conts-there;
      place = 0;
      links = c.links ∙ sym (with_place-there epoch 0 old i before h here);
    }

    pub put-same : (new : List Placed) → ((c : Cont) → change c ≡ c) → DifferInRooms old new → ChangesEpoch epoch floor change old new
    put-same new none s = record {
      conts = s.conts ∙ sym (conts-there ∙ ap (set (conts_of old) i) (none (get_or (conts_of old) i (fresh 0 0))) ∙ set-get_or (conts_of old) i (fresh 0 0));
      place = 0;
      links = s.links ∙ sym (with_place-there epoch 0 old i before h here);
    }

  -- it is made
  module _ (h : i ≤ length old) (above : i < length old → (d : Cont) → epoch < (get_or (conts_of old) i d).epoch) where
    conts-new : in_epoch epoch floor change (conts_of old) ≡ insert (conts_of old) i (change (fresh epoch floor))
    conts-new = elim (cases_lt i (length old)) [
      | inl lt ↦ in_epoch-new epoch floor change (conts_of old) i (get_or (conts_of old) i (fresh 0 0)) before (slice_get_of (conts_of old) i (omega (arith, length-map old (λ (x : Placed). x.cont)))) (above lt (fresh 0 0))
      | inr le ↦
          let e : length (conts_of old) ≡ i = omega (arith, length-map old (λ (x : Placed). x.cont)) in
          in_epoch-last epoch floor change (conts_of old) (λ k d z. before k d (omega arith)) ∙ ap (λ n. insert (conts_of old) n (change (fresh epoch floor))) e
    ]
      where
        slice_get_of : (cs : List Cont) (i : ℕ) → i < length cs → slice_get cs i ≡ Some (get_or cs i (fresh 0 0))
        slice_get_of [] i h = absurd (omega arith)
        slice_get_of (c ∷ cs) zero h = refl
        slice_get_of (c ∷ cs) (suc i) h = slice_get_of cs i (omega arith)

    pub put-new : (new : List Placed) (x : Placed) → new ≡ insert old i x → x.cont ≡ change (fresh epoch floor) → x.cont.epoch ≡ epoch → x.down ≡ None → ChangesEpoch epoch floor change old new
    put-new new x is e of_epoch down = record {
      conts = ap conts_of is ∙ map-insert (λ (x : Placed). x.cont) old i x ∙ ap (insert (conts_of old) i) e ∙ sym conts-new;
      place = x.place;
      links =
          ap links_of is ∙ map-insert link_of old i x
          ∙ (λ j. insert (links_of old) i (record { epoch = of_epoch j; place = x.place; down = down j }))
          ∙ sym (with_place-new epoch x.place old i before h above);
    }
