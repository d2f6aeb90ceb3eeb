-- The link of an epoch in a list of links in order.
use Rattle.std.proofs.Common.{◌≡◌, ℕ, ◌+◌, ◌≤◌, Bool, true, false, cond, eqb, ltb, List, [], ◌∷◌, drop, Some, None, Option, sym, refl, ap, ◌∙◌, arith, inl, inr, ⊎_elim}
use Rattle.std.specs.Prelude.{◌≢◌, ◌⊎◌}
use Rattle.std.specs.Option.{option_map}
use Rattle.std.proofs.lemmas.Bool.{cases_eq, eq-eqb, ne_eqb, eqb-true, le-ltb}
use Rattle.std.proofs.lemmas.Option.{same_Some}
use Rattle.sb_tally.specs.core.containers.LaneOrder.{IsLane, AreOpen, AreContainers}
use Rattle.sb_tally.specs.core.containers.Marks.{last_of_first}
use Rattle.sb_node.specs.lane.LaneView.{LaneView, lane_of}
use Rattle.sb_node.specs.lane.Links.{Link, down_of, link_in, with_link, links_of, new_link, with_place}
use Rattle.sb_node.specs.lane.Placed.{Placed, conts_of}
use Rattle.sb_shown.specs.Linking.{place_in}

-- ---- the epochs rise
abbrev pub AreRising : ℕ → List Link → Type 0
AreRising e [] = Unit {0}
AreRising e (k ∷ ks) = (e ≤ k.epoch) × AreRising (k.epoch + 1) ks

weaker : (e f : ℕ) (ks : List Link) → e ≤ f → AreRising f ks → AreRising e ks
weaker e f [] h r = tt
weaker e f (k ∷ ks) h r = (omega (arith, h, r.0), r.1)

rising-open : (bound n g e f : ℕ) (xs : List Placed) → AreOpen bound n g e f (conts_of xs) → AreRising e (links_of xs)
rising-open bound n g e f [] are = tt
rising-open bound n g e f (x ∷ xs) are = (are.0.epoch_from, rising-open bound n g (x.cont.epoch + 1) x.cont.floor xs are.1)

rising-all : (bound e f : ℕ) (ms : List ℕ) (xs : List Placed) → AreContainers bound e f ms (conts_of xs) → AreRising e (links_of xs)
rising-all bound e f [] xs are = rising-open bound e f e f xs are
rising-all bound e f (m ∷ ms) [] are = absurd are
rising-all bound e f (m ∷ ms) (x ∷ xs) are =
    (omega (arith, are.0.epoch_is), weaker (x.cont.epoch + 1) (e + 1) (links_of xs) (omega (arith, are.0.epoch_is)) (rising-all bound (e + 1) m ms xs are.1))

pub rising : (bound : ℕ) (lane : LaneView) → IsLane bound (lane_of lane) → AreRising lane.ended (links_of lane.containers)
rising bound lane ok = rising-all bound lane.ended (last_of_first lane.ended lane.marks) (drop lane.ended lane.marks) lane.containers ok.containers

pub low : (e epoch : ℕ) (ks : List Link) (x : Link) → AreRising e ks → link_in epoch ks ≡ Some x → e ≤ epoch
low e epoch [] x r h = cc
low e epoch (k ∷ ks) x r h = by_case (eqb k.epoch epoch) refl h (λ z. low (k.epoch + 1) epoch ks x r.1 z)
  where
    by_case : (b : Bool) → eqb k.epoch epoch ≡ b → cond b (Some k) (link_in epoch ks) ≡ Some x → (link_in epoch ks ≡ Some x → k.epoch + 1 ≤ epoch) → e ≤ epoch
    by_case true q h ih = omega (arith, r.0, eqb-true k.epoch epoch q)
    by_case false q h ih = omega (arith, r.0, ih h)

-- ---- a place is given
pub placed-other : (epoch e place : ℕ) (ks : List Link) → epoch ≢ e → link_in epoch (with_place e place ks) ≡ link_in epoch ks
placed-other epoch e place [] ne = ap (λ b. cond b (Some (new_link e place)) None) (ne_eqb e epoch (λ q. ne (sym q)))
placed-other epoch e place (k ∷ ks) ne = by_case (eqb k.epoch e) (ltb e k.epoch) (placed-other epoch e place ks ne)
  where
    by_case : (here before : Bool) → link_in epoch (with_place e place ks) ≡ link_in epoch ks
        → link_in epoch (cond here (k ∷ ks) (cond before (new_link e place ∷ k ∷ ks) (k ∷ with_place e place ks))) ≡ link_in epoch (k ∷ ks)
    by_case true before ih = refl
    by_case false true ih = ap (λ b. cond b (Some (new_link e place)) (link_in epoch (k ∷ ks))) (ne_eqb e epoch (λ q. ne (sym q)))
    by_case false false ih = ap (λ o. cond (eqb k.epoch epoch) (Some k) o) ih

pub placed-there : (b e place : ℕ) (ks : List Link) (x : Link) → AreRising b ks → link_in e ks ≡ Some x → with_place e place ks ≡ ks
placed-there b e place [] x r h = cc
placed-there b e place (k ∷ ks) x r h = by_case (eqb k.epoch e) refl h (λ z. placed-there (k.epoch + 1) e place ks x r.1 z)
  where
    by_case : (here : Bool) → eqb k.epoch e ≡ here → cond here (Some k) (link_in e ks) ≡ Some x → (link_in e ks ≡ Some x → with_place e place ks ≡ ks)
        → cond here (k ∷ ks) (cond (ltb e k.epoch) (new_link e place ∷ k ∷ ks) (k ∷ with_place e place ks)) ≡ k ∷ ks
    by_case true q h ih = refl
    by_case false q h ih =
        ap (λ b. cond b (new_link e place ∷ k ∷ ks) (k ∷ with_place e place ks)) (le-ltb e k.epoch (let n = low (k.epoch + 1) e ks x r.1 h in omega arith))
        ∙ ap (λ l. k ∷ l) (ih h)

pub placed-none : (e place : ℕ) (ks : List Link) → link_in e ks ≡ None → link_in e (with_place e place ks) ≡ Some (new_link e place)
placed-none e place [] h = ap (λ b. cond b (Some (new_link e place)) None) (eq-eqb e e refl)
placed-none e place (k ∷ ks) h = by_case (eqb k.epoch e) refl (ltb e k.epoch) h (λ z. placed-none e place ks z)
  where
    by_case : (here : Bool) → eqb k.epoch e ≡ here → (before : Bool) → cond here (Some k) (link_in e ks) ≡ None → (link_in e ks ≡ None → link_in e (with_place e place ks) ≡ Some (new_link e place))
        → link_in e (cond here (k ∷ ks) (cond before (new_link e place ∷ k ∷ ks) (k ∷ with_place e place ks))) ≡ Some (new_link e place)
    by_case true q before h ih = cc
    by_case false q true h ih = ap (λ b. cond b (Some (new_link e place)) (link_in e (k ∷ ks))) (eq-eqb e e refl)
    by_case false q false h ih = ap (λ b. cond b (Some k) (link_in e (with_place e place ks))) q ∙ ih h

-- a link is an old one, or that of a container just made
pub placed-in : (b epoch e place : ℕ) (ks : List Link) (x : Link) → AreRising b ks → link_in epoch (with_place e place ks) ≡ Some x → (link_in epoch ks ≡ Some x) ⊎ ((link_in epoch ks ≡ None) × (x.down ≡ None))
placed-in b epoch e place ks x r h = ⊎_elim same (λ ne. inl (sym (placed-other epoch e place ks ne) ∙ h)) (cases_eq epoch e)
  where
    same : epoch ≡ e → (link_in epoch ks ≡ Some x) ⊎ ((link_in epoch ks ≡ None) × (x.down ≡ None))
    same q = by_link (link_in epoch ks) refl
      where
        by_link : (o : Option Link) → link_in epoch ks ≡ o → (link_in epoch ks ≡ Some x) ⊎ ((link_in epoch ks ≡ None) × (x.down ≡ None))
        by_link (Some y) f = inl (ap (link_in epoch) (sym (placed-there b e place ks y r (ap (λ z. link_in z ks) (sym q) ∙ f))) ∙ h)
        by_link None f =
            let made : link_in epoch (with_place e place ks) ≡ Some (new_link e place) = ap (λ z. link_in z (with_place e place ks)) q ∙ placed-none e place ks (ap (λ z. link_in z ks) (sym q) ∙ f) in
            let is : new_link e place ≡ x = same_Some (new_link e place) x (sym made ∙ h) in
            inr (f, ap (λ (k : Link). k.down) (sym is))

-- ---- the oldest is gone
pub ended-in : (b epoch : ℕ) (ks : List Link) (x : Link) → AreRising b ks → link_in epoch (drop 1 ks) ≡ Some x → link_in epoch ks ≡ Some x
ended-in b epoch [] x r h = h
ended-in b epoch (k ∷ ks) x r h =
    let n = low (k.epoch + 1) epoch ks x r.1 h in
    ap (λ b. cond b (Some k) (link_in epoch ks)) (ne_eqb k.epoch epoch (λ q. absurd (omega (arith, n, q)))) ∙ h

pub ended-other : (epoch : ℕ) (k : Link) (ks : List Link) → k.epoch ≢ epoch → link_in epoch ks ≡ link_in epoch (k ∷ ks)
ended-other epoch k ks ne = sym (ap (λ b. cond b (Some k) (link_in epoch ks)) (ne_eqb k.epoch epoch ne))

-- ---- a link is set
pub linked-other : (epoch e down : ℕ) (ks : List Link) → epoch ≢ e → link_in epoch (with_link e down ks) ≡ link_in epoch ks
linked-other epoch e down [] ne = refl
linked-other epoch e down (k ∷ ks) ne = by_case (eqb k.epoch e) refl (linked-other epoch e down ks ne)
  where
    by_case : (here : Bool) → eqb k.epoch e ≡ here → link_in epoch (with_link e down ks) ≡ link_in epoch ks
        → link_in epoch (cond here (record k { down = Some down } ∷ ks) (k ∷ with_link e down ks)) ≡ link_in epoch (k ∷ ks)
    by_case true q ih =
        let away : eqb k.epoch epoch ≡ false = ne_eqb k.epoch epoch (λ z. ne (sym z ∙ eqb-true k.epoch e q)) in
        ap (λ b. cond b (Some (record k { down = Some down })) (link_in epoch ks)) away ∙ sym (ap (λ b. cond b (Some k) (link_in epoch ks)) away)
    by_case false q ih = ap (λ o. cond (eqb k.epoch epoch) (Some k) o) ih

pub linked-here : (e down : ℕ) (ks : List Link) (x : Link) → link_in e (with_link e down ks) ≡ Some x → x.down ≡ Some down
linked-here e down [] x h = cc
linked-here e down (k ∷ ks) x h = by_case (eqb k.epoch e) refl h (λ z. linked-here e down ks x z)
  where
    by_case : (here : Bool) → eqb k.epoch e ≡ here → link_in e (cond here (record k { down = Some down } ∷ ks) (k ∷ with_link e down ks)) ≡ Some x → (link_in e (with_link e down ks) ≡ Some x → x.down ≡ Some down) → x.down ≡ Some down
    by_case true q h ih =
        let is : record k { down = Some down } ≡ x = same_Some (record k { down = Some down }) x (sym (ap (λ b. cond b (Some (record k { down = Some down })) (link_in e ks)) q) ∙ h) in
        ap (λ (k : Link). k.down) (sym is)
    by_case false q h ih = ih (sym (ap (λ b. cond b (Some k) (link_in e (with_link e down ks))) q) ∙ h)

pub linked-place : (epoch e down : ℕ) (ks : List Link) → place_in epoch (with_link e down ks) ≡ place_in epoch ks
linked-place epoch e down [] = refl
linked-place epoch e down (k ∷ ks) = by_case (eqb k.epoch e) (eqb k.epoch epoch) (linked-place epoch e down ks)
  where
    by_case : (here is : Bool) → place_in epoch (with_link e down ks) ≡ place_in epoch ks
        → option_map (λ (k : Link). k.place) (link_in epoch (cond here (record k { down = Some down } ∷ ks) (k ∷ with_link e down ks))) ≡ option_map (λ (k : Link). k.place) (link_in epoch (k ∷ ks))
    by_case true is ih = of (eqb k.epoch epoch)
      where
        of : (b : Bool) → option_map (λ (k : Link). k.place) (cond b (Some (record k { down = Some down })) (link_in epoch ks)) ≡ option_map (λ (k : Link). k.place) (cond b (Some k) (link_in epoch ks))
        of true = refl
        of false = refl
    by_case false is ih = of (eqb k.epoch epoch)
      where
        of : (b : Bool) → option_map (λ (k : Link). k.place) (cond b (Some k) (link_in epoch (with_link e down ks))) ≡ option_map (λ (k : Link). k.place) (cond b (Some k) (link_in epoch ks))
        of true = refl
        of false = ih

-- ---- what is read
pub down-in : (epoch : ℕ) (ks : List Link) (x : Link) → link_in epoch ks ≡ Some x → down_of epoch ks ≡ x.down
down-in epoch [] x h = cc
down-in epoch (k ∷ ks) x h = by_case (eqb k.epoch epoch) h (λ z. down-in epoch ks x z)
  where
    by_case : (b : Bool) → cond b (Some k) (link_in epoch ks) ≡ Some x → (link_in epoch ks ≡ Some x → down_of epoch ks ≡ x.down) → cond b k.down (down_of epoch ks) ≡ x.down
    by_case true h ih = ap (λ (k : Link). k.down) (same_Some k x h)
    by_case false h ih = ih h
