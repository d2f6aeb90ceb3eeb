-- The first container of an epoch, and the first in which a bundle waits.
use Rattle.std.proofs.Common.{◌≡◌, ℕ, suc, zero, ◌<◌, ◌≤◌, true, cond, eqb, List, [], ◌∷◌, ◌++◌, length, get_or, set, drop, Some, None, sym, refl, ap, subst, ◌∙◌, arith}
use Rattle.std.specs.Prelude.{Option, not, filter, is_some, IfSome, IfNone}
use Rattle.std.proofs.lemmas.Bool.{eq-eqb, ne_eqb}
use Rattle.std.proofs.lemmas.List.{length-map}
use Rattle.std.specs.List.{insert}
use Rattle.sb_containers.specs.Lanes.{fresh, with_first_closing}
use Rattle.sb_containers.specs.Marks.{first_is_closing}
use Rattle.sb_containers.specs.base.records.Reading.{◌>>=◌}
use Rattle.sb_containers.specs.base.bundle.declared.bundle.Bundle.{Bundle}
use Rattle.sb_containers.specs.declared.container.Cont.{Cont}
use Rattle.sb_lane.specs.Finding.{LowerBefore, OthersBefore, NoneWaitsBefore}
use Rattle.sb_lane.specs.Changes.{HasRoomAt, StandsWithRoom}
use Rattle.sb_lane.specs.Links.{Link, link_of, links_of, link_in}
use Rattle.sb_lane.specs.Placed.{Placed, conts_of, room_in}
use Rattle.sb_lane.specs.Taking.{first_taken, take_first, finish_first}

pub lower-others : (epoch i : ℕ) (cs : List Cont) → LowerBefore epoch i cs → OthersBefore epoch i cs
lower-others epoch i cs lower k d h e = let a = lower k d h in absurd (omega arith)

module _ (epoch : ℕ) where
  pub link_in-first : (xs : List Placed) (i : ℕ) (k : Link) → OthersBefore epoch i (conts_of xs) → i < length xs → ((d : Cont) → (get_or (conts_of xs) i d).epoch ≡ epoch) → link_in epoch (links_of xs) ≡ Some (get_or (links_of xs) i k)
  link_in-first [] i k others h is = absurd (omega arith)
  link_in-first (x ∷ xs) zero k others h is = ap (λ b. cond b (Some (link_of x)) (link_in epoch (links_of xs))) (eq-eqb x.cont.epoch epoch (is x.cont))
  link_in-first (x ∷ xs) (suc i) k others h is =
      ap (λ b. cond b (Some (link_of x)) (link_in epoch (links_of xs))) (ne_eqb x.cont.epoch epoch (others 0 x.cont (omega arith)))
      ∙ link_in-first xs i k (λ k d h. others (suc k) d (omega arith)) (omega arith) is

  pub room_in-first : (xs : List Placed) (i : ℕ) (d : Placed) → OthersBefore epoch i (conts_of xs) → i < length xs → ((d : Cont) → (get_or (conts_of xs) i d).epoch ≡ epoch) → room_in epoch xs ≡ (get_or xs i d).room
  room_in-first [] i d others h is = absurd (omega arith)
  room_in-first (x ∷ xs) zero d others h is = ap (λ b. cond b x.room (room_in epoch xs)) (eq-eqb x.cont.epoch epoch (is x.cont))
  room_in-first (x ∷ xs) (suc i) d others h is =
      ap (λ b. cond b x.room (room_in epoch xs)) (ne_eqb x.cont.epoch epoch (others 0 x.cont (omega arith)))
      ∙ room_in-first xs i d (λ k d h. others (suc k) d (omega arith)) (omega arith) is

pub take_first-at : (cs : List Cont) (i : ℕ) (c : Cont) (b : Bundle) (bs : List Bundle) → i < length cs → c ≡ get_or cs i c → NoneWaitsBefore i cs → c.waiting ≡ b ∷ bs
    → take_first cs ≡ Some (b, set cs i (record c { waiting = bs; out = c.out ++ b.number ∷ [] }))
take_first-at [] i c b bs h at none waits = absurd (omega arith)
take_first-at (x ∷ cs) zero c b bs h at none waits =
    ap (λ y. take_first (y ∷ cs)) (sym at)
    ∙ ap (λ l. first_taken l c cs (take_first cs)) waits
take_first-at (x ∷ cs) (suc i) c b bs h at none waits =
    ap (λ l. first_taken l x cs (take_first cs)) (none 0 x (omega arith))
    ∙ ap (λ (o : Option (Bundle × List Cont)). o >>= λ q. Some (q.0, x ∷ q.1)) (take_first-at cs i c b bs (omega arith) at (λ k d h. none (suc k) d (omega arith)) waits)

pub take_first-none : (cs : List Cont) → NoneWaitsBefore (length cs) cs → take_first cs ≡ None
take_first-none [] none = refl
take_first-none (x ∷ cs) none =
    ap (λ l. first_taken l x cs (take_first cs)) (none 0 x (omega arith))
    ∙ ap (λ (o : Option (Bundle × List Cont)). o >>= λ q. Some (q.0, x ∷ q.1)) (take_first-none cs (λ k d h. none (suc k) d (omega arith)))

module _ (epoch number : ℕ) where
  other : (x : Cont) (rest : List Cont) → (x.epoch ≡ epoch → ⊥) → finish_first epoch number (x ∷ rest) ≡ x ∷ finish_first epoch number rest
  other x rest n = λ i. cond (ne_eqb x.epoch epoch n i) (record x { out = filter (λ n. not (eqb n number)) x.out } ∷ rest) (x ∷ finish_first epoch number rest)

  pub finish_first-at : (cs : List Cont) (i : ℕ) (c : Cont) → i < length cs → c ≡ get_or cs i c → OthersBefore epoch i cs → c.epoch ≡ epoch
      → finish_first epoch number cs ≡ set cs i (record c { out = filter (λ n. not (eqb n number)) c.out })
  finish_first-at [] i c h at others here = absurd (omega arith)
  finish_first-at (x ∷ cs) zero c h at others here =
      ap (λ y. finish_first epoch number (y ∷ cs)) (sym at)
      ∙ (λ i. cond (eq-eqb c.epoch epoch here i) (record c { out = filter (λ n. not (eqb n number)) c.out } ∷ cs) (c ∷ finish_first epoch number cs))
  finish_first-at (x ∷ cs) (suc i) c h at others here =
      other x cs (others 0 x (omega arith)) ∙ ap (λ l. x ∷ l) (finish_first-at cs i c (omega arith) at (λ k d h. others (suc k) d (omega arith)) here)

  pub finish_first-none : (cs : List Cont) → OthersBefore epoch (length cs) cs → finish_first epoch number cs ≡ cs
  finish_first-none [] others = refl
  finish_first-none (x ∷ cs) others = other x cs (others 0 x (omega arith)) ∙ ap (λ l. x ∷ l) (finish_first-none cs (λ k d h. others (suc k) d (omega arith)))

-- ---- the place of an epoch
pub place-there : (epoch : ℕ) (old new : List Placed) (i p : ℕ) → conts_of new ≡ conts_of old → LowerBefore epoch i (conts_of old) → i < length old → ((d : Cont) → (get_or (conts_of old) i d).epoch ≡ epoch) → ((d : Link) → (get_or (links_of new) i d).place ≡ p) → HasRoomAt i new → StandsWithRoom epoch p new
place-there epoch old new i p same lower h here place room =
    let d : Link = record { epoch = 0; place = 0; down = None } in
    let x : Placed = record { cont = fresh 0 0; place = 0; down = None; room = 0 } in
    let others : OthersBefore epoch i (conts_of new) = subst (OthersBefore epoch i) (sym same) (lower-others epoch i (conts_of old) lower) in
    let n : length (conts_of new) ≡ length (conts_of old) = ap length same in
    let within : i < length new = omega (arith, length-map new (λ (x : Placed). x.cont), length-map old (λ (x : Placed). x.cont)) in
    let is : (c : Cont) → (get_or (conts_of new) i c).epoch ≡ epoch = λ c. ap (λ l. (get_or l i c).epoch) same ∙ here c in
    record {
      link = get_or (links_of new) i d;
      there = link_in-first epoch new i d others within is;
      place_is = place d;
      room = omega (arith, room x, room_in-first epoch new i x others within is);
    }

module _ (epoch : ℕ) (x : Placed) (of_epoch : x.cont.epoch ≡ epoch) where
  link-new : (old : List Placed) (i : ℕ) → LowerBefore epoch i (conts_of old) → i ≤ length old → link_in epoch (links_of (insert old i x)) ≡ Some (link_of x)
  link-new [] zero lower h = ap (λ b. cond b (Some (link_of x)) None) (eq-eqb x.cont.epoch epoch of_epoch)
  link-new [] (suc i) lower h = absurd (omega arith)
  link-new (y ∷ old) zero lower h = ap (λ b. cond b (Some (link_of x)) (link_in epoch (links_of (y ∷ old)))) (eq-eqb x.cont.epoch epoch of_epoch)
  link-new (y ∷ old) (suc i) lower h =
      ap (λ b. cond b (Some (link_of y)) (link_in epoch (links_of (insert old i x)))) (ne_eqb y.cont.epoch epoch (λ e. let a = lower 0 y.cont (omega arith) in absurd (omega arith)))
      ∙ link-new old i (λ k d z. lower (suc k) d (omega arith)) (omega arith)

  room-new : (old : List Placed) (i : ℕ) → LowerBefore epoch i (conts_of old) → i ≤ length old → room_in epoch (insert old i x) ≡ x.room
  room-new [] zero lower h = ap (λ b. cond b x.room 0) (eq-eqb x.cont.epoch epoch of_epoch)
  room-new [] (suc i) lower h = absurd (omega arith)
  room-new (y ∷ old) zero lower h = ap (λ b. cond b x.room (room_in epoch (y ∷ old))) (eq-eqb x.cont.epoch epoch of_epoch)
  room-new (y ∷ old) (suc i) lower h =
      ap (λ b. cond b y.room (room_in epoch (insert old i x))) (ne_eqb y.cont.epoch epoch (λ e. let a = lower 0 y.cont (omega arith) in absurd (omega arith)))
      ∙ room-new old i (λ k d z. lower (suc k) d (omega arith)) (omega arith)

  pub place-new : (old new : List Placed) (i : ℕ) → new ≡ insert old i x → LowerBefore epoch i (conts_of old) → i ≤ length old → 1 ≤ x.room → StandsWithRoom epoch x.place new
  place-new old new i e lower h room = record {
    link = link_of x;
    there = ap (λ l. link_in epoch (links_of l)) e ∙ link-new old i lower h;
    place_is = refl;
    room = omega (arith, room, ap (room_in epoch) e, room-new old i lower h);
  }

-- ---- what is at an index
pub self-get : (cs : List Cont) (i : ℕ) (d : Cont) → i < length cs → get_or cs i d ≡ get_or cs i (get_or cs i d)
self-get [] i d h = absurd (omega arith)
self-get (c ∷ cs) zero d h = refl
self-get (c ∷ cs) (suc i) d h = self-get cs i d (omega arith)

pub first-closing : (cs : List Cont) (d : Cont) → 0 < length cs → set cs 0 (record (get_or cs 0 d) { closing = true }) ≡ with_first_closing cs
first-closing [] d h = absurd (omega arith)
first-closing (c ∷ cs) d h = refl

pub head-is : (cs : List Cont) (c d : Cont) → 0 < length cs → get_or cs 0 d ≡ c → cs ≡ c ∷ drop 1 cs
head-is [] c d h e = absurd (omega arith)
head-is (x ∷ cs) c d h e = ap (λ y. y ∷ cs) e

pub closing-some : (xs : List Placed) → first_is_closing (conts_of xs) ≡ true → 0 < length xs
closing-some [] h = cc
closing-some (x ∷ xs) h = omega arith

pub conts-drop : (xs : List Placed) → conts_of (drop 1 xs) ≡ drop 1 (conts_of xs)
conts-drop [] = refl
conts-drop (x ∷ xs) = refl

pub links-drop : (xs : List Placed) → links_of (drop 1 xs) ≡ drop 1 (links_of xs)
links-drop [] = refl
links-drop (x ∷ xs) = refl

-- a bundle waits just where one is found
pub waits-is : (r : Option ℕ) (xs : List Placed) → IfSome r (λ i. i < length xs) → IfSome r (λ i. (d : Cont) → 0 < length (get_or (conts_of xs) i d).waiting) → IfSome r (λ i. NoneWaitsBefore i (conts_of xs)) → IfNone r (NoneWaitsBefore (length xs) (conts_of xs))
    → is_some r ≡ is_some (take_first (conts_of xs))
waits-is None xs a b c d = sym (ap is_some (take_first-none (conts_of xs) (λ k e h. d k e (omega (arith, h, length-map xs (λ (x : Placed). x.cont))))))
waits-is (Some i) xs a b c d = by_case (get_or (conts_of xs) i (fresh 0 0)).waiting refl
  where
    h : i < length (conts_of xs)
    h = omega (arith, a, length-map xs (λ (x : Placed). x.cont))

    by_case : (w : List Bundle) → (get_or (conts_of xs) i (fresh 0 0)).waiting ≡ w → true ≡ is_some (take_first (conts_of xs))
    by_case [] e = let n = b (fresh 0 0) in absurd (omega (arith, n, ap length e))
    by_case (x ∷ bs) e = sym (ap is_some (take_first-at (conts_of xs) i (get_or (conts_of xs) i (fresh 0 0)) x bs h (self-get (conts_of xs) i (fresh 0 0) h) c e))
