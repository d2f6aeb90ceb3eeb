-- Containers in places, in an order: what a write, a new place and the end of the first do to what stands there.
use Rattle.std.proofs.Common.{◌≡◌, ℕ, suc, zero, ◌+◌, ◌<◌, ◌≤◌, cond, eqb, List, [], ◌∷◌, map, length, get_or, set, sym, refl, ap, subst, ◌∙◌, arith}
use Rattle.std.specs.Prelude.{◌≢◌, Option, None}
use Rattle.std.proofs.lemmas.Bool.{eq-eqb, ne_eqb}
use Rattle.std.proofs.lemmas.List.{length-map, get_or-map, map-set, get_or-set_same, get_or-set_other, length-set, set-get_or}
use Rattle.std.proofs.Math.Seq.{map-set_same}
use Rattle.sb_containers.specs.declared.container.Cont.{Cont}
use Rattle.std.proofs.lemmas.List.Sums.{sum_by-cons}
use Rattle.sb_lane.specs.declared.container.Container.{Container}
use Rattle.sb_lane.specs.Changes.{Changes, DifferInRooms}
use Rattle.sb_lane.specs.Links.{Link, link_of, links_of}
use Rattle.sb_lane.specs.Placed.{Placed, cont_of, room_of, conts_of, placed_at, no_container, slot, containers_at}
use Rattle.sb_lane.specs.Slots.{times_in, AreSlots}

one : ℕ → ℕ → ℕ
one p q = cond (eqb q p) 1 0

pub times-cons : (p q : ℕ) (l : List ℕ) → times_in p (q ∷ l) ≡ cond (eqb q p) 1 0 + times_in p l
times-cons p q l = sum_by-cons (λ q. cond (eqb q p) 1 0) q l

pub times-same : (p q : ℕ) (l : List ℕ) → q ≡ p → times_in p (q ∷ l) ≡ 1 + times_in p l
times-same p q l e = times-cons p q l ∙ ap (λ b. cond b 1 0 + times_in p l) (eq-eqb q p e)

pub times-other : (p q : ℕ) (l : List ℕ) → q ≢ p → times_in p (q ∷ l) ≡ times_in p l
times-other p q l ne = times-cons p q l ∙ ap (λ b. cond b 1 0 + times_in p l) (ne_eqb q p ne) ∙ omega arith

-- a place of the order stands in it
pub stands : (order : List ℕ) (i p : ℕ) → i < length order → p ≡ get_or order i p → 1 ≤ times_in p order
stands [] i p h at = absurd (omega arith)
stands (q ∷ order) zero p h at = omega (arith, times-same p q order (sym at))
stands (q ∷ order) (suc i) p h at = omega (arith, times-cons p q order, stands order i p (omega arith) at)

module _ (slots : List Container) (p : ℕ) (c : Container) where
  slot-other : (q : ℕ) → q ≢ p → slot (set slots p c) q ≡ slot slots q
  slot-other q ne = ap (λ l. get_or l q no_container) (map-set (placed_at q) slots p c) ∙ get_or-set_other (map (placed_at q) slots) p q (placed_at q c) no_container ne

  pub slot-same : p < length slots → slot (set slots p c) p ≡ placed_at p c
  slot-same h = ap (λ l. get_or l p no_container) (map-set (placed_at p) slots p c) ∙ get_or-set_same (map (placed_at p) slots) p (placed_at p c) no_container (omega (arith, length-map slots (placed_at p)))

  pub untouched : (ps : List ℕ) → times_in p ps ≡ 0 → containers_at (set slots p c) ps ≡ containers_at slots ps
  untouched [] h = refl
  untouched (q ∷ ps) h = λ i. slot-other q differ i ∷ untouched ps (omega (arith, times-other p q ps differ)) i
    where
      differ : q ≢ p
      differ e = absurd (omega (arith, times-same p q ps e))

  -- a write to the place at an index of the order
  pub arranged-write : (order : List ℕ) (i : ℕ) → times_in p order ≤ 1 → i < length order → p ≡ get_or order i p → p < length slots → containers_at (set slots p c) order ≡ set (containers_at slots order) i (placed_at p c)
  arranged-write [] i once h at within = absurd (omega arith)
  arranged-write (q ∷ order) zero once h at within =
      let e : q ≡ p = sym at in
      (λ j. (ap (slot (set slots p c)) e ∙ slot-same within) j ∷ untouched order (omega (arith, times-same p q order e)) j)
  arranged-write (q ∷ order) (suc i) once h at within =
      let there = stands order i p (omega arith) at in
      (λ j. slot-other q (λ e. absurd (omega (arith, times-same p q order e))) j ∷ arranged-write order i (omega (arith, times-cons p q order)) (omega arith) at within j)

-- what stands at an index of the order
pub arranged-read : (slots : List Container) (order : List ℕ) (i p : ℕ) (c : Container) (d : Placed) → i < length order → p ≡ get_or order i p → p < length slots → c ≡ get_or slots p c → get_or (containers_at slots order) i d ≡ placed_at p c
arranged-read slots order i p c d h at within is =
    get_or-map (slot slots) order i p d h
    ∙ ap (slot slots) (sym at)
    ∙ get_or-map (placed_at p) slots p c no_container within
    ∙ ap (placed_at p) (sym is)

pub arranged-length : (slots : List Container) (order : List ℕ) → length (containers_at slots order) ≡ length order
arranged-length slots order = length-map order (slot slots)

-- a write keeps the places
pub still : (slots : List Container) (room : ℕ) (order free : List ℕ) → AreSlots (length slots) room order free → (p : ℕ) (c : Container) → AreSlots (length (set slots p c)) room order free
still slots room order free are p c = record {
  all = omega (arith, are.all, length-set slots p c);
  enough = omega (arith, are.enough, length-set slots p c);
  once = are.once;
  there = λ q h. let k = are.there q h in omega (arith, length-set slots p c);
}

-- of an arena that is seen as this list: the place at an index of its order
pub record StandsIn (slots : List Container) (order : List ℕ) (v : List Placed) (i p : ℕ) : Type 0 where
  pub seen : containers_at slots order ≡ v
  pub in_order : i < length order
  pub at : p ≡ get_or order i p
  pub once : times_in p order ≤ 1
  pub within : p < length slots

pub stands-in : (slots : List Container) (order : List ℕ) {room : ℕ} {free : List ℕ} {v : List Placed} {i p : ℕ} → AreSlots (length slots) room order free → containers_at slots order ≡ v → i < length v → p ≡ get_or order i p → StandsIn slots order v i p
stands-in slots order {room} {free} {v} {i} {p} are seen h at = record {
  seen = seen;
  in_order = in_order;
  at = at;
  once = omega (arith, are.once p);
  within = are.there p (omega (arith, stands order i p in_order at));
}
  where
    in_order : i < length order
    in_order = let k : length (containers_at slots order) ≡ length v = ap length seen in omega (arith, arranged-length slots order)

module _ {slots : List Container} {order : List ℕ} {v : List Placed} {i p : ℕ} (here : StandsIn slots order v i p) where
  seen-length : length order ≡ length v
  seen-length = let k : length (containers_at slots order) ≡ length v = ap length here.seen in omega (arith, arranged-length slots order)

  -- the container in that place is read
  module _ (c : Container) (is : c ≡ get_or slots p c) where
    pub placed-read : (d : Placed) → get_or v i d ≡ placed_at p c
    placed-read d = ap (λ l. get_or l i d) (sym here.seen) ∙ arranged-read slots order i p c d here.in_order here.at here.within is

    there : i < length v
    there = omega (arith, seen-length, here.in_order)

    pub cont-read : (d : Cont) → get_or (conts_of v) i d ≡ cont_of c
    cont-read d = get_or-map (λ (x : Placed). x.cont) v i (placed_at p c) d there ∙ ap (λ (x : Placed). x.cont) (placed-read (placed_at p c))

    pub link-read : (d : Link) → get_or (links_of v) i d ≡ link_of (placed_at p c)
    link-read d = get_or-map link_of v i (placed_at p c) d there ∙ ap link_of (placed-read (placed_at p c))

    pub room-read : ((d : Placed) → 1 ≤ (get_or v i d).room) → 1 ≤ room_of c
    room-read room = let k : (get_or v i (placed_at p c)).room ≡ room_of c = ap (λ (x : Placed). x.room) (placed-read (placed_at p c)) in omega (arith, room (placed_at p c), k)

    -- and written
    module _ (with : Container) where
      written : containers_at (set slots p with) order ≡ set v i (placed_at p with)
      written = arranged-write slots p with order i here.once here.in_order here.at here.within ∙ ap (λ l. set l i (placed_at p with)) here.seen

      pub changes : (change : Cont → Cont) → cont_of with ≡ change (cont_of c) → with.down ≡ c.down → (change (cont_of c)).epoch ≡ c.epoch → Changes change i v (containers_at (set slots p with) order)
      changes change e down epochs = record {
        conts = λ d. ap conts_of written ∙ map-set (λ (x : Placed). x.cont) v i (placed_at p with) ∙ ap (set (conts_of v) i) (e ∙ ap change (sym (cont-read d)));
        links =
            let same : link_of (placed_at p with) ≡ link_of (placed_at p c) = λ j. record { epoch = (ap (λ (x : Cont). x.epoch) e ∙ epochs) j; place = p; down = down j } in
            ap links_of written ∙ map-set_same link_of v i (placed_at p with) (placed_at p c) (same ∙ ap link_of (sym (placed-read (placed_at p c))));
      }

      pub same : cont_of with ≡ cont_of c → with.down ≡ c.down → DifferInRooms v (containers_at (set slots p with) order)
      same e down =
          let k = changes (λ x. x) e down refl in
          record { conts = k.conts (cont_of c) ∙ set-get_or (conts_of v) i (cont_of c); links = k.links }

      pub room-written : 1 ≤ room_of with → (d : Placed) → 1 ≤ (get_or (containers_at (set slots p with) order) i d).room
      room-written h d =
          let e : (get_or (containers_at (set slots p with) order) i d).room ≡ room_of with = ap (λ l. (get_or l i d).room) written ∙ ap (λ (x : Placed). x.room) (get_or-set_same v i (placed_at p with) d there) in
          omega (arith, e)

      -- where a link alone is set
      pub conts-linked : cont_of with ≡ cont_of c → conts_of (containers_at (set slots p with) order) ≡ conts_of v
      conts-linked e = ap conts_of written ∙ map-set_same (λ (x : Placed). x.cont) v i (placed_at p with) (placed_at p c) (e ∙ ap (λ (x : Placed). x.cont) (sym (placed-read (placed_at p c))))

      pub links-linked : (down : Option ℕ) → cont_of with ≡ cont_of c → with.down ≡ down → (d : Link) → links_of (containers_at (set slots p with) order) ≡ set (links_of v) i (record (get_or (links_of v) i d) { down = down })
      links-linked down e is_down d =
          let same_link : link_of (placed_at p with) ≡ record (link_of (placed_at p c)) { down = down } = λ j. record { epoch = (ap (λ (x : Cont). x.epoch) e) j; place = p; down = is_down j } in
          ap links_of written ∙ map-set link_of v i (placed_at p with)
          ∙ ap (set (links_of v) i) (same_link ∙ ap (λ (k : Link). record k { down = down }) (sym (link-read d)))

  -- the place is that of the list
  pub place-read : (d : Link) → (get_or (links_of v) i d).place ≡ p
  place-read d =
      ap (λ l. (get_or (links_of l) i d).place) (sym here.seen)
      ∙ ap (λ (k : Link). k.place) (get_or-map link_of (containers_at slots order) i no_container d (omega (arith, here.in_order, arranged-length slots order)))
      ∙ ap (λ (x : Placed). x.place) (get_or-map (slot slots) order i p no_container here.in_order)
      ∙ ap (λ q. (slot slots q).place) (sym here.at)
      ∙ place_in p slots p here.within
    where
      place_in : (r : ℕ) (slots : List Container) (q : ℕ) → q < length slots → (get_or (map (placed_at r) slots) q no_container).place ≡ r
      place_in r [] q h = absurd (omega arith)
      place_in r (c ∷ slots) zero h = refl
      place_in r (c ∷ slots) (suc q) h = place_in r slots q (omega arith)

-- a place by that of the list
pub stands-at : (slots : List Container) (order : List ℕ) {room : ℕ} {free : List ℕ} {v : List Placed} {p : ℕ} (i : ℕ) → AreSlots (length slots) room order free → containers_at slots order ≡ v → i < length v → ((d : Link) → (get_or (links_of v) i d).place ≡ p) → StandsIn slots order v i p
stands-at slots order {room} {free} {v} {p} i are seen h is = subst (StandsIn slots order v i) (sym (place-read here no_link) ∙ is no_link) here
  where
    no_link : Link
    no_link = record { epoch = 0; place = 0; down = None }

    any_default : (xs : List ℕ) (i a b : ℕ) → i < length xs → get_or xs i a ≡ get_or xs i b
    any_default [] i a b h = absurd (omega arith)
    any_default (x ∷ xs) zero a b h = refl
    any_default (x ∷ xs) (suc i) a b h = any_default xs i a b (omega arith)

    here : StandsIn slots order v i (get_or order i p)
    here =
        let k : length (containers_at slots order) ≡ length v = ap length seen in
        stands-in slots order are seen h (any_default order i p (get_or order i p) (omega (arith, arranged-length slots order)))
