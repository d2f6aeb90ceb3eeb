use Rattle.std.proofs.Common.{◌≡◌, ℕ, ◌∷◌, ◌++◌, [], List, length, ap, sym, arith, subst, ◌∙◌, vec_capacity}
use Rattle.std.proofs.lemmas.List.{nil_from_length}
use Rattle.std.specs.List.{insert}
use Rattle.sb_lane.specs.Slots.{AreSlots}
use Rattle.sb_lane.specs.Placed.{containers_at, placed_at}
use Rattle.sb_lane.proofs.Inserts.{reuse-arranged, reuse-are, new-arranged, new-are, within-free, kept-are}
use Rattle.sb_lane.proofs.arena.insert_made.Goals as goal

pub index_mut-requires : goal.index_mut-requires
index_mut-requires c =
    let are = subst (λ (o : List ℕ). AreSlots (length c.args.slots.now.items) (vec_capacity c.args.free.now) c.args.order.now.items o) c.in-Some.ensures.items c.requires.are in
    omega (arith, c.args.slots.now.ok, within-free c.args.slots.now.items (vec_capacity c.args.free.now) c.args.order.now.items c.pop.new.self.items c.in-Some.place are)

pub returns-in-Some-clause-are : goal.returns-in-Some-clause-are
returns-in-Some-clause-are c =
    let are = subst (λ (o : List ℕ). AreSlots (length c.args.slots.now.items) (vec_capacity c.args.free.now) c.args.order.now.items o) c.in-Some.ensures.items c.requires.are in
    rw (c.insert_reserved.ensures, c.in-Some.ensures.capacity) (reuse-are c.args.slots.now.items (vec_capacity c.args.free.now) c.args.order.now.items c.args.at c.args.made c.requires.within c.pop.new.self.items c.in-Some.place are)

pub returns-in-Some-clause-list : goal.returns-in-Some-clause-list
returns-in-Some-clause-list c =
    let are = subst (λ (o : List ℕ). AreSlots (length c.args.slots.now.items) (vec_capacity c.args.free.now) c.args.order.now.items o) c.in-Some.ensures.items c.requires.are in
    rw c.insert_reserved.ensures (reuse-arranged c.args.slots.now.items (vec_capacity c.args.free.now) c.args.order.now.items c.args.at c.args.made c.requires.within c.pop.new.self.items c.in-Some.place are)

none_free : (xs : List ℕ) → length xs ≡ 0 → xs ≡ []
none_free xs h = nil_from_length xs h

pub returns-in-None-clause-are : goal.returns-in-None-clause-are
returns-in-None-clause-are c =
    let old = none_free c.args.free.now.items (omega (arith, c.in-None.ensures.cases, c.args.free.now.ok)) in
    let left = none_free c.pop.new.self.items (omega (arith, c.in-None.ensures.cases, c.pop.new.self.ok)) in
    let n : c.len-place.result ≡ length c.args.slots.now.items = omega (arith, c.len-place.ensures, c.args.slots.now.ok) in
    let are = subst (λ (o : List ℕ). AreSlots (length c.args.slots.now.items) (vec_capacity c.args.free.now) c.args.order.now.items o) old c.requires.are in
    let room = c.requires.room.free (omega (arith, c.in-None.ensures.cases)) in
    kept-are (c.args.slots.now.items ++ c.args.made ∷ []) c.push_reserved.new.self.items (vec_capacity c.args.free.now) _ (insert c.args.order.now.items c.args.at (length c.args.slots.now.items)) c.insert_reserved-in-None.new.order.items [] c.pop.new.self.items
    c.push_reserved.ensures.items (c.insert_reserved-in-None.ensures ∙ ap (insert c.args.order.now.items c.args.at) n) left (omega (arith, c.in-None.ensures.capacity))
    (new-are c.args.slots.now.items (vec_capacity c.args.free.now) c.args.order.now.items c.args.at c.args.made c.requires.within 0 are (omega (arith, room, c.args.slots.now.ok)))

pub returns-in-None-clause-list : goal.returns-in-None-clause-list
returns-in-None-clause-list c =
    let old = none_free c.args.free.now.items (omega (arith, c.in-None.ensures.cases, c.args.free.now.ok)) in
    let n : c.len-place.result ≡ length c.args.slots.now.items = omega (arith, c.len-place.ensures, c.args.slots.now.ok) in
    let are = subst (λ (o : List ℕ). AreSlots (length c.args.slots.now.items) (vec_capacity c.args.free.now) c.args.order.now.items o) old c.requires.are in
    (λ i. containers_at (c.push_reserved.ensures.items i) ((c.insert_reserved-in-None.ensures ∙ ap (insert c.args.order.now.items c.args.at) n) i))
    ∙ new-arranged c.args.slots.now.items (vec_capacity c.args.free.now) c.args.order.now.items c.args.at c.args.made c.requires.within 0 are
    ∙ ap (λ q. insert (containers_at c.args.slots.now.items c.args.order.now.items) c.args.at (placed_at q c.args.made)) (sym n)
