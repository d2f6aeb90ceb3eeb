-- A container in its place: as the core has it, with its link, and with room for bundles to come.
use Rattle.std.specs.Prelude.{ℕ, ◌+◌, ◌-◌, ◌==◌, if◌then◌else◌, min, List, [], ◌∷◌, map, Option, None, slice_index_or, vec_len, vec_capacity}
use Rattle.std.specs.VecDeque.{deque_len, deque_capacity}
use Rattle.sb_containers.specs.declared.container.Cont.{Cont}
use Rattle.sb_containers.specs.Lanes.{fresh}
use Rattle.sb_lane.specs.declared.container.Container.{Container}

-- room is how many bundles more may come without memory
pub record Placed : Type 0 where
  pub cont : Cont
  pub place : ℕ
  pub down : Option ℕ
  pub room : ℕ

-- the container as the core has it
abbrev pub cont_of : Container → Cont
cont_of c = record {
  epoch = c.epoch;
  floor = c.floor;
  waiting = c.waiting.items;
  out = c.out.items;
  mark = c.mark;
  closing = c.closing;
}

-- how many bundles more may come, and later be taken, without memory
abbrev pub room_of : Container → ℕ
room_of c =
    min (deque_capacity c.waiting - deque_len c.waiting) (vec_capacity c.out - (deque_len c.waiting + vec_len c.out))

-- a container at a place
abbrev pub placed_at : ℕ → Container → Placed
placed_at p c = record { cont = cont_of c; place = p; down = c.down; room = room_of c }

-- what is read where nothing stands
abbrev pub no_container : Placed
no_container = record { cont = fresh 0 0; place = 0; down = None; room = 0 }

-- what stands at a place
abbrev pub slot : List Container → ℕ → Placed
slot slots p = slice_index_or (map (placed_at p) slots) p no_container

-- the containers of places, in the order of these places
abbrev pub containers_at : List Container → List ℕ → List Placed
containers_at slots order = map (slot slots) order

-- the containers as the core has them
abbrev pub conts_of : List Placed → List Cont
conts_of xs = map {A = Placed} {B = Cont} (λ x. x.cont) xs

-- the room of the container of an epoch, 0 where there is none
abbrev pub room_in : ℕ → List Placed → ℕ
room_in epoch [] = 0
room_in epoch (x ∷ xs) = if x.cont.epoch == epoch then x.room else room_in epoch xs
