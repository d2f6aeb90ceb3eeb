-- What becomes of placed containers where one of them is changed.
use Rattle.std.specs.Prelude.{◌≡◌, ℕ, ◌≤◌, List, Some, slice_index_or, slice_set}
use Rattle.sb_containers.specs.declared.container.Cont.{Cont}
use Rattle.sb_containers.specs.Lanes.{in_epoch}
use Rattle.sb_lane.specs.Placed.{Placed, conts_of, room_in}
use Rattle.sb_lane.specs.Links.{Link, links_of, link_in, with_place}

-- the container at an index is changed; it keeps its place and its link, and nothing is said of rooms
pub record Changes (change : Cont → Cont) (i : ℕ) (old new : List Placed) : Type 0 where
  pub conts : (d : Cont) → conts_of new ≡ slice_set (conts_of old) i (change (slice_index_or (conts_of old) i d))
  pub links : links_of new ≡ links_of old

-- the container of an epoch is changed; where there was none, one is made, at a place
pub record ChangesEpoch (epoch floor : ℕ) (change : Cont → Cont) (old new : List Placed) : Type 0 where
  pub conts : conts_of new ≡ in_epoch epoch floor change (conts_of old)
  pub place : ℕ
  pub links : links_of new ≡ with_place epoch place (links_of old)

-- nothing but rooms has changed
pub record DifferInRooms (old new : List Placed) : Type 0 where
  pub conts : conts_of new ≡ conts_of old
  pub links : links_of new ≡ links_of old

-- the container at an index has room for one bundle more
abbrev pub HasRoomAt : ℕ → List Placed → Type 0
HasRoomAt i xs = (d : Placed) → 1 ≤ (slice_index_or xs i d).room

-- the container at an index stands at this place
abbrev pub IsPlacedAt : ℕ → ℕ → List Placed → Type 0
IsPlacedAt place i xs = (d : Link) → (slice_index_or (links_of xs) i d).place ≡ place

-- the container at an index is linked to a place below, and the other links stay
abbrev pub LinksAt : ℕ → ℕ → List Placed → List Placed → Type 0
LinksAt down i old new =
    (d : Link)
    → links_of new ≡ slice_set (links_of old) i (record (slice_index_or (links_of old) i d) { down = Some down })

-- the container of the epoch stands at the place
pub record StandsAt (epoch place : ℕ) (xs : List Placed) : Type 0 where
  pub link : Link
  pub there : link_in epoch (links_of xs) ≡ Some link
  pub place_is : link.place ≡ place

-- the container of the epoch stands at the place, and has room for one bundle more
pub record StandsWithRoom (epoch place : ℕ) (xs : List Placed) : Type 0 where
  pub link : Link
  pub there : link_in epoch (links_of xs) ≡ Some link
  pub place_is : link.place ≡ place
  pub room : 1 ≤ room_in epoch xs
