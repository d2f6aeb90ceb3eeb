-- Links: where the container of an epoch stands, and where the container below stands that takes its output.
use Rattle.std.specs.Prelude.{ℕ, ◌==◌, nat_lt, if◌then◌else◌, List, [], ◌∷◌, map, Option, Some, None}
use Rattle.sb_lane.specs.Placed.{Placed}

-- down is the place below, once it is known
pub record Link : Type 0 where
  pub epoch : ℕ
  pub place : ℕ
  pub down : Option ℕ

-- the link of a container
abbrev pub link_of : Placed → Link
link_of x = record { epoch = x.cont.epoch; place = x.place; down = x.down }

-- the links of containers
abbrev pub links_of : List Placed → List Link
links_of xs = map {A = Placed} {B = Link} link_of xs

-- the link of an epoch
abbrev pub link_in : ℕ → List Link → Option Link
link_in epoch [] = None
link_in epoch (k ∷ ks) = if k.epoch == epoch then Some k else link_in epoch ks

-- the link of a container that was just made
abbrev pub new_link : ℕ → ℕ → Link
new_link epoch place = record { epoch = epoch; place = place; down = None }

-- the links, with one for a new container at a place, in order of epoch, where the epoch had none
abbrev pub with_place : ℕ → ℕ → List Link → List Link
with_place epoch place [] = new_link epoch place ∷ []
with_place epoch place (k ∷ ks) =
    if k.epoch == epoch
    then k ∷ ks
    else if nat_lt epoch k.epoch then new_link epoch place ∷ k ∷ ks else k ∷ with_place epoch place ks

-- the links, with that of an epoch set to a place below
abbrev pub with_link : ℕ → ℕ → List Link → List Link
with_link epoch down [] = []
with_link epoch down (k ∷ ks) =
    if k.epoch == epoch then record k { down = Some down } ∷ ks else k ∷ with_link epoch down ks

-- the place below that the container of an epoch is linked to
abbrev pub down_of : ℕ → List Link → Option ℕ
down_of epoch [] = None
down_of epoch (k ∷ ks) = if k.epoch == epoch then k.down else down_of epoch ks
