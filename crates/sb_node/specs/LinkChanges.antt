-- What becomes of the links and searches of a lane.
use Rattle.std.specs.Prelude.{◌≡◌, ℕ, drop}
use Rattle.sb_lane.specs.Changes.{StandsAt}
use Rattle.sb_lane.specs.LaneView.{LaneView, one_search_more}
use Rattle.sb_lane.specs.Links.{with_link, links_of, with_place}

-- the links are as before, and so are the searches
pub record LinksStay (was is : LaneView) : Type 0 where
  pub links : links_of is.containers ≡ links_of was.containers
  pub searches : is.searches ≡ was.searches

-- the oldest link is gone
pub record DropsLink (was is : LaneView) : Type 0 where
  pub links : links_of is.containers ≡ drop 1 (links_of was.containers)
  pub searches : is.searches ≡ was.searches

-- an epoch has a place, that it got now or had before
pub record GetsPlace (epoch : ℕ) (was is : LaneView) : Type 0 where
  pub place : ℕ
  pub links : links_of is.containers ≡ with_place epoch place (links_of was.containers)
  pub searches : is.searches ≡ was.searches

-- it was looked for, and is this one
pub record FindsPlace (epoch place : ℕ) (was is : LaneView) : Type 0 where
  pub made : ℕ
  pub links : links_of is.containers ≡ with_place epoch made (links_of was.containers)
  pub stands : StandsAt epoch place is.containers
  pub searches : is.searches ≡ one_search_more was.searches

-- the link of an epoch is set
pub record GetsLink (epoch down : ℕ) (was is : LaneView) : Type 0 where
  pub links : links_of is.containers ≡ with_link epoch down (links_of was.containers)
  pub searches : is.searches ≡ was.searches
