-- What the clauses of the calls say of a cascade and of its passes.
use Rattle.std.specs.Prelude.{◌≡◌, ◌≤◌, ◌⊎◌, ℕ, Bool, true, false, List, [], ◌∷◌, ◌++◌, drop, length, replicate, Option}
use Rattle.std.specs.Prelude.{Some, None, IfSome}
use Rattle.sb_hand.specs.base.records.declared.item.Record.{Record}
use Rattle.sb_hand.specs.core.declared.held.Held.{Held}
use Rattle.sb_hand.specs.core.declared.held.Held.TheVariants.{Work, Close}
use Rattle.sb_hand.specs.core.Closings.{delivery}
use Rattle.sb_hand.specs.node.declared.closing.Closing.{Closing}
use Rattle.sb_shared.specs.turn.declared.turns.Entry.TheVariants as entry
use Rattle.sb_shared.specs.turn.declared.turns.View.{View}
use Rattle.sb_shared.specs.turn.Passes.{Holds, IsFree, IsPassOf, seat_view}
use Rattle.sb_hand.specs.work.declared.claim.Claim.{Claim}
use Rattle.sb_cascade.specs.declared.cascade.Cascade.{Cascade}
use Rattle.sb_cascade.specs.declared.pass.CascadePass.{CascadePass}
use Rattle.sb_shared.specs.declared.telling.Change.{Change}
use Rattle.sb_shared.specs.declared.telling.Change.TheVariants as change
use Rattle.sb_shared.specs.declared.telling.Hands.{Hands}
use Rattle.sb_shared.specs.declared.telling.Setting.{Setting}
use Rattle.sb_shared.specs.Doings.{close_of, work_of}
use Rattle.sb_shared.specs.Found.{IsClaim, IsFound}
use Rattle.sb_shared.specs.SharedNodes.{SharedView}
use Rattle.sb_shared.specs.Shown.{operator_of}
use Rattle.sb_hand.specs.base.pipeline.Shapes.{Shape}

-- the plan of a cascade, and what it was made with
abbrev pub setting_of : Cascade → Setting
setting_of c = c.setting

abbrev pub plan_of : Cascade → Shape
plan_of c = c.setting.plan

-- what a pass knows, did and saw; what it has in hand and has fed
abbrev pub view_of : CascadePass → View SharedView Change Hands
view_of p = seat_view p.seat

abbrev pub hands : CascadePass → Hands
hands p = (view_of p).client

-- how many records a bundle in hand gave, once they are delivered
abbrev pub given_count : Setting → Option Held → Option ℕ
given_count a None = None
given_count a (Some (Work node lane epoch floor number records true)) =
    Some (length (delivery (operator_of a node) records))
given_count a (Some (Work node lane epoch floor number records false)) = None
given_count a (Some (Close node lane epoch serial floor mark rows passed)) = None

-- what the pass has at run time is what its view lists
pub record Knows (c : Cascade) (p : CascadePass) : Type 0 where
  pub link : p.link ≡ (hands p).link
  pub delivered : p.delivered ≡ given_count c.setting (hands p).held
  pub kept : IfSome p.kept (λ claim. IsClaim c.setting claim × ((hands p).held ≡ Some (work_of claim false)))

-- the pass is of the cascade, and has no turn
pub record IsReady (c : Cascade) (p : CascadePass) : Type 0 where
  pub of : IsPassOf c.turns p.seat
  pub free : IsFree p.seat
  pub knows : Knows c p

-- the pass is of the cascade, and has the turn of a node that it found so
pub record IsUnder (c : Cascade) (node : ℕ) (x : SharedView) (p : CascadePass) : Type 0 where
  pub of : IsPassOf c.turns p.seat
  pub near : node ≤ length c.setting.plan.steps
  pub turn : Holds node x p.seat
  pub found : IsFound c.setting (hands p) node x
  pub knows : Knows c p

-- it is the feeder's
abbrev pub IsFeeder : CascadePass → Type 0
IsFeeder p = (p.seat.id ≡ 0) × ((hands p).feed.on ≡ true)

-- it has nothing in hand
pub record IsEmptyHanded (p : CascadePass) : Type 0 where
  pub held : (hands p).held ≡ None
  pub link : (hands p).link ≡ None
  pub kept : p.kept ≡ None

-- it has this in hand
abbrev pub Has : Held → CascadePass → Type 0
Has h p = ((hands p).held ≡ Some h) × (p.kept ≡ None)

-- this bundle, of which what it gives is delivered or not
abbrev pub HasBundle : Claim → Bool → CascadePass → Type 0
HasBundle claim delivered p = Has (work_of claim delivered) p

-- the rows of a closing in hand that are left to deliver
abbrev pub rows_left : Closing → CascadePass → List Record
rows_left closing p = drop p.gone closing.rows.items

-- this closing, whose mark is passed below or not
abbrev pub HasClosing : Closing → Bool → CascadePass → Type 0
HasClosing closing passed p = Has (close_of closing (rows_left closing p) passed) p

-- the passes that were split off the feeder's and not joined
abbrev pub passes_out : CascadePass → ℕ
passes_out p = (view_of p).count

-- it is the same pass, has fed the same, and as many passes are out
pub record IsSame (p q : CascadePass) : Type 0 where
  pub table : q.seat.table_id ≡ p.seat.table_id
  pub id : q.seat.id ≡ p.seat.id
  pub feed : (hands q).feed ≡ (hands p).feed
  pub out : passes_out q ≡ passes_out p

-- it has nothing in hand, or a bundle that it keeps
abbrev pub MayFill : CascadePass → Type 0
MayFill p = IsEmptyHanded p ⊎ ((claim : Claim) × (p.kept ≡ Some claim))

-- but for what it did and saw, it is as it was
abbrev pub HasSame : CascadePass → CascadePass → Type 0
HasSame p q = (hands q ≡ hands p) × (q.kept ≡ p.kept) × (q.gone ≡ p.gone)

-- the pass tried a node some times, entered it, and left it with such a change
pub record LeftBy (node : ℕ) (so : Change → Type 0) (p q : CascadePass) : Type 0 where
  pub tries : ℕ
  pub lines : ℕ
  pub change : Change
  pub is : so change
  pub trace : (view_of q).trace
      ≡ ((view_of p).trace ++ replicate tries (entry.Held node)) ++ entry.Left node lines change ∷ []

-- the same, at its first try
pub record LeftAtOnce (node : ℕ) (so : Change → Type 0) (p q : CascadePass) : Type 0 where
  pub lines : ℕ
  pub change : Change
  pub is : so change
  pub trace : (view_of q).trace ≡ (view_of p).trace ++ entry.Left node lines change ∷ []

-- the pass found the node's word held, at its one try
abbrev pub FoundHeld : ℕ → CascadePass → CascadePass → Type 0
FoundHeld node p q = (view_of q).trace ≡ (view_of p).trace ++ entry.Held node ∷ []

-- the pass raised the state word to say that there was no memory, and left the node, what it keeps unknown
pub record LeftSpent (node : ℕ) (p q : CascadePass) : Type 0 where
  pub tries : ℕ
  pub lines : ℕ
  pub trace : (view_of q).trace ≡ ((view_of p).trace ++ replicate tries (entry.Held node))
      ++ (entry.Raised 3 ∷ entry.Left node lines change.Spent ∷ [])
