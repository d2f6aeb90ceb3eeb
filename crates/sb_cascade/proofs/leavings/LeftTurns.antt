-- A turn that a pass entered and left again, as the clauses of calls and of leavings have it.
use Rattle.std.proofs.Common.{◌≡◌, ℕ, List, [], ◌∷◌, ◌++◌, sym, ap, ◌∙◌, subst}
use Rattle.atomic_table.specs.Table.{Me}
use Rattle.sb_shared.specs.turn.declared.turns.Entry.TheVariants as entry
use Rattle.sb_shared.specs.turn.declared.turns.Slot.{Slot}
use Rattle.sb_shared.specs.turn.declared.turns.View.{View}
use Rattle.sb_shared.specs.turn.Turning.{left_view, tried_view, won_view}
use Rattle.sb_cascade.specs.declared.pass.CascadePass.{CascadePass}
use Rattle.sb_shared.specs.declared.telling.Change.{Change}
use Rattle.sb_shared.specs.declared.telling.Hands.{Hands}
use Rattle.sb_shared.specs.declared.telling.Piece.{Piece}
use Rattle.sb_shared.specs.declared.telling.Setting.{Setting}
use Rattle.sb_cascade.specs.Calls.{LeftBy}
use Rattle.sb_shared.specs.Found.{IsFound}
use Rattle.sb_shared.specs.Leavings.{Does}
use Rattle.sb_shared.specs.SharedNodes.{SharedView}

-- what a pass knows, and what is out with it
abbrev pub Seated : Type 0
Seated = Me (Slot SharedView Piece) (View SharedView Change Hands)

-- what a pass knows once it has a turn is what it knew before
pub knew : (m m' : Seated) (k tries : ℕ) (x : SharedView) (out : List (ℕ × Slot SharedView Piece)) → m' ≡ (won_view k x (tried_view k tries m.0), out) → m'.0.client ≡ m.0.client
knew m m' k tries x out e = ap (λ (z : Seated). z.0.client) e

-- what was found under the turn, by the setting itself
pub found_by : (a b : Setting) (w : Hands) (k : ℕ) (x : SharedView) → b ≡ a → IsFound b w k x → IsFound a w k x
found_by a b w k x same = subst (λ (s : Setting). IsFound s w k x) same

-- a leaving is told by what the guard and the pass have
pub does_at : (a : Setting) (v w : Hands) (seen j k : ℕ) (z x y : SharedView) (c : Change) → j ≡ k → v ≡ w → z ≡ x → Does a w seen k x y c → Does a v seen j z y c
does_at a v w seen j k z x y c node knows found = subst (λ X. X) (λ i. Does a (sym knows i) seen (sym node i) (sym found i) y c)

-- the pass entered the turn of a node and left it
pub left_by : (node : ℕ) (so : Change → Type 0) (p q : CascadePass) (m : Seated) (j tries lines : ℕ) (x : SharedView) (c : Change) (w : Hands) (out in_hand : List (ℕ × Slot SharedView Piece))
    → j ≡ node → m ≡ (won_view node x (tried_view node tries p.seat.me.0), out) → q.seat.me ≡ (left_view j lines c w m.0, in_hand) → so c → LeftBy node so p q
left_by node so p q m j tries lines x c w out in_hand here entered leaves is = record {
  tries = tries;
  lines = lines;
  change = c;
  is = is;
  trace = ap (λ (z : Seated). z.0.trace) leaves ∙ (λ i. (entered i).0.trace ++ entry.Left (here i) lines c ∷ []);
}
