-- Each leaving keeps nodes and passes linked.
use Rattle.std.proofs.Common.{◌≡◌, ℕ, true, false, not, List, [], ◌∷◌, ◌++◌, drop, Some, Option, sym, ap, subst, refl, ◌∙◌}
use Rattle.std.specs.Prelude.{slice_get, slice_set}
use Rattle.std.specs.List.{AllByRecursion}
use Rattle.std.proofs.lemmas.Option.{same_Some}
use mathlib.Core.Option.{some}
use lib.ListN.{get_elem?}
use Rattle.sb_shown.proofs.base.records.Numbers.{bind_some}
use Rattle.sb_shown.specs.base.records.declared.item.Record.{Record}
use Rattle.sb_shown.specs.core.declared.event.Event.TheVariants as event
use Rattle.sb_shown.specs.core.declared.held.Held.{Held}
use Rattle.sb_shown.specs.core.declared.moment.Node.{Node}
use Rattle.sb_shown.specs.core.containers.Choices.{is_empty}
use Rattle.sb_shown.specs.core.Events.{below}
use Rattle.sb_shown.specs.core.Holdings.{IsCloseOf}
use Rattle.sb_shown.specs.core.containers.Lanes.{take_from}
use Rattle.sb_shown.specs.core.Parts.{Part, held_after, part_after}
use Rattle.sb_shown.proofs.core.containers.Lists.{cond_is_some}
use Rattle.sb_shown.specs.node.declared.closing.Closing.{Closing}
use Rattle.sb_shown.specs.work.declared.claim.Claim.{Claim}
use Rattle.sb_shared.specs.declared.telling.Change.{Change}
use Rattle.sb_shared.specs.declared.telling.Change.TheVariants.{Arrive, Seal, Take, Deliver, Finish, Begin, Rows, Pass, End, Idle, NotYet, Full, Drain, Spent, Nothing}
use Rattle.sb_shared.specs.declared.telling.Hands.{Hands}
use Rattle.sb_shared.specs.declared.telling.Piece.{Piece}
use Rattle.sb_shared.specs.declared.telling.Setting.{Setting}
use Rattle.sb_shared.specs.Doings.{close_of, work_of}
use Rattle.sb_shared.specs.Found.{IsFound}
use Rattle.sb_shared.specs.Leavings.{Does}
use Rattle.sb_shared.specs.Linked.{AreLinked, LinksBy, giver, is_pardo_at}
use Rattle.sb_shared.specs.Passing.{found}
use Rattle.sb_shared.specs.SharedNodes.{SharedView}
use Rattle.sb_shared.specs.Shown.{ShowsMoment}
use Rattle.sb_shared.specs.Views.{after, held_by}
use Rattle.sb_shared.proofs.links.LinkedLeavings.{begun-linked, delivered-linked, ended-linked, fed-linked, finished-linked, passed-linked, quiet-linked, rows-linked, taken-linked}

-- the node of what is first in a list of what is in hand
abbrev first_giver : List Held → ℕ
first_giver [] = 0
first_giver (h ∷ hs) = giver h

-- a bundle is taken at its node
taken-node : (a : Setting) (k : ℕ) (c : Claim) (p : Node) (q : Part) → part_after a.plan a.bundle (event.Take k c.lane c.bundle.number) p ≡ Some q → work_of c false ∷ [] ≡ q.held → c.node ≡ k
taken-node a k c p q is held =
    let b = bind_some (slice_get p.lanes c.lane) _ q is in
    let d = bind_some (take_from c.bundle.number b.0.conts) _ q b.2 in
    ap first_giver (held ∙ sym (ap (λ (z : Part). z.held) (same_Some _ q d.2)))

-- rows are put below from no transform of single records
rows-elsewhere : (a : Setting) (w : Hands) (k : ℕ) (x : SharedView) (f : IsFound a w k x) (c : Closing) (rows : List Record) (q : Part) → held_by w ≡ close_of c rows false ∷ []
    → held_after a.plan a.bundle (event.Deliver c.node c.lane 0) (close_of c rows false) f.part ≡ Some q → is_pardo_at a c.node ≡ true → ⊥
rows-elsewhere a w k x f c rows q has is pardo =
    let held : f.moment.held ≡ close_of c rows false ∷ f.rest = f.held ∙ ap (λ (l : List Held). l ++ f.rest) has in
    let h : IsCloseOf a.plan f.moment (close_of c rows false) = (subst (AllByRecursion (IsCloseOf a.plan f.moment)) held f.sound.closes).0 in
    let empty : rows ≡ [] = h.0.1.1 pardo in
    let b = bind_some (below a.plan c.node) _ q is in
    let some_rows : not (is_empty rows) ≡ true = (cond_is_some (not (is_empty rows)) _ q b.2).0 in
    let wrong : false ≡ true = sym (ap (λ (l : List Record). not (is_empty l)) empty) ∙ some_rows in
    cc

module _ (a : Setting) (shelf : List (Option Piece)) (status : ℕ) (states : List SharedView) (logs : List (List Change)) (views : List Hands) (r : ShowsMoment a shelf status states logs views) (linked : AreLinked a shelf states views) (id k : ℕ) (w : Hands) (x y : SharedView) (here : get_elem? states k ≡ some x) (at : get_elem? views id ≡ some w) where
  -- what the pass found
  found_here : IsFound a w k x
  found_here = found a shelf status states logs views id k w x r here at

  -- what any leaving does keeps nodes and passes linked
  pub links-kept : (seen : ℕ) (c : Change) → Does a w seen k x y c → LinksBy a w k x y c → AreLinked a shelf (slice_set states k y) (slice_set views id (after w k c))
  links-kept seen (Arrive stream records) d l = fed-linked a shelf status states logs views r linked id k w x y here at (after w k (Arrive stream records)) stream 0 refl refl l
  links-kept seen (Seal stream mark) d l = fed-linked a shelf status states logs views r linked id k w x y here at (after w k (Seal stream mark)) stream 1 refl refl l
  links-kept seen (Take c link) d l = let p = d.part found_here in taken-linked a shelf status states logs views r linked id k w x y here at c.value link (taken-node a k c.value found_here.part p.q p.may.2 p.may.3) p.may.1 l.0 l.1
  links-kept seen (Deliver c place) d l = delivered-linked a shelf status states logs views r linked id k w x y here at c.value place (d.part found_here).may.2 l
  links-kept seen (Finish c delivered) d l = let p = d.part found_here in finished-linked a shelf status states logs views r linked id k w x y here at c.value delivered (same_Some c.value.node k p.may.0) p.may.2 l
  links-kept seen (Begin c passed) d l = begun-linked a shelf status states logs views r linked id k w x y here at c.value passed (d.part found_here).may.1 l
  links-kept seen (Rows c first most place) d l =
      let p = d.part found_here in
      let rows = drop first c.value.rows.items in
      rows-linked a shelf status states logs views r linked id k w x y here at c.value rows (drop most rows) place p.may.2 (rows-elsewhere a w k x found_here c.value rows p.q p.may.2 p.may.3) l
  links-kept seen (Pass c) d l = passed-linked a shelf status states logs views r linked id k w x y here at c.value [] (d.part found_here).may.2 l
  links-kept seen (End c) d l = let p = d.part found_here in ended-linked a shelf status states logs views r linked id k w x y here at c.value [] (same_Some c.value.node k p.may.0) p.may.2 l
  links-kept seen Idle d l = quiet-linked a shelf status states logs views r linked id k w x y here at (after w k Idle) refl refl l
  links-kept seen (NotYet why) d l = quiet-linked a shelf status states logs views r linked id k w x y here at (after w k (NotYet why)) refl refl l
  links-kept seen (Full lane) d l = quiet-linked a shelf status states logs views r linked id k w x y here at (after w k (Full lane)) refl refl l
  links-kept seen (Drain rows) d l = quiet-linked a shelf status states logs views r linked id k w x y here at (after w k (Drain rows)) refl refl l
  links-kept seen Spent d l = quiet-linked a shelf status states logs views r linked id k w x y here at (after w k Spent) refl refl l
  links-kept seen Nothing d l = quiet-linked a shelf status states logs views r linked id k w x y here at (after w k Nothing) refl refl l
