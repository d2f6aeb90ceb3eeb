-- The feeder's pass, as others are split off it and joined.
use Rattle.std.proofs.Common.{◌≡◌, ◌<◌, ◌+◌, cond, eqb, ℕ, List, [], ◌∷◌, ◌++◌, Some, None, sym, ap, subst, ◌∙◌, arith}
use Rattle.std.specs.List.{AllByRecursion}
use mathlib.Core.Option.{some}
use lib.ListN.{get_elem?}
use Rattle.sb_alone.specs.feeds.base.records.declared.item.Record.{Record}
use Rattle.sb_worker.specs.turn.declared.turns.View.{View}
use Rattle.sb_worker.specs.turn.Turning.{joined_with, opening_view, saw, split_off}
use Rattle.sb_worker.specs.turn.Passes.{ShowsEmpty}
use Rattle.sb_worker.specs.cascade.declared.cascade.Cascade.{Cascade}
use Rattle.sb_worker.specs.cascade.declared.pass.CascadePass.{CascadePass}
use Rattle.sb_worker.specs.cascade.shared.declared.telling.Change.{Change}
use Rattle.sb_worker.specs.cascade.shared.declared.telling.Hands.{Hands}
use Rattle.sb_worker.specs.cascade.Calls.{HasSame, IsEmptyHanded, IsFeeder, IsReady, IsSame, passes_out, view_of}
use Rattle.sb_worker.specs.cascade.shared.SharedNodes.{SharedView}
use Rattle.sb_worker.specs.cascade.shared.Views.{idle_hands}
use Rattle.sb_alone.specs.feeds.one_feed.Feeds.{Fed}
use Rattle.sb_engines.specs.Feeders.{HasFed}
use Rattle.sb_engines.proofs.FedMore.{fed-still}
use Rattle.sb_worker.specs.Helping.{IsFirst, IsHelper}

-- what holds of all of a list holds of those at its front
pub All-front : {X : Type 0} (P : X → Type 0) (xs ys : List X) → AllByRecursion P (xs ++ ys) → AllByRecursion P xs
All-front P [] ys all = tt
All-front P (x ∷ xs) ys all = (all.0, All-front P xs ys all.1)

-- and of the one at its end
pub All-last : {X : Type 0} (P : X → Type 0) (xs : List X) (x : X) → AllByRecursion P (xs ++ x ∷ []) → P x
All-last P [] x all = all.0
All-last P (y ∷ xs) x all = All-last P xs x all.1

pub empty-same : (p q : CascadePass) → HasSame p q → IsEmptyHanded p → IsEmptyHanded q
empty-same p q same empty = record {
  held = ap (λ (w : Hands). w.held) same.0 ∙ empty.held;
  link = ap (λ (w : Hands). w.link) same.0 ∙ empty.link;
  kept = same.1 ∙ empty.kept;
}

module _ (c : Cascade) (p q : CascadePass) (ready : IsReady c q) (feeder : IsFeeder q) (same : HasSame p q) where
  -- a call that says nothing new to the feeder
  pub fed-same : (f : Fed) (rows : List Record) → HasFed c p f rows → HasFed c q f rows
  fed-same f rows h = fed-still c p q f rows h ready (empty-same p q same h.empty) (feeder.0 ∙ sym h.feeder.0) (ap (λ (w : Hands). w.feed) same.0)

  -- one more is out
  pub first-split : (n : ℕ) → view_of q ≡ split_off (view_of p) → IsFirst c n p → IsFirst c (n + 1) q
  first-split n view h = record {
    ready = ready;
    feeder = feeder;
    empty = empty-same p q same h.empty;
    out = ap (λ v. v.count) view ∙ ap (λ k. k + 1) h.out;
  }

  -- one came back
  pub first-joined : (n : ℕ) (w : View SharedView Change Hands) → view_of q ≡ joined_with (view_of p) w → IsFirst c (n + 1) p → IsFirst c n q
  first-joined n w view h = record {
    ready = ready;
    feeder = feeder;
    empty = empty-same p q same h.empty;
    out = let less = ap (λ v. v.count) view in let out = h.out in omega (arith, less, out);
  }

-- a step as a worker
pub first-stepped : (c : Cascade) (p q : CascadePass) (n : ℕ) → IsReady c q → IsEmptyHanded q → IsSame p q → IsFirst c n p → IsFirst c n q
first-stepped c p q n ready empty same h = record {
  ready = ready;
  feeder = (same.id ∙ h.feeder.0, ap (λ f. f.on) same.feed ∙ h.feeder.1);
  empty = empty;
  out = same.out ∙ h.out;
}

pub new-helper : (c : Cascade) (p : CascadePass) → IsReady c p → IsEmptyHanded p → view_of p ≡ opening_view idle_hands → IsHelper c p
new-helper c p ready empty view = record { ready = ready; empty = empty; feeds = ap (λ v. v.client.feed) view }

-- a look at the state word leaves the shelf shown empty, and while no other is out it tells the word exactly
pub still-empty : (p q : CascadePass) (n : ℕ) → view_of q ≡ saw n (view_of p) → ShowsEmpty p.seat → ShowsEmpty q.seat
still-empty p q n view empty = subst (λ (l : List ℕ). (k : ℕ) → k < 64 → (x : ℕ) × (get_elem? l x ≡ some k)) (sym (ap (λ v. v.empties) view)) empty

pub known-exactly : (p q : CascadePass) (n : ℕ) → view_of q ≡ saw n (view_of p) → passes_out p ≡ 0 → (view_of q).exact ≡ Some n
known-exactly p q n view none = ap (λ v. v.exact) view ∙ ap (λ k. cond (eqb k 0) (Some n) None) none
