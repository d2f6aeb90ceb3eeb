-- What the feeder knows, after a step of any pass.
use Rattle.std.proofs.Common.{◌≡◌, ℕ, zero, suc, true, false, List, [], ◌++◌, set, sym, ap, ◌∙◌, arith, append-nil, ⊎_elim}
use mathlib.Core.Option.{some, some-injective}
use lib.ListN.{get_elem?}
use Rattle.atomic_table.proofs.Lists.{at_set, set_here, set_else}
use Rattle.sb_turn.proofs.Totals.{within}
use Rattle.sb_shown.specs.base.records.declared.item.Record.{Record}
use Rattle.sb_shared.specs.declared.telling.Hands.{Hands}
use Rattle.sb_shared.specs.Doings.{Doing}
use Rattle.sb_shared.specs.Leavings.{Feeds, FeedsNothing, FeedsThis, feed_then}
use Rattle.sb_shared.specs.Views.{feed_of, no_feed}

-- the feeder's view among the views, once it is known what came before and what the leaving feeds and drains
pub record IsFed (views : List Hands) (f : Hands) (d : Doing) (rows : List Record) : Type 0 where
  pub g : Hands
  pub at : get_elem? views 0 ≡ some g
  pub on : g.feed.on ≡ true
  pub others : (j : ℕ) (u : Hands) → get_elem? views (suc j) ≡ some u → u.feed ≡ no_feed
  pub drained : g.feed.drained ≡ f.feed.drained ++ rows
  pub feed : feed_of g.feed ≡ feed_then d (feed_of f.feed)

-- no rows more
pub more_none : (drained rows : List Record) → rows ≡ [] → drained ++ rows ≡ drained
more_none drained rows e = ap (λ l. drained ++ l) e ∙ append-nil drained

-- what the feeder's own leaving makes of its view
pub record IsFedBy (w' f : Hands) (d : Doing) (rows : List Record) : Type 0 where
  pub on : w'.feed.on ≡ true
  pub drained : w'.feed.drained ≡ f.feed.drained ++ rows
  pub feed : feed_of w'.feed ≡ feed_then d (feed_of f.feed)

-- by the feeder's own leaving
own_feed : (f w w' : Hands) (d : Doing) (rows : List Record) → w ≡ f → f.feed.on ≡ true → Feeds w w' d rows → IsFedBy w' f d rows
own_feed f w w' d rows same on feeds = ⊎_elim
    (λ (t : FeedsNothing w w' d rows). let e = t.same ∙ ap (λ (u : Hands). u.feed) same in record {
      on = ap (λ u. u.on) e ∙ on;
      drained = ap (λ u. u.drained) e ∙ sym (more_none f.feed.drained rows t.none);
      feed = ap feed_of e ∙ sym (t.nothing (feed_of f.feed));
    })
    (λ (t : FeedsThis w w' d rows). record {
      on = t.is;
      drained = t.drained ∙ ap (λ (u : Hands). u.feed.drained ++ rows) same;
      feed = t.feed ∙ ap (λ (u : Hands). feed_then d (feed_of u.feed)) same;
    })
    feeds

-- the views after a leaving of pass id
pub fed_on : (views : List Hands) (id : ℕ) (w w' f : Hands) (d : Doing) (rows : List Record) → get_elem? views id ≡ some w → get_elem? views 0 ≡ some f → f.feed.on ≡ true
    → ((j : ℕ) (u : Hands) → get_elem? views (suc j) ≡ some u → u.feed ≡ no_feed) → Feeds w w' d rows → IsFed (set views id w') f d rows
fed_on views zero w w' f d rows at first on others feeds =
    let o = own_feed f w w' d rows (some-injective w f (sym at ∙ first)) on feeds in record {
      g = w';
      at = set_here views 0 w' (within views 0 w at);
      on = o.on;
      others = λ j u e. ⊎_elim (λ t. absurd (omega (arith, t.0))) (λ t. others j u t.1) (at_set views 0 (suc j) w' u e);
      drained = o.drained;
      feed = o.feed;
    }
fed_on views (suc id) w w' f d rows at first on others feeds = ⊎_elim
    (λ (t : FeedsNothing w w' d rows). record {
      g = f;
      at = set_else views (suc id) 0 w' (λ e. absurd (cc e)) ∙ first;
      on = on;
      others = λ j u e. ⊎_elim (λ s. ap (λ (u : Hands). u.feed) (sym s.1) ∙ t.same ∙ others id w at) (λ s. others j u s.1) (at_set views (suc id) (suc j) w' u e);
      drained = sym (more_none f.feed.drained rows t.none);
      feed = sym (t.nothing (feed_of f.feed));
    })
    (λ (t : FeedsThis w w' d rows). let off : false ≡ true = ap (λ u. u.on) (sym (others id w at)) ∙ t.was in absurd (cc off))
    feeds

-- what the feeder's view says of something stays, if the pass's does
pub kept_on : {A : Type 0} (says : Hands → A) (views : List Hands) (id : ℕ) (w w' f g : Hands) → get_elem? views id ≡ some w → get_elem? views 0 ≡ some f → says w' ≡ says w
    → get_elem? (set views id w') 0 ≡ some g → says g ≡ says f
kept_on says views id w w' f g at first same there = ⊎_elim
    (λ t.
    let is : w ≡ f = some-injective w f (sym at ∙ ap (get_elem? views) (sym t.0) ∙ first) in
    ap says (sym t.1) ∙ same ∙ ap says is)
    (λ t. ap says (some-injective g f (sym t.1 ∙ first)))
    (at_set views id 0 w' g there)
