-- Lists of events, one after another.
use Rattle.std.proofs.Common.{◌≡◌, ℕ, suc, zero, ◌+◌, List, [], ◌∷◌, ◌++◌, Some, None, Option, sym, refl, ap, subst, ◌∙◌, append_assoc, append-nil, zero-add, false, arith}
use Rattle.std.specs.Prelude.{replicate}
use Rattle.sb_shown.specs.base.records.declared.item.Record.{Record}
use Rattle.sb_shown.specs.base.records.Reading.{◌>>=◌}
use Rattle.sb_shown.specs.base.pipeline.Shapes.{Shape}
use Rattle.sb_shown.specs.core.declared.moment.Moment.{Moment}
use Rattle.sb_shown.specs.core.declared.held.Held.{Held}
use Rattle.sb_shown.specs.core.declared.event.Event.{Event}
use Rattle.sb_shown.specs.core.Events.{after, run}
use Rattle.sb_shown.specs.core.declared.event.Event.TheVariants.{Deliver}
use Rattle.sb_shown.specs.node.declared.closing.Closing.{Closing}
use Rattle.sb_hand.proofs.LeftToDo.{lowers-then, lowers-none}
use Rattle.sb_hand.specs.Runs.{close_of, deliveries, Delivers}
use Rattle.sb_shown.specs.node.declared.state.NodeState.{NodeState}
use Rattle.std.proofs.lemmas.Option.{same_Some}
use Rattle.sb_shown.specs.diary.declared.event.DiaryEvent.{DiaryEvent}
use Rattle.sb_shown.specs.tally.Keeping.{diaries_after, if_some, diaries_by}
use Rattle.sb_shown.specs.Showing.{Stands, CanStand, Does, diaries_of}

pub run-append : (plan : Shape) (es fs : List Event) (m : Moment) → run plan (es ++ fs) m ≡ (run plan es m >>= run plan fs)
run-append plan [] fs m = refl
run-append plan (e ∷ es) fs m = go (after plan m e) (λ n. run-append plan es fs n)
  where
    go : (o : Option Moment) → ((n : Moment) → run plan (es ++ fs) n ≡ (run plan es n >>= run plan fs)) → (o >>= run plan (es ++ fs)) ≡ ((o >>= run plan es) >>= run plan fs)
    go None h = refl
    go (Some n) h = h n

-- the diaries after some events and then others
pub diaries-append : (plan : Shape) (es fs : List Event) (m later : Moment) (ds : List (List DiaryEvent)) → run plan es m ≡ Some later → diaries_by plan (es ++ fs) m ds ≡ diaries_by plan fs later (diaries_by plan es m ds)
diaries-append plan [] fs m later ds is = ap (λ x. diaries_by plan fs x ds) (same_Some m later is)
diaries-append plan (e ∷ es) fs m later ds is = go (after plan m e) is (λ n. diaries-append plan es fs n later (diaries_after plan m e ds))
  where
    go : (o : Option Moment) → (o >>= run plan es) ≡ Some later
        → ((n : Moment) → run plan es n ≡ Some later → diaries_by plan (es ++ fs) n (diaries_after plan m e ds) ≡ diaries_by plan fs later (diaries_by plan es n (diaries_after plan m e ds)))
        → if_some o (λ x. diaries_by plan (es ++ fs) x (diaries_after plan m e ds)) ds ≡ diaries_by plan fs later (if_some o (λ x. diaries_by plan es x (diaries_after plan m e ds)) ds)
    go None h k = cc
    go (Some n) h k = k n h

pub replicate-last : {X : Type 0} (n : ℕ) (x : X) → replicate n x ++ x ∷ [] ≡ replicate (suc n) x
replicate-last zero x = refl
replicate-last (suc n) x = ap (λ l. x ∷ l) (replicate-last n x)

module _ (plan : Shape) (bundle : ℕ) where
  -- nothing done
  pub does-none : (nodes : List NodeState) (held : List Held) → Does plan bundle [] nodes held nodes held []
  does-none nodes held = λ rows m s. record { later = m; runs = refl; told = refl; stands = subst (λ (r : List Record). Stands plan bundle nodes held r m) (sym (append-nil rows)) s }

  pub does-then : (es fs : List Event) (a b c : List NodeState) (h i j : List Held) (x y : List Record) → Does plan bundle es a h b i x → Does plan bundle fs b i c j y → Does plan bundle (es ++ fs) a h c j (x ++ y)
  does-then es fs a b c h i j x y d e = λ rows m s.
      let r = d rows m s in
      let q = e (rows ++ x) r.later r.stands in
      record {
        later = q.later;
        runs = run-append plan es fs m ∙ ap (λ (o : Option Moment). o >>= run plan fs) r.runs ∙ q.runs;
        told = q.told ∙ ap (diaries_by plan fs r.later) r.told ∙ sym (diaries-append plan es fs m r.later (diaries_of a) r.runs);
        stands = subst (λ (l : List Record). Stands plan bundle c j l q.later) (append_assoc rows x y) q.stands;
      }

  pub can-after : (es : List Event) (a b : List NodeState) (h i : List Held) (x : List Record) → CanStand plan bundle a h → Does plan bundle es a h b i x → CanStand plan bundle b i
  can-after es a b h i x can d = let r = d can.rows can.moment can.stands in record { rows = can.rows ++ x; moment = r.later; stands = r.stands }

replicate-add : {X : Type 0} (n m : ℕ) (x : X) → replicate n x ++ replicate m x ≡ replicate (n + m) x
replicate-add zero m x = ap (λ k. replicate k x) (sym (zero-add m))
replicate-add (suc n) m x = ap (λ l. x ∷ l) (replicate-add n m x) ∙ ap (λ k. replicate k x) (step n m)
  where
    step : (n m : ℕ) → suc (n + m) ≡ suc n + m
    step n m = omega arith

pub delivers-none : (plan : Shape) (bundle : ℕ) (c : Closing) (nodes : List NodeState) (rows : List Record) → Delivers plan bundle c nodes rows nodes rows
delivers-none plan bundle c nodes rows = record { count = 0; does = does-none plan bundle nodes (close_of c rows false ∷ []); lowers = lowers-none c.node nodes; settings = refl }

pub delivers-then : (plan : Shape) (bundle : ℕ) (c : Closing) (old mid new : List NodeState) (x y z : List Record) → Delivers plan bundle c old x mid y → Delivers plan bundle c mid y new z → Delivers plan bundle c old x new z
delivers-then plan bundle c old mid new x y z d e = record {
  count = d.count + e.count;
  does = subst (λ (es : List Event). Does plan bundle es old (close_of c x false ∷ []) new (close_of c z false ∷ []) []) (replicate-add d.count e.count (Deliver c.node c.lane 0))
      (does-then plan bundle (deliveries c.node c.lane d.count) (deliveries c.node c.lane e.count) old mid new (close_of c x false ∷ []) (close_of c y false ∷ []) (close_of c z false ∷ []) [] [] d.does e.does);
  lowers = lowers-then c.node 0 0 old mid new d.lowers e.lowers;
  settings = e.settings ∙ d.settings;
}
