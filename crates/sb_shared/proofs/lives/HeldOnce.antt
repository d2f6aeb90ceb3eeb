-- Each bundle that was taken and each closing is held once, and the rule shows a moment.
use Rattle.std.proofs.Common.{◌≡◌, ℕ, ◌≤◌, Bool, true, false, cond, eqb, List, [], ◌∷◌, ◌++◌, sym, refl, ap, ◌∙◌, subst, arith, Option, Some, None}
use Rattle.std.specs.Prelude.{◌&&◌, ◌||◌, sum_by, count_by}
use Rattle.std.proofs.lemmas.Bool.{eqb-true, ltb-true, and_parts}
use Rattle.std.specs.List.{AllByRecursion, list_any}
use Rattle.std.proofs.lemmas.List.Sums.{sum_by-cons}
use Rattle.sb_shown.proofs.base.records.Sums.{any_by_count}
use Rattle.sb_shown.specs.base.pipeline.declared.transform.Down.{Down}
use Rattle.sb_shown.specs.base.pipeline.Shapes.{Shape}
use Rattle.sb_shown.specs.core.declared.held.Held.{Held}
use Rattle.sb_shown.specs.core.declared.held.Held.TheVariants.{Work, Close}
use Rattle.sb_shown.specs.core.containers.declared.container.Cont.{Cont}
use Rattle.sb_shown.specs.core.containers.declared.container.CoreLane.{CoreLane}
use Rattle.sb_shown.specs.core.declared.moment.Moment.{Moment}
use Rattle.sb_shown.specs.core.Holdings.{IsHeld}
use Rattle.sb_shown.specs.core.Moments.{is_close, is_close_of, is_work, lane_at}
use Rattle.sb_shown.specs.core.Soundness.{out_of, numbers_of}
use Rattle.sb_shown.specs.core.Exactness.{IsExact}
use Rattle.sb_shown.specs.tally.Tally.{IsTallied}
use Rattle.sb_turn.specs.Owed.{Learns}
use Rattle.sb_shared.specs.declared.telling.Hands.{Hands}
use Rattle.sb_shared.specs.declared.telling.Setting.{Setting}
use Rattle.sb_shared.specs.Found.{IsShown}
use Rattle.sb_shared.specs.Laws.{EachIsHeldOnce, shown_by}
use Rattle.sb_shared.specs.Passing.{is_feeder, pass_first}
use Rattle.sb_shared.specs.Shown.{ShowsMoment, diaries_in, moment_of}
use Rattle.sb_shared.specs.Views.{all_in_hand, records_of_feed, feed_of, held_by}
use Rattle.sb_shared.proofs.leavings.Acting.{IsGood, in_any_order}

-- the bundles that are out are among those that are there
fewer_out : (n : ℕ) (cs : List Cont) → sum_by (out_of n) cs ≤ sum_by (numbers_of n) cs
fewer_out n [] = omega arith
fewer_out n (c ∷ cs) = let k = fewer_out n cs in omega (arith, sum_by-cons (out_of n) c cs, sum_by-cons (numbers_of n) c cs)

-- a Work of a lane is held only where the lane is
of_no_lane : (plan : Shape) (m : Moment) (d : Down) (number : ℕ) → lane_at m d ≡ None → (h : Held) → IsHeld plan m h → is_work d.node d.lane number h ≡ false
of_no_lane plan m d number none (Close k l epoch serial floor mark rows passed) held = refl
of_no_lane plan m d number none (Work k l epoch floor number' records delivered) held = by_case (is_work d.node d.lane number (Work k l epoch floor number' records delivered)) refl
  where
    by_case : (b : Bool) → is_work d.node d.lane number (Work k l epoch floor number' records delivered) ≡ b → b ≡ false
    by_case false e = refl
    by_case true e =
        let both = and_parts (eqb k d.node) (eqb l d.lane && eqb number' number) e in
        let node : k ≡ d.node = eqb-true k d.node both.0 in
        let lane : l ≡ d.lane = eqb-true l d.lane (and_parts (eqb l d.lane) (eqb number' number) both.1).0 in
        let there : None ≡ Some held.lane = sym none ∙ (λ i. lane_at m (record { node = sym node i; lane = sym lane i })) ∙ held.there in absurd (cc there)

-- of a lane that is not there nothing is held
none_held : (plan : Shape) (m : Moment) (d : Down) (number : ℕ) → lane_at m d ≡ None → (hs : List Held) → AllByRecursion (IsHeld plan m) hs → count_by (is_work d.node d.lane number) hs ≡ 0
none_held plan m d number none [] all = refl
none_held plan m d number none (h ∷ hs) all =
    let not_this : cond {A = ℕ} (is_work d.node d.lane number h) 1 0 ≡ 0 = ap (λ b. cond {A = ℕ} b 1 0) (of_no_lane plan m d number none h all.0) in
    omega (arith, not_this, none_held plan m d number none hs all.1, sum_by-cons (λ h. cond (is_work d.node d.lane number h) 1 0) h hs)

-- what some element passes, more than none do
some_count : {X : Type 0} (p : X → Bool) (l : List X) → list_any p l ≡ true → 1 ≤ count_by p l
some_count p l e = ltb-true 0 (count_by p l) (sym (any_by_count p l) ∙ e)

-- a bundle that is out of a container is among those out of all
some_out : (n : ℕ) (cs : List Cont) → list_any (λ (c : Cont). list_any (λ x. eqb x n) c.out) cs ≡ true → 1 ≤ sum_by (out_of n) cs
some_out n [] e = absurd (cc e)
some_out n (c ∷ cs) e = by_case (list_any (λ x. eqb x n) c.out) refl e (some_out n cs)
  where
    by_case : (b : Bool) → list_any (λ x. eqb x n) c.out ≡ b → (b || list_any (λ (c : Cont). list_any (λ x. eqb x n) c.out) cs) ≡ true
        → (list_any (λ (c : Cont). list_any (λ x. eqb x n) c.out) cs ≡ true → 1 ≤ sum_by (out_of n) cs) → 1 ≤ sum_by (out_of n) (c ∷ cs)
    by_case true f e rest = omega (arith, some_count (λ x. eqb x n) c.out f, sum_by-cons (out_of n) c cs)
    by_case false f e rest = omega (arith, rest e, sum_by-cons (out_of n) c cs)

-- closings of one lane are closings of its node
fewer_closings : (k l : ℕ) (hs : List Held) → count_by (is_close_of k l) hs ≤ count_by (is_close k) hs
fewer_closings k l [] = omega arith
fewer_closings k l (h ∷ hs) = omega (arith, this h, fewer_closings k l hs, sum_by-cons (λ h. cond (is_close_of k l h) 1 0) h hs, sum_by-cons (λ h. cond (is_close k h) 1 0) h hs)
  where
    fewer : (a b : Bool) → cond {A = ℕ} (a && b) 1 0 ≤ cond {A = ℕ} a 1 0
    fewer true true = omega arith
    fewer true false = omega arith
    fewer false b = omega arith

    this : (h : Held) → cond {A = ℕ} (is_close_of k l h) 1 0 ≤ cond {A = ℕ} (is_close k h) 1 0
    this (Work node lane epoch floor number records delivered) = omega arith
    this (Close node lane epoch serial floor mark rows passed) = fewer (eqb node k) (eqb lane l)

-- what was taken and what has begun is held once
pub held_once : EachIsHeldOnce
held_once a shelf status states logs views r = (
  λ n l number. by_lane n l number (lane_at (shown_by r) (record { node = n; lane = l })) refl,
  λ n. r.sound.one_close n,
  λ place number t.
      let outs = r.sound.outs place t.0 t.1 number in
      let most = by_lane place.node place.lane number (Some t.0) t.1 in
      let some = some_out number t.0.conts t.2 in omega arith,
  λ place t.
      let some = some_count (is_close_of place.node place.lane) (all_in_hand views shelf) (r.sound.closing_held place t.0 t.1 t.2) in
      let fewer = fewer_closings place.node place.lane (all_in_hand views shelf) in
      let most = r.sound.one_close place.node in omega arith,
)
  where
    by_lane : (n l number : ℕ) (o : Option CoreLane) → lane_at (shown_by r) (record { node = n; lane = l }) ≡ o → count_by (is_work n l number) (all_in_hand views shelf) ≤ 1
    by_lane n l number None e = omega (arith, none_held a.plan (shown_by r) (record { node = n; lane = l }) number e (all_in_hand views shelf) r.sound.holds)
    by_lane n l number (Some lane) e =
        let outs = r.sound.outs (record { node = n; lane = l }) lane e number in
        let once = (r.sound.numbers (record { node = n; lane = l }) lane e).once number in
        let fewer = fewer_out number lane.conts in omega arith

-- what a pass may rely on between any two steps
pub shows : (a : Setting) (id : ℕ) (w : Hands) → Learns (ShowsMoment a) id w (IsShown a)
shows a id w shelf status states logs views r at =
    let o = pass_first views shelf id w at in
    let feeder = is_feeder views r.feeder w id r.first r.others at in
    let good : IsGood a r.parts (held_by w ++ o.0) r.rows (diaries_in states) (feed_of r.feeder.feed) =
    in_any_order a r.parts (all_in_hand views shelf) (held_by w ++ o.0) r.rows (diaries_in states) (feed_of r.feeder.feed) o.1 (record { sound = r.sound; exact = r.exact; tallied = r.tallied }) in
    record {
      moment = moment_of a.bundle r.parts (held_by w ++ o.0) r.rows;
      rest = o.0;
      diaries = diaries_in states;
      sound = good.sound;
      held = refl;
      exact = λ on. subst (λ (u : Hands). IsExact a.plan (moment_of a.bundle r.parts (held_by w ++ o.0) r.rows) (records_of_feed u.feed)) (feeder on) good.exact;
      tallied = λ on. subst (λ (u : Hands). IsTallied a.plan (moment_of a.bundle r.parts (held_by w ++ o.0) r.rows) (diaries_in states) (feed_of u.feed)) (feeder on) good.tallied;
    }
