-- Each call on a lane keeps the nodes linked, and looks for few containers.
use Rattle.std.proofs.Common.{◌≡◌, ℕ, ◌+◌, ◌-◌, ◌≤◌, ◌<◌, ◌^◌, List, [], ◌∷◌, length, drop, min, Some, None, sym, refl, ap, subst, ◌∙◌, arith, length-append}
use Rattle.std.specs.List.{slice_get}
use Rattle.std.specs.Option.{option_map}
use Rattle.std.proofs.lemmas.Option.{same_Some}
use Rattle.sb_shown.specs.base.bundle.declared.bundle.Bundle.{Bundle}
use Rattle.sb_shown.specs.diary.declared.event.DiaryEvent.{DiaryEvent}
use Rattle.sb_shown.specs.base.records.declared.item.Record.{Record}
use Rattle.sb_shown.specs.base.pipeline.declared.transform.Step.{Step}
use Rattle.sb_shown.specs.base.pipeline.declared.transform.Down.{Down}
use Rattle.sb_shown.specs.base.pipeline.Shapes.{Shape}
use Rattle.sb_shown.specs.base.pipeline.Plans.{IsPlan}
use Rattle.sb_shown.specs.core.containers.declared.container.Cont.{Cont}
use Rattle.sb_shown.specs.core.containers.declared.container.CoreLane.{CoreLane}
use Rattle.sb_shown.specs.core.declared.moment.Moment.{Moment}
use Rattle.sb_shown.specs.core.declared.held.Held.{Held}
use Rattle.sb_shown.specs.core.Bounds.{bound_at}
use Rattle.sb_shown.specs.core.containers.Lanes.{next_epoch, next_floor, with_arrival, with_bundle, with_seal}
use Rattle.sb_shown.proofs.core.exact.Nodes.{slice_get-set_other}
use Rattle.sb_shown.specs.lane.LaneView.{LaneView, lane_of}
use Rattle.sb_shown.specs.lane.Links.{Link, link_in, links_of}
use Rattle.sb_shown.specs.lane.Placed.{conts_of}
use Rattle.sb_shown.specs.lane.Taking.{finish_first}
use Rattle.sb_shown.specs.work.declared.outputs.Part.{Part}
use Rattle.sb_shown.specs.node.declared.closing.Closing.{Closing}
use Rattle.sb_shown.specs.node.declared.state.NodeState.{NodeState}
use Rattle.sb_shown.specs.node.LinkChanges.{DropsLink, FindsPlace, GetsLink, GetsPlace, LinksStay}
use Rattle.sb_hand.specs.LaneGoing.{LaneGoes}
use Rattle.sb_shown.specs.Linking.{AreLinked, KeepsLinks, place_in}
use Rattle.sb_shown.specs.Searching.{LooksFew}
use Rattle.sb_shown.specs.Sets.{Absorbs, BeginsAt, HasLane, StaysAt, Takes, Turns}
use Rattle.sb_shown.specs.Showing.{Stands}
use Rattle.sb_shown.proofs.LinkLists.{AreRising, rising}
use Rattle.sb_hand.proofs.LinkedEvents.{NoneAbove, NoneUnder, end, few-then, link, put, put-but, seal, stay}
use Rattle.sb_hand.proofs.LinkedSets.{OneLane, few-set, has-now, has-was, of-lane, of-node, of-stays, one-lane}
use Rattle.sb_shown.proofs.OpenBelow.{lane-ok, none-under}
use Rattle.sb_shown.proofs.Unsealed as unsealed
use Rattle.sb_shown.proofs.Unsealed.{unsealed_of}

as-many : (a b : ℕ) → b ≡ a → a ≤ b
as-many a b e = omega (arith, e)

least : (n m : ℕ) → min n m ≤ n
least n m = omega arith

module _ (plan : Shape) (is_plan : IsPlan plan) (old new : List NodeState) (k l : ℕ) (lane : LaneView) (linked : AreLinked plan old) where
  module _ (later : CoreLane) (line : DiaryEvent) (t : Turns k l old new lane later line) where
    abbrev one : OneLane old new k l lane t.now
    one = of-lane k l lane t.now line old new t.sets

    pub it-goes : (so : LaneView → LaneView → Type 0) → LaneGoes k l so old new → so lane t.now
    it-goes so g = g lane t.now (has-was old new k l lane t.now one) (has-now old new k l lane t.now one)

    turns-stay : LaneGoes k l LinksStay old new → later.marks ≡ lane.marks → unsealed_of (conts_of lane.containers) ≤ unsealed_of later.conts → KeepsLinks plan old new
    turns-stay g marks more =
        stay plan is_plan old new k l lane t.now one linked (it-goes LinksStay g) (ap (λ (x : CoreLane). x.marks) t.is ∙ marks)
        (subst (λ (x : CoreLane). unsealed_of (conts_of lane.containers) ≤ unsealed_of x.conts) (sym t.is) more)

  pub take-keeps : (b : Bundle) → Takes k l old new lane b → LaneGoes k l LinksStay old new → KeepsLinks plan old new
  take-keeps b t g =
      let one = of-lane k l lane t.now _ old new t.sets in
      stay plan is_plan old new k l lane t.now one linked (g lane t.now (has-was old new k l lane t.now one) (has-now old new k l lane t.now one)) (ap (λ (x : CoreLane). x.marks) t.is)
      (as-many _ _ (unsealed.taken (conts_of lane.containers) (b, conts_of t.now.containers) t.took))

  pub finish-keeps : (epoch number : ℕ) (line : DiaryEvent) → Turns k l old new lane (record (lane_of lane) { conts = finish_first epoch number (conts_of lane.containers) }) line → LaneGoes k l LinksStay old new → KeepsLinks plan old new
  finish-keeps epoch number line t g = turns-stay (record (lane_of lane) { conts = finish_first epoch number (conts_of lane.containers) }) line t g refl (as-many _ _ (unsealed.finished epoch number (conts_of lane.containers)))

  pub absorb-keeps : (epoch number : ℕ) (part : Part) → Absorbs k l old new lane epoch number part → LaneGoes k l LinksStay old new → KeepsLinks plan old new
  absorb-keeps epoch number part a g =
      let one = of-node k l lane a.now 0 a.was a.is _ old new a.sets in
      stay plan is_plan old new k l lane a.now one linked (g lane a.now (has-was old new k l lane a.now one) (has-now old new k l lane a.now one)) (ap (λ (x : CoreLane). x.marks) a.lane_is)
      (as-many _ _ (ap (λ (x : CoreLane). unsealed_of x.conts) a.lane_is ∙ unsealed.finished epoch number (conts_of lane.containers)))

  -- a bundle comes
  module _ (epoch floor : ℕ) (records : List Record) (line : DiaryEvent) (t : Turns k l old new lane (with_arrival epoch floor records (lane_of lane)) line) where
    abbrev came : Bundle
    came = record { number = lane.arrived + 1; epoch = epoch; floor = floor; records = records }

    marks-stay : length t.now.marks ≡ length lane.marks
    marks-stay = ap (λ (x : CoreLane). length x.marks) t.is

    conts-are : unsealed_of (conts_of t.now.containers) ≡ unsealed_of (with_arrival epoch floor records (lane_of lane)).conts
    conts-are = ap (λ (x : CoreLane). unsealed_of x.conts) t.is

    -- to a place that is known
    pub put-keeps : LaneGoes k l LinksStay old new → KeepsLinks plan old new
    put-keeps g = turns-stay (with_arrival epoch floor records (lane_of lane)) line t g refl (unsealed.as_many epoch floor (with_bundle came) (λ c. refl) (conts_of lane.containers))

    -- to a container that is made
    looks-few : (place : ℕ) → FindsPlace epoch place lane t.now → link_in epoch (links_of lane.containers) ≡ None → LooksFew lane t.now
    looks-few place f none =
        omega (arith, f.searches, least (lane.searches + 1) (2 ^ 64 - 1), marks-stay, conts-are, unsealed.one_more epoch floor (with_bundle came) lane.containers none)

    module _ (size : ℕ) (held : List Held) (rows : List Record) (m : Moment) (s : Stands plan size old held rows m) where
      abbrev order : AreRising lane.ended (links_of lane.containers)
      order = rising (bound_at plan k) lane (lane-ok plan is_plan size old held rows m s k l lane (has-was old new k l lane t.now (one (with_arrival epoch floor records (lane_of lane)) line t)))

      abbrev none-there : NoneUnder plan old k lane
      none-there = λ st under is pardo has below epoch from none. none-under plan is_plan size old held rows m s k st is under below epoch from pardo lane has none

      -- by a closing
      pub first-keeps : (place : ℕ) → LaneGoes k l (FindsPlace epoch place) old new → link_in epoch (links_of lane.containers) ≡ None → NoneAbove plan k l → KeepsLinks plan old new
      first-keeps place g none nobody =
          let f = it-goes (with_arrival epoch floor records (lane_of lane)) line t (FindsPlace epoch place) g in
          put plan is_plan old new k l lane t.now (one (with_arrival epoch floor records (lane_of lane)) line t) linked lane.ended epoch f.made order f.links none-there nobody marks-stay (looks-few place f none)

      -- from outside
      pub arrive-keeps : LaneGoes k l (GetsPlace epoch) old new → NoneAbove plan k l → KeepsLinks plan old new
      arrive-keeps g nobody =
          let f = it-goes (with_arrival epoch floor records (lane_of lane)) line t (GetsPlace epoch) g in
          put plan is_plan old new k l lane t.now (one (with_arrival epoch floor records (lane_of lane)) line t) linked lane.ended epoch f.place order f.links none-there nobody marks-stay
          (omega (arith, f.searches, marks-stay, conts-are, unsealed.as_many epoch floor (with_bundle came) (λ c. refl) (conts_of lane.containers)))

      -- by a transform of single records, which is linked then
      module _ (place y : ℕ) (st : Step) (is : slice_get plan.steps y ≡ Some st) (goes : st.down ≡ record { node = k; lane = l }) (g : LaneGoes k l (FindsPlace epoch place) old new) (none : link_in epoch (links_of lane.containers) ≡ None) where
        found : FindsPlace epoch place lane t.now
        found = it-goes (with_arrival epoch floor records (lane_of lane)) line t (FindsPlace epoch place) g

        -- the node above is as it was
        pub above-stays : (own : LaneView) → HasLane y 0 own old → HasLane y 0 own new
        above-stays own has = record {
          own = has.own;
          there = ap (λ (n : List NodeState). slice_get n y) t.sets.set ∙ slice_get-set_other old k y t.sets.with (λ e. absurd (omega (arith, e, is_plan.further y st is, ap (λ (d : Down). d.node) goes))) ∙ has.there;
          in_it = has.in_it;
        }

        stands : (sj : Step) (under : LaneView) → slice_get plan.steps y ≡ Some sj → HasLane sj.down.node sj.down.lane under new → place_in epoch (links_of under.containers) ≡ Some place
        stands sj under at has =
            let same : sj ≡ st = same_Some sj st (sym at ∙ is) in
            let here : HasLane k l under new = subst (λ (d : Down). HasLane d.node d.lane under new) (ap (λ (s : Step). s.down) same ∙ goes) has in
            let e : t.now ≡ under = one-lane k l t.now under new (has-now old new k l lane t.now (one (with_arrival epoch floor records (lane_of lane)) line t)) here in
            ap (λ (x : LaneView). place_in epoch (links_of x.containers)) (sym e) ∙ ap (option_map (λ (j : Link). j.place)) found.stands.there ∙ ap (λ p. Some p) found.stands.place_is

        pub give-keeps : (own : LaneView) (last : List NodeState) → (stays : StaysAt y 0 new last own) → LaneGoes y 0 (GetsLink epoch place) new last → KeepsLinks plan old last
        give-keeps own last stays h =
            let o = of-stays y 0 new last own stays in
            let each = put-but plan is_plan old new k l lane t.now (one (with_arrival epoch floor records (lane_of lane)) line t) linked lane.ended epoch found.made order found.links none-there y st is goes marks-stay in
            let linked_now = link plan is_plan new last y epoch place own stays.now o each (h own stays.now (has-was new last y 0 own stays.now o) (has-now new last y 0 own stays.now o)) (ap (λ (x : CoreLane). x.marks) stays.lane_is) (ap (λ (x : CoreLane). x.conts) stays.lane_is) stands in
            record {
              linked = linked_now.linked;
              searches = few-then old new last (few-set old new k l lane t.now (one (with_arrival epoch floor records (lane_of lane)) line t) (looks-few place found none)) linked_now.searches;
            }

  -- an epoch is sealed, the oldest container ends
  module _ (size : ℕ) (held : List Held) (rows : List Record) (m : Moment) (s : Stands plan size old held rows m) where
    pub seal-keeps : (mark : ℕ) (line : DiaryEvent) → Turns k l old new lane (with_seal mark (lane_of lane)) line → LaneGoes k l (λ was. GetsPlace (length was.marks) was) old new → KeepsLinks plan old new
    seal-keeps mark line t g =
        let f = it-goes (with_seal mark (lane_of lane)) line t (λ was. GetsPlace (length was.marks) was) g in
        let o = of-lane k l lane t.now line old new t.sets in
        let ok = lane-ok plan is_plan size old held rows m s k l lane (has-was old new k l lane t.now o) in
        seal plan is_plan old new k l lane t.now o linked lane.ended (length lane.marks) f.place (rising (bound_at plan k) lane ok) f.links
        (λ st under is pardo has below epoch from none. none-under plan is_plan size old held rows m s k st is under below epoch from pardo lane has none)
        refl (ap (λ (x : CoreLane). length x.marks) t.is ∙ length-append lane.marks (mark ∷ [])) f.searches
        (subst (λ (x : CoreLane). unsealed_of (conts_of lane.containers) ≤ unsealed_of x.conts + 1) (sym t.is) (unsealed.one_less (next_epoch (lane_of lane)) (next_floor (lane_of lane)) (λ (c : Cont). record c { mark = Some mark }) (conts_of lane.containers)))

    pub end-keeps : (line : DiaryEvent) → Turns k l old new lane (record (lane_of lane) { conts = drop 1 (conts_of lane.containers); ended = lane.ended + 1 }) line → LaneGoes k l DropsLink old new → lane.ended < length lane.marks → KeepsLinks plan old new
    end-keeps line t g less =
        let o = of-lane k l lane t.now line old new t.sets in
        let ok = lane-ok plan is_plan size old held rows m s k l lane (has-was old new k l lane t.now o) in
        end plan is_plan old new k l lane t.now o linked lane.ended (rising (bound_at plan k) lane ok) (it-goes (record (lane_of lane) { conts = drop 1 (conts_of lane.containers); ended = lane.ended + 1 }) line t DropsLink g)
        (ap (λ (x : CoreLane). x.marks) t.is) (ap (λ (x : CoreLane). x.conts) t.is) less (unsealed.oldest (bound_at plan k) (lane_of lane) ok less)

-- a closing begins
pub begin-keeps : (plan : Shape) (is_plan : IsPlan plan) (c : Closing) (old new : List NodeState) (lane : LaneView) → AreLinked plan old → BeginsAt c old new lane → LaneGoes c.node c.lane LinksStay old new → KeepsLinks plan old new
begin-keeps plan is_plan c old new lane linked b g =
    let one = of-node c.node c.lane lane b.now 1 b.was b.is _ old new b.sets in
    stay plan is_plan old new c.node c.lane lane b.now one linked (g lane b.now (has-was old new c.node c.lane lane b.now one) (has-now old new c.node c.lane lane b.now one)) (ap (λ (x : CoreLane). x.marks) b.lane_is)
    (as-many _ _ (ap (λ (x : CoreLane). unsealed_of x.conts) b.lane_is ∙ unsealed.begun (conts_of lane.containers)))
