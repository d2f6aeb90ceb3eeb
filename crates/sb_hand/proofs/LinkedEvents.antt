-- What the events of a hand do to links and searches.
use Rattle.std.proofs.Common.{◌≡◌, ℕ, ◌+◌, ◌≤◌, ◌<◌, true, List, [], ◌∷◌, length, drop, Some, None, sym, refl, ap, subst, ◌∙◌, arith, ⊎_elim}
use Rattle.std.specs.List.{slice_get}
use Rattle.std.specs.Option.{option_map}
use Rattle.std.proofs.lemmas.Bool.{cases_eq}
use Rattle.sb_shown.specs.base.pipeline.declared.transform.Down.{Down}
use Rattle.sb_shown.specs.base.pipeline.declared.transform.Step.{Step}
use Rattle.sb_shown.specs.base.pipeline.Shapes.{Shape}
use Rattle.sb_shown.specs.base.pipeline.Plans.{IsPlan}
use Rattle.sb_shown.specs.base.pipeline.Operators.{operator_at}
use Rattle.sb_shown.proofs.base.pipeline.Feeding.{apart}
use Rattle.sb_shown.specs.core.containers.declared.container.Cont.{Cont}
use Rattle.sb_shown.specs.core.Closings.{is_pardo}
use Rattle.sb_shown.specs.lane.LaneView.{LaneView, lane_of, link_at}
use Rattle.sb_shown.specs.lane.Links.{Link, link_in, links_of, with_place}
use Rattle.sb_shown.specs.lane.Links.{with_link as set_link}
use Rattle.sb_shown.specs.lane.Placed.{Placed, conts_of}
use Rattle.sb_shown.specs.node.declared.state.NodeState.{NodeState}
use Rattle.sb_shown.specs.node.LinkChanges.{DropsLink, GetsLink, LinksStay}
use Rattle.sb_shown.specs.Linking.{AreLinked, KeepsLinks, LeadsTo, place_in}
use Rattle.sb_shown.specs.Searching.{LooksFew, SearchesFew}
use Rattle.sb_shown.specs.Sets.{HasLane}
use Rattle.sb_shown.proofs.LinkLists.{AreRising, ended-in, ended-other, linked-here, linked-other, linked-place, placed-in, placed-other}
use Rattle.sb_hand.proofs.LinkedSets.{OneLane, Each, each-set, few-set}
use Rattle.sb_shown.proofs.Unsealed.{Oldest, unsealed_of, ended}

-- nothing is done
pub few-none : (nodes : List NodeState) → SearchesFew nodes nodes
few-none nodes k l is h = (is, h, omega arith)

pub few-then : (a b c : List NodeState) → SearchesFew a b → SearchesFew b c → SearchesFew a c
few-then a b c f g k l is h =
    let y = g k l is h in
    let x = f k l y.0 y.1 in
    (x.0, x.1, omega (arith, x.2, y.2))

pub keeps-none : (plan : Shape) (nodes : List NodeState) → AreLinked plan nodes → KeepsLinks plan nodes nodes
keeps-none plan nodes linked = record { linked = linked; searches = few-none nodes }

pub keeps-then : (plan : Shape) (a b c : List NodeState) → KeepsLinks plan a b → KeepsLinks plan b c → KeepsLinks plan a c
keeps-then plan a b c f g = record { linked = g.linked; searches = few-then a b c f.searches g.searches }

-- all epochs but some
abbrev LeadsBut : (ℕ → ℕ → Type 0) → ℕ → LaneView → LaneView → Type 0
LeadsBut but j own under =
    (epoch : ℕ) (link : Link) → link_at epoch own ≡ Some link → length under.marks ≤ epoch → (but j epoch → ⊥)
    → link.down ≡ place_in epoch (links_of under.containers)

abbrev Leads : ℕ → LaneView → LaneView → Type 0
Leads j own under = LeadsTo own under

no-place : (epoch : ℕ) (links : List Link) → link_in epoch links ≡ None → place_in epoch links ≡ None
no-place epoch links h = ap (option_map (λ (k : Link). k.place)) h

-- no transform of single records is above
abbrev pub NoneAbove : Shape → ℕ → ℕ → Type 0
NoneAbove plan k l = (j : ℕ) (st : Step) → slice_get plan.steps j ≡ Some st → is_pardo (operator_at (slice_get plan.steps j)) ≡ true → st.down ≡ record { node = k; lane = l } → ⊥

-- an epoch that has no container has none below either, if it is not sealed there
abbrev pub NoneUnder : Shape → List NodeState → ℕ → LaneView → Type 0
NoneUnder plan nodes k lane =
    (st : Step) (under : LaneView) → slice_get plan.steps k ≡ Some st → is_pardo (operator_at (slice_get plan.steps k)) ≡ true
    → HasLane k 0 lane nodes → HasLane st.down.node st.down.lane under nodes
    → (epoch : ℕ) → length under.marks ≤ epoch → link_in epoch (links_of lane.containers) ≡ None → link_in epoch (links_of under.containers) ≡ None

module _ (plan : Shape) (is_plan : IsPlan plan) (old new : List NodeState) (k l : ℕ) (lane now : LaneView) (o : OneLane old new k l lane now) (linked : AreLinked plan old) where
  -- links stay, and containers are as many
  pub stay : LinksStay lane now → now.marks ≡ lane.marks → unsealed_of (conts_of lane.containers) ≤ unsealed_of (conts_of now.containers) → KeepsLinks plan old new
  stay s marks more = record {
    linked = record {
      leads = each-set old new k l lane now o plan is_plan Leads Leads linked.leads
          (λ st under is pardo first has below leads. λ epoch link h m. leads epoch link (ap (link_in epoch) (sym s.links) ∙ h) m)
          (λ j st a is pardo to has leads. λ epoch link h m. leads epoch link h (subst (λ (ms : List ℕ). length ms ≤ epoch) marks m) ∙ ap (place_in epoch) (sym s.links))
          (λ j a b ne leads. leads);
    };
    searches = few-set old new k l lane now o (omega (arith, s.searches, ap length marks, more));
  }

  module _ (b e p : ℕ) (rising : AreRising b (links_of lane.containers)) (links : links_of now.containers ≡ with_place e p (links_of lane.containers)) (none : NoneUnder plan old k lane) where
    above : (st : Step) (under : LaneView) → slice_get plan.steps k ≡ Some st → is_pardo (operator_at (slice_get plan.steps k)) ≡ true → l ≡ 0 → HasLane k 0 lane old → HasLane st.down.node st.down.lane under old → LeadsTo lane under → LeadsTo now under
    above st under is pardo first has below leads = λ epoch link h m. ⊎_elim
        (λ there. leads epoch link there m)
        (λ made. made.1 ∙ sym (no-place epoch (links_of under.containers) (none st under is pardo has below epoch m made.0)))
        (placed-in b epoch e p (links_of lane.containers) link rising (ap (link_in epoch) (sym links) ∙ h))

    -- the next epoch is sealed
    pub seal : e ≡ length lane.marks → length now.marks ≡ length lane.marks + 1 → now.searches ≡ lane.searches → unsealed_of (conts_of lane.containers) ≤ unsealed_of (conts_of now.containers) + 1 → KeepsLinks plan old new
    seal next marks same less = record {
      linked = record {
        leads = each-set old new k l lane now o plan is_plan Leads Leads linked.leads above
            (λ j st a is pardo to has leads. λ epoch link h m.
            leads epoch link h (omega (arith, m, marks)) ∙ ap (option_map (λ (k : Link). k.place)) (sym (ap (link_in epoch) links ∙ placed-other epoch e p (links_of lane.containers) (λ q. absurd (omega (arith, m, marks, next, q))))))
            (λ j a b ne leads. leads);
      };
      searches = few-set old new k l lane now o (omega (arith, same, marks, less));
    }

    -- a bundle comes, and not from a transform of single records
    pub put : NoneAbove plan k l → length now.marks ≡ length lane.marks → LooksFew lane now → KeepsLinks plan old new
    put nobody marks few = record {
      linked = record {
        leads = each-set old new k l lane now o plan is_plan Leads Leads linked.leads above
            (λ j st a is pardo to has leads. absurd (nobody j st is pardo to))
            (λ j a b ne leads. leads);
      };
      searches = few-set old new k l lane now o few;
    }

    -- it comes from one: then all but the link of this epoch is as it was
    pub put-but : (y : ℕ) (st : Step) → slice_get plan.steps y ≡ Some st → st.down ≡ record { node = k; lane = l } → length now.marks ≡ length lane.marks → Each plan (LeadsBut (λ j epoch. (j ≡ y) × (epoch ≡ e))) new
    put-but y st at goes marks =
        each-set old new k l lane now o plan is_plan Leads (LeadsBut (λ j epoch. (j ≡ y) × (epoch ≡ e))) linked.leads
        (λ st under is pardo first has below leads. λ epoch link h m but. above st under is pardo first has below leads epoch link h m)
        (λ j sj a is pardo to has leads. λ epoch link h m but.
        leads epoch link h (omega (arith, m, marks)) ∙ ap (option_map (λ (k : Link). k.place)) (sym (ap (link_in epoch) links ∙ placed-other epoch e p (links_of lane.containers) (λ q. but (apart plan is_plan j y sj st is at (to ∙ sym goes), q)))))
        (λ j a b ne leads. λ epoch link h m but. leads epoch link h m)

  -- the oldest container ends
  pub end : (b : ℕ) → AreRising b (links_of lane.containers) → DropsLink lane now → now.marks ≡ lane.marks → conts_of now.containers ≡ drop 1 (conts_of lane.containers) → lane.ended < length lane.marks → Oldest (lane_of lane) → KeepsLinks plan old new
  end b rising s marks conts less oldest = record {
    linked = record {
      leads = each-set old new k l lane now o plan is_plan Leads Leads linked.leads
          (λ st under is pardo first has below leads. λ epoch link h m. leads epoch link (ended-in b epoch (links_of lane.containers) link rising (ap (link_in epoch) (sym s.links) ∙ h)) m)
          (λ j st a is pardo to has leads. λ epoch link h m.
          leads epoch link h (subst (λ (ms : List ℕ). length ms ≤ epoch) marks m) ∙ ap (option_map (λ (k : Link). k.place)) (sym (ap (link_in epoch) s.links ∙ gone epoch (subst (λ (ms : List ℕ). length ms ≤ epoch) marks m) lane.containers oldest.conts)))
          (λ j a b ne leads. leads);
    };
    searches = few-set old new k l lane now o (omega (arith, s.searches, ap length marks, ap unsealed_of conts, ended (lane_of lane) oldest));
  }
    where
      gone : (epoch : ℕ) → length lane.marks ≤ epoch → (xs : List Placed) → conts_of xs ≡ oldest.first ∷ oldest.rest → link_in epoch (drop 1 (links_of xs)) ≡ link_in epoch (links_of xs)
      gone epoch m [] e = refl
      gone epoch m (x ∷ xs) e =
          let is : x.cont ≡ oldest.first = cc in
          ended-other epoch (record { epoch = x.cont.epoch; place = x.place; down = x.down }) (links_of xs) (λ q. absurd (omega (arith, q, ap (λ (c : Cont). c.epoch) is, oldest.epoch_is, m, less)))

-- the link of an epoch is set to where its container stands below
module _ (plan : Shape) (is_plan : IsPlan plan) (mid new : List NodeState) (y e p : ℕ) (own now : LaneView) (o : OneLane mid new y 0 own now) (linked : Each plan (LeadsBut (λ j epoch. (j ≡ y) × (epoch ≡ e))) mid) where
  pub link : GetsLink e p own now → now.marks ≡ own.marks → conts_of now.containers ≡ conts_of own.containers
      → ((st : Step) (under : LaneView) → slice_get plan.steps y ≡ Some st → HasLane st.down.node st.down.lane under mid → place_in e (links_of under.containers) ≡ Some p) → KeepsLinks plan mid new
  link s marks conts stands = record {
    linked = record {
      leads = each-set mid new y 0 own now o plan is_plan (LeadsBut (λ j epoch. (j ≡ y) × (epoch ≡ e))) Leads linked
          (λ st under is pardo first has below leads. λ epoch link h m.
          ⊎_elim
          (λ q. linked-here e p (links_of own.containers) link (ap (λ z. link_in z (set_link e p (links_of own.containers))) (sym q) ∙ ap (link_in epoch) (sym s.links) ∙ h) ∙ sym (ap (λ z. place_in z (links_of under.containers)) q ∙ stands st under is below))
          (λ ne. leads epoch link (sym (linked-other epoch e p (links_of own.containers) ne) ∙ ap (link_in epoch) (sym s.links) ∙ h) m (λ both. ne both.1))
          (cases_eq epoch e))
          (λ j st a is pardo to has leads. λ epoch link h m.
          leads epoch link h (subst (λ (ms : List ℕ). length ms ≤ epoch) marks m) (λ both. absurd (omega (arith, both.0, is_plan.further j st is, ap (λ (d : Down). d.node) to)))
          ∙ sym (ap (place_in epoch) s.links ∙ linked-place epoch e p (links_of own.containers)))
          (λ j a b ne leads. λ epoch link h m. leads epoch link h m (λ both. ne (both.0, refl)));
    };
    searches = few-set mid new y 0 own now o (omega (arith, s.searches, ap length marks, ap unsealed_of conts));
  }
