-- What each change of a lane's links does to the lane, in the words of MovedLanes.
use Rattle.std.proofs.Common.{◌≡◌, ℕ, ◌≤◌, ◌<◌, Bool, true, false, cond, List, [], ◌∷◌, length, drop, Some, None, Option, sym, refl, ap, subst, ◌∙◌, arith, inl, inr, ⊎_elim}
use Rattle.std.specs.Prelude.{◌≢◌, is_some}
use Rattle.std.specs.Option.{option_map}
use Rattle.std.proofs.lemmas.Bool.{cases_eq}
use Rattle.sb_shown.specs.core.containers.declared.container.Cont.{Cont}
use Rattle.sb_shown.specs.lane.LaneView.{LaneView, lane_of}
use Rattle.sb_shown.specs.lane.Links.{Link, down_of, link_in, with_link, links_of, with_place}
use Rattle.sb_shown.specs.lane.Placed.{Placed, conts_of}
use Rattle.sb_shown.specs.Linking.{place_in}
use Rattle.sb_shown.proofs.LinkLists.{AreRising, down-in, ended-in, ended-other, linked-here, linked-other, linked-place, placed-in, placed-other, placed-there}
use Rattle.sb_shown.proofs.Unsealed.{Oldest}
use Rattle.sb_shared.specs.declared.telling.Hands.{Hands}
use Rattle.sb_shared.specs.declared.telling.Setting.{Setting}
use Rattle.sb_shared.specs.Linked.{IsDelivered, is_pardo_at}
use Rattle.sb_shared.specs.SharedNodes.{SharedView, with_link_once}
use Rattle.sb_shared.proofs.links.MovedLanes.{IsGivenInto, IsSameLink, Moved, NoneUnder, StandsUnder}

-- what has a place has a link
pub link-placed : (e place : ℕ) (ks : List Link) → place_in e ks ≡ Some place → (x : Link) × (link_in e ks ≡ Some x)
link-placed e place ks h = by_link (link_in e ks) refl h
  where
    by_link : (o : Option Link) → link_in e ks ≡ o → option_map (λ (k : Link). k.place) o ≡ Some place → (x : Link) × (link_in e ks ≡ Some x)
    by_link None is h = cc
    by_link (Some x) is h = (x, is)

-- the oldest container, of a lower epoch, is gone
first-gone : (e : ℕ) (first : Cont) (rest : List Cont) (xs : List Placed) → first.epoch < e → conts_of xs ≡ first ∷ rest → link_in e (drop 1 (links_of xs)) ≡ link_in e (links_of xs)
first-gone e first rest [] less is = refl
first-gone e first rest (x ∷ xs) less is =
    let same : x.cont ≡ first = cc in
    ended-other e (record { epoch = x.cont.epoch; place = x.place; down = x.down }) (links_of xs) (λ q. absurd (omega (arith, q, ap (λ (c : Cont). c.epoch) same, less)))

module _ (a : Setting) (old : List SharedView) (before later : List Hands) (k j i : ℕ) (was is : LaneView) where
  -- a delivered bundle of the epoch stays in hand
  abbrev pub KeepsDelivered : ℕ → Type 0
  KeepsDelivered e = is_pardo_at a j ≡ true → i ≡ 0 → IsDelivered j e before → IsDelivered j e later

  -- the lane became this one
  abbrev pub IsMoved : Type 0
  IsMoved = Moved a old before later k j i was is

  -- a link of it that is linked to the same as before
  abbrev pub SameLink : ℕ → Link → Type 0
  SameLink e link = IsSameLink a old before later j e link (links_of was.containers)

  -- the links stay
  pub stay-moved : links_of is.containers ≡ links_of was.containers → length is.marks ≡ length was.marks → ((e : ℕ) → KeepsDelivered e) → IsMoved
  stay-moved same marks keeps = record {
    marks = omega (arith, marks);
    stays = λ e place m at. ap (place_in e) same ∙ at;
    none = λ e m at. inl (ap (place_in e) same ∙ at);
    links = λ e link pardo first at. inl (record { before_is = link; there = sym (ap (link_in e) same) ∙ at; down = refl; keeps = λ none. keeps e pardo first });
  }

  -- an epoch has a place, that it got now or had before
  module _ (b p place : ℕ) (rising : AreRising b (links_of was.containers)) (links : links_of is.containers ≡ with_place p place (links_of was.containers)) where
    -- a place that an epoch had, it has
    place-stays : (e q : ℕ) → place_in e (links_of was.containers) ≡ Some q → place_in e (links_of is.containers) ≡ Some q
    place-stays e q at = ⊎_elim same (λ ne. ap (place_in e) links ∙ ap (option_map (λ (k : Link). k.place)) (placed-other e p place (links_of was.containers) ne) ∙ at) (cases_eq e p)
      where
        same : e ≡ p → place_in e (links_of is.containers) ≡ Some q
        same f =
            let x = link-placed e q (links_of was.containers) at in
            ap (place_in e) (links ∙ placed-there b p place (links_of was.containers) x.0 rising (ap (λ z. link_in z (links_of was.containers)) (sym f) ∙ x.1)) ∙ at

    -- the lane with one container more, or none
    pub placed-moved : j ≡ k → length was.marks ≤ length is.marks → (length is.marks ≤ p → IsGivenInto a old before later j i p) → ((e : ℕ) → KeepsDelivered e)
        → ((e : ℕ) → is_pardo_at a j ≡ true → i ≡ 0 → link_in e (links_of was.containers) ≡ None → NoneUnder a old before later j e) → IsMoved
    placed-moved here marks given keeps none = record {
      marks = marks;
      stays = λ e q m at. place-stays e q at;
      none = λ e m at. ⊎_elim
          (λ f. inr (here, subst (IsGivenInto a old before later j i) (sym f) (given (subst (λ z. length is.marks ≤ z) f m))))
          (λ ne. inl (ap (place_in e) links ∙ ap (option_map (λ (k : Link). k.place)) (placed-other e p place (links_of was.containers) ne) ∙ at))
          (cases_eq e p);
      links = λ e link pardo first at. ⊎_elim
          (λ there. inl (record { before_is = link; there = there; down = refl; keeps = λ n. keeps e pardo first }))
          (λ made. inr (inr (record { here = here; down = made.1; none = none e pardo first made.0 })))
          (placed-in b e p place (links_of was.containers) link rising (ap (link_in e) (sym links) ∙ at));
    }

  -- a bundle of an epoch is finished, and its container is linked
  module _ (p : ℕ) (marks : length is.marks ≡ length was.marks) where
    -- it is linked already
    known-moved : links_of is.containers ≡ links_of was.containers → is_some (down_of p (links_of was.containers)) ≡ true → ((e : ℕ) → e ≢ p → KeepsDelivered e) → IsMoved
    known-moved same known keeps = record {
      marks = omega (arith, marks);
      stays = λ e place m at. ap (place_in e) same ∙ at;
      none = λ e m at. inl (ap (place_in e) same ∙ at);
      links = λ e link pardo first at.
          let there : link_in e (links_of was.containers) ≡ Some link = sym (ap (link_in e) same) ∙ at in
          inl (record {
            before_is = link;
            there = there;
            down = refl;
            keeps = λ none. ⊎_elim
                (λ f.
                let linked_to : down_of p (links_of was.containers) ≡ None = down-in p (links_of was.containers) link (ap (λ z. link_in z (links_of was.containers)) (sym f) ∙ there) ∙ none in
                let wrong : false ≡ true = sym (ap is_some linked_to) ∙ known in cc)
                (λ ne. keeps e ne pardo first)
                (cases_eq e p);
          });
    }

    -- it is linked now
    linked-moved : (place : ℕ) → links_of is.containers ≡ with_link p place (links_of was.containers) → (is_pardo_at a j ≡ true → StandsUnder a old before later j p place)
        → ((e : ℕ) → e ≢ p → KeepsDelivered e) → IsMoved
    linked-moved place links stands keeps = record {
      marks = omega (arith, marks);
      stays = λ e q m at. ap (place_in e) links ∙ linked-place e p place (links_of was.containers) ∙ at;
      none = λ e m at. inl (ap (place_in e) links ∙ linked-place e p place (links_of was.containers) ∙ at);
      links = λ e link pardo first at. ⊎_elim
          (λ f. inr (inl (record {
            place = place;
            down = linked-here p place (links_of was.containers) link (ap (λ z. link_in z (with_link p place (links_of was.containers))) (sym f) ∙ ap (link_in e) (sym links) ∙ at);
            stands = subst (λ z. StandsUnder a old before later j z place) (sym f) (stands pardo);
          })))
          (λ ne. inl (record {
            before_is = link;
            there = sym (linked-other e p place (links_of was.containers) ne) ∙ ap (link_in e) (sym links) ∙ at;
            down = refl;
            keeps = λ none. keeps e ne pardo first;
          }))
          (cases_eq e p);
    }

    -- it is linked to what is left to it, if it was linked to none
    pub finish-moved : (left : Option ℕ) → links_of is.containers ≡ with_link_once left p (links_of was.containers) → ((place : ℕ) → left ≡ Some place → is_pardo_at a j ≡ true → StandsUnder a old before later j p place)
        → ((e : ℕ) → e ≢ p → KeepsDelivered e) → (left ≡ None → (e : ℕ) → KeepsDelivered e) → IsMoved
    finish-moved None links stands other keeps = stay-moved links marks (keeps refl)
    finish-moved (Some place) links stands other keeps = by_known (is_some (down_of p (links_of was.containers))) refl links
      where
        by_known : (known : Bool) → is_some (down_of p (links_of was.containers)) ≡ known → links_of is.containers ≡ cond known (links_of was.containers) (with_link p place (links_of was.containers)) → IsMoved
        by_known true f links = known-moved links f other
        by_known false f links = linked-moved place links (stands place refl) other

  -- the oldest container is gone
  pub end-moved : (b : ℕ) → AreRising b (links_of was.containers) → links_of is.containers ≡ drop 1 (links_of was.containers) → length is.marks ≡ length was.marks → (first : Oldest (lane_of was)) → first.first.epoch < length was.marks
      → ((e : ℕ) → KeepsDelivered e) → IsMoved
  end-moved b rising links marks first less keeps = record {
    marks = omega (arith, marks);
    stays = λ e place m at. ap (place_in e) links ∙ ap (option_map (λ (k : Link). k.place)) (first-gone e first.first first.rest was.containers (omega (arith, less, m, marks)) first.conts) ∙ at;
    none = λ e m at. inl (ap (place_in e) links ∙ ap (option_map (λ (k : Link). k.place)) (first-gone e first.first first.rest was.containers (omega (arith, less, m, marks)) first.conts) ∙ at);
    links = λ e link pardo zero at. inl (record {
      before_is = link;
      there = ended-in b e (links_of was.containers) link rising (ap (link_in e) (sym links) ∙ at);
      down = refl;
      keeps = λ none. keeps e pardo zero;
    });
  }
