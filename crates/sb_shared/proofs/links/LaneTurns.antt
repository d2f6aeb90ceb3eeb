-- One lane of a node changes, by an event that concerns nothing in hand or what is in hand.
use Rattle.std.proofs.Common.{◌≡◌, ℕ, true, List, [], ◌∷◌, ◌++◌, map, Some, sym, refl, ap, ◌∙◌, subst, append-nil, inl}
use Rattle.std.specs.List.{slice_get, slice_set}
use Rattle.std.proofs.lemmas.List.{map-set}
use Rattle.std.proofs.lemmas.Option.{get_or_from_slice_get}
use Rattle.sb_shown.specs.base.bundle.declared.bundle.Bundle.{Bundle}
use Rattle.sb_shown.specs.core.containers.declared.container.CoreLane.{CoreLane}
use Rattle.sb_shown.specs.core.declared.moment.Moment.{Moment}
use Rattle.sb_shown.specs.core.declared.held.Held.{Held}
use Rattle.sb_shown.specs.core.declared.event.Event.{Event}
use Rattle.sb_shown.specs.core.Laws.{concerns, place_of}
use Rattle.sb_shown.specs.core.containers.Marks.{least_begun_mark}
use Rattle.sb_shown.specs.core.Moments.{empty_lane, set_lane, with_held}
use Rattle.sb_shown.specs.core.Parts.{Part, only_node, part_after, held_after, with_part_first}
use Rattle.sb_shown.specs.core.Soundness.{IsSound}
use Rattle.sb_shown.proofs.core.exact.Nodes.{slice_get-set_same}
use Rattle.sb_shown.proofs.core.parts.PartsLaw.{parts-keep_sound, held-parts_keep_sound}
use Rattle.sb_shown.specs.diary.Diaries.{with_spare}
use Rattle.sb_shown.specs.diary.declared.event.DiaryEvent.{DiaryEvent}
use Rattle.sb_shown.specs.diary.declared.event.DiaryEvent.TheVariants as line
use Rattle.sb_shown.specs.tally.Written.{the_lane, line_after, held_line}
use Rattle.sb_shown.specs.lane.LaneView.{LaneView, lane_of}
use Rattle.sb_shown.specs.lane.Placed.{conts_of}
use Rattle.sb_shown.specs.node.Changes.{SetsLane, KeepsRest, Takes, Turns}
use Rattle.sb_shown.proofs.Calm.{SameMarks, calm}
use Rattle.sb_shown.proofs.LaneEvents.{kept-stays}
use Rattle.sb_shown.proofs.SettingsStay.{set_same}
use Rattle.sb_shown.proofs.Single.{get-map}
use Rattle.sb_shared.specs.declared.telling.Change.{Change}
use Rattle.sb_shared.specs.declared.telling.Hands.{Hands}
use Rattle.sb_shared.specs.declared.telling.Setting.{Setting}
use Rattle.sb_shared.specs.Doings.{Doing, Fresh, Of, doing_of, drained_rows, lines_by}
use Rattle.sb_shared.specs.Found.{IsFound}
use Rattle.sb_shared.specs.Leavings.{DoesPart, May}
use Rattle.sb_shared.specs.SharedNodes.{ChangesOwn, SharedView}
use Rattle.sb_shared.specs.Shown.{ShowsPart, operator_of, settings_in}
use Rattle.sb_shared.specs.Views.{after, held_by}
use Rattle.sb_shared.proofs.leavings.Acts.{Acts}

-- lane l becomes this lane of the core, with this line; all else but room is as it was
pub record LaneTurns (l : ℕ) (lane : LaneView) (later : CoreLane) (told : DiaryEvent) (x y : SharedView) : Type 0 where
  pub in_it : slice_get x.own.lanes.items l ≡ Some lane
  pub lanes : map lane_of y.own.lanes.items ≡ slice_set (map lane_of x.own.lanes.items) l later
  pub lines : y.own.diary.events ≡ x.own.diary.events ++ told ∷ []
  pub kept : y.own.kept ≡ x.own.kept
  pub closings : y.own.closings ≡ x.own.closings
  pub settings : settings_in y ≡ settings_in x
  pub tray : y.tray ≡ x.tray
  pub spent : y.spent ≡ x.spent

module _ (l : ℕ) (lane : LaneView) (told : DiaryEvent) (x y : SharedView) where
  -- so does a lane that is set, with all else as it was
  of_set : (room : ℕ) (now : LaneView) (later : CoreLane) → SetsLane l lane now told (record x.own { diary = with_spare room x.own.diary }) y.own → KeepsRest (record x.own { diary = with_spare room x.own.diary }) y.own
      → lane_of now ≡ later → y.tray ≡ x.tray → y.spent ≡ x.spent → LaneTurns l lane later told x y
  of_set room now later sets rest is tray spent = record {
    in_it = sets.in_it;
    lanes = ap (map lane_of) sets.lanes ∙ map-set lane_of x.own.lanes.items l now ∙ ap (slice_set (map lane_of x.own.lanes.items) l) is;
    lines = ap (λ d. d.events) sets.diary;
    kept = rest.kept;
    closings = rest.closings;
    settings = λ i. record { keeps = (sets.diary i).keeps; limits = limits i };
    tray = tray;
    spent = spent;
  }
    where
      limits : map (λ (z : LaneView). z.pending) y.own.lanes.items ≡ map (λ (z : LaneView). z.pending) x.own.lanes.items
      limits =
          ap (map (λ (z : LaneView). z.pending)) sets.lanes ∙ map-set (λ (z : LaneView). z.pending) x.own.lanes.items l now
          ∙ ap (slice_set (map (λ (z : LaneView). z.pending) x.own.lanes.items) l) sets.limit
          ∙ set_same (map (λ (z : LaneView). z.pending) x.own.lanes.items) l lane.pending (get-map (λ (z : LaneView). z.pending) x.own.lanes.items l lane sets.in_it)

  -- a lane turns
  pub of-turns : (later : CoreLane) (links : LaneView → LaneView → Type 0) → ChangesOwn (Turns l lane later links told) x y → LaneTurns l lane later told x y
  of-turns later links t = of_set t.room t.own.now later t.own.sets t.own.rest t.own.is t.tray t.spent

-- a bundle of a lane is taken
pub of-takes : (l : ℕ) (lane : LaneView) (b : Bundle) (x y : SharedView) (t : ChangesOwn (Takes l lane b) x y)
    → LaneTurns l lane (record (lane_of lane) { conts = conts_of t.own.now.containers }) (line.Take l b.number) x y
of-takes l lane b x y t = of_set l lane (line.Take l b.number) x y t.room t.own.now (record (lane_of lane) { conts = conts_of t.own.now.containers }) t.own.sets t.own.rest t.own.is t.tray t.spent

module _ (a : Setting) (w : Hands) (seen k : ℕ) (x y : SharedView) (l : ℕ) (lane : LaneView) (later : CoreLane) (told : DiaryEvent) (t : LaneTurns l lane later told x y) where
  -- the lane, in the part that was found
  pub lane-in : (f : IsFound a w k x) → slice_get f.part.lanes l ≡ Some (lane_of lane)
  lane-in f = ap (λ (ls : List CoreLane). slice_get ls l) f.shown.lanes ∙ get-map lane_of x.own.lanes.items l lane t.in_it

  -- and as the lines of diaries name it
  pub the-lane_is : (f : IsFound a w k x) → the_lane l f.part ≡ lane_of lane
  the-lane_is f = get_or_from_slice_get f.part.lanes l (lane_of lane) empty_lane (lane-in f)

  module _ (marks : SameMarks (lane_of lane) later) where
    -- the state shows the part with that lane, if the moment with it is sound
    shows : (f : IsFound a w k x) (rest held' : List Held) → IsSound a.plan (with_part_first k rest f.moment (only_node held' (set_lane l later f.part))) → ShowsPart (operator_of a k) y (set_lane l later f.part)
    shows f rest held' still =
        let p : Part = only_node held' (set_lane l later f.part) in
        let same : least_begun_mark p.node.lanes ≡ least_begun_mark f.part.lanes = calm a.plan f.moment (with_part_first k rest f.moment p) f.sound still k l f.part p.node (lane_of lane) later f.there (slice_get-set_same f.moment.nodes k f.part p.node f.there) (lane-in f) refl refl marks in
        record {
          lanes = ap (λ (ls : List CoreLane). slice_set ls l later) f.shown.lanes ∙ sym t.lanes;
          closings = f.shown.closings ∙ sym t.closings;
          kept = λ e. kept-stays (operator_of a k) x.own.kept y.own.kept f.part p.node t.kept refl same (f.shown.kept (sym t.spent ∙ e));
        }

    -- what an event owes that changes the lane alone
    acts : (c : Change) (held' : List Held) (f : IsFound a w k x) → drained_rows c ≡ [] → May a k w (after w k c) f.part (doing_of k c) (only_node held' (set_lane l later f.part)) → lines_by a (doing_of k c) f.part ≡ told ∷ []
        → ShowsPart (operator_of a k) y (set_lane l later f.part) → DoesPart a w (after w k c) seen k x y c f.part
    acts c held' f dry may line_is shown = record {
      q = only_node held' (set_lane l later f.part);
      may = may;
      shows = shown;
      lines = t.lines ∙ ap (λ ls. x.own.diary.events ++ ls) (sym line_is);
      settings = t.settings;
      tray = ap (λ r. r ++ y.tray) dry ∙ t.tray ∙ sym (append-nil x.tray);
      rows = λ other. (refl, dry);
      dry = inl dry;
      spent = λ e. inl (sym t.spent ∙ e);
    }

    -- an event that concerns nothing in hand, where nothing is
    pub acts-free : (c : Change) (e : Event) (held' : List Held) → doing_of k c ≡ Fresh e → drained_rows c ≡ [] → place_of a.plan e ≡ Some k → held_by w ≡ [] → held_by (after w k c) ≡ held'
        → ((f : IsFound a w k x) → part_after a.plan a.bundle e f.part ≡ Some (only_node held' (set_lane l later f.part))) → ((f : IsFound a w k x) → line_after a.plan e f.part ≡ told) → Acts a w seen k x y c
    acts-free c e held' is dry place none had does line_is f =
        let p : Part = only_node held' (set_lane l later f.part) in
        let still = (parts-keep_sound a.plan f.plan f.moment e k f.part p f.sound place f.there (ap (λ b. part_after a.plan b e f.part) f.bundle ∙ does f)).0 in
        acts c held' f dry
        (subst (λ (d : Doing). May a k w (after w k c) f.part d p) (sym is) (place, none, does f, had))
        (ap (λ (d : Doing). lines_by a d f.part) is ∙ ap (λ z. z ∷ []) (line_is f))
        (shows f f.moment.held held' still)

    -- an event of the one thing in hand
    pub acts-held : (c : Change) (e : Event) (h : Held) (held' : List Held) → doing_of k c ≡ Of e h → drained_rows c ≡ [] → place_of a.plan e ≡ Some k → held_by w ≡ h ∷ [] → held_by (after w k c) ≡ held'
        → ((f : IsFound a w k x) → concerns e h ≡ true) → ((f : IsFound a w k x) → held_after a.plan a.bundle e h f.part ≡ Some (only_node held' (set_lane l later f.part)))
        → ((f : IsFound a w k x) → held_line a.plan a.bundle e h f.part ≡ told) → Acts a w seen k x y c
    acts-held c e h held' is dry place one had its does line_is f =
        let p : Part = only_node held' (set_lane l later f.part) in
        let first : with_held (h ∷ f.rest) f.moment ≡ f.moment = λ i. record f.moment { held = sym (f.held ∙ ap (λ (hs : List Held). hs ++ f.rest) one) i } in
        let sound : IsSound a.plan (with_held (h ∷ f.rest) f.moment) = subst (λ (m : Moment). IsSound a.plan m) (sym first) f.sound in
        let still = (held-parts_keep_sound a.plan f.plan f.moment e h f.rest k f.part p sound (its f) place f.there (ap (λ b. held_after a.plan b e h f.part) f.bundle ∙ does f)).0 in
        acts c held' f dry
        (subst (λ (d : Doing). May a k w (after w k c) f.part d p) (sym is) (place, its f, one, does f, had))
        (ap (λ (d : Doing). lines_by a d f.part) is ∙ ap (λ z. z ∷ []) (line_is f))
        (shows f f.rest held' still)
