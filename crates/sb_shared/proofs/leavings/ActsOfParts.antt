-- A leaving with which a node takes its part of a bundle in.
use Rattle.std.proofs.Common.{◌≡◌, ℕ, true, false, List, [], ◌∷◌, ◌++◌, length, Some, append-nil, sym, refl, ap, subst, ◌∙◌, inl}
use Rattle.std.specs.Prelude.{◌&&◌}
use Rattle.std.specs.List.{slice_get}
use Rattle.std.specs.declared.snapshot.Snapshot.{Snapshot}
use Rattle.std.proofs.lemmas.Bool.{eq-eqb}
use Rattle.sb_shown.specs.base.records.declared.item.Record.{Record}
use Rattle.sb_shown.specs.base.records.declared.element.KeptRec.{KeptRec}
use Rattle.sb_shown.specs.base.records.Elements.{on_lane}
use Rattle.sb_shown.specs.base.window.Groupings.{IsFrom}
use Rattle.sb_shown.specs.base.pipeline.Operators.{Operator}
use Rattle.sb_shown.specs.base.pipeline.Operators.Operator.{ParDo, Windowed, Sink}
use Rattle.sb_shown.specs.core.declared.event.Event.TheVariants as event
use Rattle.sb_shown.specs.core.declared.held.Held.{Held}
use Rattle.sb_shown.specs.core.containers.declared.container.CoreLane.{CoreLane}
use Rattle.sb_shown.specs.core.declared.moment.Node.{Node}
use Rattle.sb_shown.specs.core.Bounds.{bound_at}
use Rattle.sb_shown.specs.core.containers.Choices.{is_empty}
use Rattle.sb_shown.specs.core.Closings.{kept_elements, delivery, is_pardo}
use Rattle.sb_shown.specs.core.containers.Lanes.{finish_in}
use Rattle.sb_shown.specs.core.Laws.{concerns}
use Rattle.sb_shown.specs.core.containers.Marks.{least_begun_mark}
use Rattle.sb_shown.specs.core.Moments.{set_lane, with_held}
use Rattle.sb_shown.specs.core.Parts.{Part, held_after, only_node, with_part_first}
use Rattle.sb_shown.specs.core.Soundness.{IsSound}
use Rattle.sb_shown.proofs.core.exact.Nodes.{slice_get-set_same}
use Rattle.sb_shown.proofs.core.parts.PartsLaw.{chain, held-parts_keep_sound, passing}
use Rattle.sb_shown.specs.diary.declared.event.DiaryEvent.TheVariants as line
use Rattle.sb_shown.specs.lane.LaneView.{LaneView, lane_of}
use Rattle.sb_shown.specs.lane.Placed.{conts_of}
use Rattle.sb_shown.specs.node.Keeping.{IsPartFor, ShowsKept, closed_mark, gives}
use Rattle.sb_shown.specs.node.Changes.{Absorbs, HasLane}
use Rattle.sb_shown.specs.work.declared.claim.Claim.{Claim}
use Rattle.sb_shown.specs.work.declared.outputs.Part.{Part as WorkPart}
use Rattle.sb_shown.specs.Showing.{IsKept}
use Rattle.sb_shown.proofs.Calm.{calm}
use Rattle.sb_shown.proofs.lane.InTheCore.{finish_first-is}
use Rattle.sb_shown.proofs.ShowsKept.{StandsFor, shows-adds}
use Rattle.sb_shared.specs.declared.telling.Change.TheVariants.{Finish}
use Rattle.sb_shared.specs.declared.telling.Hands.{Hands}
use Rattle.sb_shared.specs.declared.telling.Setting.{Setting}
use Rattle.sb_shared.specs.Doings.{work_of}
use Rattle.sb_shared.specs.Found.{IsFound}
use Rattle.sb_shared.specs.Leavings.{DoesPart}
use Rattle.sb_shared.specs.SharedNodes.{ChangesOwn, SharedView}
use Rattle.sb_shared.specs.Shown.{ShowsPart, operator_of}
use Rattle.sb_shared.specs.Views.{after, held_by}
use Rattle.sb_shared.proofs.leavings.Acts.{Acts}
use Rattle.sb_shared.proofs.entered.FoundLanes.{lane_in_part, lane_ok}
use Rattle.sb_shared.proofs.leavings.HeldEvents.{in-hand}
use Rattle.sb_shared.proofs.entered.HeldHere.{records_from}
use Rattle.sb_shared.proofs.links.SetLanes.{lanes_set, limits_set}

-- a node that gathers gives nothing for a bundle, and keeps it all
record Gathers (op : Operator) (records : List Record) (es : List KeptRec) : Type 0 where
  pub gives : delivery op records ≡ []
  pub keeps : kept_elements op es ≡ es

gathers : (op : Operator) (records : List Record) (es : List KeptRec) → is_pardo op ≡ false → Gathers op records es
gathers (ParDo op) records es h = cc
gathers (Windowed g) records es h = record { gives = refl; keeps = refl }
gathers Sink records es h = record { gives = refl; keeps = refl }

module _ (a : Setting) (w : Hands) (seen : ℕ) (x y : SharedView) (t : Snapshot Claim) (lane : LaneView) (part : WorkPart) (other : is_pardo (operator_of a t.value.node) ≡ false) (sane : x.spent ≡ false) (takes : IsPartFor x.own.kept part t.value.lane t.value.bundle.records)
    (ch : ChangesOwn (Absorbs t.value.lane lane t.value.bundle.epoch t.value.bundle.number part) x y) (out : held_by w ≡ work_of t.value false ∷ []) (f : IsFound a w t.value.node x) where
  abbrev c : Claim
  c = t.value

  abbrev op : Operator
  op = operator_of a c.node

  abbrev n : Node
  n = f.part

  abbrev es : List KeptRec
  es = on_lane c.lane c.bundle.records

  has : HasLane c.lane lane x.own
  has = ch.own.sets.in_it

  in_it : slice_get n.lanes c.lane ≡ Some (lane_of lane)
  in_it = lane_in_part a w c.node x f c.lane lane has

  g : Gathers op c.bundle.records es
  g = gathers op c.bundle.records es other

  abbrev done_lane : CoreLane
  done_lane = record (lane_of lane) { conts = finish_in c.bundle.epoch c.bundle.number (conts_of lane.containers) }

  -- the part after it
  abbrev p : Part
  p = only_node [] (record (set_lane c.lane done_lane n) { kept = n.kept ++ kept_elements op es })

  is : lane_of ch.own.now ≡ done_lane
  is = ch.own.is ∙ ap (λ cs. record (lane_of lane) { conts = cs }) (finish_first-is (bound_at a.plan c.node) c.bundle.epoch c.bundle.number (lane_of lane) (lane_ok a w c.node x f c.lane lane has))

  found : concerns (event.Finish c.node c.lane c.bundle.number) (work_of c false) ≡ true
  found = λ i. eq-eqb c.node c.node refl i && (eq-eqb c.lane c.lane refl i && eq-eqb c.bundle.number c.bundle.number refl i)

  gone : held_after a.plan a.bundle (event.Finish c.node c.lane c.bundle.number) (work_of c false) n ≡ Some p
  gone = chain (slice_get n.lanes c.lane) _ (lane_of lane) _ in_it (passing _ _ _ (ap is_empty g.gives) refl)

  -- the node is closed up to the same mark
  still : IsSound a.plan (with_part_first c.node f.rest f.moment p)
  still =
      (held-parts_keep_sound a.plan f.plan f.moment (event.Finish c.node c.lane c.bundle.number) (work_of c false) f.rest c.node n p
      (subst (λ (hs : List Held). IsSound a.plan (with_held hs f.moment)) (in-hand a w c.node x (work_of c false) f out) f.sound) found refl f.there
      (ap (λ b. held_after a.plan b (event.Finish c.node c.lane c.bundle.number) (work_of c false) n) f.bundle ∙ gone)).0

  same : least_begun_mark p.node.lanes ≡ least_begun_mark n.lanes
  same = calm a.plan f.moment (with_part_first c.node f.rest f.moment p) f.sound still c.node c.lane n p.node (lane_of lane) done_lane f.there (slice_get-set_same f.moment.nodes c.node n p.node f.there) in_it refl refl (inl refl)

  -- what is kept stands for the elements of the bundle too
  was_kept : IsKept op x.own.kept n
  was_kept = f.shown.kept sane

  stands : StandsFor op (closed_mark x.own.kept) (gives y.own.kept) (n.kept ++ es)
  stands =
      shows-adds op (closed_mark x.own.kept) (gives x.own.kept) (gives y.own.kept) n.kept es was_kept.kept
      (subst (λ m. IsFrom m es) (sym was_kept.closed_is) (records_from a w c.node x f c false out refl)) (ch.own.adds c.bundle.records takes)

  is_kept : IsKept op y.own.kept p.node
  is_kept = record {
    made = ch.own.made op was_kept.made;
    unspent = ch.own.unspent;
    closed_is = ch.own.closed ∙ was_kept.closed_is ∙ sym same;
    kept = subst (λ l. ShowsKept op y.own.kept (n.kept ++ l)) (sym g.keeps) (subst (λ m. StandsFor op m (gives y.own.kept) (n.kept ++ es)) (sym ch.own.closed) stands);
  }

  shows : ShowsPart op y p.node
  shows = record {
    lanes = lanes_set n.lanes x.own.lanes.items y.own.lanes.items c.lane ch.own.now done_lane f.shown.lanes ch.own.sets.lanes is;
    closings = f.shown.closings ∙ sym ch.own.closings;
    kept = λ _. is_kept;
  }

  finishes_here : DoesPart a w (after w c.node (Finish t false)) seen c.node x y (Finish t false) f.part
  finishes_here = record {
    q = p;
    may = (refl, found, out, gone, refl);
    shows = shows;
    lines = ap (λ d. d.events) ch.own.sets.diary ∙ ap (λ (l : List Record). x.own.diary.events ++ line.Finish c.lane c.bundle.number (length l) ∷ []) (sym g.gives);
    settings = λ i. record {
      keeps = ap (λ d. d.keeps) ch.own.sets.diary i;
      limits = limits_set x.own.lanes.items y.own.lanes.items c.lane lane ch.own.now has ch.own.sets.lanes ch.own.sets.limit i;
    };
    tray = ch.tray ∙ sym (append-nil x.tray);
    rows = λ _. (refl, refl);
    dry = inl refl;
    spent = λ e. inl (sym ch.spent ∙ e);
  }

-- a node takes its part in, in any moment that may have been found
pub finishes_part : (a : Setting) (w : Hands) (seen k : ℕ) (x y : SharedView) (t : Snapshot Claim) (lane : LaneView) (part : WorkPart) → t.value.node ≡ k → is_pardo (operator_of a k) ≡ false → x.spent ≡ false → IsPartFor x.own.kept part t.value.lane t.value.bundle.records
    → ChangesOwn (Absorbs t.value.lane lane t.value.bundle.epoch t.value.bundle.number part) x y → held_by w ≡ work_of t.value false ∷ []
    → Acts a w seen k x y (Finish t false)
finishes_part a w seen k x y t lane part here other sane takes ch out =
    subst (λ k. is_pardo (operator_of a k) ≡ false → Acts a w seen k x y (Finish t false))
    here (λ o. finishes_here a w seen x y t lane part o sane takes ch out) other
