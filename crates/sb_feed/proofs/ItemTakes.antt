-- An item is taken.
use Rattle.std.proofs.Common.{◌≡◌, ℕ, List, [], ◌∷◌, ◌++◌, Ok, Err, Result, Option, Some, None, sym, ap, subst, ◌∙◌, append_assoc, append-nil, arith}
use Rattle.std.specs.Prelude.{IfSome}
use Rattle.std.specs.List.{AllByRecursion}
use Rattle.std.proofs.lemmas.List.Concat.{flat_map-append}
use Rattle.sb_base.specs.records.declared.item.Record.{Record}
use Rattle.sb_base.specs.records.declared.item.Item.{Item}
use Rattle.sb_base.specs.records.declared.item.Item.TheVariants as item
use Rattle.sb_base.specs.records.declared.item.Stream.{Stream}
use Rattle.sb_base.specs.records.declared.item.Stream.TheVariants.{A, B}
use Rattle.sb_base.specs.records.Streams.{last_watermark, records_of, record_in, watermark_in}
use Rattle.sb_base.proofs.records.Elements.{All-join}
use Rattle.sb_base.specs.bundle.declared.bundle.Bundle.{Bundle}
use Rattle.sb_base.specs.bundle.Bundles.{IsBundleOf}
use Rattle.sb_base.specs.bundle.Cuts.{given_with, after_record, given_at_mark, after_mark}
use Rattle.sb_base.specs.pipeline.Shapes.{Shape, streams_of}
use Rattle.sb_emit.specs.Taps.{TapState}
use Rattle.sb_feed.specs.declared.cutters.Cutters.{Cutters}
use Rattle.sb_feed.specs.declared.give.GiveStop.{GiveStop}
use Rattle.sb_feed.specs.declared.give.GiveStop.TheVariants as stop
use Rattle.sb_feed.specs.Calls.{call_in}
use Rattle.sb_feed.specs.FedByItems.{Covers, IsFedBy, IsTimely, cutter_of, with_cutter}
use Rattle.sb_feed.specs.Feeds.{Fed, AreRowsSoFar, IsFrom, MayArrive, MaySeal, records_of_feed, floor_in, with_bundle, with_mark}
use Rattle.sb_feed.specs.Gives.{GivesOut, StopsOut, Gives}
use Rattle.sb_feed.specs.Takes.{MayTake, Takes, Fails, TakesOrFails}
use Rattle.sb_feed.proofs.FirstRows.{fed_covers}
use Rattle.sb_feed.proofs.GivesInTurn.{AddsUp, gives_then, gives_none, stops_none}
use Rattle.sb_feed.proofs.ItemSteps.{fed_quiet, fed_held, fed_full, fed_mark, fed_last, floor_is, full_arrives, last_arrives, may_seal, may_seal_then}
use Rattle.sb_feed.proofs.LaterItems.{mark_rises, from_later}
use Rattle.sb_feed.proofs.RowsSoFar.{so_far_mark}

-- where all was fed, what was given out says what was taken
takes_by : {O T : Type 0} (plan : Shape) (size : ℕ) (stands : Fed → List Record → Type 0) (after part : O → List Record → O → Type 0) (o p : O) (a b : List TapState) (items : List Item) (c : Cutters) (f : Fed) (before : List Record) (result : Result T GiveStop)
    → IsFedBy size items f c → Gives plan (stands f) after part o p a b f before result → TakesOrFails plan size stands after part o p a b items c before result
takes_by plan size stands after part o p a b items c f before (Ok x) fed g = record { f = f; fed = fed; gives = g }
takes_by plan size stands after part o p a b items c f before (Err why) fed g = record { f = f; covers = fed_covers size items f c fed; stops = g }

pub from_floor : (plan : Shape) (size : ℕ) (items : List Item) (f : Fed) (c : Cutters) (s : Stream) (r : Record) → IsFedBy size items f c → IsTimely (streams_of plan) items (item.Rec s r) → IsFrom (cutter_of c s).floor r
from_floor plan size items f c s r fed t = subst (λ x. IsFrom x r) (sym (floor_is size items f c s fed)) t.1

-- one record more is covered, although it was not fed
pub with_one : (plan : Shape) (items : List Item) (s : Stream) (r : Record) (f : Fed) → Covers items f → IsTimely (streams_of plan) items (item.Rec s r) → Covers (items ++ item.Rec s r ∷ []) f
with_one plan items s r f covers t = record {
  rest = λ u. covers.rest u ++ records_of u (item.Rec s r ∷ []);
  are = λ u. sym (append_assoc (records_of_feed f u) (covers.rest u) (records_of u (item.Rec s r ∷ []))) ∙ ap (λ l. l ++ records_of u (item.Rec s r ∷ [])) (covers.are u) ∙ sym (flat_map-append (record_in u) items (item.Rec s r ∷ []));
  coming = λ u. All-join (IsFrom (floor_in f u)) (covers.rest u) (records_of u (item.Rec s r ∷ [])) (covers.coming u) (subst (AllByRecursion (IsFrom (floor_in f u))) (sym (append-nil (record_in u (item.Rec s r)))) (only_from s u t));
  floors = λ u. let a = covers.floors u in let b = mark_rises plan items (item.Rec s r) u t in omega (arith, a, b);
}
  where
    only_from : (s u : Stream) → IsTimely (streams_of plan) items (item.Rec s r) → AllByRecursion (IsFrom (floor_in f u)) (record_in u (item.Rec s r))
    only_from A A t = from_later (floor_in f A) (last_watermark A items) (r ∷ []) (covers.floors A) (t.1, tt)
    only_from B B t = from_later (floor_in f B) (last_watermark B items) (r ∷ []) (covers.floors B) (t.1, tt)
    only_from A B t = tt
    only_from B A t = tt

module _ {O : Type 0} (after part : O → List Record → O → Type 0) (laws : AddsUp after part) (stands : Fed → List Record → Type 0) (plan : Shape) (size : ℕ) (c : Cutters) where
  -- a record that fills a bundle
  pub full_record : {T : Type 0} (later : Fed → List Record → Type 0) (d : Cutters) (s : Stream) (r : Record) (g : Option Bundle) (b : Bundle) (o p : O) (x y : List TapState) (result : Result T GiveStop)
      → g ≡ Some b → g ≡ given_with r (cutter_of c s) → d ≡ with_cutter s (after_record r (cutter_of c s)) c → IfSome g (IsBundleOf (cutter_of c s))
      → ((f : Fed) (rows : List Record) → stands f rows → MayArrive plan size f s b → Gives plan (later (with_bundle s b f)) after part o p x y (with_bundle s b f) rows result)
      → (items : List Item) (f : Fed) (rows : List Record) → MayTake stands plan size c (item.Rec s r) items f rows
      → TakesOrFails plan size later after part o p x y (items ++ item.Rec s r ∷ []) d rows result
  full_record later d s r g b o p x y result some given cut sound gives items f rows may =
      let from = from_floor plan size items f c s r may.fed may.timely in
      let full = sym given ∙ some in
      takes_by plan size later after part o p x y (items ++ item.Rec s r ∷ []) d (with_bundle s b f) rows result
      (subst (IsFedBy size (items ++ item.Rec s r ∷ []) (with_bundle s b f)) (sym cut) (fed_full size items s r b f c may.fed from full))
      (gives f rows may.stand (full_arrives plan size items s r b f c may.fed may.timely.0 may.few from full (subst (λ q. IfSome q (IsBundleOf (cutter_of c s))) some sound)))

  -- a record that is held
  pub held_record : (d : Cutters) (s : Stream) (r : Record) (g : Option Bundle) (o : O) (x : List TapState)
      → g ≡ None → g ≡ given_with r (cutter_of c s) → d ≡ with_cutter s (after_record r (cutter_of c s)) c
      → (items : List Item) (f : Fed) (rows : List Record) → MayTake stands plan size c (item.Rec s r) items f rows
      → Takes stands after o o x x size (items ++ item.Rec s r ∷ []) d rows
  held_record d s r g o x none given cut items f rows may =
      let fed = fed_held size items s r f c may.fed (from_floor plan size items f c s r may.fed may.timely) (sym given ∙ none) in
      record { f = f; fed = subst (IsFedBy size (items ++ item.Rec s r ∷ []) f) (sym cut) fed; gives = gives_none after part laws (stands f) o x rows may.stand }

  -- a record that finds no memory
  pub lost_record : (s : Stream) (r : Record) (o : O) (x : List TapState) → ((f : Fed) (rows : List Record) → stands f rows → AreRowsSoFar plan f rows)
      → (items : List Item) (f : Fed) (rows : List Record) → MayTake stands plan size c (item.Rec s r) items f rows
      → Fails plan after part o o x x (items ++ item.Rec s r ∷ []) rows stop.Memory
  lost_record s r o x so_far items f rows may = record {
    f = f;
    covers = with_one plan items s r f (fed_covers size items f c may.fed) may.timely;
    stops = stops_none after part laws plan o x f rows (so_far f rows may.stand);
  }

  -- a watermark where nothing was held
  pub lone_mark : {T : Type 0} (later : Fed → List Record → Type 0) (d : Cutters) (s : Stream) (t : ℕ) (g : Option Bundle) (o p : O) (x y : List TapState) (result : Result T GiveStop)
      → g ≡ None → g ≡ given_at_mark (cutter_of c s) → d ≡ with_cutter s (after_mark t (cutter_of c s)) c
      → ((f : Fed) (rows : List Record) → stands f rows → MaySeal plan f s t → Gives plan (later (with_mark s t f)) after part o p x y (with_mark s t f) rows result)
      → (items : List Item) (f : Fed) (rows : List Record) → MayTake stands plan size c (item.Mark s t) items f rows
      → TakesOrFails plan size later after part o p x y (items ++ item.Mark s t ∷ []) d rows result
  lone_mark later d s t g o p x y result none given cut gives items f rows may =
      takes_by plan size later after part o p x y (items ++ item.Mark s t ∷ []) d (with_mark s t f) rows result
      (subst (IsFedBy size (items ++ item.Mark s t ∷ []) (with_mark s t f)) (sym cut) (fed_mark size items s t f c may.fed (sym given ∙ none)))
      (gives f rows may.stand (may_seal plan size items s t f c may.fed may.timely.0 may.timely.1 may.timely.2))

  -- a watermark behind the last bundle of its epoch
  pub mark_after_bundle : {T : Type 0} (between later : Fed → List Record → Type 0) (plan2 : Shape) (d : Cutters) (s : Stream) (t : ℕ) (g : Option Bundle) (b : Bundle) (o p q : O) (x y z : List TapState) (result : Result T GiveStop)
      → plan2 ≡ plan → g ≡ Some b → g ≡ given_at_mark (cutter_of c s) → d ≡ with_cutter s (after_mark t (cutter_of c s)) c → IfSome g (IsBundleOf (cutter_of c s))
      → ((f : Fed) (rows : List Record) → stands f rows → MayArrive plan size f s b → GivesOut (between (with_bundle s b f)) after o p x y rows)
      → ((f : Fed) (rows : List Record) → between f rows → MaySeal plan2 f s t → Gives plan2 (later (with_mark s t f)) after part p q y z (with_mark s t f) rows result)
      → ((f : Fed) (rows : List Record) → between f rows → AreRowsSoFar plan f rows) → ((f : Fed) (rows : List Record) → later f rows → AreRowsSoFar plan f rows)
      → (items : List Item) (f : Fed) (rows : List Record) → MayTake stands plan size c (item.Mark s t) items f rows
      → TakesOrFails plan size later after part o q x z (items ++ item.Mark s t ∷ []) d rows result
  mark_after_bundle between later plan2 d s t g b o p q x y z result same some given cut sound arrives seals so_far so_far_later items f rows may =
      let last = sym given ∙ some in
      let f1 = with_bundle s b f in
      let f2 = with_mark s t f1 in
      let first = arrives f rows may.stand (last_arrives plan size items s b f c may.fed may.timely.0 may.few last (subst (λ w. IfSome w (IsBundleOf (cutter_of c s))) some sound)) in
      let seal = may_seal_then plan size items s t b f c may.fed may.timely.0 may.timely.1 may.timely.2 in
      takes_by plan size later after part o q x z (items ++ item.Mark s t ∷ []) d f2 rows result
      (subst (IsFedBy size (items ++ item.Mark s t ∷ []) f2) (sym cut) (fed_last size items s t b f c may.fed last))
      (gives_then after part laws plan (between f1) (later f2) o p q x y z f2 rows result first (so_far_mark plan s t f1 (rows ++ first.rows) seal.rises (so_far f1 (rows ++ first.rows) first.stand)) (so_far_later f2)
      (subst (λ u. Gives u (later f2) after part p q y z f2 (rows ++ first.rows) result) same (seals f1 (rows ++ first.rows) first.stand (subst (λ u. MaySeal u f1 s t) (sym same) seal))))

  -- the last bundle of an epoch does not arrive, or its rows are not given out
  pub bundle_stops : (s : Stream) (t : ℕ) (g : Option Bundle) (b : Bundle) (o p : O) (x y : List TapState) (why : GiveStop)
      → g ≡ Some b → g ≡ given_at_mark (cutter_of c s) → IfSome g (IsBundleOf (cutter_of c s))
      → ((f : Fed) (rows : List Record) → stands f rows → MayArrive plan size f s b → StopsOut plan after part o p x y (with_bundle s b f) rows why)
      → (items : List Item) (f : Fed) (rows : List Record) → MayTake stands plan size c (item.Mark s t) items f rows
      → Fails plan after part o p x y (items ++ item.Mark s t ∷ []) rows why
  bundle_stops s t g b o p x y why some given sound arrives items f rows may =
      let last = sym given ∙ some in
      let f1 = with_bundle s b f in
      let stops = arrives f rows may.stand (last_arrives plan size items s b f c may.fed may.timely.0 may.few last (subst (λ w. IfSome w (IsBundleOf (cutter_of c s))) some sound)) in
      let seal = may_seal_then plan size items s t b f c may.fed may.timely.0 may.timely.1 may.timely.2 in
      record {
        f = with_mark s t f1;
        covers = fed_covers size (items ++ item.Mark s t ∷ []) (with_mark s t f1) (with_cutter s (after_mark t (cutter_of c s)) c) (fed_last size items s t b f c may.fed last);
        stops = record { rows = stops.rows; so_far = so_far_mark plan s t f1 (rows ++ stops.rows) seal.rises stops.so_far; wrote = stops.wrote; at = stops.at };
      }

  -- an item that is neither a record nor a watermark
  pub quiet_item : (i : Item) (o : O) (x : List TapState) → call_in A i ≡ [] → call_in B i ≡ [] → watermark_in A i ≡ [] → watermark_in B i ≡ []
      → (items : List Item) (f : Fed) (rows : List Record) → MayTake stands plan size c i items f rows
      → Takes stands after o o x x size (items ++ i ∷ []) c rows
  quiet_item i o x call_a call_b mark_a mark_b items f rows may =
      record { f = f; fed = fed_quiet size items i f c call_a call_b mark_a mark_b may.fed; gives = gives_none after part laws (stands f) o x rows may.stand }

  -- such an item that finds no memory
  pub quiet_lost : (i : Item) (o : O) (x : List TapState) → call_in A i ≡ [] → call_in B i ≡ [] → watermark_in A i ≡ [] → watermark_in B i ≡ []
      → ((f : Fed) (rows : List Record) → stands f rows → AreRowsSoFar plan f rows)
      → (items : List Item) (f : Fed) (rows : List Record) → MayTake stands plan size c i items f rows
      → Fails plan after part o o x x (items ++ i ∷ []) rows stop.Memory
  quiet_lost i o x call_a call_b mark_a mark_b so_far items f rows may =
      record { f = f; covers = fed_covers size (items ++ i ∷ []) f c (fed_quiet size items i f c call_a call_b mark_a mark_b may.fed); stops = stops_none after part laws plan o x f rows (so_far f rows may.stand) }
