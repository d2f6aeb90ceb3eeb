-- The end of the input: a watermark above every time on each stream.
use Rattle.std.proofs.Common.{◌≡◌, ◌≤◌, ◌+◌, ℕ, Bool, true, false, List, [], ◌∷◌, ◌++◌, length, Ok, Err, Result, refl, sym, ap, subst, ◌∙◌, append_assoc, append-nil, length-append, arith}
use Rattle.std.specs.Prelude.{if◌then◌else◌}
use Rattle.std.proofs.lemmas.List.Concat.{flat_map-append}
use Rattle.sb_base.specs.records.declared.item.Record.{Record}
use Rattle.sb_base.specs.records.declared.item.Item.{Item}
use Rattle.sb_base.specs.records.declared.item.Item.TheVariants as item
use Rattle.sb_base.specs.records.declared.item.Stream.{Stream}
use Rattle.sb_base.specs.records.declared.item.Stream.TheVariants.{A, B}
use Rattle.sb_base.specs.records.declared.item.Streams.{Streams}
use Rattle.sb_base.specs.records.declared.item.TheConstants.{END_MARK}
use Rattle.sb_base.specs.records.declared.intake.Stop.{Stop}
use Rattle.sb_base.specs.records.declared.intake.Stop.TheVariants.{End, Refused, Fault}
use Rattle.sb_base.specs.records.declared.intake.TheConstants.{MAX_LINES}
use Rattle.sb_base.specs.records.Streams.{last_watermark, records_of, record_in, uses}
use Rattle.sb_base.specs.pipeline.Shapes.{Shape, streams_of}
use Rattle.sb_emit.specs.Outputs.{AreApart}
use Rattle.sb_emit.specs.Taps.{TapState}
use Rattle.sb_feed.specs.declared.cutters.Cutters.{Cutters}
use Rattle.sb_feed.specs.declared.give.GiveStop.{GiveStop}
use Rattle.sb_feed.specs.FedByItems.{Covers, IsFedBy, end_item, end_items}
use Rattle.sb_feed.specs.Feeds.{AreRowsSoFar, Fed}
use Rattle.sb_feed.specs.Takes.{MayEnd, MayTake, Takes, Fails, TakesOrFails}
use Rattle.sb_feed.proofs.FirstRows.{fed_covers}
use Rattle.sb_feed.proofs.GivesInTurn.{AddsUp, gives_both, gives_none, stops_then}
use Rattle.sb_feed.proofs.LaterItems.{goes_on_without, mark_rises, mark_within}
use Rattle.sb_feed.proofs.RowsApart.{apart_later}

-- ---- the item of an end
abbrev ending : Bool → Stream → List Item
ending used s = if used then item.Mark s END_MARK ∷ [] else []

-- it is no record
pub no_records : (streams : Streams) (t s : Stream) → records_of s (end_item streams t) ≡ []
no_records streams t s = by_use (uses streams t) t s
  where
    by_use : (used : Bool) (t s : Stream) → records_of s (ending used t) ≡ []
    by_use true A A = refl
    by_use true A B = refl
    by_use true B A = refl
    by_use true B B = refl
    by_use false t A = refl
    by_use false t B = refl

-- nor are those of the end of the input
pub no_end_records : (streams : Streams) (stop : Stop) (s : Stream) → records_of s (end_items streams stop) ≡ []
no_end_records streams stop s = none stop
  where
    nothing : (s : Stream) → records_of s [] ≡ []
    nothing A = refl
    nothing B = refl

    none : (stop : Stop) → records_of s (end_items streams stop) ≡ []
    none End = flat_map-append (record_in s) (end_item streams A) (end_item streams B) ∙ ap (λ l. l ++ records_of s (end_item streams B)) (no_records streams A s) ∙ no_records streams B s
    none (Refused r) = nothing s
    none Fault = nothing s

pub same_records : (streams : Streams) (stop : Stop) (items : List Item) (s : Stream) → records_of s (items ++ end_items streams stop) ≡ records_of s items
same_records streams stop items s = flat_map-append (record_in s) items (end_items streams stop) ∙ ap (λ l. records_of s items ++ l) (no_end_records streams stop s) ∙ append-nil (records_of s items)

module _ (plan : Shape) (items : List Item) (s : Stream) (marks : (s : Stream) → last_watermark s items ≤ END_MARK) where
  pub end_within : (u : Stream) → last_watermark u (items ++ end_item (streams_of plan) s) ≤ END_MARK
  end_within u = by_use (uses (streams_of plan) s) refl
    where
      by_use : (used : Bool) → uses (streams_of plan) s ≡ used → last_watermark u (items ++ ending used s) ≤ END_MARK
      by_use true is = mark_within plan items (item.Mark s END_MARK) (is, marks s, omega arith) marks u
      by_use false is = subst (λ l. last_watermark u l ≤ END_MARK) (sym (append-nil items)) (marks u)

  end_rises : (u : Stream) → last_watermark u items ≤ last_watermark u (items ++ end_item (streams_of plan) s)
  end_rises u = by_use (uses (streams_of plan) s) refl
    where
      by_use : (used : Bool) → uses (streams_of plan) s ≡ used → last_watermark u items ≤ last_watermark u (items ++ ending used s)
      by_use true is = mark_rises plan items (item.Mark s END_MARK) u (is, marks s, omega arith)
      by_use false is = subst (λ l. last_watermark u items ≤ last_watermark u l) (sym (append-nil items)) (omega arith)

  pub end_covered : (f : Fed) → Covers items f → Covers (items ++ end_item (streams_of plan) s) f
  end_covered f c = record {
    rest = c.rest;
    are = λ u. c.are u ∙ sym (flat_map-append (record_in u) items (end_item (streams_of plan) s) ∙ ap (λ l. records_of u items ++ l) (no_records (streams_of plan) s u) ∙ append-nil (records_of u items));
    coming = c.coming;
    floors = λ u. let a = c.floors u in let b = end_rises u in omega (arith, a, b);
  }

pub few_with_end : (streams : Streams) (s : Stream) (items : List Item) → length (items ++ end_item streams s) ≤ length items + 1
few_with_end streams s items = by_use (uses streams s)
  where
    by_use : (used : Bool) → length (items ++ ending used s) ≤ length items + 1
    by_use true = let l = length-append items (item.Mark s END_MARK ∷ []) in omega (arith, l)
    by_use false = let l = length-append items [] in omega (arith, l)

-- ---- the end of a stream
module _ {O : Type 0} (after part : O → List Record → O → Type 0) (laws : AddsUp after part) (stands : Fed → List Record → Type 0) (plan : Shape) (size : ℕ) (c : Cutters) where
  -- it is taken as a watermark, if the plan uses the stream
  pub end_is_taken : (s : Stream) (items : List Item) (f : Fed) (rows : List Record) → uses (streams_of plan) s ≡ true → MayEnd stands size c (MAX_LINES + 2) items f rows → MayTake stands plan size c (item.Mark s END_MARK) items f rows
  end_is_taken s items f rows used h = let few = h.few in record { stand = h.stand; fed = h.fed; timely = (used, h.marks s, omega arith); few = omega (arith, few); some = h.some }

  pub used_ends : {T : Type 0} (later : Fed → List Record → Type 0) (d : Cutters) (s : Stream) (o p : O) (x y : List TapState) (result : Result T GiveStop) → uses (streams_of plan) s ≡ true
      → ((items : List Item) (f : Fed) (rows : List Record) → MayTake stands plan size c (item.Mark s END_MARK) items f rows → TakesOrFails plan size later after part o p x y (items ++ item.Mark s END_MARK ∷ []) d rows result)
      → (items : List Item) (f : Fed) (rows : List Record) → MayEnd stands size c (MAX_LINES + 2) items f rows
      → TakesOrFails plan size later after part o p x y (items ++ end_item (streams_of plan) s) d rows result
  used_ends later d s o p x y result used takes items f rows may =
      subst (λ l. TakesOrFails plan size later after part o p x y (items ++ l) d rows result) (ap (λ b. ending b s) (sym used)) (takes items f rows (end_is_taken s items f rows used may))

  pub unused_ends : (s : Stream) (o : O) (x : List TapState) → uses (streams_of plan) s ≡ false
      → (items : List Item) (f : Fed) (rows : List Record) → MayEnd stands size c (MAX_LINES + 2) items f rows
      → Takes stands after o o x x size (items ++ end_item (streams_of plan) s) c rows
  unused_ends s o x unused items f rows may =
      subst (λ l. Takes stands after o o x x size l c rows) (sym (append-nil items) ∙ ap (λ b. items ++ ending b s) (sym unused))
      (record { f = f; fed = may.fed; gives = gives_none after part laws (stands f) o x rows may.stand })

  -- ---- the end of one stream, and then of the other
  pub may_end_first : (items : List Item) (f : Fed) (rows : List Record) → MayEnd stands size c (MAX_LINES + 1) items f rows → MayEnd stands size c (MAX_LINES + 2) items f rows
  may_end_first items f rows h = let few = h.few in record { stand = h.stand; fed = h.fed; few = omega (arith, few); marks = h.marks; some = h.some }

  pub may_end_then : (later : Fed → List Record → Type 0) (size2 : ℕ) (d : Cutters) (o p : O) (x y : List TapState) (items : List Item) (f : Fed) (rows : List Record) → size2 ≡ size → MayEnd stands size c (MAX_LINES + 1) items f rows
      → (t : Takes later after o p x y size (items ++ end_item (streams_of plan) A) d rows) → MayEnd later size2 d (MAX_LINES + 2) (items ++ end_item (streams_of plan) A) t.f (rows ++ t.gives.rows)
  may_end_then later size2 d o p x y items f rows same may t =
      let few = may.few in
      let one = few_with_end (streams_of plan) A items in
      record {
        stand = t.gives.stand;
        fed = subst (λ n. IsFedBy n (items ++ end_item (streams_of plan) A) t.f d) (sym same) t.fed;
        few = omega (arith, few, one);
        marks = end_within plan items A may.marks;
        some = subst (λ n. 1 ≤ n) (sym same) may.some;
      }

  pub both_end : {T : Type 0} (between later : Fed → List Record → Type 0) (plan2 : Shape) (size2 : ℕ) (d e : Cutters) (o p q : O) (x y z : List TapState) (result : Result T GiveStop) → plan2 ≡ plan → size2 ≡ size
      → ((items : List Item) (f : Fed) (rows : List Record) → MayEnd stands size c (MAX_LINES + 2) items f rows → Takes between after o p x y size (items ++ end_item (streams_of plan) A) d rows)
      → ((items : List Item) (f : Fed) (rows : List Record) → MayEnd between size2 d (MAX_LINES + 2) items f rows → TakesOrFails plan2 size2 later after part p q y z (items ++ end_item (streams_of plan2) B) e rows result)
      → ((f : Fed) (rows : List Record) → between f rows → AreRowsSoFar plan f rows) → ((f : Fed) (rows : List Record) → later f rows → AreRowsSoFar plan f rows)
      → (items : List Item) (f : Fed) (rows : List Record) → MayEnd stands size c (MAX_LINES + 1) items f rows
      → TakesOrFails plan size later after part o q x z (items ++ end_items (streams_of plan) End) e rows result
  both_end between later plan2 size2 d e o p q x y z result same_plan same_size first second so_far so_far_later items f rows may =
      by_result result (subst (λ u. TakesOrFails u size later after part p q y z ((items ++ end_item (streams_of plan) A) ++ end_item (streams_of u) B) e (rows ++ t.gives.rows) result) same_plan
      (subst (λ n. TakesOrFails plan2 n later after part p q y z ((items ++ end_item (streams_of plan) A) ++ end_item (streams_of plan2) B) e (rows ++ t.gives.rows) result) same_size
      (second (items ++ end_item (streams_of plan) A) t.f (rows ++ t.gives.rows) (may_end_then between size2 d o p x y items f rows same_size may t))))
    where
      t : Takes between after o p x y size (items ++ end_item (streams_of plan) A) d rows
      t = first items f rows (may_end_first items f rows may)

      whole : (items ++ end_item (streams_of plan) A) ++ end_item (streams_of plan) B ≡ items ++ end_items (streams_of plan) End
      whole = append_assoc items (end_item (streams_of plan) A) (end_item (streams_of plan) B)

      apart : (g : Fed) (m : List Record) → Covers ((items ++ end_item (streams_of plan) A) ++ end_item (streams_of plan) B) g → AreRowsSoFar plan g ((rows ++ t.gives.rows) ++ m) → AreApart t.gives.rows m
      apart g m covers both =
          apart_later plan (items ++ end_item (streams_of plan) A) ((items ++ end_item (streams_of plan) A) ++ end_item (streams_of plan) B) t.f g rows t.gives.rows m
          (fed_covers size (items ++ end_item (streams_of plan) A) t.f d t.fed) (goes_on_without (items ++ end_item (streams_of plan) A) (end_item (streams_of plan) B) (no_records (streams_of plan) B)) (so_far t.f (rows ++ t.gives.rows) t.gives.stand) covers both

      by_result : {U : Type 0} (result : Result U GiveStop) → TakesOrFails plan size later after part p q y z ((items ++ end_item (streams_of plan) A) ++ end_item (streams_of plan) B) e (rows ++ t.gives.rows) result
          → TakesOrFails plan size later after part o q x z (items ++ end_items (streams_of plan) End) e rows result
      by_result (Ok u) n = record { f = n.f; fed = subst (λ l. IsFedBy size l n.f e) whole n.fed; gives = gives_both after part laws (between t.f) (later n.f) o p q x y z rows t.gives n.gives (apart n.f n.gives.rows (fed_covers size _ n.f e n.fed) (so_far_later n.f _ n.gives.stand)) }
      by_result (Err why) n = record { f = n.f; covers = subst (λ l. Covers l n.f) whole n.covers; stops = stops_then after part laws plan (between t.f) o p q x y z n.f rows why t.gives n.stops (apart n.f n.stops.rows n.covers n.stops.so_far) }

  pub first_fails : (o p : O) (x y : List TapState) (why : GiveStop)
      → ((items : List Item) (f : Fed) (rows : List Record) → MayEnd stands size c (MAX_LINES + 2) items f rows → Fails plan after part o p x y (items ++ end_item (streams_of plan) A) rows why)
      → (items : List Item) (f : Fed) (rows : List Record) → MayEnd stands size c (MAX_LINES + 1) items f rows
      → Fails plan after part o p x y (items ++ end_items (streams_of plan) End) rows why
  first_fails o p x y why first items f rows may =
      let n = first items f rows (may_end_first items f rows may) in
      record {
        f = n.f;
        covers = subst (λ l. Covers l n.f) (append_assoc items (end_item (streams_of plan) A) (end_item (streams_of plan) B)) (end_covered plan (items ++ end_item (streams_of plan) A) B (end_within plan items A may.marks) n.f n.covers);
        stops = n.stops;
      }

  -- reading stopped before the end
  pub none_ends : (stop : Stop) (o : O) (x : List TapState) → end_items (streams_of plan) stop ≡ []
      → (items : List Item) (f : Fed) (rows : List Record) → MayEnd stands size c (MAX_LINES + 1) items f rows
      → Takes stands after o o x x size (items ++ end_items (streams_of plan) stop) c rows
  none_ends stop o x none items f rows may =
      subst (λ l. Takes stands after o o x x size l c rows) (sym (append-nil items) ∙ ap (λ l. items ++ l) (sym none))
      (record { f = f; fed = may.fed; gives = gives_none after part laws (stands f) o x rows may.stand })
