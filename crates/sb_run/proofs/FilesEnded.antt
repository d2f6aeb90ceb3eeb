-- The ends of a run over two record files.
use Rattle.std.proofs.Common.{◌≡◌, ◌≤◌, ℕ, true, false, List, [], ◌++◌, length, Option, Some, None, Result, Ok, Err, refl, sym, ap, subst, ◌∙◌, append_assoc, append-nil, inl, inr}
use Rattle.std.specs.Prelude.{◌⊎◌, flat_map, ⊤}
use Rattle.std.specs.List.{AllByRecursion}
use mathlib.Core.List.{IsPrefix}
use Rattle.std.proofs.lemmas.List.Concat.{flat_map-append}
use Rattle.sb_engines.specs.feeds.base.records.declared.intake.Refusal.{Refusal}
use Rattle.sb_engines.specs.feeds.base.records.declared.intake.Stop.{Stop}
use Rattle.sb_engines.specs.feeds.base.records.declared.intake.Stop.TheVariants as at
use Rattle.sb_engines.specs.feeds.base.records.declared.item.Dropped.{Dropped}
use Rattle.sb_engines.specs.feeds.base.records.declared.item.Item.{Item}
use Rattle.sb_engines.specs.feeds.base.records.declared.item.Item.TheVariants as item
use Rattle.sb_engines.specs.feeds.base.records.declared.item.Record.{Record}
use Rattle.sb_engines.specs.feeds.base.records.declared.item.Stream.{Stream}
use Rattle.sb_engines.specs.feeds.base.records.declared.item.Stream.TheVariants.{A, B}
use Rattle.sb_engines.specs.feeds.base.records.declared.item.TheConstants.{END_MARK}
use Rattle.sb_engines.specs.feeds.base.records.Records.{at_least, before, sorted_records}
use Rattle.sb_engines.specs.feeds.base.records.Streams.{dropped_in, dropped_of, last_or, last_watermark, least_of, low_watermark, record_in, records_of, uses, watermark_in}
use Rattle.sb_engines.proofs.feeds.base.records.Earlier.{sorted_before-front}
use Rattle.sb_engines.proofs.feeds.base.records.Elements.{All-join}
use Rattle.sb_engines.specs.feeds.outside.Sinks.{SinkState}
use Rattle.sb_engines.specs.feeds.base.pipeline.Results.{output_of}
use Rattle.sb_engines.specs.feeds.base.pipeline.Results as result
use Rattle.sb_engines.specs.feeds.base.pipeline.Shapes.{Shape, streams_of}
use Rattle.sb_engines.specs.worker.tally.Whole.{Tallies}
use Rattle.sb_engines.specs.feeds.emit.Taps.{TapState}
use Rattle.sb_engines.specs.worker.hand.Hands.{HandView}
use Rattle.sb_engines.specs.worker.hand.Showing.{diaries_of, settings_at, settings_of}
use Rattle.sb_engines.specs.worker.cascade.declared.cascade.Cascade.{Cascade}
use Rattle.sb_engines.specs.worker.cascade.declared.pass.CascadePass.{CascadePass}
use Rattle.sb_engines.specs.worker.cascade.Calls.{plan_of, setting_of}
use Rattle.sb_engines.specs.worker.cascade.Lives.{IsShared}
use Rattle.sb_engines.specs.feeds.one_feed.declared.give.GiveStop.{GiveStop}
use Rattle.sb_engines.specs.feeds.one_feed.declared.give.GiveStop.TheVariants as give
use Rattle.sb_engines.specs.feeds.one_feed.Calls.{call_in, calls_of}
use Rattle.sb_engines.specs.feeds.one_feed.Due.{AreFirstDropped, AreFirstRows, due_rows, rows_below, streams_in}
use Rattle.sb_engines.specs.feeds.one_feed.FedByItems.{IsFedBy, end_items}
use Rattle.sb_engines.specs.feeds.one_feed.Feeds.{AreRowsSoFar, Fed, IsFrom, records_of_feed, floor_in}
use Rattle.sb_engines.specs.feeds.one_feed.GiveCauses.{GiveCause}
use Rattle.sb_engines.specs.feeds.one_feed.Gives.{GivesOut}
use Rattle.sb_engines.specs.feeds.one_feed.TapLists.{LeavesThoseThatStay, StopsIn}
use Rattle.sb_engines.proofs.feeds.one_feed.FirstRows.{rows_same}
use Rattle.sb_engines.proofs.feeds.one_feed.GivesInTurn.{AddsUp, gives_both, wrote_part}
use Rattle.sb_engines.proofs.feeds.one_feed.RowsApart.{apart_so_far}
use Rattle.sb_engines.proofs.feeds.one_feed.LaterItems.{from_later}
use Rattle.sb_engines.specs.feeds.declared.fed.Fed.{Fed as AValue}
use Rattle.sb_engines.specs.feeds.Fed.{values_of_accepted, has_stop, stop_from}
use Rattle.sb_engines.specs.feeds.declared.limits.TheConstants.{MAX_FILE_LENGTH}
use Rattle.sb_run.specs.declared.files.inlets.FilesStop.{FilesStop}
use Rattle.sb_run.specs.declared.files.inlets.FilesStop.TheVariants as files_at
use Rattle.sb_engines.specs.alone.declared.two_end.TwoEnd.TheVariants as two
use Rattle.sb_engines.specs.alone.declared.sizes.Sizes.{Sizes}
use Rattle.sb_engines.specs.Feeders.{ComesBack, HasFed}
use Rattle.sb_engines.specs.feeds.Files.{IsFirstRefused, NoneRefused, accepted_of_file, items_of_file, items_of_files, stream_alone}
use Rattle.sb_run.specs.FilesEnding.{early_by, end_by}
use Rattle.sb_run.specs.FilesFed.{FeedsFiles, FeedsPart, FeedsValues}
use Rattle.sb_run.specs.Pops.{AreMerged, as_stop, files_stop, files_stop_if, stop_among, items_taken}
use Rattle.sb_engines.specs.alone.Rested.{IsRested}
use Rattle.sb_engines.specs.alone.RunEnds.{IsDoneHand, OutputCause}
use Rattle.sb_run.specs.TwoEnds.{FilesEndAt, FilesEndEarly, TwoEnds, as_run}
use Rattle.sb_engines.proofs.alone.AtTheEnd.{IsQuiet}
use Rattle.sb_engines.proofs.alone.Ended.{done_hand, due_all, due_low}
use Rattle.sb_run.proofs.FileItems.{IsTakenOf, file_quiet, no_records, taken_of_file, told_mark, told_says}
use Rattle.sb_run.proofs.FilesSoFar.{both_stopped, files_stopped, files_without}
use Rattle.sb_engines.proofs.alone.SoFar.{rested_so_far}
use Rattle.sb_run.proofs.TakenItems.{SaysNothing}

-- ---- a comment says nothing
skip_calls : (s : Stream) → call_in s item.Skip ≡ []
skip_calls A = refl
skip_calls B = refl

skip_marks : (s : Stream) → watermark_in s item.Skip ≡ []
skip_marks A = refl
skip_marks B = refl

skip_records : (s : Stream) → record_in s item.Skip ≡ []
skip_records A = refl
skip_records B = refl

-- ---- both files
module _ (plan : Shape) (files : Stream → List ℕ) where
  -- what one file says to a stream is what its own says
  one_of_both : {X : Type 0} (g : Stream → Item → List X) → ((t : Stream) (i : Item) → SaysNothing t i → g t i ≡ []) → (s : Stream)
      → flat_map (g s) (items_of_files plan files) ≡ flat_map (g s) (items_of_file plan s (files s))
  one_of_both g nothing A =
      flat_map-append (g A) (items_of_file plan A (files A)) (items_of_file plan B (files B))
      ∙ ap (λ l. flat_map (g A) (items_of_file plan A (files A)) ++ l) (file_quiet plan B (files B) (g A) A (nothing A) refl)
      ∙ append-nil (flat_map (g A) (items_of_file plan A (files A)))
  one_of_both g nothing B =
      flat_map-append (g B) (items_of_file plan A (files A)) (items_of_file plan B (files B))
      ∙ ap (λ l. l ++ flat_map (g B) (items_of_file plan B (files B))) (file_quiet plan A (files A) (g B) B (nothing B) refl)

  both_calls : (s : Stream) → calls_of s (items_of_files plan files) ≡ calls_of s (items_of_file plan s (files s))
  both_calls = one_of_both call_in (λ t i n. n.no_call)

  both_records : (s : Stream) → records_of s (items_of_files plan files) ≡ records_of s (items_of_file plan s (files s))
  both_records = one_of_both record_in (λ t i n. n.no_record)

  not_used : (s : Stream) → uses (streams_of plan) s ≡ false → uses (stream_alone s (streams_of plan)) s ≡ false
  not_used A unused = unused
  not_used B unused = unused

  -- ---- the stop of both
  none_refused : (a b : Option Refusal) → files_at.End ≡ files_stop (stop_from a) (stop_from b) → (a ≡ None) × (b ≡ None)
  none_refused None None e = (refl, refl)
  none_refused None (Some r) e = absurd (cc e)
  none_refused (Some r) b e = absurd (cc e)

  refused_of : (a b : Option Refusal) (s : Stream) (r : Refusal) → files_at.Refused s r ≡ files_stop (stop_from a) (stop_from b)
      → (accepted_of_file plan A (files A)).refused ≡ a → (accepted_of_file plan B (files B)).refused ≡ b → IsFirstRefused plan files s r
  refused_of None None s r e of_a of_b = absurd (cc e)
  refused_of (Some x) b A r e of_a of_b = let same : x ≡ r = cc e in of_a ∙ ap Some same
  refused_of (Some x) b B r e of_a of_b = absurd (cc e)
  refused_of None (Some x) A r e of_a of_b = absurd (cc e)
  refused_of None (Some x) B r e of_a of_b = let same : x ≡ r = cc e in (of_a, of_b ∙ ap Some same)

  -- ---- feeding failed
  module _ (short : (s : Stream) → length (files s) ≤ MAX_FILE_LENGTH) (values : Stream → List AValue) (fed : (s : Stream) → IsPrefix (values s) (values_of_accepted (accepted_of_file plan s (files s)))) where
    shorter : (popped later : List AValue) (s : Stream) → values s ≡ popped ++ later → IsPrefix popped (values_of_accepted (accepted_of_file plan s (files s)))
    shorter popped later s are = let (more, e) = fed s in (later ++ more, sym (append_assoc popped later more) ∙ ap (λ l. l ++ more) (sym are) ∙ e)

    module _ {O : Type 0} (after part : O → List Record → O → Type 0) (o p : O) (taps taps' : List TapState) (dropped dropped' : Stream → List Dropped) (why : GiveStop) (e : FeedsPart plan values after part o p taps taps' dropped dropped' why) where
      of : (s : Stream) → IsTakenOf plan s (files s) (e.popped s)
      of s = taken_of_file plan s (files s) (short s) (e.popped s) (shorter (e.popped s) (e.later s) s (e.are s))

      abbrev coming : Stream → List Record
      coming s = e.covers.rest s ++ records_of s (of s).back

      back_from : (s : Stream) → AllByRecursion (IsFrom (floor_in e.f s)) (records_of s (of s).back)
      back_from s = by_floor (e.covers.floors s)
        where
          by_floor : (floor_in e.f s ≤ last_watermark s (items_taken (streams_of plan) s (e.popped s))) ⊎ (has_stop (e.popped s) ≡ true) → AllByRecursion (IsFrom (floor_in e.f s)) (records_of s (of s).back)
          by_floor (inl low) =
              from_later (floor_in e.f s) (last_watermark s (of s).front) (records_of s (of s).back)
              (subst (λ m. floor_in e.f s ≤ m) (ap (last_watermark s) (of s).taken_are ∙ told_mark s (of s).front) low) (of s).coming
          by_floor (inr stopped) = subst (λ l. AllByRecursion (IsFrom (floor_in e.f s)) (records_of s l)) (sym ((of s).whole stopped)) (no_records (IsFrom (floor_in e.f s)) s)

      all_of : (s : Stream) → records_of_feed e.f s ++ coming s ≡ records_of s (items_of_files plan files)
      all_of s =
          sym (append_assoc (records_of_feed e.f s) (e.covers.rest s) (records_of s (of s).back))
          ∙ ap (λ l. l ++ records_of s (of s).back) (e.covers.are s ∙ ap (records_of s) (of s).taken_are ∙ told_says (record_in s) (skip_records s) (of s).front)
          ∙ sym (flat_map-append (record_in s) (of s).front (of s).back) ∙ ap (records_of s) (sym (of s).are) ∙ sym (both_records s)

      first_rows : AreFirstRows plan (items_of_files plan files) e.rows
      first_rows =
          let all = streams_in (items_of_files plan files) in
          let these : e.rows ≡ result.rows_below e.so_far.mark plan all = e.so_far.are coming (λ s. All-join (IsFrom (floor_in e.f s)) (e.covers.rest s) (records_of s (of s).back) (e.covers.coming s) (back_from s))
          ∙ rows_same e.so_far.mark plan (λ s. records_of_feed e.f s ++ coming s) all all_of in
          let more = sorted_records (at_least e.so_far.mark (before END_MARK (output_of plan all))) in
          record { rest = more; are = sorted_before-front e.so_far.mark END_MARK (output_of plan all) e.so_far.bound ∙ ap (λ l. l ++ more) (sym these) }

      first_late : (s : Stream) → AreFirstDropped (items_of_file plan s (files s)) (e.late s)
      first_late s = record {
        rest = (e.first_late s).rest ++ dropped_of (of s).back;
        are =
            ap dropped_of (of s).are ∙ flat_map-append dropped_in (of s).front (of s).back
            ∙ ap (λ l. l ++ dropped_of (of s).back) (sym (told_says dropped_in refl (of s).front) ∙ ap dropped_of (sym (of s).taken_are) ∙ (e.first_late s).are)
            ∙ append_assoc (e.late s) (e.first_late s).rest (dropped_of (of s).back);
      }

      early : (Wrote : O → List Record → O → Type 0) → Wrote o e.rows p → (Offered : List Record → Type 0) → Offered e.rows → FilesEndEarly plan files Wrote o p Offered dropped dropped'
      early Wrote wrote Offered is = record { rows = e.rows; first = first_rows; wrote = wrote; offered = is; late = e.late; first_late = first_late; listed = e.listed }

    module _ {O : Type 0} (after part : O → List Record → O → Type 0) (sizes : Sizes) (o p : O) (taps taps' : List TapState) (dropped dropped' : Stream → List Dropped) where
      pub files_early : (why : GiveStop) → FeedsPart plan values after part o p taps taps' dropped dropped' why → TwoEnds plan sizes files after part o p taps taps' dropped dropped' (early_by why)
      files_early give.Output e = early after part o p taps taps' dropped dropped' give.Output e part e.wrote (λ rows. ⊤) tt
      files_early (give.Tap place) e = early after part o p taps taps' dropped dropped' (give.Tap place) e after e.wrote (λ rows. StopsIn rows place taps taps') e.at
      files_early give.Memory e = early after part o p taps taps' dropped dropped' give.Memory e part e.wrote (λ rows. ⊤) tt

      -- there was no memory for one of the workers, whatever the feeder met
      pub files_memory : (laws : AddsUp after part) (size : ℕ) (stands : Fed → List Record → Type 0) → ((f : Fed) (rows : List Record) → stands f rows → AreRowsSoFar plan f rows)
          → (result : Result FilesStop GiveStop) → FeedsValues plan size values stands after part o p taps taps' dropped dropped' result → TwoEnds plan sizes files after part o p taps taps' dropped dropped' two.Memory
      files_memory laws size stands so (Ok stop) e =
          let w = files_without after part laws plan size values stands o p taps taps' dropped dropped' stop e so in
          early after part o p taps taps' dropped dropped' give.Memory w part w.wrote (λ rows. ⊤) tt
      files_memory laws size stands so (Err why) e = early after part o p taps taps' dropped dropped' why e part (wrote_part after part laws why o p e.rows e.wrote) (λ rows. ⊤) tt

    -- ---- all was fed, up to the stop of each
    module _ (items : List Item) (merged : AreMerged items (λ s. items_taken (streams_of plan) s (values s))) (stop : FilesStop) (stopped : files_stop_if (stop_among (values A)) (stop_among (values B)) ≡ Some stop) where
      whole_of : (s : Stream) → IsTakenOf plan s (files s) (values s)
      whole_of s = taken_of_file plan s (files s) (short s) (values s) (fed s)

      says_all : {X : Type 0} (g : Item → List X) → g item.Skip ≡ [] → (s : Stream) → flat_map g (items_taken (streams_of plan) s (values s)) ≡ flat_map g (items_of_file plan s (files s))
      says_all g none s =
          ap (flat_map g) (whole_of s).taken_are ∙ told_says g none (whole_of s).front
          ∙ ap (flat_map g) (sym ((whole_of s).are ∙ ap (λ l. (whole_of s).front ++ l) ((whole_of s).whole (both_stopped values stop stopped s)) ∙ append-nil (whole_of s).front))

      pub same_calls : (s : Stream) → calls_of s items ≡ calls_of s (items_of_files plan files)
      same_calls s = merged.calls s ∙ says_all (call_in s) (skip_calls s) s ∙ sym (both_calls s)

      pub same_marks : (s : Stream) → flat_map (watermark_in s) items ≡ flat_map (watermark_in s) (items_of_files plan files)
      same_marks s = merged.marks s ∙ says_all (watermark_in s) (skip_marks s) s ∙ sym (one_of_both watermark_in (λ t i n. n.no_mark) s)

      pub same_records : (s : Stream) → records_of s items ≡ records_of s (items_of_files plan files)
      same_records s = merged.records s ∙ says_all (record_in s) (skip_records s) s ∙ sym (both_records s)

      pub same_dropped : (s : Stream) → dropped_of (items_taken (streams_of plan) s (values s)) ≡ dropped_of (items_of_file plan s (files s))
      same_dropped s = says_all dropped_in refl s

      pub items_quiet : IsQuiet plan items
      items_quiet s unused = merged.calls s ∙ says_all (call_in s) (skip_calls s) s ∙ file_quiet plan s (files s) (call_in s) s (λ i n. n.no_call) (not_used s unused)

      pub stop_is : stop ≡ files_stop (stop_from (accepted_of_file plan A (files A)).refused) (stop_from (accepted_of_file plan B (files B)).refused)
      stop_is = cc (sym stopped ∙ (λ i. files_stop_if ((whole_of A).stop (both_stopped values stop stopped A) i) ((whole_of B).stop (both_stopped values stop stopped B) i)))

-- ---- the hand came back, all of it worked off
module _ {O : Type 0} (h : HandView) (files : Stream → List ℕ) (short : (s : Stream) → length (files s) ≤ MAX_FILE_LENGTH) (values : Stream → List AValue)
    (fed : (s : Stream) → IsPrefix (values s) (values_of_accepted (accepted_of_file h.plan s (files s)))) (sizes : Sizes) (size : ℕ) (stands : Fed → List Record → Type 0)
    (after part : O → List Record → O → Type 0) (laws : AddsUp after part) (o p q : O) (taps taps1 taps2 : List TapState) (dropped dropped' : Stream → List Dropped) (stop : FilesStop)
    (e : FeedsFiles h.plan size values stands after o p taps taps1 dropped dropped' stop) (back : GivesOut (IsRested h e.f) after p q taps1 taps2 e.gives.rows)
    (so : (f : Fed) (rows : List Record) → stands f rows → AreRowsSoFar h.plan f rows) where
  abbrev out : GivesOut (IsRested h e.f) after o q taps taps2 []
  out = gives_both after part laws (stands e.f) (IsRested h e.f) o p q taps taps1 taps2 [] e.gives back (apart_so_far h.plan e.f [] e.gives.rows back.rows (so e.f e.gives.rows e.gives.stand) (rested_so_far h e.f _ back.stand))

  abbrev both : List Item
  both = items_of_files h.plan files

  both_are : (s : Stream) → records_of s e.items ≡ records_of s both
  both_are = same_records h.plan files short values fed e.items e.merged stop e.stopped

  -- the rows that came out are those that are due
  end_at : (at : Stop) → out.rows ≡ due_rows h.plan at both → FilesEndAt at h.plan files after o q taps taps2 dropped dropped'
  end_at at due = record {
    wrote = subst (λ l. after o l q) due out.wrote;
    offered = subst (λ l. LeavesThoseThatStay l taps taps2) due out.offered;
    listed = λ s. e.listed s ∙ ap (λ l. dropped s ++ l) (same_dropped h.plan files short values fed e.items e.merged stop e.stopped s);
  }

  due_end : end_items (streams_of h.plan) (as_stop stop) ≡ end_items (streams_of h.plan) at.End → out.rows ≡ rows_below END_MARK h.plan both
  due_end ends =
      due_all h size e.items e.f e.cutters out.rows out.stand (subst (λ l. IsFedBy size l e.f e.cutters) (ap (λ l. e.items ++ l) ends) e.fed) (items_quiet h.plan files short values fed e.items e.merged stop e.stopped)
      ∙ rows_same END_MARK h.plan (streams_in e.items) (streams_in both) both_are

  due_before : end_items (streams_of h.plan) (as_stop stop) ≡ [] → out.rows ≡ rows_below (low_watermark (streams_of h.plan) both) h.plan both
  due_before none =
      let marks = same_marks h.plan files short values fed e.items e.merged stop e.stopped in
      due_low h size e.items e.f e.cutters out.rows out.stand (subst (λ l. IsFedBy size l e.f e.cutters) (ap (λ l. e.items ++ l) none ∙ append-nil e.items) e.fed)
      ∙ (λ i. rows_below (least_of (streams_of h.plan) (last_or 0 (marks A i)) (last_or 0 (marks B i))) h.plan e.items)
      ∙ rows_same (low_watermark (streams_of h.plan) both) h.plan (streams_in e.items) (streams_in both) both_are

  done_two : h.bundle ≡ sizes.bundle → sizes.bundle ≡ size → settings_of h.nodes ≡ settings_at sizes.keeps_diaries sizes.pending h.plan
      → end_items (streams_of h.plan) (as_stop stop) ≡ end_items (streams_of h.plan) at.End → IsDoneHand h.plan sizes both h
  done_two bundle same settings ends =
      let d = done_hand h size e.items e.f e.cutters out.rows out.stand (subst (λ l. IsFedBy size l e.f e.cutters) (ap (λ l. e.items ++ l) ends) e.fed)
      (items_quiet h.plan files short values fed e.items e.merged stop e.stopped) sizes bundle same settings in
      let calls = same_calls h.plan files short values fed e.items e.merged stop e.stopped in
      record {
        plan_is = d.plan_is;
        unspent = d.unspent;
        none_left = d.none_left;
        legal = d.legal;
        settled = d.settled;
        tallies = subst (λ k. Tallies h.plan sizes.bundle k (diaries_of h.nodes)) (λ i s. calls s i) d.tallies;
        settings = d.settings;
      }

  files_done : h.bundle ≡ sizes.bundle → sizes.bundle ≡ size → settings_of h.nodes ≡ settings_at sizes.keeps_diaries sizes.pending h.plan
      → (by : FilesStop) → stop ≡ by → by ≡ files_stop (stop_from (accepted_of_file h.plan A (files A)).refused) (stop_from (accepted_of_file h.plan B (files B)).refused)
      → TwoEnds h.plan sizes files after part o q taps taps2 dropped dropped' (end_by h by)
  files_done bundle same settings files_at.End is by =
      let (none_a, none_b) = none_refused h.plan files (accepted_of_file h.plan A (files A)).refused (accepted_of_file h.plan B (files B)).refused by in
      let ends = ap (λ x. end_items (streams_of h.plan) (as_stop x)) is in
      (none_of none_a none_b, end_at at.End (due_end ends), done_two bundle same settings ends)
    where
      none_of : (accepted_of_file h.plan A (files A)).refused ≡ None → (accepted_of_file h.plan B (files B)).refused ≡ None → NoneRefused h.plan files
      none_of a b A = a
      none_of a b B = b
  files_done bundle same settings (files_at.Refused s r) is by = (
    refused_of h.plan files (accepted_of_file h.plan A (files A)).refused (accepted_of_file h.plan B (files B)).refused s r by refl refl,
    end_at (at.Refused r) (due_before (ap (λ x. end_items (streams_of h.plan) (as_stop x)) is)),
  )

  pub files_here : h.bundle ≡ sizes.bundle → sizes.bundle ≡ size → settings_of h.nodes ≡ settings_at sizes.keeps_diaries sizes.pending h.plan → TwoEnds h.plan sizes files after part o q taps taps2 dropped dropped' (end_by h stop)
  files_here bundle same settings = files_done bundle same settings stop refl (stop_is h.plan files short values fed e.items e.merged stop e.stopped)

-- ---- over a shared cascade
module _ {O : Type 0} (after part : O → List Record → O → Type 0) (laws : AddsUp after part) (plan : Shape) (sizes : Sizes) (c : Cascade) (pass : CascadePass)
    (shared : IsShared plan sizes.bundle sizes.pending sizes.keeps_diaries (setting_of c)) (files : Stream → List ℕ) (short : (s : Stream) → length (files s) ≤ MAX_FILE_LENGTH) (values : Stream → List AValue)
    (fed : (s : Stream) → IsPrefix (values s) (values_of_accepted (accepted_of_file plan s (files s)))) (o p : O) (taps taps1 : List TapState) (dropped dropped' : Stream → List Dropped) where
  -- feeding stopped early
  pub two_early : (why : GiveStop) → FeedsPart (plan_of c) values after part o p taps taps1 dropped dropped' why → TwoEnds plan sizes files after part o p taps taps1 dropped dropped' (early_by why)
  two_early why e =
      files_early plan files short values fed after part sizes o p taps taps1 dropped dropped' why (subst (λ u. FeedsPart u values after part o p taps taps1 dropped dropped' why) shared.plan_is e)

  -- a worker found no memory
  pub two_memory : (result : Result FilesStop GiveStop) → FeedsValues (plan_of c) (setting_of c).bundle values (HasFed c pass) after part o p taps taps1 dropped dropped' result
      → TwoEnds plan sizes files after part o p taps taps1 dropped dropped' two.Memory
  two_memory result e =
      files_memory plan files short values fed after part sizes o p taps taps1 dropped dropped' laws (setting_of c).bundle (HasFed c pass) (λ f rows h. subst (λ u. AreRowsSoFar u f rows) shared.plan_is h.so_far) result
      (subst (λ u. FeedsValues u (setting_of c).bundle values (HasFed c pass) after part o p taps taps1 dropped dropped' result) shared.plan_is e)

  module _ (q : O) (taps2 : List TapState) (stop : FilesStop) (e : FeedsFiles (plan_of c) (setting_of c).bundle values (HasFed c pass) after o p taps taps1 dropped dropped' stop) where
    -- the hand came back
    pub two_done : (h : HandView) → ((f : Fed) (rows : List Record) → HasFed c pass f rows → ComesBack c after part p q taps1 taps2 f rows (Ok h)) → TwoEnds plan sizes files after part o q taps taps2 dropped dropped' (end_by h stop)
    two_done h comes =
        let (back, gives) = comes e.f e.gives.rows e.gives.stand in
        subst (λ u. TwoEnds u sizes files after part o q taps taps2 dropped dropped' (end_by h stop)) shared.plan_is
        (subst (λ u. ((s : Stream) → IsPrefix (values s) (values_of_accepted (accepted_of_file u s (files s)))) → settings_of h.nodes ≡ settings_at sizes.keeps_diaries sizes.pending u
        → (x : FeedsFiles u (setting_of c).bundle values (HasFed c pass) after o p taps taps1 dropped dropped' stop) → GivesOut (IsRested h x.f) after p q taps1 taps2 x.gives.rows
        → ((f : Fed) (rows : List Record) → HasFed c pass f rows → AreRowsSoFar u f rows) → TwoEnds u sizes files after part o q taps taps2 dropped dropped' (end_by h stop)) back.plan
        (λ read settings x came so. files_here h files short values read sizes (setting_of c).bundle (HasFed c pass) after part laws o p q taps taps1 taps2 dropped dropped' stop x came so
        (back.bundle ∙ shared.bundle_is) (sym shared.bundle_is) settings)
        (λ s. subst (λ u. IsPrefix (values s) (values_of_accepted (accepted_of_file u s (files s)))) (sym shared.plan_is) (fed s))
        (back.settings ∙ (λ i. settings_at (shared.keeps_is i) (shared.pending_is i) (plan_of c)))
        e gives (λ f rows x. x.so_far))

    -- not all rows came out
    pub two_stopped : (why : GiveStop) → ((f : Fed) (rows : List Record) → HasFed c pass f rows → ComesBack c after part p q taps1 taps2 f rows (Err why)) → TwoEnds plan sizes files after part o q taps taps2 dropped dropped' (early_by why)
    two_stopped why comes =
        files_early plan files short values fed after part sizes o q taps taps2 dropped dropped' why
        (subst (λ u. FeedsPart u values after part o q taps taps2 dropped dropped' why) shared.plan_is
        (files_stopped after part laws (plan_of c) (setting_of c).bundle values (HasFed c pass) o p taps taps1 dropped dropped' stop e (λ f rows x. x.so_far) q taps2 why (comes e.f e.gives.rows e.gives.stand)))

-- something was fed
pub something_fed : {O : Type 0} (after : O → List Record → O → Type 0) (plan : Shape) (size : ℕ) (values : Stream → List AValue) (stands : Fed → List Record → Type 0)
    (o p : O) (taps taps' : List TapState) (dropped dropped' : Stream → List Dropped) (stop : FilesStop) → FeedsFiles plan size values stands after o p taps taps' dropped dropped' stop
    → (f : Fed) × (rows : List Record) × stands f rows
something_fed after plan size values stands o p taps taps' dropped dropped' stop e = (e.f, e.gives.rows, e.gives.stand)

-- ---- a run that did not begin
pub two_none : {O : Type 0} (after part : O → List Record → O → Type 0) (laws : AddsUp after part) (plan : Shape) (sizes : Sizes) (files : Stream → List ℕ) (o : O) (taps : List TapState) (dropped : Stream → List Dropped)
    → TwoEnds plan sizes files after part o o taps taps dropped dropped two.Memory
two_none after part laws plan sizes files o taps dropped = record {
  rows = [];
  first = record { rest = rows_below END_MARK plan (items_of_files plan files); are = refl };
  wrote = laws.part_of_all o o [] [] (laws.after_none o);
  offered = tt;
  late = λ s. [];
  first_late = λ s. record { rest = dropped_of (items_of_file plan s (files s)); are = refl };
  listed = λ s. sym (append-nil (dropped s));
}

-- ---- the causes
pub two_early_cause : {T : Type 0} (before now : SinkState) (why : GiveStop) → GiveCause {T = T} before now (Err why) → OutputCause before now (as_run (early_by why))
two_early_cause before now give.Output cause = record { never_falls = cause.never_falls; never_short = cause.never_short; keeps_refusing = cause.keeps_refusing; failed = λ e. cause.failed refl; passed = λ w. absurd w }
two_early_cause before now (give.Tap place) cause = record { never_falls = cause.never_falls; never_short = cause.never_short; keeps_refusing = cause.keeps_refusing; failed = λ e. absurd (cc e); passed = λ w. cause.passed tt }
two_early_cause before now give.Memory cause = record { never_falls = cause.never_falls; never_short = cause.never_short; keeps_refusing = cause.keeps_refusing; failed = λ e. absurd (cc e); passed = λ w. absurd w }

pub two_end_cause : {T : Type 0} (before now : SinkState) (h : HandView) (stop : FilesStop) (x : T) → GiveCause before now (Ok x) → OutputCause before now (as_run (end_by h stop))
two_end_cause before now h files_at.End x cause = record { never_falls = cause.never_falls; never_short = cause.never_short; keeps_refusing = cause.keeps_refusing; failed = λ e. absurd (cc e); passed = λ w. cause.passed tt }
two_end_cause before now h (files_at.Refused s r) x cause = record { never_falls = cause.never_falls; never_short = cause.never_short; keeps_refusing = cause.keeps_refusing; failed = λ e. absurd (cc e); passed = λ w. cause.passed tt }
