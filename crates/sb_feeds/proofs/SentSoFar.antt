-- How far the sending of an input has come.
use Rattle.std.proofs.Common.{◌≡◌, ◌≤◌, ◌<◌, ◌+◌, ℕ, true, false, List, [], ◌∷◌, ◌++◌, Option, Some, None, inl, inr, refl, sym, ap, subst, ◌∙◌, arith, append-nil, append_assoc}
use Rattle.std.specs.Prelude.{◌⊎◌, IfSome, if◌then◌else◌}
use Rattle.std.proofs.lemmas.List.Concat.{flat_map-append}
use Rattle.std.specs.Io.KnownBytes.{Consumes}
use Rattle.sb_feed.specs.base.records.declared.intake.Stop.{Stop}
use Rattle.sb_feed.specs.base.records.declared.intake.Stop.TheVariants.{End, Refused, Fault}
use Rattle.sb_feed.specs.base.records.declared.intake.TheConstants.{MAX_LINES}
use Rattle.sb_feed.specs.base.records.declared.item.Dropped.{Dropped}
use Rattle.sb_feed.specs.base.records.declared.item.Item.{Item}
use Rattle.sb_feed.specs.base.records.declared.item.Item.TheVariants as item
use Rattle.sb_feed.specs.base.records.declared.item.Record.{Record}
use Rattle.sb_feed.specs.base.records.declared.item.Stream.{Stream}
use Rattle.sb_feed.specs.base.records.declared.item.Stream.TheVariants.{A, B}
use Rattle.sb_feed.specs.base.records.declared.item.TheConstants.{END_MARK}
use Rattle.sb_feed.specs.base.records.Intake.{answer_to, first_progress}
use Rattle.sb_feed.specs.base.records.Progress.{Progress}
use Rattle.sb_feed.specs.base.records.Streams.{dropped_in, dropped_of, last_or, last_watermark, uses, watermark_in}
use Rattle.sb_feed.specs.base.bundle.declared.bundle.Bundle.{Bundle}
use Rattle.sb_feed.specs.base.bundle.Bundles.{IsBundleOf}
use Rattle.sb_feed.specs.base.bundle.Cuts.{after_mark, after_record, given_at_mark, given_with}
use Rattle.sb_feed.specs.base.pipeline.Shapes.{Shape, streams_of}
use Rattle.sb_feed.specs.outside.Comments.{comment_lines}
use Rattle.sb_feed.specs.outside.Readings.{Held, reading}
use Rattle.sb_feed.specs.outside.Sources.{Rose}
use Rattle.sb_feed.specs.declared.cutters.Cutters.{Cutters}
use Rattle.sb_feed.specs.Calls.{call_in}
use Rattle.sb_feed.specs.Due.{AreFirstDropped, AreFirstRows, streams_in}
use Rattle.sb_feed.specs.FedByItems.{Covers, IsFedBy, IsTimely, cutter_of, end_item, end_items, new_cutters, with_cutter}
use Rattle.sb_feed.specs.Feeds.{AreRowsSoFar, Fed, MayArrive, MaySeal, nothing_fed, with_bundle, with_mark}
use Rattle.sb_feed.specs.Given.{items_of}
use Rattle.sb_feed.specs.Reads.{FaultCause, StopsReading, TakesItem}
use Rattle.sb_feed.specs.Takes.{MayEnd, MayTake}
use Rattle.sb_feed.proofs.CommentsInFront.{fed_comments, no_watermark, none_dropped, read_comments, said_by_skips, skips}
use Rattle.sb_feed.proofs.FedSoFar.{dropped_more, given_so_far}
use Rattle.sb_feed.proofs.FirstRows.{fed_covers, rows_are_first, rows_same}
use Rattle.sb_feed.proofs.InputEnds.{end_covered, end_within, few_with_end, same_records}
use Rattle.sb_feed.proofs.ItemSteps.{fed_full, fed_held, fed_last, fed_mark, fed_quiet, full_arrives, last_arrives, may_seal, may_seal_then}
use Rattle.sb_feed.proofs.ItemTakes.{from_floor, with_one}
use Rattle.sb_feed.proofs.LaterItems.{GoesOnTo, mark_within, no_more, tested_is_timely}
use Rattle.sb_feed.proofs.ReadSoFar.{ReadSoFar, read_more, reading_stops}
use Rattle.sb_feeds.specs.declared.input.fed.InputFed.{InputFed}
use Rattle.sb_feeds.specs.declared.input.fed.InputFed.TheVariants as fed
use Rattle.sb_feeds.specs.declared.input.sending.Sending.{Sending}
use Rattle.sb_feeds.specs.declared.input.sending.Sending.TheVariants.{Done, NoMemory, Over}
use Rattle.sb_feeds.specs.InputEnds.{begun_values}
use Rattle.sb_feeds.specs.InputFed.{IsReadOf, MayAllCome, MayCome, MayFollow, fed_after, fed_by, fed_with}
use Rattle.sb_feeds.specs.InputSends.{AreSent, AreSentInPart, AreSentTo, EndsSending, HasSent, IsSentAs, Sends}
use Rattle.sb_feeds.proofs.InputValues.{IsNoStop, fed_in_turn, fed_then, follows, may_all_then, may_rest_come, none_then, so_far_after}

module _ (plan : Shape) (size : ℕ) where
  -- ---- one value
  module _ (values : List InputFed) (f : Fed) (h : IsSentAs plan size values f) (v : InputFed) (may : MayCome plan size f v) where
    here : MayCome plan size (fed_by h.sent) v
    here = subst (λ g. MayCome plan size g v) (sym h.fed) may

    -- it may be sent
    pub may_follow_sent : MayFollow values v
    may_follow_sent = follows plan size values h.sent h.are v here

    -- it was
    pub sent_more : (values' : List InputFed) → IsNoStop v → values' ≡ values ++ v ∷ [] → IsSentAs plan size values' (fed_with v f)
    sent_more values' one more = record {
      sent = h.sent ++ v ∷ [];
      are = more ∙ ap (λ l. l ++ v ∷ []) h.are;
      may = may_all_then plan size h.sent v nothing_fed h.may here;
      fed = fed_then h.sent v nothing_fed ∙ ap (fed_with v) h.fed;
      unstopped = none_then h.sent v h.unstopped one;
    }

  -- or it was not
  pub sent_still : (values values' : List InputFed) (f : Fed) → values' ≡ values → IsSentAs plan size values f → IsSentAs plan size values' f
  sent_still values values' f same h = subst (λ l. IsSentAs plan size l f) (sym same) h

  -- all was sent, or all but these last values
  abbrev all_sent : (items : List Item) (values : List InputFed) (c : Cutters) → AreSent plan size items values c → AreSentInPart plan size items values
  all_sent items values c s = record { f = s.f; sent = s.sent; unsent = []; may = tt; covers = fed_covers size items s.f c s.fed }

  -- where all was sent, or not all
  pub sends_by : (items : List Item) (values : List InputFed) (c : Cutters) (result : Sending) → (result ≡ Done → AreSent plan size items values c) → ((result ≡ Done → ⊥) → AreSentInPart plan size items values) → Sends plan size items values c result
  sends_by items values c Done all part = all refl
  sends_by items values c Over all part = part (λ e. cc e)
  sends_by items values c NoMemory all part = part (λ e. cc e)

  -- ---- a record
  module _ (s : Stream) (r : Record) (c : Cutters) (values : List InputFed) (items : List Item) (f : Fed) (rows : List Record) (may : MayTake (HasSent plan size values) plan size c (item.Rec s r) items f rows) where
    module _ (g : Option Bundle) (b : Bundle) (some : g ≡ Some b) (given : g ≡ given_with r (cutter_of c s)) (sound : IfSome g (IsBundleOf (cutter_of c s))) where
      full : given_with r (cutter_of c s) ≡ Some b
      full = sym given ∙ some

      pub full_may_come : MayArrive plan size f s b
      full_may_come = full_arrives plan size items s r b f c may.fed may.timely.0 may.few (from_floor plan size items f c s r may.fed may.timely) full (subst (λ q. IfSome q (IsBundleOf (cutter_of c s))) some sound)

      fed_then_full : IsFedBy size (items ++ item.Rec s r ∷ []) (with_bundle s b f) (with_cutter s (after_record r (cutter_of c s)) c)
      fed_then_full = fed_full size items s r b f c may.fed (from_floor plan size items f c s r may.fed may.timely) full

      -- the bundle that it fills was sent
      pub full_sent : (d : Cutters) (values' : List InputFed) → d ≡ with_cutter s (after_record r (cutter_of c s)) c → values' ≡ values ++ fed.Bundle s b ∷ [] → AreSent plan size (items ++ item.Rec s r ∷ []) values' d
      full_sent d values' cut more = record {
        f = with_bundle s b f;
        sent = sent_more values f may.stand.0 (fed.Bundle s b) full_may_come values' refl more;
        fed = subst (IsFedBy size (items ++ item.Rec s r ∷ []) (with_bundle s b f)) (sym cut) fed_then_full;
      }

      -- or not
      pub full_unsent : (values' : List InputFed) → values' ≡ values → AreSentInPart plan size (items ++ item.Rec s r ∷ []) values'
      full_unsent values' same = record {
        f = f;
        sent = sent_still values values' f same may.stand.0;
        unsent = fed.Bundle s b ∷ [];
        may = (full_may_come, tt);
        covers = fed_covers size (items ++ item.Rec s r ∷ []) (with_bundle s b f) (with_cutter s (after_record r (cutter_of c s)) c) fed_then_full;
      }

    -- it is held
    pub held_sent : (d : Cutters) (g : Option Bundle) → g ≡ None → g ≡ given_with r (cutter_of c s) → d ≡ with_cutter s (after_record r (cutter_of c s)) c → AreSent plan size (items ++ item.Rec s r ∷ []) values d
    held_sent d g none given cut = record {
      f = f;
      sent = may.stand.0;
      fed = subst (IsFedBy size (items ++ item.Rec s r ∷ []) f) (sym cut) (fed_held size items s r f c may.fed (from_floor plan size items f c s r may.fed may.timely) (sym given ∙ none));
    }

    -- it found no memory
    pub lost_sent : AreSentInPart plan size (items ++ item.Rec s r ∷ []) values
    lost_sent = record { f = f; sent = may.stand.0; unsent = []; may = tt; covers = with_one plan items s r f (fed_covers size items f c may.fed) may.timely }

  -- ---- a watermark
  module _ (s : Stream) (t : ℕ) (c : Cutters) (values : List InputFed) (items : List Item) (f : Fed) (rows : List Record) (may : MayTake (HasSent plan size values) plan size c (item.Mark s t) items f rows) where
    -- behind the last bundle of its epoch
    module _ (g : Option Bundle) (b : Bundle) (some : g ≡ Some b) (given : g ≡ given_at_mark (cutter_of c s)) (sound : IfSome g (IsBundleOf (cutter_of c s))) where
      last : given_at_mark (cutter_of c s) ≡ Some b
      last = sym given ∙ some

      pub last_may_come : MayArrive plan size f s b
      last_may_come = last_arrives plan size items s b f c may.fed may.timely.0 may.few last (subst (λ q. IfSome q (IsBundleOf (cutter_of c s))) some sound)

      pub mark_may_come_then : MaySeal plan (with_bundle s b f) s t
      mark_may_come_then = may_seal_then plan size items s t b f c may.fed may.timely.0 may.timely.1 may.timely.2

      fed_then_last : IsFedBy size (items ++ item.Mark s t ∷ []) (with_mark s t (with_bundle s b f)) (with_cutter s (after_mark t (cutter_of c s)) c)
      fed_then_last = fed_last size items s t b f c may.fed last

      -- the bundle was not sent
      pub last_unsent : (values' : List InputFed) → values' ≡ values → AreSentInPart plan size (items ++ item.Mark s t ∷ []) values'
      last_unsent values' same = record {
        f = f;
        sent = sent_still values values' f same may.stand.0;
        unsent = fed.Bundle s b ∷ fed.Mark s t ∷ [];
        may = (last_may_come, (mark_may_come_then, tt));
        covers = fed_covers size (items ++ item.Mark s t ∷ []) (with_mark s t (with_bundle s b f)) (with_cutter s (after_mark t (cutter_of c s)) c) fed_then_last;
      }

      module _ (between : List InputFed) (sent : between ≡ values ++ fed.Bundle s b ∷ []) where
        so_far_then : IsSentAs plan size between (with_bundle s b f)
        so_far_then = sent_more values f may.stand.0 (fed.Bundle s b) last_may_come between refl sent

        pub mark_follows_then : MayFollow between (fed.Mark s t)
        mark_follows_then = may_follow_sent between (with_bundle s b f) so_far_then (fed.Mark s t) mark_may_come_then

        pub mark_sent_then : (d : Cutters) (values' : List InputFed) → d ≡ with_cutter s (after_mark t (cutter_of c s)) c → values' ≡ between ++ fed.Mark s t ∷ [] → AreSent plan size (items ++ item.Mark s t ∷ []) values' d
        mark_sent_then d values' cut more = record {
          f = with_mark s t (with_bundle s b f);
          sent = sent_more between (with_bundle s b f) so_far_then (fed.Mark s t) mark_may_come_then values' refl more;
          fed = subst (IsFedBy size (items ++ item.Mark s t ∷ []) (with_mark s t (with_bundle s b f))) (sym cut) fed_then_last;
        }

        pub mark_unsent_then : (values' : List InputFed) → values' ≡ between → AreSentInPart plan size (items ++ item.Mark s t ∷ []) values'
        mark_unsent_then values' same = record {
          f = with_bundle s b f;
          sent = sent_still between values' (with_bundle s b f) same so_far_then;
          unsent = fed.Mark s t ∷ [];
          may = (mark_may_come_then, tt);
          covers = fed_covers size (items ++ item.Mark s t ∷ []) (with_mark s t (with_bundle s b f)) (with_cutter s (after_mark t (cutter_of c s)) c) fed_then_last;
        }

    -- where nothing was held
    module _ (g : Option Bundle) (none : g ≡ None) (given : g ≡ given_at_mark (cutter_of c s)) where
      pub mark_may_come : MaySeal plan f s t
      mark_may_come = may_seal plan size items s t f c may.fed may.timely.0 may.timely.1 may.timely.2

      fed_then_mark : IsFedBy size (items ++ item.Mark s t ∷ []) (with_mark s t f) (with_cutter s (after_mark t (cutter_of c s)) c)
      fed_then_mark = fed_mark size items s t f c may.fed (sym given ∙ none)

      pub mark_follows : MayFollow values (fed.Mark s t)
      mark_follows = may_follow_sent values f may.stand.0 (fed.Mark s t) mark_may_come

      pub mark_sent : (d : Cutters) (values' : List InputFed) → d ≡ with_cutter s (after_mark t (cutter_of c s)) c → values' ≡ values ++ fed.Mark s t ∷ [] → AreSent plan size (items ++ item.Mark s t ∷ []) values' d
      mark_sent d values' cut more = record {
        f = with_mark s t f;
        sent = sent_more values f may.stand.0 (fed.Mark s t) mark_may_come values' refl more;
        fed = subst (IsFedBy size (items ++ item.Mark s t ∷ []) (with_mark s t f)) (sym cut) fed_then_mark;
      }

      pub mark_unsent : (values' : List InputFed) → values' ≡ values → AreSentInPart plan size (items ++ item.Mark s t ∷ []) values'
      mark_unsent values' same = record {
        f = f;
        sent = sent_still values values' f same may.stand.0;
        unsent = fed.Mark s t ∷ [];
        may = (mark_may_come, tt);
        covers = fed_covers size (items ++ item.Mark s t ∷ []) (with_mark s t f) (with_cutter s (after_mark t (cutter_of c s)) c) fed_then_mark;
      }

  -- ---- another item
  module _ (i : Item) (c : Cutters) (values : List InputFed) (call_a : call_in A i ≡ []) (call_b : call_in B i ≡ []) (mark_a : watermark_in A i ≡ []) (mark_b : watermark_in B i ≡ [])
      (items : List Item) (f : Fed) (rows : List Record) (may : MayTake (HasSent plan size values) plan size c i items f rows) where
    pub quiet_sent : AreSent plan size (items ++ i ∷ []) values c
    quiet_sent = record { f = f; sent = may.stand.0; fed = fed_quiet size items i f c call_a call_b mark_a mark_b may.fed }

    pub quiet_lost_sent : AreSentInPart plan size (items ++ i ∷ []) values
    quiet_lost_sent = all_sent (items ++ i ∷ []) values c quiet_sent

  -- ---- the end of a stream
  module _ (c : Cutters) (values : List InputFed) (items : List Item) (f : Fed) (rows : List Record) where
    -- it is taken as a watermark, if the plan reads the stream
    pub end_may_take : (s : Stream) → uses (streams_of plan) s ≡ true → MayEnd (HasSent plan size values) size c (MAX_LINES + 2) items f rows → MayTake (HasSent plan size values) plan size c (item.Mark s END_MARK) items f rows
    end_may_take s used h = let few = h.few in record { stand = h.stand; fed = h.fed; timely = (used, h.marks s, omega arith); few = omega (arith, few); some = h.some }

  -- which is all
  pub used_end : (s : Stream) (c : Cutters) (values : List InputFed) (items : List Item) (result : Sending) → uses (streams_of plan) s ≡ true → Sends plan size (items ++ item.Mark s END_MARK ∷ []) values c result → Sends plan size (items ++ end_item (streams_of plan) s) values c result
  used_end s c values items result used sends = subst (λ u. Sends plan size (items ++ (if u then item.Mark s END_MARK ∷ [] else [])) values c result) (sym used) sends

  -- else there is nothing to send
  pub unused_end : (s : Stream) (c : Cutters) (values : List InputFed) (items : List Item) (f : Fed) (rows : List Record) → uses (streams_of plan) s ≡ false → MayEnd (HasSent plan size values) size c (MAX_LINES + 2) items f rows
      → AreSent plan size (items ++ end_item (streams_of plan) s) values c
  unused_end s c values items f rows unused may =
      subst (λ u. AreSent plan size (items ++ (if u then item.Mark s END_MARK ∷ [] else [])) values c) (sym unused)
      (record { f = f; sent = may.stand.0; fed = subst (λ l. IsFedBy size l f c) (sym (append-nil items)) may.fed })

  -- ---- the end of one stream, and then of the other
  module _ (c : Cutters) (values : List InputFed) (items : List Item) (f : Fed) (rows : List Record) (may : MayEnd (HasSent plan size values) size c (MAX_LINES + 1) items f rows) where
    pub first_may_end : MayEnd (HasSent plan size values) size c (MAX_LINES + 2) items f rows
    first_may_end = let few = may.few in record { stand = may.stand; fed = may.fed; few = omega (arith, few); marks = may.marks; some = may.some }

    whole : (items ++ end_item (streams_of plan) A) ++ end_item (streams_of plan) B ≡ items ++ end_items (streams_of plan) End
    whole = append_assoc items (end_item (streams_of plan) A) (end_item (streams_of plan) B)

    pub then_may_end : (d : Cutters) (values' : List InputFed) (s : AreSent plan size (items ++ end_item (streams_of plan) A) values' d) → MayEnd (HasSent plan size values') size d (MAX_LINES + 2) (items ++ end_item (streams_of plan) A) s.f []
    then_may_end d values' s =
        let few = may.few in
        let one = few_with_end (streams_of plan) A items in
        record { stand = (s.sent, refl); fed = s.fed; few = omega (arith, few, one); marks = end_within plan items A may.marks; some = may.some }

    pub both_sent : (e : Cutters) (values' : List InputFed) (result : Sending) → Sends plan size ((items ++ end_item (streams_of plan) A) ++ end_item (streams_of plan) B) values' e result → Sends plan size (items ++ end_items (streams_of plan) End) values' e result
    both_sent e values' result sends = subst (λ l. Sends plan size l values' e result) whole sends

    -- the first was not sent
    pub first_unsent : (values' : List InputFed) → AreSentInPart plan size (items ++ end_item (streams_of plan) A) values' → AreSentInPart plan size (items ++ end_items (streams_of plan) End) values'
    first_unsent values' s = record {
      f = s.f;
      sent = s.sent;
      unsent = s.unsent;
      may = s.may;
      covers = subst (λ l. Covers l (fed_after s.unsent s.f)) whole (end_covered plan (items ++ end_item (streams_of plan) A) B (end_within plan items A may.marks) (fed_after s.unsent s.f) s.covers);
    }

    -- reading stopped before the end
    pub none_to_send : (stop : Stop) → end_items (streams_of plan) stop ≡ [] → AreSent plan size (items ++ end_items (streams_of plan) stop) values c
    none_to_send stop none = record { f = f; sent = may.stand.0; fed = subst (λ l. IsFedBy size l f c) (sym (ap (λ l. items ++ l) none ∙ append-nil items)) may.fed }

  -- ---- the stop
  pub stop_follows : (values : List InputFed) (f : Fed) → IsSentAs plan size values f → (stop : Stop) → MayFollow values (fed.Stop stop)
  stop_follows values f h stop = may_follow_sent values f h (fed.Stop stop) tt

  pub lack_follows : (values : List InputFed) (f : Fed) → IsSentAs plan size values f → MayFollow values fed.NoMemory
  lack_follows values f h = may_follow_sent values f h fed.NoMemory tt

  pub stop_unsent : (items : List Item) (c : Cutters) (values values' : List InputFed) → AreSent plan size items values c → values' ≡ values → AreSentInPart plan size items values'
  stop_unsent items c values values' s same = subst (AreSentInPart plan size items) (sym same) (all_sent items values c s)

  pub ends_by : (items : List Item) (stop : Stop) (values values' : List InputFed) (c : Cutters) (result : Sending) → AreSent plan size items values c → (result ≡ Done → values' ≡ values ++ fed.Stop stop ∷ []) → ((result ≡ Done → ⊥) → values' ≡ values)
      → EndsSending plan size items stop values' c result
  ends_by items stop values values' c Done s more none = record { before = values; sent = s; are = more refl }
  ends_by items stop values values' c Over s more none = stop_unsent items c values values' s (none (λ e. cc e))
  ends_by items stop values values' c NoMemory s more none = stop_unsent items c values values' s (none (λ e. cc e))

  -- sending that does not go on
  pub in_part : (items : List Item) (values : List InputFed) (c : Cutters) (went : Sending) → (went ≡ Done → ⊥) → Sends plan size items values c went → AreSentInPart plan size items values
  in_part items values c Done stops s = absurd (stops refl)
  in_part items values c Over stops s = s
  in_part items values c NoMemory stops s = s

  -- the want of memory was told, or not
  pub lack_told : (items : List Item) (values values' : List InputFed) (told : Sending) → AreSentInPart plan size items values → (told ≡ Done → values' ≡ values ++ fed.NoMemory ∷ []) → ((told ≡ Done → ⊥) → values' ≡ values) → AreSentInPart plan size items values'
  lack_told items values values' told s more none = by_answer told more none
    where
      untold : values' ≡ values → AreSentInPart plan size items values'
      untold same = record { f = s.f; sent = sent_still values values' s.f same s.sent; unsent = s.unsent; may = s.may; covers = s.covers }

      by_answer : (told : Sending) → (told ≡ Done → values' ≡ values ++ fed.NoMemory ∷ []) → ((told ≡ Done → ⊥) → values' ≡ values) → AreSentInPart plan size items values'
      by_answer Done more none = record { f = s.f; sent = sent_more values s.f s.sent fed.NoMemory tt values' refl (more refl); unsent = s.unsent; may = s.may; covers = s.covers }
      by_answer Over more none = untold (none (λ e. cc e))
      by_answer NoMemory more none = untold (none (λ e. cc e))

-- ---- the loop
-- the lines so far gave items, and these were sent
pub record SentSoFar (plan : Shape) (size : ℕ) (left left' : Option (List ℕ)) (held : Held) (p : Progress) (c : Cutters) (faults faults' : ℕ) (values : List InputFed) (dropped dropped' : List Dropped) : Type 0 where
  pub items : List Item
  pub read : ReadSoFar plan left left' held p items faults faults'
  pub sent : AreSent plan size items values c
  pub listed : dropped' ≡ dropped ++ dropped_of items
  pub marks : (s : Stream) → last_watermark s items ≤ END_MARK

-- nothing was read
pub so_far_still : (plan : Shape) (size : ℕ) (left left' : Option (List ℕ)) (held held' : Held) (p p' : Progress) (c : Cutters) (faults faults' : ℕ) (values : List InputFed) (dropped dropped' : List Dropped) → held' ≡ held → p' ≡ p
    → SentSoFar plan size left left' held p c faults faults' values dropped dropped' → SentSoFar plan size left left' held' p' c faults faults' values dropped dropped'
so_far_still plan size left left' held held' p p' c faults faults' values dropped dropped' same_held same_p h =
    subst (λ (q : Progress). SentSoFar plan size left left' held' q c faults faults' values dropped dropped') (sym same_p)
    (subst (λ (x : Held). SentSoFar plan size left left' x p c faults faults' values dropped dropped') (sym same_held) h)

-- comments in front were taken
pub sent_comments : (plan : Shape) (size : ℕ) (left left' : Option (List ℕ)) (n : ℕ) (held : Held) (p : Progress) (c : Cutters) (faults faults' : ℕ) (values : List InputFed) (dropped : List Dropped) → 1 ≤ size → n ≤ MAX_LINES → Consumes left left' (comment_lines n) → faults' ≡ faults
    → held ≡ record { at_hand = []; line = []; halt = None } → p ≡ first_progress (streams_of plan) n plan.late plan.keys → c ≡ new_cutters size → values ≡ begun_values (streams_of plan) size
    → SentSoFar plan size left left' held p c faults faults' values dropped dropped
sent_comments plan size left left' n held p c faults faults' values dropped some few given same is_held is_p is_c are = record {
  items = skips n;
  read = read_comments plan left left' held p n faults faults' few given same is_held (is_p ∙ said_by_skips plan n);
  sent = record { f = nothing_fed; sent = record { sent = []; are = are; may = tt; fed = refl; unstopped = refl }; fed = subst (IsFedBy size (skips n) nothing_fed) (sym is_c) (fed_comments size n some) };
  listed = sym (ap (λ l. dropped ++ l) (none_dropped n) ∙ append-nil dropped);
  marks = λ s. let none = ap (last_or 0) (no_watermark s n) in omega (arith, none);
}

-- a fault is told from the first read on
since : (before now later : ℕ) (stop : Stop) → now ≡ before → FaultCause now later stop → FaultCause before later stop
since before now later stop same = subst (λ n. FaultCause n later stop) same

may_have_failed : (before now : ℕ) (stop : Stop) → FaultCause before now stop → (now ≡ before) ⊎ Rose before now
may_have_failed before now End cause = inl cause
may_have_failed before now (Refused refusal) cause = inl cause
may_have_failed before now Fault cause = inr cause

-- rows so far of the first values are first rows of what these cover
first_of : (plan : Shape) (size : ℕ) (items all : List Item) (values : List InputFed) (s : AreSentInPart plan size items values) → GoesOnTo items all → (some later : List InputFed) → s.sent.sent ≡ some ++ later → (rows : List Record)
    → AreRowsSoFar plan (fed_by some) rows → AreFirstRows plan all rows
first_of plan size items all values s on some later are rows so =
    let behind : MayAllCome plan size (fed_by some) later = may_rest_come plan size some later nothing_fed (subst (MayAllCome plan size nothing_fed) are s.sent.may) in
    let here : fed_after later (fed_by some) ≡ s.f = sym (fed_in_turn some later nothing_fed) ∙ sym (ap fed_by are) ∙ s.sent.fed in
    let now : AreRowsSoFar plan s.f rows = subst (λ g. AreRowsSoFar plan g rows) here (so_far_after plan size later (fed_by some) rows behind so) in
    rows_are_first plan items all (fed_after s.unsent s.f) rows s.covers on (so_far_after plan size s.unsent s.f rows s.may now)

-- reading ended early, with these items sent but for their last values
ended_at : (plan : Shape) (size : ℕ) (left left' : Option (List ℕ)) (held : Held) (p : Progress) (items : List Item) (faults faults' : ℕ) (values : List InputFed) (dropped dropped' late : List Dropped)
    → ReadSoFar plan left left' held p items faults faults' → AreSentInPart plan size items values → AreFirstDropped items late → dropped' ≡ dropped ++ late → IsReadOf plan size left left' faults faults' values dropped dropped' None
ended_at plan size left left' held p items faults faults' values dropped dropped' late read s first_late listed =
    let (given, goes_on) = given_so_far plan left left' held p items faults faults' read in
    record {
      given = given;
      sent = s.sent.sent;
      are = s.sent.are ∙ ap (λ l. fed.Begin (streams_of plan) size ∷ l) (sym (append-nil s.sent.sent));
      unstopped = s.sent.unstopped;
      first = first_of plan size items (items_of plan given) values s goes_on;
      late = late;
      first_late = record { rest = first_late.rest ++ dropped_of goes_on.later; are = ap dropped_of goes_on.are ∙ flat_map-append dropped_in items goes_on.later ∙ ap (λ l. l ++ dropped_of goes_on.later) first_late.are ∙ append_assoc late first_late.rest (dropped_of goes_on.later) };
      listed = listed;
      whole = tt;
      cause = inl read.no_fault;
    }

all_dropped : (items : List Item) → AreFirstDropped items (dropped_of items)
all_dropped items = record { rest = []; are = sym (append-nil (dropped_of items)) }

module _ {S : Type 0} (left_of : S → Option (List ℕ)) (plan : Shape) (size : ℕ) (left : Option (List ℕ)) (source source' : S) (held held' : Held) (p p' : Progress) (c : Cutters) (faults faults' faults2 : ℕ) (values : List InputFed) (dropped dropped1 : List Dropped)
    (t : SentSoFar plan size left (left_of source) held p c faults faults' values dropped dropped1) where
  -- the feeder needs nothing more
  pub sent_enough : IsReadOf plan size left (left_of source) faults faults' values dropped dropped1 None
  sent_enough = ended_at plan size left (left_of source) held p t.items faults faults' values dropped dropped1 (dropped_of t.items) t.read (all_sent plan size t.items values c t.sent) (all_dropped t.items) t.listed

  module _ (some : 1 ≤ size) where
    module _ (i : Item) (takes : TakesItem left_of (reading source held) (reading source' held') p p' i) (room : p.lines < MAX_LINES) where
      timely : IsTimely (streams_of plan) t.items i
      timely = tested_is_timely plan t.items takes.line i (ap (λ q. answer_to q takes.line) (sym t.read.progress) ∙ takes.tests)

      -- the next item may be taken
      pub may_take_next : MayTake (HasSent plan size values) plan size c i t.items t.sent.f []
      may_take_next =
          let many = ap (λ (q : Progress). q.lines) t.read.progress in
          record { stand = (t.sent.sent, refl); fed = t.sent.fed; timely = timely; few = omega (arith, room, many); some = some }

      module _ (same : faults2 ≡ faults') (values' : List InputFed) (dropped2 : List Dropped) where
        read_then : ReadSoFar plan left (left_of source') held' p' (t.items ++ i ∷ []) faults faults2
        read_then = read_more left_of plan left source source' held held' p p' t.items i faults faults' faults2 t.read takes same room

        -- it was sent
        pub item_sent : (d : Cutters) → AreSent plan size (t.items ++ i ∷ []) values' d → dropped2 ≡ dropped1 ++ dropped_in i → SentSoFar plan size left (left_of source') held' p' d faults faults2 values' dropped dropped2
        item_sent d sent kept = record { items = t.items ++ i ∷ []; read = read_then; sent = sent; listed = dropped_more t.items i dropped dropped1 dropped2 t.listed kept; marks = mark_within plan t.items i timely t.marks }

        -- it was not, or not whole
        pub item_unsent : AreSentInPart plan size (t.items ++ i ∷ []) values' → dropped2 ≡ dropped1 → IsReadOf plan size left (left_of source') faults faults2 values' dropped dropped2 None
        item_unsent s kept =
            ended_at plan size left (left_of source') held' p' (t.items ++ i ∷ []) faults faults2 values' dropped dropped2 (dropped_of t.items) read_then s
            (record { rest = dropped_of (i ∷ []); are = flat_map-append dropped_in t.items (i ∷ []) }) (kept ∙ t.listed)

    -- the end may be taken
    pub may_end_here : MayEnd (HasSent plan size values) size c (MAX_LINES + 1) t.items t.sent.f []
    may_end_here =
        let room = t.read.room in
        let many = ap (λ (q : Progress). q.lines) t.read.progress in
        record { stand = (t.sent.sent, refl); fed = t.sent.fed; few = omega (arith, room, many); marks = t.marks; some = some }

  module _ (stop : Stop) (stops : StopsReading left_of (reading source held) (reading source' held') p p' stop) (cause : FaultCause faults' faults2 stop) (values' : List InputFed) where
    -- all was sent, and the stop
    pub stop_sent : (d : Cutters) → AreSentTo plan size (t.items ++ end_items (streams_of plan) stop) stop values' d → IsReadOf plan size left (left_of source') faults faults2 values' dropped dropped1 (Some stop)
    stop_sent d s =
        let (given, are, stopped) = reading_stops left_of plan left source source' held held' p p' t.items stop faults faults' t.read stops in
        let all = t.items ++ end_items (streams_of plan) stop in
        let in_part = all_sent plan size all s.before d s.sent in
        record {
          given = given;
          sent = s.sent.sent.sent;
          are = s.are ∙ ap (λ l. l ++ fed.Stop stop ∷ []) s.sent.sent.are;
          unstopped = s.sent.sent.unstopped;
          first = λ some later is rows so.
              let first = first_of plan size all all s.before in_part (no_more all) some later is rows so in
              subst (λ l. AreFirstRows plan l rows) are
              (record { rest = first.rest; are = rows_same END_MARK plan (streams_in t.items) (streams_in all) (λ u. sym (same_records (streams_of plan) stop t.items u)) ∙ first.are });
          late = dropped_of t.items;
          first_late = subst (λ l. AreFirstDropped l (dropped_of t.items)) are (all_dropped t.items);
          listed = t.listed;
          whole = record {
            stopped = stopped;
            cutters = d;
            fed = subst (λ l. IsFedBy size (l ++ end_items (streams_of plan) stop) (fed_by s.sent.sent.sent) d) are (subst (λ g. IsFedBy size all g d) (sym s.sent.sent.fed) s.sent.fed);
            listed = t.listed ∙ ap (λ l. dropped ++ dropped_of l) are;
          };
          cause = since faults faults' faults2 stop t.read.no_fault cause;
        }

    -- not all was
    pub stop_not_sent : AreSentInPart plan size (t.items ++ end_items (streams_of plan) stop) values' → IsReadOf plan size left (left_of source') faults faults2 values' dropped dropped1 None
    stop_not_sent s =
        let (given, are, stopped) = reading_stops left_of plan left source source' held held' p p' t.items stop faults faults' t.read stops in
        let all = t.items ++ end_items (streams_of plan) stop in
        record {
          given = given;
          sent = s.sent.sent;
          are = s.sent.are ∙ ap (λ l. fed.Begin (streams_of plan) size ∷ l) (sym (append-nil s.sent.sent));
          unstopped = s.sent.unstopped;
          first = λ some later is rows so.
              let first = first_of plan size all all values' s (no_more all) some later is rows so in
              subst (λ l. AreFirstRows plan l rows) are
              (record { rest = first.rest; are = rows_same END_MARK plan (streams_in t.items) (streams_in all) (λ u. sym (same_records (streams_of plan) stop t.items u)) ∙ first.are });
          late = dropped_of t.items;
          first_late = subst (λ l. AreFirstDropped l (dropped_of t.items)) are (all_dropped t.items);
          listed = t.listed;
          whole = tt;
          cause = may_have_failed faults faults2 stop (since faults faults' faults2 stop t.read.no_fault cause);
        }
