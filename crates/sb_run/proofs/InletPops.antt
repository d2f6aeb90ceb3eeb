-- What one pop of a ring does.
use Rattle.std.proofs.Common.{◌≡◌, ◌+◌, Bool, true, false, List, [], ◌∷◌, ◌++◌, length, Option, Some, None, refl, sym, ap, subst, ◌∙◌, append_assoc, append-nil, length-append}
use Rattle.std.specs.Prelude.{IfSome, if◌then◌else◌}
use Rattle.sb_engines.specs.feeds.base.records.declared.item.Item.{Item}
use Rattle.sb_engines.specs.feeds.base.records.declared.item.Stream.{Stream}
use Rattle.sb_engines.specs.feeds.base.records.declared.item.Streams.{Streams}
use Rattle.sb_engines.specs.feeds.base.records.Streams.{last_watermark, uses}
use Rattle.sb_engines.specs.feeds.declared.ends.FeedIn.{FeedIn}
use Rattle.sb_engines.specs.feeds.declared.fed.Fed.{Fed}
use Rattle.sb_engines.specs.feeds.declared.fed.Fed.TheVariants as fed
use Rattle.sb_engines.specs.feeds.declared.fed.FeedStop.{FeedStop}
use Rattle.sb_engines.specs.feeds.Ends.{values_received}
use Rattle.sb_engines.specs.feeds.Fed.{has_stop}
use Rattle.sb_run.specs.declared.files.inlet.Inlet.{Inlet}
use Rattle.sb_run.specs.Pops.{IsInlet, PopsOne, is_next, mark_behind, stop_among, items_taken}
use Rattle.sb_run.proofs.TakenItems.{next_mark, stop_first, stop_item, taken_more}

-- values came, and then others
pub came_then : (a b c : List Fed) → (x : List Fed) × (b ≡ a ++ x) → (y : List Fed) × (c ≡ b ++ y) → (z : List Fed) × (c ≡ a ++ z)
came_then a b c (x, first) (y, second) = (x ++ y, second ∙ ap (λ l. l ++ y) first ∙ append_assoc a x y)

pub none_came : (a : List Fed) → (x : List Fed) × (a ≡ a ++ x)
none_came a = ([], sym (append-nil a))

module _ (streams : Streams) (s : Stream) (old : Inlet) (now : FeedIn) (is : IsInlet streams s old) where
  -- a stop came
  pub stop_popped : (value : Fed) (stop : FeedStop) → values_received now ≡ values_received old.inward ++ value ∷ [] → value ≡ fed.Stop stop → has_stop (values_received old.inward) ≡ false
      → PopsOne streams s old (record old { inward = now; stop = Some stop }) None
  stop_popped value stop came stops none =
      let received : values_received now ≡ values_received old.inward ++ fed.Stop stop ∷ [] = came ∙ ap (λ v. values_received old.inward ++ v ∷ []) stops in
      let same : items_taken streams s (values_received now) ≡ items_taken streams s (values_received old.inward) = ap (items_taken streams s) received ∙ taken_more streams s (values_received old.inward) (fed.Stop stop) in (
        record {
          stream = is.stream;
          used = is.used;
          mark = is.mark ∙ ap (last_watermark s) (sym same);
          count = is.count ∙ ap length (sym same);
          stop = sym (ap stop_among received ∙ stop_first (values_received old.inward) stop none);
        },
        same,
      )

  -- an item came, and was counted in or left out
  module _ (value : Fed) (i : Item) (came : values_received now ≡ values_received old.inward ++ value ∷ []) (gives : value ≡ fed.Item i) where
    received : values_received now ≡ values_received old.inward ++ fed.Item i ∷ []
    received = came ∙ ap (λ v. values_received old.inward ++ v ∷ []) gives

    same_test : is_next old.stream old.used old.mark old.count i ≡ is_next s (uses streams s) (last_watermark s (items_taken streams s (values_received old.inward))) (length (items_taken streams s (values_received old.inward))) i
    same_test = λ j. is_next (is.stream j) (is.used j) (is.mark j) (is.count j) i

    taken_by : (b : Bool) → is_next old.stream old.used old.mark old.count i ≡ b
        → items_taken streams s (values_received now) ≡ (if b then items_taken streams s (values_received old.inward) ++ i ∷ [] else items_taken streams s (values_received old.inward))
    taken_by b test =
        ap (items_taken streams s) received ∙ taken_more streams s (values_received old.inward) (fed.Item i)
        ∙ ap (λ q. if q then items_taken streams s (values_received old.inward) ++ i ∷ [] else items_taken streams s (values_received old.inward)) (sym same_test ∙ test)

    stop_is : old.stop ≡ stop_among (values_received now)
    stop_is = is.stop ∙ sym (ap stop_among received ∙ stop_item (values_received old.inward) i)

    left_out : is_next old.stream old.used old.mark old.count i ≡ false → PopsOne streams s old (record old { inward = now }) None
    left_out test =
        let same = taken_by false test in (
          record {
            stream = is.stream;
            used = is.used;
            mark = is.mark ∙ ap (last_watermark s) (sym same);
            count = is.count ∙ ap length (sym same);
            stop = stop_is;
          },
          same,
        )

    counted : is_next old.stream old.used old.mark old.count i ≡ true → PopsOne streams s old (record old { inward = now; mark = mark_behind old.mark i; count = old.count + 1 }) (Some i)
    counted test =
        let more = taken_by true test in
        let passes = sym same_test ∙ test in
        let before = items_taken streams s (values_received old.inward) in (
          record {
            stream = is.stream;
            used = is.used;
            mark = ap (λ m. mark_behind m i) is.mark ∙ sym (next_mark s (uses streams s) (last_watermark s before) (length before) before i passes) ∙ ap (last_watermark s) (sym more);
            count = ap (λ n. n + 1) is.count ∙ sym (length-append before (i ∷ [])) ∙ ap length (sym more);
            stop = stop_is;
          },
          more,
          passes,
        )

    pub item_popped : (result : Option Item) (new : Inlet) → (result ≡ None → (new ≡ record old { inward = now }) × (is_next old.stream old.used old.mark old.count i ≡ false))
        → IfSome result (λ j. (j ≡ i) × (new ≡ record old { inward = now; mark = mark_behind old.mark i; count = old.count + 1 }) × (is_next old.stream old.used old.mark old.count i ≡ true))
        → PopsOne streams s old new result
    item_popped None new none some = let (is_new, test) = none refl in subst (λ n. PopsOne streams s old n None) (sym is_new) (left_out test)
    item_popped (Some j) new none some =
        let (same, is_new, test) = some in
        subst (λ k. PopsOne streams s old new (Some k)) (sym same) (subst (λ n. PopsOne streams s old n (Some i)) (sym is_new) (counted test))
