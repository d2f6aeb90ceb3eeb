-- The items that are taken of the values of a ring.
use Rattle.std.proofs.Common.{◌≡◌, ◌≤◌, ◌<◌, ℕ, Bool, true, false, ◌&&◌, List, [], ◌∷◌, ◌++◌, length, Some, refl, sym, ap, subst, ◌∙◌, append-nil, length-append, arith}
use Rattle.std.specs.Prelude.{flat_map, if◌then◌else◌, nat_le, nat_lt}
use Rattle.std.proofs.lemmas.Bool.{and_parts, false≢true, true≢false}
use Rattle.std.proofs.lemmas.Bool.Decides.{nat_tests}
use Rattle.std.proofs.lemmas.List.Concat.{flat_map-append}
use Rattle.sb_engines.specs.feeds.base.records.declared.item.Item.{Item}
use Rattle.sb_engines.specs.feeds.base.records.declared.item.Item.TheVariants as item
use Rattle.sb_engines.specs.feeds.base.records.declared.item.Record.{Record}
use Rattle.sb_engines.specs.feeds.base.records.declared.item.Stream.{Stream}
use Rattle.sb_engines.specs.feeds.base.records.declared.item.Stream.TheVariants.{A, B}
use Rattle.sb_engines.specs.feeds.base.records.declared.item.Streams.{Streams}
use Rattle.sb_engines.specs.feeds.base.records.declared.item.TheConstants.{END_MARK, MAX_TIME}
use Rattle.sb_engines.specs.feeds.base.records.Streams.{last_or, last_watermark, record_in, uses, watermark_in}
use Rattle.sb_engines.specs.feeds.one_feed.Calls.{call_in}
use Rattle.sb_engines.specs.feeds.one_feed.FedByItems.{IsTimely}
use Rattle.sb_engines.specs.feeds.declared.fed.Fed.{Fed}
use Rattle.sb_engines.specs.feeds.declared.fed.Fed.TheVariants as fed
use Rattle.sb_engines.specs.feeds.declared.fed.FeedStop.{FeedStop}
use Rattle.sb_engines.specs.feeds.Fed.{has_stop}
use Rattle.sb_engines.specs.feeds.declared.limits.TheConstants.{MAX_FILE_LENGTH}
use Rattle.sb_run.specs.Pops.{is_next, is_stream, mark_behind, stop_among, items_taken, items_after, with_value}
use Rattle.sb_engines.proofs.alone.Standing.{last_more}

-- ---- one value more
with_more : (streams : Streams) (s : Stream) (items : List Item) (values : List Fed) (value : Fed)
    → items_after streams s items (values ++ value ∷ []) ≡ with_value streams s (items_after streams s items values) value
with_more streams s items [] value = refl
with_more streams s items (v ∷ values) value = with_more streams s (with_value streams s items v) values value

pub taken_more : (streams : Streams) (s : Stream) (values : List Fed) (value : Fed) → items_taken streams s (values ++ value ∷ []) ≡ with_value streams s (items_taken streams s values) value
taken_more streams s values value = with_more streams s [] values value

pub stop_item : (values : List Fed) (i : Item) → stop_among (values ++ fed.Item i ∷ []) ≡ stop_among values
stop_item [] i = refl
stop_item (fed.Item j ∷ values) i = stop_item values i
stop_item (fed.Stop stop ∷ values) i = refl

pub stop_first : (values : List Fed) (stop : FeedStop) → has_stop values ≡ false → stop_among (values ++ fed.Stop stop ∷ []) ≡ Some stop
stop_first [] stop none = refl
stop_first (fed.Item i ∷ values) stop none = stop_first values stop none
stop_first (fed.Stop other ∷ values) stop none = absurd (true≢false none)

pub some_stop : (values : List Fed) (stop : FeedStop) → stop_among values ≡ Some stop → has_stop values ≡ true
some_stop [] stop some = absurd (cc some)
some_stop (fed.Item i ∷ values) stop some = some_stop values stop some
some_stop (fed.Stop other ∷ values) stop some = refl

-- ---- an item that may be taken next
same_stream : (s t : Stream) → is_stream s t ≡ true → s ≡ t
same_stream A A is = refl
same_stream A B is = absurd (false≢true is)
same_stream B A is = absurd (false≢true is)
same_stream B B is = refl

-- what its test says
pub record IsNext (s : Stream) (used : Bool) (mark count : ℕ) (t : Stream) (low high time : ℕ) : Type 0 where
  pub few : count < MAX_FILE_LENGTH
  pub used_is : used ≡ true
  pub same : s ≡ t
  pub after : low ≤ time
  pub within : time ≤ high

tests_say : (s : Stream) (used : Bool) (mark count : ℕ) (t : Stream) (high time : ℕ)
    → (nat_lt count MAX_FILE_LENGTH && ((used && is_stream s t) && (nat_le mark time && nat_le time high))) ≡ true → IsNext s used mark count t mark high time
tests_say s used mark count t high time h =
    let (count_is, rest) = and_parts (nat_lt count MAX_FILE_LENGTH) ((used && is_stream s t) && (nat_le mark time && nat_le time high)) h in
    let (own, in_time) = and_parts (used && is_stream s t) (nat_le mark time && nat_le time high) rest in
    let (used_is, same) = and_parts used (is_stream s t) own in
    let (low, most) = and_parts (nat_le mark time) (nat_le time high) in_time in
    record {
      few = grind (arith, nat_tests, count_is);
      used_is = used_is;
      same = same_stream s t same;
      after = grind (arith, nat_tests, low);
      within = grind (arith, nat_tests, most);
    }

pub next_few : (s : Stream) (used : Bool) (mark count : ℕ) (i : Item) → is_next s used mark count i ≡ true → count < MAX_FILE_LENGTH
next_few s used mark count (item.Rec t r) h = (tests_say s used mark count t MAX_TIME r.time h).few
next_few s used mark count (item.Mark t m) h = (tests_say s used mark count t END_MARK m h).few
next_few s used mark count item.Skip h = absurd (false≢true h)
next_few s used mark count (item.Late n t m) h = grind (arith, nat_tests, h)

-- it is in time
pub next_timely : (streams : Streams) (s : Stream) (mark count : ℕ) (items : List Item) (i : Item) → last_watermark s items ≡ mark → is_next s (uses streams s) mark count i ≡ true → IsTimely streams items i
next_timely streams s mark count items (item.Rec t r) is h =
    let n = tests_say s (uses streams s) mark count t MAX_TIME r.time h in
    subst (λ u. (uses streams u ≡ true) × ((last_watermark u items ≤ r.time) × (r.time ≤ MAX_TIME))) n.same (n.used_is, (subst (λ m. m ≤ r.time) (sym is) n.after, n.within))
next_timely streams s mark count items (item.Mark t m) is h =
    let n = tests_say s (uses streams s) mark count t END_MARK m h in
    subst (λ u. (uses streams u ≡ true) × (last_watermark u items ≤ m) × (m ≤ END_MARK)) n.same (n.used_is, subst (λ l. l ≤ m) (sym is) n.after, n.within)
next_timely streams s mark count items item.Skip is h = tt
next_timely streams s mark count items (item.Late n t m) is h = tt

-- it leaves the stream's last watermark so
pub next_mark : (s : Stream) (used : Bool) (mark count : ℕ) (items : List Item) (i : Item) → is_next s used mark count i ≡ true → last_watermark s (items ++ i ∷ []) ≡ mark_behind (last_watermark s items) i
next_mark s used mark count items i h = ap (last_or 0) (flat_map-append (watermark_in s) items (i ∷ []) ∙ ap (λ l. flat_map (watermark_in s) items ++ l) (append-nil (watermark_in s i))) ∙ by_item s i h
  where
    none : (l : List ℕ) → last_or 0 (l ++ []) ≡ last_or 0 l
    none l = ap (last_or 0) (append-nil l)

    mark_of : (s t : Stream) (m : ℕ) → s ≡ t → (l : List ℕ) → last_or 0 (l ++ watermark_in s (item.Mark t m)) ≡ m
    mark_of A A m same l = last_more 0 m l
    mark_of B B m same l = last_more 0 m l
    mark_of A B m same l = absurd (cc same)
    mark_of B A m same l = absurd (cc same)

    by_item : (s : Stream) (i : Item) → is_next s used mark count i ≡ true → last_or 0 (flat_map (watermark_in s) items ++ watermark_in s i) ≡ mark_behind (last_watermark s items) i
    by_item A (item.Rec t r) h = none (flat_map (watermark_in A) items)
    by_item B (item.Rec t r) h = none (flat_map (watermark_in B) items)
    by_item s (item.Mark t m) h = mark_of s t m (tests_say s used mark count t END_MARK m h).same (flat_map (watermark_in s) items)
    by_item A item.Skip h = none (flat_map (watermark_in A) items)
    by_item B item.Skip h = none (flat_map (watermark_in B) items)
    by_item A (item.Late n t m) h = none (flat_map (watermark_in A) items)
    by_item B (item.Late n t m) h = none (flat_map (watermark_in B) items)

-- it says nothing to the other stream
pub record SaysNothing (t : Stream) (i : Item) : Type 0 where
  pub no_call : call_in t i ≡ []
  pub no_mark : watermark_in t i ≡ []
  pub no_record : record_in t i ≡ []

pub next_quiet : (s t : Stream) (used : Bool) (mark count : ℕ) (i : Item) → is_stream s t ≡ false → is_next s used mark count i ≡ true → SaysNothing t i
next_quiet s t used mark count i other h = by_item s t other i h
  where
    nothing : {t : Stream} {i : Item} → call_in t i ≡ [] → watermark_in t i ≡ [] → record_in t i ≡ [] → SaysNothing t i
    nothing a b c = record { no_call = a; no_mark = b; no_record = c }

    of_record : (s t u : Stream) (r : Record) → is_stream s t ≡ false → s ≡ u → SaysNothing t (item.Rec u r)
    of_record A A u r other same = absurd (true≢false other)
    of_record B B u r other same = absurd (true≢false other)
    of_record A B A r other same = nothing refl refl refl
    of_record A B B r other same = absurd (cc same)
    of_record B A A r other same = absurd (cc same)
    of_record B A B r other same = nothing refl refl refl

    of_mark : (s t u : Stream) (m : ℕ) → is_stream s t ≡ false → s ≡ u → SaysNothing t (item.Mark u m)
    of_mark A A u m other same = absurd (true≢false other)
    of_mark B B u m other same = absurd (true≢false other)
    of_mark A B A m other same = nothing refl refl refl
    of_mark A B B m other same = absurd (cc same)
    of_mark B A A m other same = absurd (cc same)
    of_mark B A B m other same = nothing refl refl refl

    by_item : (s t : Stream) → is_stream s t ≡ false → (i : Item) → is_next s used mark count i ≡ true → SaysNothing t i
    by_item s t other (item.Rec u r) h = of_record s t u r other (tests_say s used mark count u MAX_TIME r.time h).same
    by_item s t other (item.Mark u m) h = of_mark s t u m other (tests_say s used mark count u END_MARK m h).same
    by_item s A other item.Skip h = nothing refl refl refl
    by_item s B other item.Skip h = nothing refl refl refl
    by_item s A other (item.Late n l m) h = nothing refl refl refl
    by_item s B other (item.Late n l m) h = nothing refl refl refl

-- ---- few items are taken
with_few : (streams : Streams) (s : Stream) (items : List Item) (value : Fed) → length items ≤ MAX_FILE_LENGTH → length (with_value streams s items value) ≤ MAX_FILE_LENGTH
with_few streams s items (fed.Stop stop) few = few
with_few streams s items (fed.Item i) few = by_test (is_next s (uses streams s) (last_watermark s items) (length items) i) refl
  where
    by_test : (b : Bool) → is_next s (uses streams s) (last_watermark s items) (length items) i ≡ b → length (if b then items ++ i ∷ [] else items) ≤ MAX_FILE_LENGTH
    by_test true is =
        let below = next_few s (uses streams s) (last_watermark s items) (length items) i is in
        let longer = length-append items (i ∷ []) in
        omega (arith, below, longer)
    by_test false is = few

pub taken_few : (streams : Streams) (s : Stream) (items : List Item) (values : List Fed) → length items ≤ MAX_FILE_LENGTH → length (items_after streams s items values) ≤ MAX_FILE_LENGTH
taken_few streams s items [] few = few
taken_few streams s items (v ∷ values) few = taken_few streams s (with_value streams s items v) values (with_few streams s items v few)
