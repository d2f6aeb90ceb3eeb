-- The items of a record file, as its thread feeds them and as they are taken of its ring.
use Rattle.std.proofs.Common.{◌≡◌, ◌≤◌, ◌<◌, ◌+◌, ℕ, Bool, true, false, ◌&&◌, List, [], ◌∷◌, ◌++◌, length, Some, None, Result, Ok, Err, refl, sym, ap, subst, ◌∙◌, append-nil, append_assoc, length-append, arith}
use Rattle.std.specs.Prelude.{◌==◌, flat_map, if◌then◌else◌, nat_le, nat_lt, ⊤}
use Rattle.std.specs.List.{AllByRecursion}
use mathlib.Core.List.{IsPrefix}
use Rattle.std.proofs.lemmas.Bool.{and_from, false≢true, true≢false}
use Rattle.std.proofs.lemmas.Bool.Decides.{nat_tests}
use Rattle.std.proofs.lemmas.List.Concat.{flat_map-append}
use Rattle.sb_engines.specs.feeds.base.records.declared.intake.Refusal.{Refusal}
use Rattle.sb_engines.specs.feeds.base.records.declared.item.Item.{Item}
use Rattle.sb_engines.specs.feeds.base.records.declared.item.Item.TheVariants as item
use Rattle.sb_engines.specs.feeds.base.records.declared.item.Record.{Record}
use Rattle.sb_engines.specs.feeds.base.records.declared.item.Stream.{Stream}
use Rattle.sb_engines.specs.feeds.base.records.declared.item.Stream.TheVariants.{A, B}
use Rattle.sb_engines.specs.feeds.base.records.declared.item.Streams.{Streams}
use Rattle.sb_engines.specs.feeds.base.records.declared.item.TheConstants.{END_MARK, MAX_TIME}
use Rattle.sb_engines.specs.feeds.base.records.Inputs.{Accepted, accepted_if}
use Rattle.sb_engines.specs.feeds.base.records.Intake.{answer_to}
use Rattle.sb_engines.specs.feeds.base.records.Streams.{last_or, last_watermark, record_in, records_of, uses, watermark_in}
use Rattle.sb_engines.proofs.feeds.base.records.Elements.{All-join}
use Rattle.sb_engines.specs.feeds.outside.Lines.{lines, lines_from, without_cr}
use Rattle.sb_engines.specs.feeds.base.pipeline.Shapes.{Shape, streams_of}
use Rattle.sb_engines.specs.feeds.one_feed.FedByItems.{IsTimely}
use Rattle.sb_engines.specs.feeds.one_feed.Feeds.{IsFrom}
use Rattle.sb_engines.proofs.feeds.one_feed.LaterItems.{following, from_later, mark_rises, said_by, tested_is_timely}
use Rattle.sb_engines.specs.feeds.declared.fed.Fed.{Fed}
use Rattle.sb_engines.specs.feeds.declared.fed.Fed.TheVariants as fed
use Rattle.sb_engines.specs.feeds.declared.fed.FeedStop.{FeedStop}
use Rattle.sb_engines.specs.feeds.Fed.{values_of_item, values_of_accepted, has_stop, stop_from}
use Rattle.sb_engines.proofs.feeds.Stops.{feed_ends, first_with_stop}
use Rattle.sb_engines.specs.feeds.declared.limits.TheConstants.{MAX_FILE_LENGTH}
use Rattle.sb_engines.specs.feeds.Files.{accepted_of_file, items_of_file, stream_alone}
use Rattle.sb_run.specs.Pops.{is_next, is_stream, stop_among, items_taken, items_after, with_value}
use Rattle.sb_run.proofs.TakenItems.{SaysNothing, taken_more}

-- ---- a plan that reads one of its streams alone
abbrev pub plan_alone : Stream → Shape → Shape
plan_alone A plan = record plan { source_b = None }
plan_alone B plan = record plan { source_a = None }

-- what it accepts of a file
following_alone : (plan : Shape) (s : Stream) (bytes : List ℕ) → accepted_of_file plan s bytes ≡ following (plan_alone s plan) [] (lines true bytes)
following_alone plan A bytes = refl
following_alone plan B bytes = refl

-- ---- lines are no more than bytes
line_or_none : (b : Bool) (line : List ℕ) → length (if b then line ∷ [] else []) ≤ 1
line_or_none true line = omega arith
line_or_none false line = omega arith

lines_within : (bytes begun : List ℕ) → length (lines_from true begun bytes) ≤ length bytes + 1
lines_within [] begun = line_or_none _ (without_cr begun)
lines_within (b ∷ bytes) begun = by_test (b == 10) (lines_within bytes []) (lines_within bytes (begun ++ b ∷ []))
  where
    by_test : (q : Bool) → length (lines_from true [] bytes) ≤ length bytes + 1 → length (lines_from true (begun ++ b ∷ []) bytes) ≤ length bytes + 1
        → length (if q then without_cr begun ∷ lines_from true [] bytes else lines_from true (begun ++ b ∷ []) bytes) ≤ length (b ∷ bytes) + 1
    by_test true ends on = omega (arith, ends)
    by_test false ends on = omega (arith, on)

lines_few : (bytes : List ℕ) → length (lines true bytes) ≤ length bytes
lines_few [] = omega arith
lines_few (b ∷ bytes) = by_test (b == 10) (lines_few bytes) (lines_within bytes (b ∷ []))
  where
    by_test : (q : Bool) → length (lines_from true [] bytes) ≤ length bytes → length (lines_from true (b ∷ []) bytes) ≤ length bytes + 1
        → length (if q then without_cr [] ∷ lines_from true [] bytes else lines_from true (b ∷ []) bytes) ≤ length (b ∷ bytes)
    by_test true ends on = omega (arith, ends)
    by_test false ends on = omega (arith, on)

-- ---- each accepted item is in time behind those before it
abbrev pub AreTimely : Streams → List Item → List Item → Type 0
AreTimely streams items [] = ⊤
AreTimely streams items (i ∷ later) = IsTimely streams items i × AreTimely streams (items ++ i ∷ []) later

record AcceptsMore (plan : Shape) (all : List (List ℕ)) (items found : List Item) : Type 0 where
  pub later : List Item
  pub are : found ≡ items ++ later
  pub timely : AreTimely (streams_of plan) items later
  pub few : length later ≤ length all

accepts_more : (plan : Shape) (all : List (List ℕ)) (items : List Item) → AcceptsMore plan all items (following plan items all).items
accepts_more plan [] items = record { later = []; are = sym (append-nil items); timely = tt; few = omega arith }
accepts_more plan (line ∷ all) items = by_result (answer_to (said_by plan items) line) refl (λ more. accepts_more plan all more)
  where
    by_result : (r : Result Item Refusal) → answer_to (said_by plan items) line ≡ r → ((more : List Item) → AcceptsMore plan all more (following plan more all).items)
        → AcceptsMore plan (line ∷ all) items (accepted_if r items (λ more. following plan more all)).items
    by_result (Ok i) e on =
        let next = on (items ++ i ∷ []) in
        let few = next.few in
        record { later = i ∷ next.later; are = next.are ∙ append_assoc items (i ∷ []) next.later; timely = (tested_is_timely plan items line i e, next.timely); few = omega (arith, few) }
    by_result (Err refusal) e on = record { later = []; are = sym (append-nil items); timely = tt; few = omega arith }

-- so are the first of them, and those behind
timely_front : (streams : Streams) (items xs ys : List Item) → AreTimely streams items (xs ++ ys) → AreTimely streams items xs
timely_front streams items [] ys all = tt
timely_front streams items (x ∷ xs) ys all = (all.0, timely_front streams (items ++ x ∷ []) xs ys all.1)

timely_back : (streams : Streams) (items xs ys : List Item) → AreTimely streams items (xs ++ ys) → AreTimely streams (items ++ xs) ys
timely_back streams items [] ys all = subst (λ l. AreTimely streams l ys) (sym (append-nil items)) all
timely_back streams items (x ∷ xs) ys all = subst (λ l. AreTimely streams l ys) (append_assoc items (x ∷ []) xs) (timely_back streams (items ++ x ∷ []) xs ys all.1)

-- no later record is below a watermark of before
one_from : (streams : Streams) (items : List Item) (i : Item) (s : Stream) → IsTimely streams items i → AllByRecursion (IsFrom (last_watermark s items)) (record_in s i)
one_from streams items (item.Rec A r) A h = (h.1, tt)
one_from streams items (item.Rec B r) B h = (h.1, tt)
one_from streams items (item.Rec A r) B h = tt
one_from streams items (item.Rec B r) A h = tt
one_from streams items (item.Mark t m) A h = tt
one_from streams items (item.Mark t m) B h = tt
one_from streams items item.Skip A h = tt
one_from streams items item.Skip B h = tt
one_from streams items (item.Late n t m) A h = tt
one_from streams items (item.Late n t m) B h = tt

pub no_records : (P : Record → Type 0) (s : Stream) → AllByRecursion P (records_of s [])
no_records P A = tt
no_records P B = tt

timely_from : (plan : Shape) (items later : List Item) (s : Stream) → AreTimely (streams_of plan) items later → AllByRecursion (IsFrom (last_watermark s items)) (records_of s later)
timely_from plan items [] s all = no_records (IsFrom (last_watermark s items)) s
timely_from plan items (i ∷ later) s all =
    All-join (IsFrom (last_watermark s items)) (record_in s i) (records_of s later) (one_from (streams_of plan) items i s all.0)
    (from_later (last_watermark s items) (last_watermark s (items ++ i ∷ [])) (records_of s later) (mark_rises plan items i s all.0) (timely_from plan (items ++ i ∷ []) later s all.1))

-- a stream that is not read is told nothing
one_quiet : (streams : Streams) (items : List Item) (t : Stream) (i : Item) → uses streams t ≡ false → IsTimely streams items i → SaysNothing t i
one_quiet streams items A (item.Rec A r) unused h = absurd (true≢false (sym h.0 ∙ unused))
one_quiet streams items B (item.Rec B r) unused h = absurd (true≢false (sym h.0 ∙ unused))
one_quiet streams items A (item.Mark A m) unused h = absurd (true≢false (sym h.0 ∙ unused))
one_quiet streams items B (item.Mark B m) unused h = absurd (true≢false (sym h.0 ∙ unused))
one_quiet streams items A (item.Rec B r) unused h = record { no_call = refl; no_mark = refl; no_record = refl }
one_quiet streams items B (item.Rec A r) unused h = record { no_call = refl; no_mark = refl; no_record = refl }
one_quiet streams items A (item.Mark B m) unused h = record { no_call = refl; no_mark = refl; no_record = refl }
one_quiet streams items B (item.Mark A m) unused h = record { no_call = refl; no_mark = refl; no_record = refl }
one_quiet streams items A item.Skip unused h = record { no_call = refl; no_mark = refl; no_record = refl }
one_quiet streams items B item.Skip unused h = record { no_call = refl; no_mark = refl; no_record = refl }
one_quiet streams items A (item.Late n l m) unused h = record { no_call = refl; no_mark = refl; no_record = refl }
one_quiet streams items B (item.Late n l m) unused h = record { no_call = refl; no_mark = refl; no_record = refl }

all_quiet : {X : Type 0} (g : Item → List X) (t : Stream) → ((i : Item) → SaysNothing t i → g i ≡ []) → (streams : Streams) → uses streams t ≡ false
    → (items later : List Item) → AreTimely streams items later → flat_map g later ≡ []
all_quiet g t nothing streams unused items [] all = refl
all_quiet g t nothing streams unused items (i ∷ later) all =
    ap (λ l. l ++ flat_map g later) (nothing i (one_quiet streams items t i unused all.0)) ∙ all_quiet g t nothing streams unused (items ++ i ∷ []) later all.1

-- ---- what is taken of the items that are fed
-- the item, but nothing for a comment
abbrev pub unless_comment : Item → List Item
unless_comment item.Skip = []
unless_comment (item.Rec s r) = item.Rec s r ∷ []
unless_comment (item.Mark s t) = item.Mark s t ∷ []
unless_comment (item.Late n t m) = item.Late n t m ∷ []

abbrev pub without_comments : List Item → List Item
without_comments items = flat_map unless_comment items

-- comments say nothing
pub told_says : {X : Type 0} (g : Item → List X) → g item.Skip ≡ [] → (items : List Item) → flat_map g (without_comments items) ≡ flat_map g items
told_says g none [] = refl
told_says g none (item.Skip ∷ items) = told_says g none items ∙ ap (λ l. l ++ flat_map g items) (sym none)
told_says g none (item.Rec s r ∷ items) = ap (λ l. g (item.Rec s r) ++ l) (told_says g none items)
told_says g none (item.Mark s t ∷ items) = ap (λ l. g (item.Mark s t) ++ l) (told_says g none items)
told_says g none (item.Late n t m ∷ items) = ap (λ l. g (item.Late n t m) ++ l) (told_says g none items)

told_few : (items : List Item) → length (without_comments items) ≤ length items
told_few [] = omega arith
told_few (item.Skip ∷ items) = let n = told_few items in omega (arith, n)
told_few (item.Rec s r ∷ items) = let n = told_few items in omega (arith, n)
told_few (item.Mark s t ∷ items) = let n = told_few items in omega (arith, n)
told_few (item.Late n t m ∷ items) = let k = told_few items in omega (arith, k)

pub told_mark : (s : Stream) (items : List Item) → last_watermark s (without_comments items) ≡ last_watermark s items
told_mark A items = ap (last_or 0) (told_says (watermark_in A) refl items)
told_mark B items = ap (last_or 0) (told_says (watermark_in B) refl items)

-- an item in time passes the test
own_stream : (streams : Streams) (s t : Stream) → uses (stream_alone s streams) t ≡ true → (uses streams s && is_stream s t) ≡ true
own_stream streams A A used = and_from streams.a true used refl
own_stream streams A B used = absurd (false≢true used)
own_stream streams B A used = absurd (false≢true used)
own_stream streams B B used = and_from streams.b true used refl

below : (a b : ℕ) → a < b → nat_lt a b ≡ true
below a b lt = grind (arith, nat_tests, lt)

within : (a b : ℕ) → a ≤ b → nat_le a b ≡ true
within a b le = grind (arith, nat_tests, le)

passes : (streams : Streams) (s t : Stream) (mark count time high : ℕ) → count < MAX_FILE_LENGTH → uses (stream_alone s streams) t ≡ true → mark ≤ time → time ≤ high
    → (nat_lt count MAX_FILE_LENGTH && ((uses streams s && is_stream s t) && (nat_le mark time && nat_le time high))) ≡ true
passes streams s t mark count time high few used low most =
    and_from (nat_lt count MAX_FILE_LENGTH) ((uses streams s && is_stream s t) && (nat_le mark time && nat_le time high)) (below count MAX_FILE_LENGTH few)
    (and_from (uses streams s && is_stream s t) (nat_le mark time && nat_le time high) (own_stream streams s t used)
    (and_from (nat_le mark time) (nat_le time high) (within mark time low) (within time high most)))

-- of the one stream that the test is made for
only_own : (streams : Streams) (s t : Stream) → uses (stream_alone s streams) t ≡ true → s ≡ t
only_own streams A A used = refl
only_own streams A B used = absurd (false≢true used)
only_own streams B A used = absurd (false≢true used)
only_own streams B B used = refl

-- the next one goes behind those that were taken
taken_next : (streams : Streams) (s : Stream) (taken_so_far : List Item) (i : Item) (used : Bool) (mark count : ℕ) → used ≡ uses streams s → mark ≡ last_watermark s taken_so_far → count ≡ length taken_so_far
    → is_next s used mark count i ≡ true → with_value streams s taken_so_far (fed.Item i) ≡ taken_so_far ++ i ∷ []
taken_next streams s so_far i used mark count same_use same_mark same_count is =
    ap (λ b. if b then so_far ++ i ∷ [] else so_far) ((λ j. is_next s (sym same_use j) (sym same_mark j) (sym same_count j) i) ∙ is)

pub taken_told : (streams : Streams) (s : Stream) (items later : List Item) → AreTimely (stream_alone s streams) items later → length items + length later ≤ MAX_FILE_LENGTH
    → items_after streams s (without_comments items) (flat_map values_of_item later) ≡ without_comments (items ++ later)
taken_told streams s items [] all few = ap without_comments (sym (append-nil items))
taken_told streams s items (i ∷ later) all few = by_item i all.0 (taken_told streams s (items ++ i ∷ []) later all.1 (let l = length-append items (i ∷ []) in omega (arith, few, l)))
  where
    room : length (without_comments items) < MAX_FILE_LENGTH
    room = let n = told_few items in omega (arith, few, n)

    more : (i : Item) → without_comments (items ++ i ∷ []) ≡ without_comments items ++ unless_comment i
    more i = flat_map-append unless_comment items (i ∷ []) ∙ ap (λ l. without_comments items ++ l) (append-nil (unless_comment i))

    behind : (i : Item) → items_after streams s (without_comments (items ++ i ∷ [])) (flat_map values_of_item later) ≡ without_comments ((items ++ i ∷ []) ++ later)
        → items_after streams s (without_comments items ++ unless_comment i) (flat_map values_of_item later) ≡ without_comments (items ++ i ∷ later)
    behind i rest = ap (λ l. items_after streams s l (flat_map values_of_item later)) (sym (more i)) ∙ rest ∙ ap without_comments (append_assoc items (i ∷ []) later)

    by_item : (i : Item) → IsTimely (stream_alone s streams) items i → items_after streams s (without_comments (items ++ i ∷ [])) (flat_map values_of_item later) ≡ without_comments ((items ++ i ∷ []) ++ later)
        → items_after streams s (without_comments items) (values_of_item i ++ flat_map values_of_item later) ≡ without_comments (items ++ i ∷ later)
    by_item item.Skip timely rest = ap (λ l. items_after streams s l (flat_map values_of_item later)) (sym (append-nil (without_comments items))) ∙ behind item.Skip rest
    by_item (item.Late n t m) timely rest =
        ap (λ l. items_after streams s l (flat_map values_of_item later)) (taken_next streams s (without_comments items) (item.Late n t m) (uses streams s) (last_watermark s (without_comments items)) (length (without_comments items)) refl refl refl (below (length (without_comments items)) MAX_FILE_LENGTH room))
        ∙ behind (item.Late n t m) rest
    by_item (item.Rec t r) timely rest =
        ap (λ l. items_after streams s l (flat_map values_of_item later))
        (taken_next streams s (without_comments items) (item.Rec t r) (uses streams s) (last_watermark s items) (length (without_comments items)) refl (sym (told_mark s items)) refl
        (passes streams s t (last_watermark s items) (length (without_comments items)) r.time MAX_TIME room timely.0
        (subst (λ u. last_watermark u items ≤ r.time) (sym (only_own streams s t timely.0)) timely.1.0) timely.1.1))
        ∙ behind (item.Rec t r) rest
    by_item (item.Mark t m) timely rest =
        ap (λ l. items_after streams s l (flat_map values_of_item later))
        (taken_next streams s (without_comments items) (item.Mark t m) (uses streams s) (last_watermark s items) (length (without_comments items)) refl (sym (told_mark s items)) refl
        (passes streams s t (last_watermark s items) (length (without_comments items)) m END_MARK room timely.0
        (subst (λ u. last_watermark u items ≤ m) (sym (only_own streams s t timely.0)) timely.1) timely.2))
        ∙ behind (item.Mark t m) rest

-- ---- the first of what is fed
-- without a stop, they are what the first of the items feed
record IsFedOfFirst (items : List Item) (values : List Fed) : Type 0 where
  pub front : List Item
  pub back : List Item
  pub are : items ≡ front ++ back
  pub feed : values ≡ flat_map values_of_item front

behind_first : (v : Fed) (values : List Fed) → has_stop (v ∷ values) ≡ false → has_stop values ≡ false
behind_first (fed.Item i) values none = none
behind_first (fed.Stop stop) values none = absurd (true≢false none)

fed_one : (i : Item) (items : List Item) (v : Fed) (values : List Fed) → v ≡ fed.Item i → values_of_item i ≡ fed.Item i ∷ [] → IsFedOfFirst items values → IsFedOfFirst (i ∷ items) (v ∷ values)
fed_one i items v values same feeds rest = record {
  front = i ∷ rest.front;
  back = rest.back;
  are = ap (λ l. i ∷ l) rest.are;
  feed = (λ j. same j ∷ rest.feed j) ∙ ap (λ l. l ++ flat_map values_of_item rest.front) (sym feeds);
}

fed_first : (stop : FeedStop) (items : List Item) (values more : List Fed) → values ++ more ≡ flat_map values_of_item items ++ fed.Stop stop ∷ [] → has_stop values ≡ false → IsFedOfFirst items values
fed_first stop items [] more e none = record { front = []; back = items; are = refl; feed = refl }
fed_first stop [] (v ∷ values) more e none =
    let same : v ≡ fed.Stop stop = cc e in
    absurd (true≢false (sym (ap (λ u. has_stop (u ∷ values)) same) ∙ none))
fed_first stop (item.Skip ∷ items) (v ∷ values) more e none =
    let rest = fed_first stop items (v ∷ values) more e none in
    record { front = item.Skip ∷ rest.front; back = rest.back; are = ap (λ l. item.Skip ∷ l) rest.are; feed = rest.feed }
fed_first stop (item.Rec s r ∷ items) (v ∷ values) more e none =
    fed_one (item.Rec s r) items v values (cc e) refl (fed_first stop items values more (cc e) (behind_first v values none))
fed_first stop (item.Mark s t ∷ items) (v ∷ values) more e none =
    fed_one (item.Mark s t) items v values (cc e) refl (fed_first stop items values more (cc e) (behind_first v values none))
fed_first stop (item.Late n t m ∷ items) (v ∷ values) more e none =
    fed_one (item.Late n t m) items v values (cc e) refl (fed_first stop items values more (cc e) (behind_first v values none))

-- the stop that a file feeds says which line was refused
stop_of_fed : (items : List Item) (stop : FeedStop) → stop_among (flat_map values_of_item items ++ fed.Stop stop ∷ []) ≡ Some stop
stop_of_fed [] stop = refl
stop_of_fed (item.Skip ∷ items) stop = stop_of_fed items stop
stop_of_fed (item.Rec s r ∷ items) stop = stop_of_fed items stop
stop_of_fed (item.Mark s t ∷ items) stop = stop_of_fed items stop
stop_of_fed (item.Late n t m ∷ items) stop = stop_of_fed items stop

-- ---- a file, and the values that came out of its ring so far
pub record IsTakenOf (plan : Shape) (s : Stream) (bytes : List ℕ) (values : List Fed) : Type 0 where
  pub front : List Item
  pub back : List Item
  pub are : items_of_file plan s bytes ≡ front ++ back
  pub taken_are : items_taken (streams_of plan) s values ≡ without_comments front
  pub coming : AllByRecursion (IsFrom (last_watermark s front)) (records_of s back)
  pub whole : has_stop values ≡ true → back ≡ []
  pub stop : has_stop values ≡ true → stop_among values ≡ Some (stop_from (accepted_of_file plan s bytes).refused)

module _ (plan : Shape) (s : Stream) (bytes : List ℕ) where
  accepts : AcceptsMore (plan_alone s plan) (lines true bytes) [] (items_of_file plan s bytes)
  accepts = subst (λ (a : Accepted). AcceptsMore (plan_alone s plan) (lines true bytes) [] a.items) (sym (following_alone plan s bytes)) (accepts_more (plan_alone s plan) (lines true bytes) [])

  streams_are : (s : Stream) → streams_of (plan_alone s plan) ≡ stream_alone s (streams_of plan)
  streams_are A = refl
  streams_are B = refl

  all_timely : AreTimely (streams_of (plan_alone s plan)) [] (items_of_file plan s bytes)
  all_timely = subst (AreTimely (streams_of (plan_alone s plan)) []) (sym accepts.are) accepts.timely

  -- a stream that the file is not read for is told nothing of it
  pub file_quiet : {X : Type 0} (g : Item → List X) (t : Stream) → ((i : Item) → SaysNothing t i → g i ≡ []) → uses (stream_alone s (streams_of plan)) t ≡ false → flat_map g (items_of_file plan s bytes) ≡ []
  file_quiet g t nothing unused =
      all_quiet g t nothing (stream_alone s (streams_of plan)) unused [] (items_of_file plan s bytes) (subst (λ u. AreTimely u [] (items_of_file plan s bytes)) (streams_are s) all_timely)

  module _ (short : length bytes ≤ MAX_FILE_LENGTH) where
    few_items : length (items_of_file plan s bytes) ≤ MAX_FILE_LENGTH
    few_items =
        let n = accepts.few in
        let l = lines_few bytes in
        let e = ap length accepts.are in
        omega (arith, short, n, l, e)

    front_taken : (front back : List Item) → items_of_file plan s bytes ≡ front ++ back → items_taken (streams_of plan) s (flat_map values_of_item front) ≡ without_comments front
    front_taken front back are =
        let all : AreTimely (streams_of (plan_alone s plan)) [] (front ++ back) = subst (AreTimely (streams_of (plan_alone s plan)) []) are all_timely in
        let few = few_items in
        let l = ap length are ∙ length-append front back in
        taken_told (streams_of plan) s [] front (subst (λ u. AreTimely u [] front) (streams_are s) (timely_front (streams_of (plan_alone s plan)) [] front back all)) (omega (arith, few, l))

    back_coming : (front back : List Item) → items_of_file plan s bytes ≡ front ++ back → AllByRecursion (IsFrom (last_watermark s front)) (records_of s back)
    back_coming front back are = timely_from (plan_alone s plan) front back s (timely_back (streams_of (plan_alone s plan)) [] front back (subst (AreTimely (streams_of (plan_alone s plan)) []) are all_timely))

    pub taken_of_file : (values : List Fed) → IsPrefix values (values_of_accepted (accepted_of_file plan s bytes)) → IsTakenOf plan s bytes values
    taken_of_file values (more, e) = by_stop (has_stop values) refl
      where
        stop : FeedStop
        stop = stop_from (accepted_of_file plan s bytes).refused

        by_stop : (b : Bool) → has_stop values ≡ b → IsTakenOf plan s bytes values
        by_stop true some =
            let items = items_of_file plan s bytes in
            let all : values ≡ flat_map values_of_item items ++ fed.Stop stop ∷ [] = first_with_stop values (values_of_accepted (accepted_of_file plan s bytes)) (feed_ends (accepted_of_file plan s bytes)) (more, e) some in
            record {
              front = items;
              back = [];
              are = sym (append-nil items);
              taken_are = ap (items_taken (streams_of plan) s) all ∙ taken_more (streams_of plan) s (flat_map values_of_item items) (fed.Stop stop) ∙ front_taken items [] (sym (append-nil items));
              coming = no_records (IsFrom (last_watermark s items)) s;
              whole = λ w. refl;
              stop = λ w. ap stop_among all ∙ stop_of_fed items stop;
            }
        by_stop false none =
            let first = fed_first stop (items_of_file plan s bytes) values more e none in
            record {
              front = first.front;
              back = first.back;
              are = first.are;
              taken_are = ap (items_taken (streams_of plan) s) first.feed ∙ front_taken first.front first.back first.are;
              coming = back_coming first.front first.back first.are;
              whole = λ w. absurd (true≢false (sym w ∙ none));
              stop = λ w. absurd (true≢false (sym w ∙ none));
            }
