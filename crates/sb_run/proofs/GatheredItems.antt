-- What is kept, and listed, with one item more.
use Rattle.std.proofs.Common.{◌≡◌, ◌≤◌, ◌<◌, ℕ, List, [], ◌∷◌, ◌++◌, Option, None, Result, Ok, Err, refl, sym, ap, subst, ◌∙◌, append-nil, append_assoc, length-append}
use Rattle.std.specs.List.{filter}
use Rattle.std.specs.Prelude.{OnErr}
use Rattle.std.proofs.lemmas.List.Concat.{flat_map-append}
use Rattle.std.proofs.lemmas.List.Elements.{filter-append}
use Rattle.sb_engines.specs.feeds.base.records.declared.intake.Stop.{Stop}
use Rattle.sb_engines.specs.feeds.base.records.declared.intake.TheConstants.{MAX_LINES}
use Rattle.sb_engines.specs.feeds.base.records.declared.item.Dropped.{Dropped}
use Rattle.sb_engines.specs.feeds.base.records.declared.item.Item.{Item}
use Rattle.sb_engines.specs.feeds.base.records.declared.item.Item.TheVariants.{Rec, Mark, Skip, Late}
use Rattle.sb_engines.specs.feeds.base.records.declared.item.Stream.TheVariants.{A, B}
use Rattle.sb_engines.specs.feeds.base.records.Intake.{after, mark_of, answer_to}
use Rattle.sb_engines.specs.feeds.base.records.Progress.{Progress}
use Rattle.sb_engines.specs.feeds.base.records.Streams.{dropped_in, dropped_of, last_watermark, least_of}
use Rattle.sb_engines.specs.feeds.outside.Readings.{Held, reading}
use Rattle.sb_engines.specs.feeds.base.pipeline.Shapes.{Shape, streams_of}
use Rattle.sb_engines.specs.feeds.one_feed.FedByItems.{IsTimely}
use Rattle.sb_engines.specs.feeds.one_feed.Reads.{StopsReading, TakesItem}
use Rattle.sb_engines.proofs.feeds.one_feed.FedSoFar.{dropped_more, given_so_far}
use Rattle.sb_engines.proofs.feeds.one_feed.LaterItems.{mark_rises, mark_then, said_by, tested_is_timely}
use Rattle.sb_engines.proofs.feeds.one_feed.ReadSoFar.{ReadSoFar, read_more, read_nothing, reading_stops}
use Rattle.sb_checkpoint.specs.Checkpoints.{is_kept, kept_of, low_of}
use Rattle.sb_checkpoint.specs.Keeping.{Kept, kept_after, low_in, with_item}
use Rattle.sb_checkpoint.specs.Reach.{reach}
use Rattle.sb_checkpoint.proofs.Keepings.{kept_again, kept_behind}
use Rattle.sb_checkpoint.proofs.Runs.{least-rises}
use Rattle.sb_run.specs.Saves.{Gathers, GathersNone}

-- an item in time lowers no low watermark
pub low_rises : (plan : Shape) (items : List Item) (i : Item) → IsTimely (streams_of plan) items i → low_of plan items ≤ low_of plan (items ++ i ∷ [])
low_rises plan items i h =
    least-rises (streams_of plan) (last_watermark A items) (last_watermark B items) (last_watermark A (items ++ i ∷ [])) (last_watermark B (items ++ i ∷ []))
    (mark_rises plan items i A h) (mark_rises plan items i B h)

-- what is kept with one item more
kept_more : (plan : Shape) (items : List Item) (i : Item) → low_of plan items ≤ low_of plan (items ++ i ∷ []) → kept_after plan (items ++ i ∷ []) ≡ with_item i (kept_after plan items)
kept_more plan items i rises = by_item i rises (mark_then plan items i A) (mark_then plan items i B)
  where
    -- the records that are kept at this low watermark, with an item that is no record
    others : (w : ℕ) (i : Item) → filter (is_kept (reach plan) w) (i ∷ []) ≡ [] → filter (is_kept (reach plan) w) (items ++ i ∷ []) ≡ filter (is_kept (reach plan) w) items
    others w i none = filter-append (is_kept (reach plan) w) items (i ∷ []) ∙ ap (λ l. filter (is_kept (reach plan) w) items ++ l) none ∙ append-nil (filter (is_kept (reach plan) w) items)

    after_mark : (a b : ℕ) (i : Item) → last_watermark A (items ++ i ∷ []) ≡ a → last_watermark B (items ++ i ∷ []) ≡ b → low_of plan items ≤ low_of plan (items ++ i ∷ [])
        → low_of plan items ≤ least_of (streams_of plan) a b
    after_mark a b i is_a is_b rises = subst (λ x. low_of plan items ≤ x) (λ j. least_of (streams_of plan) (is_a j) (is_b j)) rises

    -- the records, by what the watermarks are
    at_marks : (a b : ℕ) (i : Item) → last_watermark A (items ++ i ∷ []) ≡ a → last_watermark B (items ++ i ∷ []) ≡ b
        → kept_of plan (items ++ i ∷ []) ≡ filter (is_kept (reach plan) (least_of (streams_of plan) a b)) (items ++ i ∷ [])
    at_marks a b i is_a is_b = λ j. filter (is_kept (reach plan) (least_of (streams_of plan) (is_a j) (is_b j))) (items ++ i ∷ [])

    by_item : (i : Item) → low_of plan items ≤ low_of plan (items ++ i ∷ [])
        → last_watermark A (items ++ i ∷ []) ≡ mark_of (after i (said_by plan items)) A → last_watermark B (items ++ i ∷ []) ≡ mark_of (after i (said_by plan items)) B
        → kept_after plan (items ++ i ∷ []) ≡ with_item i (kept_after plan items)
    by_item (Rec s r) rises is_a is_b =
        let kept = at_marks (last_watermark A items) (last_watermark B items) (Rec s r) is_a is_b ∙ kept_behind (reach plan) (low_of plan items) items (Rec s r ∷ []) in
        λ j. record { streams = streams_of plan; reach = reach plan; lines = length-append items (Rec s r ∷ []) j; mark_a = is_a j; mark_b = is_b j; records = kept j }
    by_item (Mark A t) rises is_a is_b =
        let w = least_of (streams_of plan) t (last_watermark B items) in
        let kept = at_marks t (last_watermark B items) (Mark A t) is_a is_b ∙ others w (Mark A t) refl
        ∙ sym (kept_again (reach plan) (low_of plan items) w (after_mark t (last_watermark B items) (Mark A t) is_a is_b rises) items) in
        λ j. record { streams = streams_of plan; reach = reach plan; lines = length-append items (Mark A t ∷ []) j; mark_a = is_a j; mark_b = is_b j; records = kept j }
    by_item (Mark B t) rises is_a is_b =
        let w = least_of (streams_of plan) (last_watermark A items) t in
        let kept = at_marks (last_watermark A items) t (Mark B t) is_a is_b ∙ others w (Mark B t) refl
        ∙ sym (kept_again (reach plan) (low_of plan items) w (after_mark (last_watermark A items) t (Mark B t) is_a is_b rises) items) in
        λ j. record { streams = streams_of plan; reach = reach plan; lines = length-append items (Mark B t ∷ []) j; mark_a = is_a j; mark_b = is_b j; records = kept j }
    by_item Skip rises is_a is_b =
        let kept = at_marks (last_watermark A items) (last_watermark B items) Skip is_a is_b ∙ others (low_of plan items) Skip refl in
        λ j. record { streams = streams_of plan; reach = reach plan; lines = length-append items (Skip ∷ []) j; mark_a = is_a j; mark_b = is_b j; records = kept j }
    by_item (Late n t m) rises is_a is_b =
        let kept = at_marks (last_watermark A items) (last_watermark B items) (Late n t m) is_a is_b ∙ others (low_of plan items) (Late n t m) refl in
        λ j. record { streams = streams_of plan; reach = reach plan; lines = length-append items (Late n t m ∷ []) j; mark_a = is_a j; mark_b = is_b j; records = kept j }

-- what is so anyway is so of an error
pub on_error : {T E P : Type 0} (r : Result T E) → P → OnErr r P
on_error (Ok x) h = tt
on_error (Err e) h = h

-- ---- how far reading has come
pub record GatheredSoFar (plan : Shape) (left left' : Option (List ℕ)) (held : Held) (p : Progress) (faults faults' : ℕ) (kept : Kept) (dropped dropped' : List Dropped) : Type 0 where
  pub items : List Item
  pub read : ReadSoFar plan left left' held p items faults faults'
  pub kept_is : kept ≡ kept_after plan items
  pub listed : dropped' ≡ dropped ++ dropped_of items

pub gathered_nothing : (plan : Shape) (left : Option (List ℕ)) (held : Held) (p : Progress) (faults : ℕ) (kept : Kept) (dropped : List Dropped)
    → held ≡ record { at_hand = []; line = []; halt = None } → p ≡ said_by plan [] → kept ≡ kept_after plan [] → GatheredSoFar plan left left held p faults faults kept dropped dropped
gathered_nothing plan left held p faults kept dropped nothing said none =
    record { items = []; read = read_nothing plan left held p faults nothing said; kept_is = none; listed = sym (append-nil dropped) }

-- the list ends with what these items say, all of which were accepted
none_of : (plan : Shape) (left left' : Option (List ℕ)) (held : Held) (p : Progress) (items more : List Item) (faults faults' : ℕ) (start dropped : List Dropped)
    → ReadSoFar plan left left' held p (items ++ more) faults faults' → dropped ≡ start ++ dropped_of items → GathersNone plan left left' start dropped
none_of plan left left' held p items more faults faults' start dropped read listed =
    let (given, goes_on) = given_so_far plan left left' held p (items ++ more) faults faults' read in
    let all = goes_on.are ∙ append_assoc items more goes_on.later in
    record {
      given = given;
      late = dropped_of items;
      first_late = record { rest = dropped_of (more ++ goes_on.later); are = ap dropped_of all ∙ flat_map-append dropped_in items (more ++ goes_on.later) };
      listed = listed;
    }

module _ {S : Type 0} (left_of : S → Option (List ℕ)) (plan : Shape) (left : Option (List ℕ)) (source source' : S) (held held' : Held) (p p' : Progress) (faults faults' faults2 : ℕ) (kept : Kept) (start dropped : List Dropped)
    (h : GatheredSoFar plan left (left_of source) held p faults faults' kept start dropped) where
  rises : (i : Item) → TakesItem left_of (reading source held) (reading source' held') p p' i → low_of plan h.items ≤ low_of plan (h.items ++ i ∷ [])
  rises i takes = low_rises plan h.items i (tested_is_timely plan h.items takes.line i (ap (λ q. answer_to q takes.line) (sym h.read.progress) ∙ takes.tests))

  is_more : (i : Item) → TakesItem left_of (reading source held) (reading source' held') p p' i → with_item i kept ≡ kept_after plan (h.items ++ i ∷ [])
  is_more i takes = ap (with_item i) h.kept_is ∙ sym (kept_more plan h.items i (rises i takes))

  read_one : (i : Item) → TakesItem left_of (reading source held) (reading source' held') p p' i → faults2 ≡ faults' → p.lines < MAX_LINES
      → ReadSoFar plan left (left_of source') held' p' (h.items ++ i ∷ []) faults faults2
  read_one i takes same room = read_more left_of plan left source source' held held' p p' h.items i faults faults' faults2 h.read takes same room

  -- the next item may be kept
  pub may_keep : (i : Item) → TakesItem left_of (reading source held) (reading source' held') p p' i → low_in kept ≤ low_in (with_item i kept)
  may_keep i takes = rw (is_more i takes, h.kept_is) (rises i takes)

  -- it is kept
  pub gathered_more : (i : Item) (kept' : Kept) (dropped' : List Dropped) → TakesItem left_of (reading source held) (reading source' held') p p' i → faults2 ≡ faults' → p.lines < MAX_LINES
      → kept' ≡ with_item i kept → dropped' ≡ dropped ++ dropped_in i → GatheredSoFar plan left (left_of source') held' p' faults faults2 kept' start dropped'
  gathered_more i kept' dropped' takes same room is listed =
      record { items = h.items ++ i ∷ []; read = read_one i takes same room; kept_is = is ∙ is_more i takes; listed = dropped_more h.items i start dropped dropped' h.listed listed }

  -- reading stopped
  pub gathered_all : (stop : Stop) → StopsReading left_of (reading source held) (reading source' held') p p' stop → Gathers plan left (left_of source') kept stop start dropped
  gathered_all stop stops =
      let (given, are, stopped) = reading_stops left_of plan left source source' held held' p p' h.items stop faults faults' h.read stops in
      record { given = given; stopped = stopped; kept_is = h.kept_is ∙ ap (kept_after plan) are; listed = h.listed ∙ ap (λ l. start ++ dropped_of l) are }

  -- it was taken, and could not be listed
  pub gathered_none : (i : Item) (dropped' : List Dropped) → TakesItem left_of (reading source held) (reading source' held') p p' i → faults2 ≡ faults' → p.lines < MAX_LINES
      → dropped' ≡ dropped → GathersNone plan left (left_of source') start dropped'
  gathered_none i dropped' takes same room unlisted =
      none_of plan left (left_of source') held' p' h.items (i ∷ []) faults faults2 start dropped' (read_one i takes same room) (unlisted ∙ h.listed)

  -- it was listed, and could not be kept
  pub gathered_listed : (i : Item) (dropped' : List Dropped) → TakesItem left_of (reading source held) (reading source' held') p p' i → faults2 ≡ faults' → p.lines < MAX_LINES
      → dropped' ≡ dropped ++ dropped_in i → GathersNone plan left (left_of source') start dropped'
  gathered_listed i dropped' takes same room listed =
      none_of plan left (left_of source') held' p' (h.items ++ i ∷ []) [] faults faults2 start dropped'
      (subst (λ l. ReadSoFar plan left (left_of source') held' p' l faults faults2) (sym (append-nil (h.items ++ i ∷ []))) (read_one i takes same room))
      (dropped_more h.items i start dropped dropped' h.listed listed)
