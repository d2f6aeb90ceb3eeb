-- How far the feeding of a file has come.
use Rattle.std.proofs.Common.{◌≡◌, ◌≢◌, ◌<◌, ◌≤◌, ◌+◌, ℕ, Bool, true, false, List, [], ◌∷◌, ◌++◌, Option, Some, None, Ok, Err, refl, sym, ap, ◌∙◌, arith, append_assoc, append-nil}
use Rattle.std.specs.Prelude.{flat_map}
use Rattle.std.proofs.lemmas.List.Concat.{flat_map-append}
use Rattle.sb_feed.specs.base.records.declared.intake.Refusal.{Refusal}
use Rattle.sb_feed.specs.base.records.declared.intake.Stop.{Stop}
use Rattle.sb_feed.specs.base.records.declared.intake.Stop.TheVariants.{End, Refused, Fault}
use Rattle.sb_feed.specs.base.records.declared.intake.TheConstants.{MAX_LINES}
use Rattle.sb_feed.specs.base.records.declared.item.Item.{Item}
use Rattle.sb_feed.specs.base.records.declared.item.Item.TheVariants.{Rec, Mark, Skip, Late}
use Rattle.sb_feed.specs.base.records.declared.item.Stream.TheVariants.{A, B}
use Rattle.sb_feed.specs.base.records.Inputs.{Accepted, accepted, accepted_after, accepted_if, progress_of}
use Rattle.sb_feed.specs.base.records.Intake.{after, answer_to}
use Rattle.sb_feed.specs.base.records.Progress.{Progress}
use Rattle.sb_feed.proofs.base.records.InputLemmas.{progress-more}
use Rattle.sb_feed.specs.outside.Lines.{lines}
use Rattle.sb_feed.specs.outside.Readings.{Held, MayCome, reading, rest_of_lines}
use Rattle.sb_feed.specs.outside.declared.lines.Halt.{Halt}
use Rattle.sb_feed.specs.outside.declared.lines.Halt.TheVariants as halt
use Rattle.sb_feed.specs.Reads.{FaultCause, IsGoing, StopsAt, StopsReading, TakesItem}
use Rattle.sb_feeds.specs.declared.fed.FeedStop.{FeedStop}
use Rattle.sb_feeds.specs.declared.fed.Fed.{Fed}
use Rattle.sb_feeds.specs.declared.fed.Fed.TheVariants as fed
use Rattle.sb_feeds.specs.Fed.{ends_with_stop, values_of_file, values_of_item, values_of_accepted, has_stop, refusal_at, stop_from}
use Rattle.sb_feeds.proofs.FirstLines.{first_with_more, still_refused}
use Rattle.sb_feeds.proofs.Stops.{feed_ends, items_have_no_stop}

-- what is accepted of lines behind some items, where the first line of all was tested after `new`
abbrev pub following : Progress → List Item → List (List ℕ) → Accepted
following new items ls = accepted_after new.streams new.late new.keys items ls

-- the lines so far gave these items, which were sent, and the lines that are left are tested after them
pub record FileSoFar (new : Progress) (bytes left : List ℕ) (held : Held) (p : Progress) (values : List Fed) : Type 0 where
  pub items : List Item
  pub going : IsGoing held.halt (Some left)
  pub accepts : following new [] (lines true bytes) ≡ following new items (rest_of_lines held.halt held.at_hand true left)
  pub progress : p ≡ progress_of new.streams new.late new.keys items
  pub are : values ≡ flat_map values_of_item items
  pub room : p.lines ≤ MAX_LINES

-- none of the values is a stop
pub no_stop_yet : (new : Progress) (bytes left : List ℕ) (held : Held) (p : Progress) (values : List Fed) → FileSoFar new bytes left held p values → has_stop values ≡ false
no_stop_yet new bytes left held p values t = ap has_stop t.are ∙ items_have_no_stop t.items

lines-after : (i : Item) (p : Progress) → (after i p).lines ≡ p.lines + 1
lines-after (Rec s r) p = refl
lines-after (Mark A t) p = refl
lines-after (Mark B t) p = refl
lines-after Skip p = refl
lines-after (Late n t m) p = refl

-- all that is left may come
may_come : (h : Option Halt) (left : List ℕ) → IsGoing h (Some left) → MayCome h true left
may_come None left going = tt
may_come (Some halt.End) left going = (refl, going)
may_come (Some halt.TooLong) left going = absurd going
may_come (Some halt.Fault) left going = absurd going

-- an accepted line and a refused one
behind_accepted : (new : Progress) (items : List Item) (line : List ℕ) (rest : List (List ℕ)) (i : Item) → answer_to (progress_of new.streams new.late new.keys items) line ≡ Ok i
    → following new items (line ∷ rest) ≡ following new (items ++ i ∷ []) rest
behind_accepted new items line rest i good = ap (λ r. accepted_if r items (λ more. following new more rest)) good

at_refused : (new : Progress) (items : List Item) (line : List ℕ) (rest : List (List ℕ)) (refusal : Refusal) → answer_to (progress_of new.streams new.late new.keys items) line ≡ Err refusal
    → following new items (line ∷ rest) ≡ record { items = items; refused = Some refusal }
at_refused new items line rest refusal bad = ap (λ r. accepted_if r items (λ more. following new more rest)) bad

-- one item more
pub item_read : (new : Progress) (bytes left left' : List ℕ) (held held' : Held) (p p' : Progress) (values values' : List Fed) (i : Item)
    → FileSoFar new bytes left held p values → TakesItem (λ s. Some s) (reading left held) (reading left' held') p p' i → p.lines < MAX_LINES → values' ≡ values ++ values_of_item i
    → FileSoFar new bytes left' held' p' values'
item_read new bytes left left' held held' p p' values values' i t takes room sent = record {
  items = t.items ++ i ∷ [];
  going = takes.going;
  accepts =
      t.accepts
      ∙ ap (λ l. following new t.items (rest_of_lines held.halt held.at_hand true l)) takes.given
      ∙ ap (following new t.items) (takes.first true left' (may_come held'.halt left' takes.going)).1
      ∙ behind_accepted new t.items takes.line (rest_of_lines held'.halt held'.at_hand true left') i (ap (λ q. answer_to q takes.line) (sym t.progress) ∙ takes.tests);
  progress = takes.progress ∙ ap (after i) t.progress ∙ sym (progress-more new.streams new.late new.keys t.items i);
  are = sent ∙ ap (λ l. l ++ values_of_item i) t.are ∙ ap (λ l. flat_map values_of_item t.items ++ l) (sym (append-nil (values_of_item i))) ∙ sym (flat_map-append values_of_item t.items (i ∷ []));
  room = let one = ap (λ (q : Progress). q.lines) takes.progress ∙ lines-after i p in omega (arith, one, room);
}

-- a source that never fails stops no reading
never_fails : (stop : Stop) → FaultCause 0 0 stop → stop ≢ Fault
never_fails End cause = λ e. cc e
never_fails (Refused refusal) cause = λ e. cc e
never_fails Fault cause = λ e. let bad : 1 ≤ 0 = cause in omega (arith, bad)

-- the first of the lines that are left is refused, though not all of their bytes were read
refused_line : (p : Progress) (h : Option Halt) (at_hand more later line : List ℕ) (rest : List (List ℕ)) (ended : Bool) (refusal : Refusal) → (ended ≡ true → later ≡ []) → rest_of_lines h at_hand ended more ≡ line ∷ rest → answer_to p line ≡ Err refusal
    → (first : List ℕ) × (others : List (List ℕ)) × (rest_of_lines h at_hand true (more ++ later) ≡ first ∷ others) × (answer_to p first ≡ Err refusal)
refused_line p (Some h) at_hand more later line rest ended refusal at_end are bad = absurd (let none : ◌≡◌ {A = List (List ℕ)} [] (line ∷ rest) = are in cc none)
refused_line p None at_hand more later line rest true refusal at_end are bad = (line, rest, ap (λ l. lines true (at_hand ++ l)) (ap (λ l. more ++ l) (at_end refl) ∙ append-nil more) ∙ are, bad)
refused_line p None at_hand more later line rest false refusal at_end are bad =
    let begins = first_with_more (at_hand ++ more) [] later line rest are in
    (begins.first, begins.others, ap (lines true) (sym (append_assoc at_hand more later)) ∙ begins.are, still_refused p line _ refusal bad begins)

-- what a file feeds ends with its one stop
pub file_ends : (new : Progress) (bytes : List ℕ) → ends_with_stop (values_of_file new bytes) ≡ true
file_ends new bytes = feed_ends (accepted new.streams new.late new.keys (lines true bytes))

-- reading stopped, so all was fed with the stop
pub all_fed : (new : Progress) (bytes left left' : List ℕ) (held held' : Held) (p p' : Progress) (values values' : List Fed) (stop : Stop) (why : FeedStop)
    → FileSoFar new bytes left held p values → StopsReading (λ s. Some s) (reading left held) (reading left' held') p p' stop → FaultCause 0 0 stop
    → why ≡ stop_from (refusal_at stop) → values' ≡ values ++ fed.Stop why ∷ []
    → values' ≡ values_of_file new bytes
all_fed new bytes left left' held held' p p' values values' stop why t stops cause is sent =
    sent
    ∙ (λ j. t.are j ++ fed.Stop (is j) ∷ [])
    ∙ ap values_of_accepted (sym (t.accepts ∙ by_why stop stops.why (never_fails stop cause)))
  where
    by_why : (stop : Stop) → StopsAt p stops.ended (rest_of_lines held.halt held.at_hand stops.ended stops.more) stop → stop ≢ Fault
        → following new t.items (rest_of_lines held.halt held.at_hand true left) ≡ record { items = t.items; refused = refusal_at stop }
    by_why (Refused refusal) (line, rest, are, bad) some =
        let (first, others, begin, refused) = refused_line p held.halt held.at_hand stops.more left' line rest stops.ended refusal stops.at_end are bad in
        ap (λ l. following new t.items (rest_of_lines held.halt held.at_hand true l)) stops.given
        ∙ ap (following new t.items) begin
        ∙ at_refused new t.items first others refusal (ap (λ q. answer_to q first) (sym t.progress) ∙ refused)
    by_why End (none, ended) some =
        let all : left ≡ stops.more = stops.given ∙ ap (λ l. stops.more ++ l) (stops.at_end ended) ∙ append-nil stops.more in
        ap (λ l. following new t.items (rest_of_lines held.halt held.at_hand true l)) all
        ∙ ap (λ e. following new t.items (rest_of_lines held.halt held.at_hand e stops.more)) (sym ended)
        ∙ ap (following new t.items) none
    by_why Fault why some = absurd (some refl)
