-- How far the reading of an input has come.
use Rattle.std.proofs.Common.{◌≡◌, ℕ, ◌+◌, ◌<◌, ◌≤◌, Bool, List, [], ◌∷◌, ◌++◌, Option, Some, None, Ok, Err, refl, sym, ap, subst, ◌∙◌, arith, append_assoc}
use Rattle.std.specs.Io.KnownBytes.{Consumes}
use Rattle.sb_base.specs.records.declared.item.Item.{Item}
use Rattle.sb_base.specs.records.declared.item.Item.TheVariants.{Rec, Mark, Skip, Late}
use Rattle.sb_base.specs.records.declared.item.Stream.TheVariants.{A, B}
use Rattle.sb_base.specs.records.declared.intake.Refusal.{Refusal}
use Rattle.sb_base.specs.records.declared.intake.TheConstants.{MAX_LINES}
use Rattle.sb_base.specs.records.declared.intake.Stop.{Stop}
use Rattle.sb_base.specs.records.declared.intake.Stop.TheVariants.{End, Refused, Fault}
use Rattle.sb_base.specs.records.Progress.{Progress}
use Rattle.sb_base.specs.records.Intake.{answer_to, after}
use Rattle.sb_base.specs.records.Inputs.{Accepted, accepted_if, stop_of}
use Rattle.sb_base.proofs.records.InputLemmas.{progress-more}
use Rattle.sb_outside.specs.Lines.{lines}
use Rattle.sb_base.specs.pipeline.Shapes.{Shape, streams_of}
use Rattle.sb_outside.specs.Readings.{Held, MayCome, reading, rest_of_lines}
use Rattle.std.proofs.KnownBytes.{Consumes-nil, Consumes-trans}
use Rattle.sb_feed.specs.Given.{Given, items_of, stop_at}
use Rattle.sb_feed.specs.Reads.{IsGoing, StopsAt, StopsReading, TakesItem}
use Rattle.sb_feed.proofs.LaterItems.{following, said_by, starting}

-- the lines so far gave these items, and those that the reader has still to give are tested after them
pub record ReadSoFar (plan : Shape) (left left' : Option (List ℕ)) (held : Held) (p : Progress) (items : List Item) (faults faults' : ℕ) : Type 0 where
  pub bytes : List ℕ
  pub given : Consumes left left' bytes
  pub going : IsGoing held.halt left'
  pub accepts : (ended : Bool) (later : List ℕ) → MayCome held.halt ended later
      → starting plan (lines ended (bytes ++ later)) ≡ following plan items (rest_of_lines held.halt held.at_hand ended later)
  pub progress : p ≡ said_by plan items
  pub room : p.lines ≤ MAX_LINES
  pub no_fault : faults' ≡ faults

-- before the first line
pub read_nothing : (plan : Shape) (left : Option (List ℕ)) (held : Held) (p : Progress) (faults : ℕ) → held ≡ record { at_hand = []; line = []; halt = None } → p ≡ said_by plan [] → ReadSoFar plan left left held p [] faults faults
read_nothing plan left held p faults nothing said =
    subst (λ (h : Held). ReadSoFar plan left left h p [] faults faults) (sym nothing)
    (record { bytes = []; given = Consumes-nil left; going = tt; accepts = λ ended later may. refl; progress = said; room = let none = ap (λ (q : Progress). q.lines) said in omega (arith, none); no_fault = refl })

after-lines : (i : Item) (p : Progress) → (after i p).lines ≡ p.lines + 1
after-lines (Rec s r) p = refl
after-lines (Mark A t) p = refl
after-lines (Mark B t) p = refl
after-lines Skip p = refl
after-lines (Late n t m) p = refl

-- the lines behind an accepted one are tested after its item too
pub accepted-more : (plan : Shape) (items : List Item) (line : List ℕ) (rest : List (List ℕ)) (i : Item) → answer_to (said_by plan items) line ≡ Ok i
    → following plan items (line ∷ rest) ≡ following plan (items ++ i ∷ []) rest
accepted-more plan items line rest i ok = ap (λ r. accepted_if r items (λ more. following plan more rest)) ok

accepted-stops : (plan : Shape) (items : List Item) (line : List ℕ) (rest : List (List ℕ)) (refusal : Refusal) → answer_to (said_by plan items) line ≡ Err refusal
    → following plan items (line ∷ rest) ≡ record { items = items; refused = Some refusal }
accepted-stops plan items line rest refusal bad = ap (λ r. accepted_if r items (λ more. following plan more rest)) bad

module _ {S : Type 0} (left_of : S → Option (List ℕ)) where
  -- one item more
  pub read_more : (plan : Shape) (left : Option (List ℕ)) (source source' : S) (held held' : Held) (p p' : Progress) (items : List Item) (i : Item) (faults faults' faults2 : ℕ)
      → ReadSoFar plan left (left_of source) held p items faults faults'
      → TakesItem left_of (reading source held) (reading source' held') p p' i → faults2 ≡ faults' → p.lines < MAX_LINES
      → ReadSoFar plan left (left_of source') held' p' (items ++ i ∷ []) faults faults2
  read_more plan left source source' held held' p p' items i faults faults' faults2 t takes same room =
      record {
        bytes = t.bytes ++ takes.more;
        given = Consumes-trans left (left_of source) (left_of source') t.bytes takes.more t.given takes.given;
        going = takes.going;
        accepts = λ ended later may.
            let (before, first) = takes.first ended later may in
            ap (λ l. starting plan (lines ended l)) (append_assoc t.bytes takes.more later)
            ∙ t.accepts ended (takes.more ++ later) before
            ∙ ap (following plan items) first
            ∙ accepted-more plan items takes.line (rest_of_lines held'.halt held'.at_hand ended later) i (ap (λ q. answer_to q takes.line) (sym t.progress) ∙ takes.tests);
        progress = takes.progress ∙ ap (after i) t.progress ∙ sym (progress-more (streams_of plan) plan.late plan.keys items i);
        room = let one = ap (λ (q : Progress). q.lines) takes.progress ∙ after-lines i p in omega (arith, one, room);
        no_fault = same ∙ t.no_fault;
      }

  -- reading stops
  pub reading_stops : (plan : Shape) (left : Option (List ℕ)) (source source' : S) (held held' : Held) (p p' : Progress) (items : List Item) (stop : Stop) (faults faults' : ℕ)
      → ReadSoFar plan left (left_of source) held p items faults faults'
      → StopsReading left_of (reading source held) (reading source' held') p p' stop
      → (given : Given left (left_of source')) × (items ≡ items_of plan given) × (stop ≡ stop_at plan given)
  reading_stops plan left source source' held held' p p' items stop faults faults' t stops = (given, same_items, same_stop)
    where
      given : Given left (left_of source')
      given = record {
        bytes = t.bytes ++ stops.more;
        were_left = Consumes-trans left (left_of source) (left_of source') t.bytes stops.more t.given stops.given;
        ended = stops.ended;
        at_end = stops.at_end;
      }

      -- what is accepted, by why reading stops
      by_why : (stop : Stop) (ls : List (List ℕ)) → StopsAt p stops.ended ls stop
          → (a : Accepted) × (following plan items ls ≡ a) × (a.items ≡ items) × (stop_of stops.ended a.refused ≡ stop)
      by_why (Refused refusal) ls (line, rest, are, bad) = (
        record { items = items; refused = Some refusal },
        ap (following plan items) are ∙ accepted-stops plan items line rest refusal (ap (λ q. answer_to q line) (sym t.progress) ∙ bad),
        refl,
        refl,
      )
      by_why End ls (none, e) = (record { items = items; refused = None }, ap (following plan items) none, refl, ap (λ b. stop_of b None) e)
      by_why Fault ls (none, e) = (record { items = items; refused = None }, ap (following plan items) none, refl, ap (λ b. stop_of b None) e)

      why : (a : Accepted) × (following plan items (rest_of_lines held.halt held.at_hand stops.ended stops.more) ≡ a) × (a.items ≡ items) × (stop_of stops.ended a.refused ≡ stop)
      why = by_why stop (rest_of_lines held.halt held.at_hand stops.ended stops.more) stops.why

      are : starting plan (lines stops.ended (t.bytes ++ stops.more)) ≡ why.0
      are = t.accepts stops.ended stops.more stops.may ∙ why.1

      same_items : items ≡ items_of plan given
      same_items = sym (ap (λ (a : Accepted). a.items) are ∙ why.2)

      same_stop : stop ≡ stop_at plan given
      same_stop = sym (ap (λ (a : Accepted). stop_of stops.ended a.refused) are ∙ why.3)
