-- Comments at the front of an input: they are accepted, and feed nothing.
use Rattle.std.proofs.Common.{◌≡◌, ◌≤◌, ◌<◌, ◌+◌, ℕ, zero, suc, Bool, false, List, [], ◌∷◌, ◌++◌, length, replicate, Option, None, Ok, refl, sym, ap, subst, ◌∙◌, append_assoc, append-nil, length-append, arith}
use Rattle.std.specs.List.{flat_map}
use Rattle.std.specs.Prelude.{nat_le}
use Rattle.std.specs.Io.KnownBytes.{Consumes}
use Rattle.std.proofs.lemmas.Bool.Decides.{nat_tests}
use Rattle.std.proofs.lemmas.List.{length-replicate}
use Rattle.sb_base.specs.records.declared.item.Item.{Item}
use Rattle.sb_base.specs.records.declared.item.Item.TheVariants.{Skip}
use Rattle.sb_base.specs.records.declared.item.Stream.{Stream}
use Rattle.sb_base.specs.records.declared.item.Stream.TheVariants.{A, B}
use Rattle.sb_base.specs.records.declared.intake.TheConstants.{MAX_LINES}
use Rattle.sb_base.specs.records.Intake.{answer_to, first_progress, timely_if}
use Rattle.sb_base.specs.records.Progress.{Progress}
use Rattle.sb_base.specs.records.Streams.{dropped_of, last_or, watermark_in}
use Rattle.sb_base.specs.bundle.Cuts.{first_cutting}
use Rattle.sb_base.specs.bundle.Laws.{bundles_of, cutting_after}
use Rattle.sb_base.specs.pipeline.Shapes.{Shape, streams_of}
use Rattle.sb_base.proofs.records.Grammar.{item_reads}
use Rattle.sb_outside.specs.Comments.{comment_lines, comment_text}
use Rattle.sb_outside.specs.Lines.{lines}
use Rattle.sb_outside.specs.Readings.{Held}
use Rattle.sb_feed.specs.Calls.{calls_of}
use Rattle.sb_feed.specs.FedByItems.{IsFedBy, IsStreamFedBy, new_cutters}
use Rattle.sb_feed.specs.Feeds.{nothing_fed}
use Rattle.sb_feed.proofs.ItemSteps.{fed_nothing}
use Rattle.sb_feed.proofs.LaterItems.{following, said_by, starting}
use Rattle.sb_feed.proofs.ReadSoFar.{ReadSoFar, accepted-more}

-- so many comments, as lines and as items
abbrev pub texts : ℕ → List (List ℕ)
texts n = replicate n comment_text

abbrev pub skips : ℕ → List Item
skips n = replicate n Skip

-- ---- they are accepted
lines-behind : (ended : Bool) (n : ℕ) (bytes : List ℕ) → lines ended (comment_lines n ++ bytes) ≡ texts n ++ lines ended bytes
lines-behind ended zero bytes = refl
lines-behind ended (suc n) bytes = ap (λ l. comment_text ∷ l) (lines-behind ended n bytes)

comment_passes : (p : Progress) → p.lines < MAX_LINES → answer_to p comment_text ≡ Ok Skip
comment_passes p few =
    let room : nat_le 4294967295 p.lines ≡ false = grind (arith, nat_tests) in
    rw room (ap (timely_if p (p.lines + 1)) (item_reads p.keys Skip comment_text ([], refl)))

accepts-behind : (plan : Shape) (n : ℕ) (items : List Item) (rest : List (List ℕ)) → length items + n ≤ MAX_LINES → following plan items (texts n ++ rest) ≡ following plan (items ++ skips n) rest
accepts-behind plan zero items rest few = ap (λ l. following plan l rest) (sym (append-nil items))
accepts-behind plan (suc n) items rest few =
    accepted-more plan items comment_text (texts n ++ rest) Skip (comment_passes (said_by plan items) (omega (arith, few)))
    ∙ accepts-behind plan n (items ++ Skip ∷ []) rest (omega (arith, few, length-append items (Skip ∷ [])))
    ∙ ap (λ l. following plan l rest) (append_assoc items (Skip ∷ []) (skips n))

-- ---- what they say
pub no_watermark : (s : Stream) (n : ℕ) → flat_map (watermark_in s) (skips n) ≡ []
no_watermark A zero = refl
no_watermark B zero = refl
no_watermark A (suc n) = no_watermark A n
no_watermark B (suc n) = no_watermark B n

no_call : (s : Stream) (n : ℕ) → calls_of s (skips n) ≡ []
no_call A zero = refl
no_call B zero = refl
no_call A (suc n) = no_call A n
no_call B (suc n) = no_call B n

pub none_dropped : (n : ℕ) → dropped_of (skips n) ≡ []
none_dropped zero = refl
none_dropped (suc n) = none_dropped n

pub said_by_skips : (plan : Shape) (n : ℕ) → first_progress (streams_of plan) n plan.late plan.keys ≡ said_by plan (skips n)
said_by_skips plan n = λ i. record {
  streams = streams_of plan;
  mark_a = sym (ap (last_or 0) (no_watermark A n)) i;
  mark_b = sym (ap (last_or 0) (no_watermark B n)) i;
  lines = sym (length-replicate n Skip) i;
  late = plan.late;
  keys = plan.keys;
}

-- ---- they are read, and feed nothing
pub read_comments : (plan : Shape) (left left' : Option (List ℕ)) (held : Held) (p : Progress) (n faults faults' : ℕ) → n ≤ MAX_LINES → Consumes left left' (comment_lines n) → faults' ≡ faults
    → held ≡ record { at_hand = []; line = []; halt = None } → p ≡ said_by plan (skips n) → ReadSoFar plan left left' held p (skips n) faults faults'
read_comments plan left left' held p n faults faults' few given same nothing said =
    subst (λ (h : Held). ReadSoFar plan left left' h p (skips n) faults faults') (sym nothing)
    (record {
      bytes = comment_lines n;
      given = given;
      going = tt;
      accepts = λ ended later may. ap (starting plan) (lines-behind ended n later) ∙ accepts-behind plan n [] (lines ended later) (omega (arith, few));
      progress = said;
      room = let many = ap (λ (q : Progress). q.lines) said in let count = length-replicate n Skip in omega (arith, many, count, few);
      no_fault = same;
    })

stream_unfed : (size n : ℕ) (s : Stream) → IsStreamFedBy size s [] nothing_fed (first_cutting size) → IsStreamFedBy size s (skips n) nothing_fed (first_cutting size)
stream_unfed size n s h =
    let no_bundle = h.few_bundles in
    let no_mark = h.few_marks in
    record {
      bundles = h.bundles ∙ ap (bundles_of size) (sym (no_call s n));
      marks = h.marks ∙ sym (no_watermark s n);
      cut = h.cut ∙ ap (cutting_after size) (sym (no_call s n));
      sized = h.sized;
      floor = h.floor;
      epoch = h.epoch;
      held = h.held;
      few_bundles = omega (arith, no_bundle);
      few_marks = omega (arith, no_mark);
    }

pub fed_comments : (size n : ℕ) → 1 ≤ size → IsFedBy size (skips n) nothing_fed (new_cutters size)
fed_comments size n some =
    let none = fed_nothing size some in
    record { of_a = stream_unfed size n A none.of_a; of_b = stream_unfed size n B none.of_b }
