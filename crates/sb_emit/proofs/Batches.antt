-- Rows whose text is written batch by batch.
use Rattle.std.proofs.Common.{◌≡◌, ◌≤◌, ℕ, ◌+◌, ◌++◌, List, length, take, drop, Option, sym, ap, subst, ◌∙◌}
use Rattle.std.specs.Io.KnownBytes.{Appends, Keeps}
use Rattle.std.proofs.KnownBytes.{Appends-trans}
use Rattle.std.proofs.lemmas.List.{take-append-drop, take_all}
use Rattle.std.proofs.lemmas.List.Concat.{flat_map-append}
use Rattle.std.proofs.Math.Seq.{take-add}
use Rattle.sb_record.specs.declared.item.Record.{Record}
use Rattle.sb_record.specs.Rows.{row_text, text_of}
use Rattle.sb_outside.specs.Sinks.{AppendsPrefix}
use Rattle.sb_outside.proofs.Appending.{prefix_later, prefix_of_more, wrote_prefix}

-- the text of the first rows, and of the batch behind them
with_batch : (rows : List Record) (done count : ℕ) (text : List ℕ) → text ≡ text_of (take count (drop done rows)) → text_of (take done rows) ++ text ≡ text_of (take (done + count) rows)
with_batch rows done count text is =
    ap (λ l. text_of (take done rows) ++ l) is ∙ sym (flat_map-append row_text (take done rows) (take count (drop done rows))) ∙ ap text_of (sym (take-add done count rows))

-- the whole batch is written
pub batch_written : (a b c : Option (List ℕ)) (rows : List Record) (done count written : ℕ) (text : List ℕ) → text ≡ text_of (take count (drop done rows)) → length text ≤ written
    → Appends a b (text_of (take done rows)) → Appends b c (take written text) → Appends a c (text_of (take (done + count) rows))
batch_written a b c rows done count written text is all before batch =
    subst (Appends a c) (with_batch rows done count text is) (Appends-trans a b c (text_of (take done rows)) text before (subst (Appends b c) (take_all written text all) batch))

-- a fault in a batch leaves a prefix of all text
pub batch_failed : (a b c d : Option (List ℕ)) (rows : List Record) (done count written : ℕ) (text : List ℕ) → text ≡ text_of (take count (drop done rows))
    → Appends a b (text_of (take done rows)) → Appends b c (take written text) → Keeps c d → AppendsPrefix a d (text_of rows)
batch_failed a b c d rows done count written text is before batch kept =
    let some = prefix_later a b d (text_of (take done rows)) text before (wrote_prefix b c d text written batch kept) in
    let rest = drop (done + count) rows in
    let whole : (text_of (take done rows) ++ text) ++ text_of rest ≡ text_of rows =
    ap (λ l. l ++ text_of rest) (with_batch rows done count text is) ∙ sym (flat_map-append row_text (take (done + count) rows) rest) ∙ ap text_of (take-append-drop (done + count) rows) in
    subst (AppendsPrefix a d) whole (prefix_of_more a d (text_of (take done rows) ++ text) (text_of rest) some)
