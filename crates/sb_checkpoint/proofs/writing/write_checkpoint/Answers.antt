use Rattle.std.proofs.Common.{ℕ, List, ◌++◌, length, ap, subst, ◌∙◌}
use Rattle.std.specs.Io.KnownBytes.{Appends}
use Rattle.sb_outside.specs.Sinks.{AppendsPrefix, WritesAll}
use Rattle.sb_outside.proofs.Appending.{prefix_of_more, prefix_later, writes_err}
use Rattle.sb_checkpoint.specs.Saved.{items_in}
use Rattle.sb_checkpoint.specs.Texts.{with_end, head_text, end_text, items_text}
use Rattle.sb_checkpoint.proofs.ItemTexts.{then_writes}
use Rattle.sb_checkpoint.proofs.writing.write_checkpoint.Goals as goal

pub returns-in_err-write_all_of-clause-bytes : goal.returns-in_err-write_all_of-clause-bytes
returns-in_err-write_all_of-clause-bytes g c =
    let taken = g.K.Sink.taken in
    let head : List ℕ = with_end (head_text c.args.checkpoint.now.lines c.args.checkpoint.now.low) in
    let behind : List ℕ = items_text (items_in c.args.checkpoint.now) ++ with_end (end_text (length (items_in c.args.checkpoint.now))) in
    writes_err (taken c.args.sink.now) (taken c.write_all_of.new.sink) (head ++ behind) c.from_residual.result c.from_residual.ensures.0
    (prefix_of_more (taken c.args.sink.now) (taken c.write_all_of.new.sink) head behind
    (subst (AppendsPrefix (taken c.args.sink.now) (taken c.write_all_of.new.sink)) (c.as_slice.ensures.bytes ∙ c.head_line.ensures) c.in_err-write_all_of.ensures.bytes))

pub returns-in_err-write_items-clause-bytes : goal.returns-in_err-write_items-clause-bytes
returns-in_err-write_items-clause-bytes g c =
    let taken = g.K.Sink.taken in
    let head : List ℕ = with_end (head_text c.args.checkpoint.now.lines c.args.checkpoint.now.low) in
    let items : List ℕ = items_text (items_in c.args.checkpoint.now) in
    let last : List ℕ = with_end (end_text (length (items_in c.args.checkpoint.now))) in
    writes_err (taken c.args.sink.now) (taken c.write_items.new.sink) (head ++ (items ++ last)) c.from_residual-in_err-write_items.result c.from_residual-in_err-write_items.ensures.0
    (prefix_later (taken c.args.sink.now) (taken c.write_all_of.new.sink) (taken c.write_items.new.sink) head (items ++ last)
    (subst (Appends (taken c.args.sink.now) (taken c.write_all_of.new.sink)) (c.as_slice.ensures.bytes ∙ c.head_line.ensures) c.in_ok-write_all_of.ensures.bytes)
    (prefix_of_more (taken c.write_all_of.new.sink) (taken c.write_items.new.sink) items last c.in_err-write_items.ensures.bytes))

pub returns-clause-bytes : goal.returns-clause-bytes
returns-clause-bytes g c =
    let taken = g.K.Sink.taken in
    let head : List ℕ = with_end (head_text c.args.checkpoint.now.lines c.args.checkpoint.now.low) in
    let items : List ℕ = items_text (items_in c.args.checkpoint.now) in
    let last : List ℕ = with_end (end_text (length (items_in c.args.checkpoint.now))) in
    then_writes (taken c.args.sink.now) (taken c.write_all_of.new.sink) (taken c.write_all_of-2.new.sink) head (items ++ last) c.write_all_of-2.result
    (subst (Appends (taken c.args.sink.now) (taken c.write_all_of.new.sink)) (c.as_slice.ensures.bytes ∙ c.head_line.ensures) c.in_ok-write_all_of.ensures.bytes)
    (then_writes (taken c.write_all_of.new.sink) (taken c.write_items.new.sink) (taken c.write_all_of-2.new.sink) items last c.write_all_of-2.result c.in_ok-write_items.ensures.bytes
    (subst (λ l. WritesAll (taken c.write_items.new.sink) (taken c.write_all_of-2.new.sink) l c.write_all_of-2.result) (c.as_slice-2.ensures.bytes ∙ (c.end_line.ensures ∙ ap (λ n. with_end (end_text n)) c.item_count.ensures)) c.write_all_of-2.ensures.bytes))
