use Rattle.std.proofs.Common.{◌≡◌, ◌-◌, List, [], ◌++◌, drop, sym, ap, ◌∙◌, arith}
use Rattle.std.proofs.lemmas.List.{drop_all}
use Rattle.sb_outside.specs.Comments.{comment_lines}
use Rattle.sb_pipeline.specs.records.declared.item.Item.{Item}
use Rattle.sb_checkpoint.specs.Ahead.{bytes, items_left}
use Rattle.sb_checkpoint.specs.Saved.{items_in}
use Rattle.sb_checkpoint.specs.Texts.{items_text}
use Rattle.sb_checkpoint.proofs.LinesAhead.{comments_off}
use Rattle.sb_checkpoint.proofs.ahead.Ahead.take_comments.Goals as goal

pub returns : goal.returns
returns c =
    let inside = c.self.inside in
    let items : List Item = items_in inside.checkpoint in
    let count = c.min-count.result in
    let at_end : drop inside.from inside.line ≡ [] = drop_all inside.from inside.line (omega (arith, c.len.ensures.length, c.if-self-len.false)) in
    let taken = comments_off count inside.comments inside.begun items (omega (arith, c.min-count.ensures)) in
    ap bytes (sym c.self.view_is)
    ∙ (λ i. at_end i ++ taken i)
    ∙ (λ i. comment_lines count ++ (sym at_end i ++ items_text (items_left (inside.comments - sym c.from-2.ensures i) inside.begun items)))
