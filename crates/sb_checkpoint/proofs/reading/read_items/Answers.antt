use Rattle.std.proofs.Common.{refl, ◌∙◌}
use Rattle.sb_checkpoint.specs.Saved.{items_in}
use Rattle.sb_checkpoint.proofs.ReadStep.{goes-on}
use Rattle.sb_checkpoint.proofs.reading.read_items.Goals as goal

pub lines-preserved : goal.lines-preserved
lines-preserved c = record {
  lines = c.in_ok-add_line.ensures.lines ∙ c.lines.invariant.lines;
  low = c.in_ok-add_line.ensures.low ∙ c.lines.invariant.low;
  reach = refl;
  read =
      goes-on c.args.plan.now c.lines.checkpoint.lines c.lines.checkpoint.low c.add_line.new.checkpoint.lines c.add_line.new.checkpoint.low (items_in c.lines.checkpoint) (items_in c.add_line.new.checkpoint)
      c.lines.rest.now c.in-Some.line.now c.in-Some.more.now _ c.in_ok-add_line.field-0 c.lines.invariant.read c.in-Some.ensures.some
      c.in_ok-add_line.ensures.lines c.in_ok-add_line.ensures.low c.if-not-branch.false c.in_ok-add_line.ensures.may c.in_ok-add_line.ensures.items;
}
