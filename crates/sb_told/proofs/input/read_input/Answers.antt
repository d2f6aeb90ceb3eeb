use Rattle.std.proofs.Common.{[], ◌∷◌, ◌++◌, ◌∙◌, ap, false, sym}
use Rattle.std.proofs.KnownBytes.{Consumes-trans}
use Rattle.sb_feed.specs.base.records.Intake.{first_progress}
use Rattle.sb_feed.specs.outside.Readings.{Held}
use Rattle.sb_feed.proofs.ReadSoFar.{read_more, read_nothing}
use Rattle.sb_told.proofs.KeptItems.{kept-all, kept-more, reads_err}
use Rattle.sb_told.proofs.input.read_input.Goals as goal

pub items-init : goal.items-init
items-init g c =
    record {
      items = [];
      read = read_nothing c.args.plan.now (g.S.Source.left c.args.source.now) c.new-lines.result c.new-intake.result (g.S.Source.faults c.args.source.now) c.new-lines.ensures
          (c.new-intake.ensures ∙ (λ i. first_progress (c.streams.ensures.value i) 0 (c.late.ensures i) (c.keys.ensures i)));
      kept = c.nothing-kept.ensures;
      ends = λ e. absurd (cc (sym (ap (λ (l : Held). l.halt) c.new-lines.ensures), e));
    }

pub returns-in_err-keep-in-Ok-clause-reads : goal.returns-in_err-keep-in-Ok-clause-reads
returns-in_err-keep-in-Ok-clause-reads g c =
    let read = c.items.invariant.read in
    let takes = c.in-Ok.ensures.takes in
    reads_err c.args.plan.now (g.S.Source.left c.args.source.now) (g.S.Source.left c.next_item.new.source) c.from_residual.result c.from_residual.ensures.0
    (record {
      bytes = read.bytes ++ takes.more;
      were_left = Consumes-trans (g.S.Source.left c.args.source.now) (g.S.Source.left c.items.source) (g.S.Source.left c.next_item.new.source) read.bytes takes.more read.given takes.given;
      ended = false;
      at_end = λ e. absurd (cc e);
    })

pub items-preserved : goal.items-preserved
items-preserved g c =
    record {
      items = c.items.invariant.items ++ c.in-Ok.item ∷ [];
      read = read_more g.S.Source.left c.args.plan.now (g.S.Source.left c.args.source.now) c.items.source c.next_item.new.source c.items.lines c.next_item.new.lines c.items.intake c.next_item.new.intake c.items.invariant.items c.in-Ok.item
          (g.S.Source.faults c.args.source.now) (g.S.Source.faults c.items.source) (g.S.Source.faults c.next_item.new.source)
          c.items.invariant.read c.in-Ok.ensures.takes c.in-Ok.ensures.same c.in-Ok.ensures.room;
      kept = kept-more c.items.invariant.items c.in-Ok.item c.items.kept c.keep.new.self c.items.invariant.kept c.in_ok-keep-in-Ok.ensures;
      ends = c.in-Ok.ensures.end c.items.invariant.ends;
    }

pub returns-in-Err-clause-reads : goal.returns-in-Err-clause-reads
returns-in-Err-clause-reads g c =
    kept-all g.S.Source.left c.args.plan.now (g.S.Source.left c.args.source.now) c.items.source c.next_item.new.source c.items.lines c.next_item.new.lines c.items.intake c.next_item.new.intake c.items.invariant.items c.items.kept c.low-low.result c.in-Err.stop
    (g.S.Source.faults c.args.source.now) (g.S.Source.faults c.items.source) c.items.invariant.read c.items.invariant.kept c.in-Err.ensures.takes c.low-low.ensures
