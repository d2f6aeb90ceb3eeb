use Rattle.std.proofs.Common.{rules, ◌≡◌, ◌≤◌, sym, arith, subst}
use Rattle.sb_shared.specs.turn.Owed.{Leaves}
use Rattle.sb_shared.specs.turn.Passes.{about}
use Rattle.sb_shared.specs.declared.telling.Setting.{Setting}
use Rattle.sb_shared.specs.Doings.{is_event}
use Rattle.sb_shared.specs.Leavings.{Looks}
use Rattle.sb_shared.specs.Shown.{ShowsMoment}
use Rattle.sb_shared.specs.SharedNodes.{lines_of}
use Rattle.sb_shared.specs.Views.{after}
use Rattle.sb_shared.proofs.leavings.Leaving.{leaves_by}
use Rattle.sb_shared.proofs.diaries.LinesGrow.{line_more}
use Rattle.sb_cascade.proofs.cascade.Cascade.leave.Goals as goal

pub leave-requires-clause-lines : goal.leave-requires-clause-lines
leave-requires-clause-lines c =
    let me = c.args.pass.now.me.0 in
    let g = c.args.guard in
    let most : lines_of g.state ≤ 72057594037927936 = search rules in (
      line_more c.args.self.now.setting me.client me.seen g.node g.found.value g.state c.args.change c.requires.does c.requires.found,
      omega arith,
    )

pub leave-requires-clause-rule : goal.leave-requires-clause-rule
leave-requires-clause-rule c =
    let me = c.args.pass.now.me.0 in
    let g = c.args.guard in
    let same : about c.args.self.now.turns ≡ c.args.self.now.setting = search rules in
    subst (λ (a : Setting). Leaves is_event (ShowsMoment a) c.args.pass.now.id me.client me.seen g.node g.found.value g.state c.args.change (after me.client g.node c.args.change)) (sym same)
    (leaves_by c.args.self.now.setting c.args.pass.now.id g.node me.seen me.client g.found.value g.state c.args.change c.requires.does)

pub leave-requires-clause-allowed : goal.leave-requires-clause-allowed
leave-requires-clause-allowed c =
    let g = c.args.guard in
    let same : about c.args.self.now.turns ≡ c.args.self.now.setting = search rules in
    subst (λ (a : Setting). Looks a g.node g.found.value g.state c.args.change) (sym same) c.requires.looks
