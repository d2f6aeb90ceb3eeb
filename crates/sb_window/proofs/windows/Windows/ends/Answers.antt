use Rattle.std.proofs.Common.{sym, ap, ◌∙◌}
use Rattle.sb_window.specs.Windows.{window_ends}
use Rattle.sb_window.proofs.Multiples.{window_ends-progression}
use Rattle.sb_window.proofs.windows.Windows.ends.Goals as goal

pub returns : goal.returns
returns c =
    c.new.ensures ∙ sym (window_ends-progression (record { size = c.self.inside.size; every = c.self.inside.every }) c.self.invariant c.args.time)
    ∙ ap (λ w. window_ends w c.args.time) c.self.view_is
