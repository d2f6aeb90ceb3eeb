use Rattle.sb_window.proofs.Multiples.{window_ends-spaced}
use Rattle.sb_window.proofs.laws.window_ends_are_spaced.Goals as goal

pub returns : goal.returns
returns c = window_ends-spaced
