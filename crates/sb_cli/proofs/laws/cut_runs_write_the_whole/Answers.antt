use Rattle.sb_cli.proofs.CutLaws.{cut-runs_write_the_whole}
use Rattle.sb_cli.proofs.laws.cut_runs_write_the_whole.Goals as goal

pub returns : goal.returns
returns c = cut-runs_write_the_whole
