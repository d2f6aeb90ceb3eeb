use Rattle.sb_live.proofs.Named.{key_named-exact}
use Rattle.sb_live.proofs.laws.keys_are_named_by_their_text.Goals as goal

pub returns : goal.returns
returns c = key_named-exact
