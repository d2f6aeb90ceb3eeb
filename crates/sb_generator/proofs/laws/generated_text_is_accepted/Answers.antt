use Rattle.sb_generator.proofs.Acceptance.{text_accepted}
use Rattle.sb_generator.proofs.laws.generated_text_is_accepted.Goals as goal

pub returns : goal.returns
returns c = text_accepted
