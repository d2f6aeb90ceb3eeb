use Rattle.std.proofs.Common.{◌<◌}
use Rattle.std.proofs.lemmas.List.Elements.{All-from_recursion, All-same, recursion_from_All}
use Rattle.sb_base.specs.records.declared.item.Record.{Record}
use Rattle.sb_base.specs.records.declared.item.TheConstants.{END_MARK}
use Rattle.sb_base.specs.records.declared.element.KeptRec.{KeptRec}
use Rattle.sb_slow.specs.Taken.{first_input, second_input}
use Rattle.sb_slow.proofs.TakingOut.{All-first_input, All-second_input}
use Rattle.sb_slow.proofs.operate.output.Goals as goal

pub given_for-requires-clause-first : goal.given_for-requires-clause-first
given_for-requires-clause-first c =
    let kind = c.args.kind.now in
    let elements = c.args.elements.now in
    All-same (λ (r : Record). r.time < END_MARK) _ _ c.in_ok-first.ensures.first
    (All-from_recursion (λ r. r.time < END_MARK) (first_input kind elements) (All-first_input (λ r. r.time < END_MARK) kind elements (recursion_from_All (λ (e : KeptRec). e.rec.time < END_MARK) elements c.requires.times)))

pub given_for-requires-clause-second : goal.given_for-requires-clause-second
given_for-requires-clause-second c =
    let kind = c.args.kind.now in
    let elements = c.args.elements.now in
    All-same (λ (r : Record). r.time < END_MARK) _ _ c.in_ok-first.ensures.second
    (All-from_recursion (λ r. r.time < END_MARK) (second_input kind elements) (All-second_input (λ r. r.time < END_MARK) kind elements (recursion_from_All (λ (e : KeptRec). e.rec.time < END_MARK) elements c.requires.times)))
