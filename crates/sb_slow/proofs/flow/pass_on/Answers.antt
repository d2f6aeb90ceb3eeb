use Rattle.std.proofs.Common.{◌≡◌, ◌<◌, Some, ap, ◌∙◌}
use Rattle.std.proofs.lemmas.List.Elements.{All-from_recursion, All-same, recursion_from_All}
use Rattle.sb_base.specs.records.declared.item.Record.{Record}
use Rattle.sb_base.specs.records.declared.item.TheConstants.{END_MARK}
use Rattle.sb_base.specs.records.declared.element.KeptRec.{KeptRec}
use Rattle.sb_base.specs.pipeline.Flow.{arrivals_at}
use Rattle.sb_base.specs.pipeline.Operators.{operator_of, output}
use Rattle.sb_slow.specs.Taken.{first_input, second_input, given_for}
use Rattle.sb_slow.proofs.TakingOut.{first-taken, second-taken, given-output, All-first_input, All-second_input, arriving-elsewhere, arriving-more}
use Rattle.sb_slow.proofs.flow.pass_on.Goals as goal

pub given_for-requires-clause-first : goal.given_for-requires-clause-first
given_for-requires-clause-first c =
    let kind = c.args.kind.now in
    let k = c.args.node in
    let sent = c.args.sent.items in
    let elements = arrivals_at k sent in
    All-same (λ (r : Record). r.time < END_MARK) _ _ (first-taken kind k c.first_lane.result sent c.in_ok-first.first.items c.first_lane.ensures c.in_ok-first.ensures.records)
    (All-from_recursion (λ r. r.time < END_MARK) (first_input kind elements) (All-first_input (λ r. r.time < END_MARK) kind elements (recursion_from_All (λ (e : KeptRec). e.rec.time < END_MARK) elements c.requires.times)))

pub given_for-requires-clause-second : goal.given_for-requires-clause-second
given_for-requires-clause-second c =
    let kind = c.args.kind.now in
    let k = c.args.node in
    let sent = c.args.sent.items in
    let elements = arrivals_at k sent in
    All-same (λ (r : Record). r.time < END_MARK) _ _ (second-taken kind k c.first_lane.result sent c.in_ok-first.sent.items c.in_ok-second.second.items c.first_lane.ensures c.in_ok-first.ensures.others c.in_ok-second.ensures.records)
    (All-from_recursion (λ r. r.time < END_MARK) (second_input kind elements) (All-second_input (λ r. r.time < END_MARK) kind elements (recursion_from_All (λ (e : KeptRec). e.rec.time < END_MARK) elements c.requires.times)))

pub returns : goal.returns
returns c = λ behind later.
    let k = c.args.node in
    let kind = c.args.kind.now in
    let sent = c.args.sent.items in
    let first = first-taken kind k c.first_lane.result sent c.in_ok-first.first.items c.first_lane.ensures c.in_ok-first.ensures.records in
    let second = second-taken kind k c.first_lane.result sent c.in_ok-first.sent.items c.in_ok-second.second.items c.first_lane.ensures c.in_ok-first.ensures.others c.in_ok-second.ensures.records in
    let rows : c.in_ok-records.records.items ≡ output (operator_of kind) (arrivals_at k sent) = c.in_ok-records.ensures ∙ (λ i. given_for kind (first i) (second i)) ∙ given-output kind (arrivals_at k sent) in
    let left : arrivals_at behind c.in_ok-second.sent.items ≡ arrivals_at behind sent =
    ap (arrivals_at behind) c.in_ok-second.ensures.others ∙ arriving-elsewhere k (Some 1) behind later c.in_ok-first.sent.items
    ∙ ap (arrivals_at behind) c.in_ok-first.ensures.others ∙ arriving-elsewhere k c.first_lane.result behind later sent in
    ap (arrivals_at behind) c.in_ok-send.ensures ∙ arriving-more behind c.in_ok-second.sent.items sent c.args.down c.in_ok-records.records.items (output (operator_of kind) (arrivals_at k sent)) left rows
