use Rattle.std.proofs.Common.{◌≡◌, ◌≤◌, ◌<◌, ℕ, List, [], ◌∷◌, ◌++◌, ◌+◌, All, None, length, drop, subst, refl, sym, ap, ◌∙◌, arith}
use Rattle.std.proofs.lemmas.List.{drop_all}
use Rattle.std.proofs.lemmas.List.Elements.{All-same}
use Rattle.sb_base.specs.records.declared.item.Record.{Record}
use Rattle.sb_base.specs.records.declared.item.TheConstants.{END_MARK}
use Rattle.sb_base.specs.records.declared.element.KeptRec.{KeptRec}
use Rattle.sb_base.specs.records.Elements.{all_records}
use Rattle.sb_base.specs.pipeline.Flow.{Sent, arrivals_at, from_streams, sent_from}
use Rattle.sb_base.specs.pipeline.Operators.{operator_of, output}
use Rattle.sb_base.specs.pipeline.Results.{output_at, output_of}
use Rattle.sb_base.proofs.pipeline.Times.{AreTimely}
use Rattle.sb_base.specs.Inputs.{by_stream}
use Rattle.sb_slow.specs.Sendings.{records_to}
use Rattle.sb_slow.proofs.Steps.{sent_from-more, sent_from-timely_more, arriving-before_end, from_streams-in_time, output_of-before_end, arriving-output_of}
use Rattle.sb_slow.proofs.TakingOut.{records_to-node, arriving-more}
use Rattle.sb_slow.proofs.flow.output_of.Goals as goal

pub loop-node-init : goal.loop-node-init
loop-node-init c =
    let plan = c.args.plan.now in
    record {
      all = c.in_ok-sent.sent.items;
      sent = ap (sent_from (output_at plan) 0 plan.steps) c.in_ok-sent.ensures;
      timely = subst (λ (l : List Sent). AreTimely l) (sym c.in_ok-sent.ensures) (from_streams-in_time plan (by_stream c.args.a.items c.args.b.items) c.requires.times.0 c.requires.times.1);
      left = λ k within. refl;
    }

pub pass_on-requires-clause-times : goal.pass_on-requires-clause-times
pass_on-requires-clause-times c =
    let k = c.loop-node.node in
    All-same (λ (e : KeptRec). e.rec.time < END_MARK) _ _ (c.loop-node.invariant.left k (omega arith))
    (arriving-before_end c.args.plan.now c.transforms-node-end.ensures.sound k (omega arith) c.loop-node.invariant.all c.loop-node.invariant.timely)

pub loop-node-preserved : goal.loop-node-preserved
loop-node-preserved c =
    let plan = c.args.plan.now in
    let k = c.loop-node.node in
    let down = c.down.result in
    let left : List Sent = c.loop-node.sent.items in
    let all : List Sent = c.loop-node.invariant.all in
    let same : arrivals_at k left ≡ arrivals_at k all = c.loop-node.invariant.left k (omega arith) in
    let rows : output (operator_of c.kind.result.now) (arrivals_at k left) ≡ output_at plan k (arrivals_at k all) = λ i. output (sym c.kind.ensures.operator i) (same i) in
    record {
      all = all ++ record { down = down; records = output_at plan k (arrivals_at k all) } ∷ [];
      sent = sent_from-more plan k down all c.down.ensures.down ∙ c.loop-node.invariant.sent;
      timely = sent_from-timely_more plan c.transforms-node-end.ensures.sound k down all c.down.ensures.down c.loop-node.invariant.timely;
      left = λ behind later.
          c.in_ok-sent-2.ensures behind (omega (arith, later))
          ∙ arriving-more behind left all down (output (operator_of c.kind.result.now) (arrivals_at k left)) (output_at plan k (arrivals_at k all)) (c.loop-node.invariant.left behind (omega (arith, later))) rows;
    }

pub returns-clause-rows : goal.returns-clause-rows
returns-clause-rows c =
    let plan = c.args.plan.now in
    let n = length plan.steps in
    let left : List Sent = c.loop-node.sent.items in
    let all : List Sent = c.loop-node.invariant.all in
    let streams = by_stream c.args.a.items c.args.b.items in
    let none_left : drop c.loop-node.node plan.steps ≡ [] = drop_all c.loop-node.node plan.steps (omega (arith, c.transforms-node-end.ensures.value, c.loop-node-test.false)) in
    let is_all : all ≡ sent_from (output_at plan) 0 plan.steps (from_streams plan streams) = sym (ap (λ steps. sent_from (output_at plan) c.loop-node.node steps all) none_left) ∙ c.loop-node.invariant.sent in
    c.in_ok-rows.ensures.records ∙ ap (λ k. records_to k None left) c.transforms.ensures.value ∙ records_to-node n left
    ∙ ap all_records (c.loop-node.invariant.left n (omega (arith, c.transforms-node-end.ensures.value)))
    ∙ arriving-output_of plan streams all is_all

pub returns-clause-times : goal.returns-clause-times
returns-clause-times c =
    let streams = by_stream c.args.a.items c.args.b.items in
    All-same (λ (r : Record). r.time < END_MARK) _ _ (returns-clause-rows c) (output_of-before_end c.args.plan.now c.transforms-node-end.ensures.sound streams c.requires.times.0 c.requires.times.1)
