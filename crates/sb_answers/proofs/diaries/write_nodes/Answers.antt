use Rattle.std.proofs.Common.{◌<◌, ◌≤◌, length, ap, ◌∙◌, arith, rules}
use Rattle.std.proofs.lemmas.List.{length-map}
use Rattle.sb_alone.specs.base.pipeline.Shapes.{Shape}
use Rattle.sb_alone.specs.diary.Texts.{diary_text}
use Rattle.sb_alone.specs.hand.Showing.{diaries_of}
use Rattle.sb_alone.proofs.outside.Appending.{writes_err}
use Rattle.sb_alone.proofs.outside.SinkCauses.{calls_then, whatever_given, whatever_refused}
use Rattle.sb_answers.specs.Telling.{diaries_of_hand}
use Rattle.sb_answers.proofs.Tellings.{telling-ends, telling-fails, telling-more, telling-none}
use Rattle.sb_answers.proofs.diaries.write_nodes.Goals as goal

pub nodes-init : goal.nodes-init
nodes-init g c = telling-none c.args.hand.now.plan (diaries_of c.args.hand.now.nodes) (g.N.Sink.taken c.args.notes.now) (g.N.Sink.taken c.args.notes.now) (g.N.Sink.sink_state c.args.notes.now)

pub nodes-preserved : goal.nodes-preserved
nodes-preserved g c =
    let h = c.args.hand.now in
    let many = c.transforms-node-end.ensures.value ∙ ap (λ (p : Shape). length p.steps) c.plan.ensures in
    let within : c.nodes.node < length (diaries_of h.nodes) = omega (arith, many, c.nodes-test.true, c.requires.nodes, length-map h.nodes (λ n. n.diary.events)) in
    telling-more h.plan (diaries_of h.nodes) (g.N.Sink.taken c.args.notes.now) (g.N.Sink.taken c.nodes.notes) (g.N.Sink.taken c.write_node.new.notes) c.nodes.node _ _ _ within c.nodes.invariant
    c.in_ok-write_node.ensures.bytes (whatever_given _ _ _ 0 c.in_ok-write_node.ensures.cause)

pub returns-in_err-write_node-clause-bytes : goal.returns-in_err-write_node-clause-bytes
returns-in_err-write_node-clause-bytes g c =
    let h = c.args.hand.now in
    let many = c.transforms-node-end.ensures.value ∙ ap (λ (p : Shape). length p.steps) c.plan.ensures in
    let within : c.nodes.node < length (diaries_of h.nodes) = omega (arith, many, c.nodes-test.true, c.requires.nodes, length-map h.nodes (λ n. n.diary.events)) in
    writes_err (g.N.Sink.taken c.args.notes.now) (g.N.Sink.taken c.write_node.new.notes) (diary_text (diaries_of_hand h)) c.from_residual.result c.from_residual.ensures.0
    (telling-fails h.plan (diaries_of h.nodes) (g.N.Sink.taken c.args.notes.now) (g.N.Sink.taken c.nodes.notes) (g.N.Sink.taken c.write_node.new.notes) c.nodes.node _ _ within c.nodes.invariant
    c.in_err-write_node.ensures.bytes)

pub returns-in_err-write_node-clause-cause : goal.returns-in_err-write_node-clause-cause
returns-in_err-write_node-clause-cause g c =
    whatever_refused {S = Unit} _ _ c.in_err-write_node.field-0.0 _ (calls_then _ _ _ 0 _ c.nodes.invariant.cause c.in_err-write_node.ensures.cause) (search (rules, c.from_residual.ensures.1))

pub returns-clause-bytes : goal.returns-clause-bytes
returns-clause-bytes g c =
    let h = c.args.hand.now in
    let many = c.transforms-node-end.ensures.value ∙ ap (λ (p : Shape). length p.steps) c.plan.ensures in
    let all : length (diaries_of h.nodes) ≤ c.nodes.node = omega (arith, many, c.nodes-test.false, c.requires.nodes, length-map h.nodes (λ n. n.diary.events)) in
    telling-ends h.plan (diaries_of h.nodes) (g.N.Sink.taken c.args.notes.now) (g.N.Sink.taken c.nodes.notes) c.nodes.node _ _ all c.nodes.invariant

pub returns-clause-cause : goal.returns-clause-cause
returns-clause-cause g c = whatever_given _ _ 0 _ c.nodes.invariant.cause
