use Rattle.std.proofs.Common.{◌≡◌, ◌+◌, length, length-append, ap, ◌∙◌, arith}
use Rattle.sb_plan.specs.Keys.{key_text}
use Rattle.sb_told.proofs.PlanNotes.{key_text-short}
use Rattle.sb_told.proofs.note.push_key.Goals as goal

pub push-requires : goal.push-requires
push-requires c =
    let same : length c.as_bytes.result.now ≡ length (key_text c.args.key) = ap length (c.as_bytes.ensures.value ∙ c.text.ensures) in
    (omega arith, omega (arith, same, key_text-short c.args.key, c.requires.0, c.requires.1))

pub push-requires-2 : goal.push-requires-2
push-requires-2 c =
    let same : length c.as_bytes.result.now ≡ length (key_text c.args.key) = ap length (c.as_bytes.ensures.value ∙ c.text.ensures) in
    let first : length c.push.new.self ≡ length c.args.note.now + length c.as_bytes.result.now = ap length c.push.ensures ∙ length-append c.args.note.now c.as_bytes.result.now in
    (omega arith, omega (arith, same, first, key_text-short c.args.key, c.requires.0, c.requires.1))

pub returns-clause-short : goal.returns-clause-short
returns-clause-short c =
    let same : length c.as_bytes.result.now ≡ length (key_text c.args.key) = ap length (c.as_bytes.ensures.value ∙ c.text.ensures) in
    let first : length c.push.new.self ≡ length c.args.note.now + length c.as_bytes.result.now = ap length c.push.ensures ∙ length-append c.args.note.now c.as_bytes.result.now in
    let second : length c.push-2.new.self ≡ length c.push.new.self + length c.args.what.now = ap length c.push-2.ensures ∙ length-append c.push.new.self c.args.what.now in
    omega (arith, same, first, second, key_text-short c.args.key, c.requires.0, c.requires.1)
