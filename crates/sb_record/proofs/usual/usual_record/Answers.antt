use Rattle.std.proofs.Common.{◌≡◌, arith, rules, sym, to_z, of_z, w64}
use Rattle.sb_record.specs.declared.item.Item.TheVariants.{Rec}
use Rattle.sb_record.specs.declared.key.Key.TheVariants.{Number}
use Rattle.sb_record.specs.declared.key.Keys.TheVariants.{Numbers}
use Rattle.sb_record.proofs.FrontLines.{front_exact, rest_is_shorter}
use Rattle.sb_record.proofs.ShortNumbers.{usual_front}
use Rattle.sb_record.proofs.usual.usual_record.Goals as goal

pub overflow_sub-len : goal.overflow_sub-len
overflow_sub-len c = omega (
  arith,
  rest_is_shorter Numbers c.args.bytes.now _ c.in_ok-value.rest.now
      (usual_front c.args.bytes.now c.in_ok-rest.rest.now c.in_ok-stream.times.now c.in_ok-time.numbers.now c.in_ok-number.values.now c.in_ok-value.rest.now
      c.in_ok-stream.stream c.in_ok-time.time c.in_ok-number.number c.in_ok-value.value
      (sym c.in_ok-rest.ensures) (sym c.in_ok-stream.ensures) c.in_ok-time.ensures.read c.if-time-gt-MAX_TIME.false
      c.in_ok-number.ensures.read c.in_ok-number.ensures.small c.in_ok-value.ensures),
)

pub overflow_sub-len-2 : goal.overflow_sub-len-2
overflow_sub-len-2 c = omega (
  arith,
  rest_is_shorter Numbers c.args.bytes.now _ c.in_ok-value.rest.now
      (usual_front c.args.bytes.now c.in_ok-rest.rest.now c.in_ok-stream.times.now c.in_ok-time.numbers.now c.in_ok-number.values.now c.in_ok-value.rest.now
      c.in_ok-stream.stream c.in_ok-time.time c.in_ok-number.number c.in_ok-value.value
      (sym c.in_ok-rest.ensures) (sym c.in_ok-stream.ensures) c.in_ok-time.ensures.read c.if-time-gt-MAX_TIME.false
      c.in_ok-number.ensures.read c.in_ok-number.ensures.small c.in_ok-value.ensures),
)

pub returns : goal.returns
returns c =
    let same : to_z w64 (of_z w64 c.in_ok-value.value) ≡ c.in_ok-value.value = search rules in
    λ f. rw same (front_exact Numbers c.args.bytes.now c.in_ok-value.rest.now
    (Rec c.in_ok-stream.stream (record { time = c.in_ok-time.time; key = Number c.in_ok-number.number; value = c.in_ok-value.value })) f
    (usual_front c.args.bytes.now c.in_ok-rest.rest.now c.in_ok-stream.times.now c.in_ok-time.numbers.now c.in_ok-number.values.now c.in_ok-value.rest.now
    c.in_ok-stream.stream c.in_ok-time.time c.in_ok-number.number c.in_ok-value.value
    (sym c.in_ok-rest.ensures) (sym c.in_ok-stream.ensures) c.in_ok-time.ensures.read c.if-time-gt-MAX_TIME.false
    c.in_ok-number.ensures.read c.in_ok-number.ensures.small c.in_ok-value.ensures))
