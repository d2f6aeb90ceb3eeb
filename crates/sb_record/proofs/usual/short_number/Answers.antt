use Rattle.std.proofs.Common.{◌+◌, rules, arith, ◌∙◌}
use Rattle.sb_record.proofs.ShortNumbers.{rest_of_bytes, short_is_small, digit_more, digit_next, digit_first, digits_end, zero_alone}
use Rattle.sb_record.proofs.usual.short_number.Goals as goal

pub returns-then-bytes-end-clause-read : goal.returns-then-bytes-end-clause-read
returns-then-bytes-end-clause-read c =
    rw (rest_of_bytes c.args.bytes.now 2)
    (zero_alone c.args.end c.digit_value-value.result c.args.bytes.now (omega arith) c.if-value-eq0.true (c.digit_value-value.ensures c.if-value-gt9.false) c.if-bytes-end.true c.requires)

pub digits-init : goal.digits-init
digits-init c = record {
  so_far = digit_first c.digit_value-value.result c.args.bytes.now (omega arith) c.if-value-gt9.false (c.digit_value-value.ensures c.if-value-gt9.false);
  some = omega arith;
  small = omega arith;
}

pub overflow_mul-value : goal.overflow_mul-value
overflow_mul-value c = omega (arith, short_is_small c.digits.i c.digits.value (omega arith) c.digits.invariant.small)

pub overflow_add-value : goal.overflow_add-value
overflow_add-value c = omega (arith, short_is_small c.digits.i c.digits.value (omega arith) c.digits.invariant.small)

pub digits-preserved : goal.digits-preserved
digits-preserved c =
    let below = short_is_small c.digits.i c.digits.value (omega arith) c.digits.invariant.small in
    let is = c.digit_value-digit.ensures c.if-digit-gt9.false in
    record {
      so_far = c.digits.invariant.so_far ∙ digit_next c.digits.value c.digits.i c.digit_value-digit.result c.args.bytes.now (omega arith) c.if-digit-gt9.false is (search rules) below;
      some = omega arith;
      small = digit_more c.digits.i c.digits.value c.digit_value-digit.result c.digits.invariant.small c.if-digit-gt9.false;
    }

pub returns-then-bytes-i-clause-read : goal.returns-then-bytes-i-clause-read
returns-then-bytes-i-clause-read c =
    rw (rest_of_bytes c.args.bytes.now (c.digits.i + 1))
    (digits_end c.args.end c.digits.value c.digits.i c.args.bytes.now (omega arith) (omega arith) c.if-bytes-i.true c.requires c.digits.invariant.so_far)

pub returns-then-bytes-i-clause-small : goal.returns-then-bytes-i-clause-small
returns-then-bytes-i-clause-small c = short_is_small c.digits.i c.digits.value (omega arith) c.digits.invariant.small
