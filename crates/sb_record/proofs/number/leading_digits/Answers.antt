use Rattle.std.proofs.Common.{◌≡◌, true, false, rules, arith, slice_index, sym, ◌∙◌, length}
use Rattle.std.proofs.lemmas.List.{drop_all}
use Rattle.std.specs.Char.{is_ascii_digit}
use Rattle.sb_record.specs.Reading.{digits_from}
use Rattle.sb_record.proofs.Steps.{digits_next, digits_over, digits_stop, digits_zero}
use Rattle.sb_record.proofs.number.leading_digits.Goals as goal

pub returns-then-not-is_ascii_digit : goal.returns-then-not-is_ascii_digit
returns-then-not-is_ascii_digit c =
    let d : is_ascii_digit (slice_index c.args.bytes.now c.digits.i) ≡ false = search rules in
    c.ended.ensures ∙ sym (c.digits.invariant ∙ digits_stop c.digits.value c.digits.i c.args.bytes.now c.digits.i c.digits-test.true d)

pub returns-then-is_leading_zero : goal.returns-then-is_leading_zero
returns-then-is_leading_zero c =
    let d : is_ascii_digit (slice_index c.args.bytes.now c.digits.i) ≡ true = sym c.if-not-is_ascii_digit.ensures.value in
    sym (c.digits.invariant ∙ digits_zero c.digits.value c.digits.i c.args.bytes.now c.digits.i c.digits-test.true d (sym c.if-is_leading_zero.ensures))

pub returns-then-value-ge1000000000000000000 : goal.returns-then-value-ge1000000000000000000
returns-then-value-ge1000000000000000000 c =
    let d : is_ascii_digit (slice_index c.args.bytes.now c.digits.i) ≡ true = sym c.if-not-is_ascii_digit.ensures.value in
    sym (c.digits.invariant ∙ digits_over c.digits.value c.digits.i c.args.bytes.now c.digits.i c.digits-test.true d (sym c.if-is_leading_zero.ensures) c.if-value-ge1000000000000000000.true)

pub digits-preserved : goal.digits-preserved
digits-preserved c =
    let d : is_ascii_digit (slice_index c.args.bytes.now c.digits.i) ≡ true = sym c.if-not-is_ascii_digit.ensures.value in
    rw c.from.ensures (c.digits.invariant ∙ digits_next c.digits.value c.digits.i c.args.bytes.now c.digits.i c.digits-test.true d (sym c.if-is_leading_zero.ensures) c.if-value-ge1000000000000000000.false)

pub returns : goal.returns
unfolding digits_from
returns c =
    let all : c.digits.i ≡ length c.args.bytes.now = omega arith in
    let whole = rw (all, drop_all (length c.args.bytes.now) c.args.bytes.now (omega arith)) at c.digits.invariant in
    c.ended-2.ensures ∙ sym (rw (drop_all (length c.args.bytes.now) c.args.bytes.now (omega arith)) whole)
