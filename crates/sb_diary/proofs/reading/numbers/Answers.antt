use Rattle.std.proofs.Common.{◌≡◌, ◌∙◌, ◌++◌, sym, ap, refl, arith, length, drop, take, [], append-nil}
use Rattle.std.proofs.Math.ListN.{length-set, length-replicate}
use Rattle.std.proofs.lemmas.Bool.{eqb-true, eq-eqb}
use Rattle.std.proofs.lemmas.List.{take_all, drop_all, nil_from_length}
use Rattle.sb_diary.specs.Texts.{spaced_text}
use Rattle.sb_diary.proofs.Spelling.{spaced-more, spaced-drop, spaced-none, all-zeros, all-set, apart}
use Rattle.sb_diary.proofs.reading.numbers.Goals as goal

pub loop-i-init : goal.loop-i-init
loop-i-init g c = record { size = length-replicate g.row.N 0; fit = all-zeros g.row.N; read = refl; left = λ ns are. are.text }

pub returns-in_err-number-clause-none : goal.returns-in_err-number-clause-none
returns-in_err-number-clause-none g c =
    rw c.from_residual.ensures (λ ns are.
    spaced-none ns c.loop-i.i c.loop-i.rest.now (omega (arith, are.count_is)) are.fit c.in_err-number.ensures.none (c.loop-i.invariant.left ns are))

pub loop-i-preserved : goal.loop-i-preserved
loop-i-preserved g c =
    let before = c.loop-i.invariant in
    let begins = c.in_ok-number.ensures.some in
    record {
      size = length-set c.loop-i.numbers c.loop-i.i c.in_ok-number.number ∙ before.size;
      fit = all-set c.loop-i.numbers c.loop-i.i c.in_ok-number.number before.fit begins.fits;
      read = spaced-more c.loop-i.numbers c.loop-i.i c.in_ok-number.number c.loop-i.rest.now c.in_ok-number.after.now c.args.bytes.now (omega arith) before.read begins.text;
      left = λ ns are. spaced-drop ns c.loop-i.i c.in_ok-number.number c.loop-i.rest.now c.in_ok-number.after.now (omega (arith, are.count_is)) are.fit begins (before.left ns are);
    }

pub returns-then-is_empty-clause-some : goal.returns-then-is_empty-clause-some
returns-then-is_empty-clause-some g c =
    let none : c.loop-i.rest.now ≡ [] = nil_from_length c.loop-i.rest.now (eqb-true (length c.loop-i.rest.now) 0 (sym c.if-is_empty.ensures)) in
    let all : take c.loop-i.i c.loop-i.numbers ≡ c.loop-i.numbers = take_all c.loop-i.i c.loop-i.numbers (omega arith) in
    record {
      count_is = c.loop-i.invariant.size;
      fit = c.loop-i.invariant.fit;
      text = sym (append-nil (spaced_text c.loop-i.numbers)) ∙ (λ i. spaced_text (sym all i) ++ sym none i) ∙ c.loop-i.invariant.read;
    }

pub returns-else-is_empty-clause-none : goal.returns-else-is_empty-clause-none
returns-else-is_empty-clause-none g c ns are =
    let end : drop c.loop-i.i ns ≡ [] = drop_all c.loop-i.i ns (omega (arith, are.count_is)) in
    let none : c.loop-i.rest.now ≡ [] = sym (c.loop-i.invariant.left ns are) ∙ ap spaced_text end in
    apart (c.if-is_empty.ensures ∙ eq-eqb (length c.loop-i.rest.now) 0 (ap length none))
