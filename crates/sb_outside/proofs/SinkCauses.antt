-- Calls of a sink one after another: what the last one answers has its cause over all of them.
use Rattle.std.proofs.Common.{◌≡◌, ◌≤◌, ℕ, true, false, Bool, Result, Ok, Err, refl, sym, ap, subst, ◌∙◌, inl, inr, arith}
use Rattle.std.specs.Prelude.{OnOk}
use Rattle.sb_outside.specs.Sinks.{SinkState, SinkCause}
use Rattle.sb_outside.specs.Sources.{Rose}
use Rattle.sb_outside.specs.Refusals.{Counts, NeverFalls}
use Rattle.sb_outside.specs.declared.sink.SinkFault.{SinkFault}
use Rattle.sb_outside.specs.declared.sink.SinkFault.TheVariants as fault

-- nothing was called yet
pub no_call : (s : SinkState) → SinkCause {T = ℕ} s s (Ok 0)
no_call s = record {
  never_falls = omega arith;
  never_short = omega arith;
  keeps_refusing = λ was. was;
  failed = λ h. absurd (cc h);
  memory = λ h. absurd (cc h);
  passed = λ _. refl;
}

later_rise : (a b c : ℕ) → a ≤ b → Rose b c → Rose a c
later_rise a b c h k = omega arith

-- a sink that does not refuse now did not before
still_open : (p q : Bool) → (p ≡ true → q ≡ true) → q ≡ false → p ≡ false
still_open false q keeps now = refl
still_open true q keeps now = absurd (cc (keeps refl, now))

both_passed : {T : Type 0} (a b c : SinkState) (r : Result T SinkFault) → (b.refuses ≡ false → b.faults ≡ a.faults) → SinkCause b c r → OnOk r (c.refuses ≡ false → c.faults ≡ a.faults)
both_passed a b c (Ok y) h k = λ now. k.passed now ∙ h (still_open b.refuses c.refuses k.keeps_refusing now)
both_passed a b c (Err e) h k = tt

-- calls that went well, and then another
pub calls_then : {S T : Type 0} (a b c : SinkState) (x : S) (r : Result T SinkFault) → SinkCause a b (Ok x) → SinkCause b c r → SinkCause a c r
calls_then a b c x r h k = record {
  never_falls = omega (arith, h.never_falls, k.never_falls);
  never_short = omega (arith, h.never_short, k.never_short);
  keeps_refusing = λ was. k.keeps_refusing (h.keeps_refusing was);
  failed = λ err. later_rise a.faults b.faults c.faults h.never_falls (k.failed err);
  memory = λ err. later_rise a.shortages b.shortages c.shortages h.never_short (k.memory err);
  passed = both_passed a b c r h.passed k;
}

-- what is given does not matter
pub whatever_given : {S T : Type 0} (a b : SinkState) (x : S) (y : T) → SinkCause a b (Ok x) → SinkCause a b (Ok y)
whatever_given a b x y h = record {
  never_falls = h.never_falls;
  never_short = h.never_short;
  keeps_refusing = h.keeps_refusing;
  failed = λ err. absurd (cc err);
  memory = λ err. absurd (cc err);
  passed = h.passed;
}

-- a refusal for its cause, of whatever would have been given
pub whatever_refused : {S T : Type 0} (a b : SinkState) (e : SinkFault) (r : Result T SinkFault) → SinkCause {T = S} a b (Err e) → r ≡ Err e → SinkCause a b r
whatever_refused {S} {T} a b e r h is = subst (SinkCause {T = T} a b) (sym is) (record {
  never_falls = h.never_falls;
  never_short = h.never_short;
  keeps_refusing = h.keeps_refusing;
  failed = λ err. h.failed (cc err);
  memory = λ err. h.memory (cc err);
  passed = tt;
})

-- what a sink over std counts is its cause
pub counts_cause : {T : Type 0} (a b : SinkState) (r : Result T SinkFault) → NeverFalls a b → Counts a b r → SinkCause a b r
counts_cause a b (Ok x) (faults, shortages) (ready, inl same) = subst (λ s. SinkCause a s (Ok x)) (sym same) (whatever_given a a 0 x (no_call a))
counts_cause a b (Ok x) (faults, shortages) (ready, inr untold) = record {
  never_falls = faults;
  never_short = shortages;
  keeps_refusing = λ _. ap (λ s. s.refuses) untold;
  failed = λ err. absurd (cc err);
  memory = λ err. absurd (cc err);
  passed = λ no. absurd (cc (no, ap (λ s. s.refuses) untold));
}
counts_cause a b (Err fault.Failed) (faults, shortages) h = record {
  never_falls = faults;
  never_short = shortages;
  keeps_refusing = λ was. ap (λ s. s.refuses) h ∙ was;
  failed = λ _. omega (arith, ap (λ s. s.faults) h);
  memory = λ err. absurd (cc err);
  passed = tt;
}
counts_cause a b (Err fault.Memory) (faults, shortages) (ready, h) = record {
  never_falls = faults;
  never_short = shortages;
  keeps_refusing = λ was. ap (λ s. s.refuses) h ∙ was;
  failed = λ err. absurd (cc err);
  memory = λ _. omega (arith, ap (λ s. s.shortages) h);
  passed = tt;
}
