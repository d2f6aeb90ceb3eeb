-- How the causes of givings add up.
use Rattle.std.proofs.Common.{◌≡◌, Bool, true, false, List, [], ◌++◌, append-nil, Ok, Err, Result, refl, sym, subst, ◌∙◌, arith}
use Rattle.std.specs.Prelude.{IsErrOf}
use Rattle.sb_base.specs.records.declared.item.Record.{Record}
use Rattle.sb_outside.specs.Sinks.{SinkCause, SinkState}
use Rattle.sb_feed.specs.declared.give.GiveStop.{GiveStop}
use Rattle.sb_feed.specs.declared.give.GiveStop.TheVariants as stop
use Rattle.sb_feed.specs.GiveCauses.{GiveCause}
use Rattle.sb_feed.specs.Gives.{WritesRows}

-- all rows were written, whatever came of their offers
pub written_whole : {O T : Type 0} (after part : O → List Record → O → Type 0) → ((o p : O) (l m : List Record) → after o l p → part o (l ++ m) p)
    → (o p : O) (rows : List Record) (result : Result T GiveStop) → after o rows p → WritesRows after part o rows p result
written_whole after part part_of_all o p rows (Ok x) wrote = wrote
written_whole after part part_of_all o p rows (Err (stop.Tap place)) wrote = wrote
written_whole after part part_of_all o p rows (Err stop.Output) wrote = subst (λ l. part o l p) (append-nil rows) (part_of_all o p rows [] wrote)
written_whole after part part_of_all o p rows (Err stop.Memory) wrote = subst (λ l. part o l p) (append-nil rows) (part_of_all o p rows [] wrote)

pub cause_of_written : {T U : Type 0} (before now : SinkState) (x : T) (result : Result U GiveStop) → SinkCause {T = T} before now (Ok x) → (IsErrOf result stop.Output → ⊥) → GiveCause before now result
cause_of_written before now x result wrote other = record {
  never_falls = wrote.never_falls;
  never_short = wrote.never_short;
  keeps_refusing = wrote.keeps_refusing;
  failed = λ e. absurd (other e);
  passed = λ well e. wrote.passed e;
}

-- nothing was written
pub cause_of_none : {T : Type 0} (state : SinkState) (result : Result T GiveStop) → (IsErrOf result stop.Output → ⊥) → GiveCause state state result
cause_of_none state result other = record { never_falls = omega arith; never_short = omega arith; keeps_refusing = λ e. e; failed = λ e. absurd (other e); passed = λ w e. refl }

-- one giving that went well, and then another
pub cause_then : {T U : Type 0} (a b c : SinkState) (x : T) (result : Result U GiveStop) → GiveCause {T = T} a b (Ok x) → GiveCause b c result → GiveCause a c result
cause_then a b c x result first then = record {
  never_falls = let p = first.never_falls in let q = then.never_falls in omega (arith, p, q);
  never_short = let p = first.never_short in let q = then.never_short in omega (arith, p, q);
  keeps_refusing = λ e. then.keeps_refusing (first.keeps_refusing e);
  failed = λ e. let p = first.never_falls in let q = then.failed e in omega (arith, p, q);
  passed = λ well e. then.passed well e ∙ first.passed tt (before b.refuses refl e);
}
  where
    before : (r : Bool) → b.refuses ≡ r → c.refuses ≡ false → b.refuses ≡ false
    before true is e = absurd (cc (sym (then.keeps_refusing is) ∙ e))
    before false is e = is
