use Rattle.std.proofs.Common.{◌≡◌, take, Some, List}
use Rattle.sb_slow.specs.base.records.declared.item.Record.{Record}
use Rattle.sb_slow.specs.base.records.declared.item.Stream.{Stream}
use Rattle.sb_core.specs.Events
use Rattle.sb_core.specs.Exactness.{IsExact}
use Rattle.sb_core.specs.Laws.{records_fed_by}
use Rattle.sb_core.specs.Soundness.{IsSound}
use Rattle.sb_machine.proofs.machine.run.Given as goal

abbrev pub invariant-loop-at : goal.invariant-loop-at
invariant-loop-at l = record {
  done : Events.run l.plan (take l.at l.events) l.fn.moment ≡ Some l.moment;
  sound : IsSound l.plan l.moment;
  exact : (fed : Stream → List Record) → IsExact l.plan l.fn.moment fed → IsExact l.plan l.moment (records_fed_by (take l.at l.events) fed);
}
