use Rattle.std.proofs.Common.{◌≡◌, [], ◌∷◌}
use Rattle.std.specs.BTreeMap.{get}
use Rattle.sb_base.specs.window.declared.keyed_window.KeyedWindow.{KeyedWindow}
use Rattle.sb_base.specs.window.Windows.{keyed_window_cmp, window_ends}
use Rattle.sb_base.proofs.window.Multiples.{Rising}
use Rattle.sb_slow.specs.Gathered.{values_with}
use Rattle.sb_base.proofs.window.Gathering.{made_at}
use Rattle.sb_slow.proofs.gather.add_record.Given as goal

abbrev pub invariant-loop-end : goal.invariant-loop-end
invariant-loop-end l = record {
  so_far : (q : KeyedWindow) → values_with (get keyed_window_cmp l.values q) (made_at (l.record.value ∷ []) l.record.key l.end-iterator q) ≡ values_with (get keyed_window_cmp l.initial.values q) (made_at (l.record.value ∷ []) l.record.key (window_ends l.windows l.record.time) q);
  rest : Rising l.end-iterator;
}
