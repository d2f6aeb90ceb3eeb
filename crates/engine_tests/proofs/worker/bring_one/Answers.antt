use Rattle.std.proofs.Common.{◌≡◌, ◌≤◌, ◌-◌, ℕ, List, length, ap, sym, subst, ◌∙◌, arith}
use Rattle.std.specs.List.{AllByRecursion, slice_index}
use Rattle.sb_worker.specs.hand.base.records.declared.item.Record.{Record}
use Rattle.sb_worker.specs.hand.base.records.declared.item.Stream.TheVariants.{A}
use Rattle.sb_worker.specs.hand.base.records.declared.item.TheConstants.{MAX_TIME}
use Rattle.sb_worker.specs.hand.base.pipeline.Shapes.{source}
use Rattle.engine_tests.proofs.worker.bring_one.Goals as goal

pub arrive-requires-clause-bundle : goal.arrive-requires-clause-bundle
arrive-requires-clause-bundle g c =
    let are = c.new.ensures ∙ c.in_ok-records.ensures.items in
    let one : length c.new.result ≡ 1 = ap (λ (l : List Record). length l) are in
    record {
      place = record { node = 0; lane = 0 };
      goes = ap (λ p. source p A) c.requires.plan;
      some = omega (arith, one);
      most = omega (arith, one, c.requires.most);
      epoch = sym (ap (λ (l : List ℕ). length l) c.requires.unsealed);
      floor = sym (ap (λ (l : List ℕ). slice_index l (length l - 1)) c.requires.unsealed);
      times = subst (λ (l : List Record). AllByRecursion (λ r. (0 ≤ r.time) × (r.time ≤ MAX_TIME)) l) (sym are) ((omega arith, omega arith), tt);
    }
