use Rattle.std.proofs.Common.{◌≡◌, ◌<◌, ◌≤◌, List, Some, true, length, set as slice_set, sym, ap, subst, ◌∙◌}
use Rattle.std.specs.Prelude.{All, sum_by}
use Rattle.std.specs.List.{slice_get, list_any}
use Rattle.sb_slow.specs.base.records.declared.item.TheConstants.{END_MARK}
use Rattle.sb_slow.specs.base.records.declared.element.KeptRec.{KeptRec}
use Rattle.sb_slow.specs.base.pipeline.Operators.{operator_at}
use Rattle.sb_core.specs.containers.declared.container.CoreLane.{CoreLane}
use Rattle.sb_core.specs.declared.held.Held.{Held}
use Rattle.sb_core.specs.Closings.{kept_at, rows_at, rows_at_sink}
use Rattle.sb_core.specs.containers.Lanes.{closable, with_first_closing}
use Rattle.sb_core.specs.containers.Marks.{begun_count, least_begun_mark}
use Rattle.sb_core.specs.Moments.{is_close}
use Rattle.sb_core.proofs.times.Timely.{sink-last}
use Rattle.sb_machine.proofs.BeginParts.{any-first, closable-first, closable-found, node-within, kept-times, lanes-few, lanes-begun, begun-is, begin-refused}
use Rattle.sb_core.proofs.places.InPlace.{read-there}
use Rattle.sb_machine.proofs.begin.closing_of.Goals as goal

pub returns-then-is_some-clause-refused : goal.returns-then-is_some-clause-refused
returns-then-is_some-clause-refused c =
    let plan = c.args.plan.now in
    let m = c.args.moment.now in
    let k = c.args.node in
    let node = c.in-Some.there.now in
    let at : slice_get m.nodes k ≡ Some node = read-there c.as_slice.result.now m.nodes k node c.as_slice.ensures c.in-Some.ensures.lookup.3.0 (c.in-Some.ensures.lookup.3.1 node) in
    let l = c.args.lane in
    let lane = c.in-Some-get.at.now in
    let in_it : slice_get node.lanes l ≡ Some lane = read-there c.as_slice-lanes.result.now node.lanes l lane c.as_slice-lanes.ensures c.in-Some-get.ensures.lookup.3.0 (c.in-Some-get.ensures.lookup.3.1 lane) in
    let found = closable-found (closable lane.ended lane.conts) c.in-Some-closable.epoch c.in-Some-closable.ensures in
    let busy : list_any (is_close k) m.held ≡ true = ap (λ (hs : List Held). list_any (is_close k) hs) (sym c.as_slice-2.ensures) ∙ any-first (is_close k) c.as_slice-2.result.now c.find_close.result c.find_close.ensures ∙ sym c.is_some.ensures ∙ c.if-is_some.true in
    λ e. begin-refused plan m k l node lane found.0 at in_it found.1 busy

pub rows_at-requires-clause-times : goal.rows_at-requires-clause-times
rows_at-requires-clause-times c =
    let plan = c.args.plan.now in
    let m = c.args.moment.now in
    let k = c.args.node in
    let node = c.in-Some.there.now in
    let at : slice_get m.nodes k ≡ Some node = read-there c.as_slice.result.now m.nodes k node c.as_slice.ensures c.in-Some.ensures.lookup.3.0 (c.in-Some.ensures.lookup.3.1 node) in
    subst (λ (l : List KeptRec). All (λ e. e.rec.time < END_MARK) l) (sym c.as_slice-kept.ensures) (kept-times plan c.transforms.ensures.sound m c.requires k node at)

pub kept_at-requires-clause-times : goal.kept_at-requires-clause-times
kept_at-requires-clause-times c =
    let plan = c.args.plan.now in
    let m = c.args.moment.now in
    let k = c.args.node in
    let node = c.in-Some.there.now in
    let at : slice_get m.nodes k ≡ Some node = read-there c.as_slice.result.now m.nodes k node c.as_slice.ensures c.in-Some.ensures.lookup.3.0 (c.in-Some.ensures.lookup.3.1 node) in
    subst (λ (l : List KeptRec). All (λ e. e.rec.time < END_MARK) l) (sym c.as_slice-kept.ensures) (kept-times plan c.transforms.ensures.sound m c.requires k node at)

pub begun_in-requires-clause-begun : goal.begun_in-requires-clause-begun
begun_in-requires-clause-begun c =
    let plan = c.args.plan.now in
    let m = c.args.moment.now in
    let k = c.args.node in
    let node = c.in-Some.there.now in
    let at : slice_get m.nodes k ≡ Some node = read-there c.as_slice.result.now m.nodes k node c.as_slice.ensures c.in-Some.ensures.lookup.3.0 (c.in-Some.ensures.lookup.3.1 node) in
    subst (λ (l : List CoreLane). All (λ lane. begun_count lane ≤ length lane.marks) l) (sym c.as_slice-lanes.ensures) (lanes-begun plan c.transforms.ensures.sound m c.requires k node at)

pub begun_in-requires-clause-most : goal.begun_in-requires-clause-most
begun_in-requires-clause-most c =
    let plan = c.args.plan.now in
    let m = c.args.moment.now in
    let k = c.args.node in
    let node = c.in-Some.there.now in
    let at : slice_get m.nodes k ≡ Some node = read-there c.as_slice.result.now m.nodes k node c.as_slice.ensures c.in-Some.ensures.lookup.3.0 (c.in-Some.ensures.lookup.3.1 node) in
    subst (λ (l : List CoreLane). length l ≤ 2) (sym c.as_slice-lanes.ensures) (lanes-few plan c.transforms.ensures.sound m c.requires k node at)

pub returns-clause-found : goal.returns-clause-found
returns-clause-found c =
    let plan = c.args.plan.now in
    let m = c.args.moment.now in
    let k = c.args.node in
    let node = c.in-Some.there.now in
    let at : slice_get m.nodes k ≡ Some node = read-there c.as_slice.result.now m.nodes k node c.as_slice.ensures c.in-Some.ensures.lookup.3.0 (c.in-Some.ensures.lookup.3.1 node) in
    let l = c.args.lane in
    let lane = c.in-Some-get.at.now in
    let in_it : slice_get node.lanes l ≡ Some lane = read-there c.as_slice-lanes.result.now node.lanes l lane c.as_slice-lanes.ensures c.in-Some-get.ensures.lookup.3.0 (c.in-Some-get.ensures.lookup.3.1 lane) in
    let found = closable-found (closable lane.ended lane.conts) c.in-Some-closable.epoch c.in-Some-closable.ensures in
    let rest = closable-first lane.ended lane.conts found.0 found.1 in
    let o = operator_at (slice_get plan.steps k) in
    record {
      node = node;
      there = at;
      lane = lane;
      in_it = in_it;
      cont = found.0;
      closes = found.1;
      idle = ap (λ (hs : List Held). list_any (is_close k) hs) (sym c.as_slice-2.ensures) ∙ any-first (is_close k) c.as_slice-2.result.now c.find_close.result c.find_close.ensures ∙ sym c.is_some.ensures ∙ c.if-is_some.false;
      epoch = found.2;
      serial = c.begun_in.ensures.value ∙ ap (sum_by begun_count) c.as_slice-lanes.ensures ∙ sym (begun-is plan c.transforms.ensures.sound m c.requires k node at);
      next_fits = c.begun_in.ensures.small;
      floor = c.least_begun_mark-floor.ensures ∙ ap least_begun_mark c.as_slice-lanes.ensures;
      mark = c.least_begun_mark_with-mark.ensures lane found.0 rest.0 (ap (λ (ls : List CoreLane). slice_get ls l) c.as_slice-lanes.ensures ∙ in_it) rest.1
          ∙ ap (λ (ls : List CoreLane). least_begun_mark (slice_set ls l (record lane { conts = with_first_closing lane.conts }))) c.as_slice-lanes.ensures;
      rows = c.new.ensures ∙ c.in_ok-rows.ensures ∙ ap (rows_at o c.least_begun_mark-floor.result c.least_begun_mark_with-mark.result) c.as_slice-kept.ensures;
      kept = c.new-2.ensures ∙ c.in_ok-kept.ensures ∙ ap (kept_at o c.least_begun_mark_with-mark.result) c.as_slice-kept.ensures;
      collected = c.new-3.ensures ∙ c.in_ok-collected.ensures ∙ ap (rows_at_sink o c.least_begun_mark_with-mark.result) c.as_slice-kept.ensures;
      passed = sink-last plan.steps k c.transforms.result c.transforms.ensures.value (node-within plan c.transforms.ensures.sound m c.requires k node at);
    }
