use Rattle.std.proofs.Common.{◌≤◌, [], sym, ap, ◌∙◌, append-nil}
use Rattle.std.specs.Prelude.{Result, Ok, Err, OnOk}
use Rattle.std.specs.List.{sum_by}
use Rattle.std.proofs.lemmas.List.Elements.{recursion_from_All}
use Rattle.sb_base.specs.records.Elements.{all_records, on_lane}
use Rattle.sb_base.specs.OnLaneLemmas.{all_records-on_lane, All-on_lane}
use Rattle.sb_aggregate.specs.Groups.{Grouped}
use Rattle.stream_tests.proofs.aggregations.absorb_records.Goals as goal

pub absorb-requires-clause-fits : goal.absorb-requires-clause-fits
absorb-requires-clause-fits c = λ _. record {
  agg = ap (λ (p : Grouped). p.agg) c.in_ok-part_of.ensures ∙ c.requires.like.agg;
  windows = ap (λ (p : Grouped). p.windows) c.in_ok-part_of.ensures ∙ c.requires.like.windows;
}

pub absorb-requires-clause-from : goal.absorb-requires-clause-from
absorb-requires-clause-from c = λ _. (
  on_lane 0 c.args.records.now,
  (λ f. ap (λ (p : Grouped). sum_by f p.records) c.in_ok-part_of.ensures
      ∙ ap (sum_by f) (sym (all_records-on_lane 0 c.args.records.now) ∙ ap all_records (append-nil (on_lane 0 c.args.records.now)))),
  All-on_lane (λ r. c.args.aggregate.now.closed ≤ r.time) 0 c.args.records.now
      (recursion_from_All (λ r. c.args.aggregate.now.closed ≤ r.time) c.args.records.now c.requires.from),
)

on_ok : {T E A B : Type 0} (r : Result T E) → (A → B) → OnOk r A → OnOk r B
on_ok (Ok x) f a = f a
on_ok (Err e) f a = a

pub returns-clause-like : goal.returns-clause-like
returns-clause-like c =
    on_ok c.absorb.result (λ fits. fits (record { agg = c.args.agg; windows = c.args.windows.now; records = [] }) c.requires.like)
    c.absorb.ensures.fits
