use Rattle.std.proofs.Common.{rules, ◌≡◌, ◌+◌, ℤ, ◌++◌, Some, map, filter, append-nil, append_assoc, None, ◌<◌, ap, sym, ◌∙◌, arith}
use Rattle.std.specs.Prelude.{sum_by}
use Rattle.std.proofs.lemmas.List.Sums.{sum_by-append}
use Rattle.sb_windowed.specs.records.declared.item.Record.{Record}
use Rattle.sb_windowed.specs.records.Reorderings.{IsReordered}
use Rattle.std.specs.BTreeMap.{get}
use Rattle.sb_session.specs.declared.keyed_time.KeyedTime.{KeyedTime}
use Rattle.sb_session.specs.Kept.{keyed_time_cmp, records_at, kept_of}
use Rattle.sb_session.specs.Closings.{is_below}
use Rattle.sb_session.proofs.Maps.{kept-remove, take-values, take-others, full-remove, none-below, all-left}
use Rattle.sb_session.proofs.times.take_below.Goals as goal

pub loop-at-preserved-in-Some-remove : goal.loop-at-preserved-in-Some-remove
loop-at-preserved-in-Some-remove c =
    let key = c.args.session.now.key in
    let end = c.args.session.now.end in
    let at = c.in-Some.at in
    let more = c.more.inside.items.items in
    let es = c.loop-at.times.entries in
    let left = c.remove.new.self.entries in
    let moved : IsReordered (kept_of es) (records_at at more ++ kept_of left) =
    λ f. kept-remove at more es (sym c.remove.ensures.value ∙ c.in-Some-remove.is ∙ ap (λ vs. Some vs) (sym c.more.view_is)) f ∙ ap (λ es. sum_by f (records_at at more ++ kept_of es)) (sym c.remove.ensures.entries) in
    let appended : c.append.new.self.items ≡ c.loop-at.values.items ++ more = search rules in
    let value : Record → ℤ = λ r. r.value in
    record {
      taken = λ f.
          ap (λ vs. sum_by f (vs ++ map value (filter (is_below key end) (kept_of left)))) appended
          ∙ ap (sum_by f) (append_assoc c.loop-at.values.items more (map value (filter (is_below key end) (kept_of left))))
          ∙ sum_by-append f c.loop-at.values.items (more ++ map value (filter (is_below key end) (kept_of left)))
          ∙ ap (λ n. sum_by f c.loop-at.values.items + n) (sym (take-values key end at more es left c.in-Some.ensures.some.0 c.in-Some.ensures.some.2 moved f))
          ∙ sym (sum_by-append f c.loop-at.values.items (map value (filter (is_below key end) (kept_of es))))
          ∙ c.loop-at.invariant.taken f;
      left = λ f. sym (take-others key end at more es left c.in-Some.ensures.some.0 c.in-Some.ensures.some.2 moved f) ∙ c.loop-at.invariant.left f;
      full = λ full. full-remove at c.loop-at.times c.remove.new.self c.remove.ensures.updates.0 (c.loop-at.invariant.full full);
    }

pub returns-clause-takes : goal.returns-clause-takes
returns-clause-takes c =
    let key = c.args.session.now.key in
    let end = c.args.session.now.end in
    let m = c.loop-at.times in
    let none : (q : KeyedTime) → q.key ≡ key → q.time < end → get keyed_time_cmp m q ≡ None = λ q same low. (λ i. get keyed_time_cmp m (record { key = same i; time = q.time })) ∙ c.in_default.ensures.none q.time (omega arith) low in
    record {
      taken = λ f. ap (sum_by f) (sym (append-nil c.loop-at.values.items) ∙ ap (λ rs. c.loop-at.values.items ++ map (λ (r : Record). r.value) rs) (sym (none-below key end m c.first_between.ensures.ordered none))) ∙ c.loop-at.invariant.taken f;
      left = λ f. ap (sum_by f) (sym (all-left key end m c.first_between.ensures.ordered none)) ∙ c.loop-at.invariant.left f;
    }
