use Rattle.std.proofs.Common.{rules, ◌≡◌, ◌<◌, [], ◌∷◌, ◌++◌, length, length-append, unwrap_or, ap, sym, ◌∙◌, arith}
use Rattle.std.specs.BTreeMap.{insert_entry}
use Rattle.sb_session.specs.Kept.{keyed_time_cmp, time_of}
use Rattle.sb_session.proofs.Maps.{kept-add, full-add}
use Rattle.sb_session.proofs.times.add_value.Goals as goal

pub returns-clause-kept : goal.returns-clause-kept
returns-clause-kept c =
    let value : c.push_value.new.values ≡ unwrap_or c.remove.result [] ++ c.args.record.now.value ∷ [] =
    c.in_ok-push_value.ensures ∙ ap (λ vs. vs ++ c.args.record.now.value ∷ []) (c.unwrap_or-values.ensures ∙ ap (unwrap_or c.remove.result) (c.new-2.ensures ∙ c.new.ensures.items)) in
    let inserted : c.insert.new.self.entries ≡ insert_entry keyed_time_cmp c.remove.new.self.entries (time_of c.args.record.now) c.push_value.new.values = search rules in
    kept-add c.args.record.now c.remove.result c.args.times.now.entries c.remove.new.self.entries c.insert.new.self.entries (sym c.remove.ensures.value) c.remove.ensures.entries c.remove.ensures.updates.1
    (inserted ∙ ap (insert_entry keyed_time_cmp c.remove.new.self.entries (time_of c.args.record.now)) value)

pub returns-clause-full : goal.returns-clause-full
returns-clause-full c =
    let some : 0 < length c.push_value.new.values = omega (arith, ap length c.in_ok-push_value.ensures ∙ length-append c.unwrap_or-values.result (c.args.record.now.value ∷ [])) in
    full-add (time_of c.args.record.now) c.push_value.new.values c.args.times.now c.remove.new.self c.insert.new.self some c.remove.ensures.updates.0 (search rules)
