use Rattle.std.proofs.Common.{rules, ◌≡◌, ◌+◌, [], ◌∷◌, ◌++◌, Some, unwrap_or, map, take, subst, sym, ap, ◌∙◌, arith}
use Rattle.std.specs.BTreeMap.{get}
use Rattle.std.proofs.lemmas.List.{take_more, map-append}
use Rattle.sb_base.specs.records.declared.item.Record.{Record}
use Rattle.sb_base.specs.windowed.Sessions.{session_end}
use Rattle.sb_slow.specs.SessionEnds.{keyed_time_cmp, time_of}
use Rattle.sb_slow.proofs.sessions.session_ends.Goals as goal

pub loop-record-preserved : goal.loop-record-preserved
loop-record-preserved c =
    let i = c.loop-record.record-index in
    let l = c.args.records.now in
    let r : Record = c.record-item.result in
    let found : get keyed_time_cmp c.in_ok-by_time.by_time (time_of r) ≡ Some (session_end c.args.gap l r) =
    subst (λ x. get keyed_time_cmp c.in_ok-by_time.by_time (time_of x) ≡ Some (session_end c.args.gap l x)) (sym c.record-item.is) (c.in_ok-by_time.ensures i r (omega arith)) in
    let end : c.end_at.result ≡ session_end c.args.gap l r = c.end_at.ensures ∙ ap (λ o. unwrap_or o (r.time + c.args.gap)) found in
    let pushed : c.push.new.self.items ≡ c.loop-record.ends.items ++ c.end_at.result ∷ [] = search rules in
    pushed ∙ (λ z. c.loop-record.invariant z ++ end z ∷ [])
    ∙ sym (map-append (session_end c.args.gap l) (take i l) (r ∷ []))
    ∙ ap (λ x. map (session_end c.args.gap l) (take i l ++ x ∷ [])) c.record-item.is
    ∙ ap (map (session_end c.args.gap l)) (sym (take_more l i r (omega arith)))
