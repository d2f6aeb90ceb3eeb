use Rattle.std.proofs.Common.{◌≡◌, ◌<◌, ltb, cond, List, [], ◌∷◌, ◌++◌, map, filter, length, take, get_or, sym, ap, ◌∙◌, arith}
use Rattle.std.proofs.lemmas.List.{take_more, get_or-map, length-map}
use Rattle.std.proofs.lemmas.List.Elements.{All-from_recursion, All-same, recursion_from_All, filter-append}
use Rattle.sb_slow.specs.base.records.declared.item.Record.{Record}
use Rattle.sb_slow.specs.base.records.declared.item.TheConstants.{END_MARK}
use Rattle.sb_slow.specs.base.windowed.Sessions.{session_end, is_session_open}
use Rattle.sb_slow.specs.base.records.declared.element.KeptRec.{KeptRec}
use Rattle.sb_slow.specs.base.records.Elements.{all_records}
use Rattle.sb_slow.specs.base.OnLaneLemmas.{All-all_records}
use Rattle.sb_machine.proofs.operate.in_open_sessions.Goals as goal

pub session_ends-requires-clause-times : goal.session_ends-requires-clause-times
session_ends-requires-clause-times c =
    All-same (λ (r : Record). r.time < END_MARK) _ _ (c.deref.ensures.value ∙ c.in_ok-records.ensures)
    (All-from_recursion (λ r. r.time < END_MARK) (all_records c.args.kept.now) (All-all_records (λ r. r.time < END_MARK) c.args.kept.now (recursion_from_All (λ (e : KeptRec). e.rec.time < END_MARK) c.args.kept.now c.requires.times)))

pub loop-place-preserved : goal.loop-place-preserved
loop-place-preserved c =
    let i = c.loop-place.place in
    let kept = c.args.kept.now in
    let l : List Record = all_records kept in
    let e : KeptRec = c.index-kept-place.result in
    let within : i < length l = omega (arith, length-map kept (λ (e : KeptRec). e.rec), c.loop-place-test.true) in
    let same : c.deref.result.now ≡ l = c.deref.ensures.value ∙ c.in_ok-records.ensures in
    let here : get_or l i e.rec ≡ e.rec = get_or-map (λ (e : KeptRec). e.rec) kept i e e.rec c.loop-place-test.true ∙ ap (λ (e : KeptRec). e.rec) (sym c.index-kept-place.is) in
    let ends : c.in_ok-ends.ends.items ≡ map (session_end c.args.gap l) l = c.in_ok-ends.ensures ∙ ap (λ (m : List Record). map (session_end c.args.gap m) m) same in
    let end : c.index.result.now ≡ session_end c.args.gap l e.rec =
    c.index.ensures ∙ ap (λ m. get_or m i c.index.result.now) ends ∙ get_or-map (session_end c.args.gap l) l i e.rec c.index.result.now within ∙ ap (session_end c.args.gap l) here in
    c.in_ok-push_if.ensures
    ∙ (λ z. c.loop-place.invariant z ++ cond (ltb c.args.mark (end z)) (e ∷ []) [])
    ∙ sym (filter-append (λ (e : KeptRec). is_session_open c.args.gap c.args.mark l e.rec) (take i kept) (e ∷ []))
    ∙ ap (λ x. filter (λ (e : KeptRec). is_session_open c.args.gap c.args.mark l e.rec) (take i kept ++ x ∷ [])) c.index-kept-place.is
    ∙ ap (filter (λ (e : KeptRec). is_session_open c.args.gap c.args.mark l e.rec)) (sym (take_more kept i e c.loop-place-test.true))
