use Rattle.std.proofs.Common.{rules, ◌≡◌, [], ◌∷◌, ◌++◌, Some, cond, take, get_or, sym, ap, ◌∙◌, arith}
use Rattle.std.specs.BTreeMap.{get, is_at}
use Rattle.std.proofs.lemmas.List.{take_more, get_or-map}
use Rattle.sb_base.specs.records.declared.item.Record.{Record}
use Rattle.sb_base.specs.window.declared.keyed_window.KeyedWindow.{KeyedWindow}
use Rattle.sb_base.specs.window.Windows.{keyed_window_cmp}
use Rattle.sb_base.specs.windowed.Sessions.{session_end, session_of}
use Rattle.sb_slow.specs.Gathered.{session_values_at, values_with}
use Rattle.sb_slow.proofs.BySession.{session_values-more}
use Rattle.sb_slow.proofs.gather.values_by_session.Goals as goal

pub loop-place-preserved : goal.loop-place-preserved
loop-place-preserved c =
    let i = c.loop-place.place in
    let l = c.args.records.now in
    let r : Record = c.index-records-place.result in
    let found : c.index.result.now ≡ session_end c.args.gap l (get_or l i r) = search (rules, c.index.ensures, c.in_ok-ends.ensures, get_or-map) in
    let end : c.index.result.now ≡ session_end c.args.gap l r = found ∙ ap (session_end c.args.gap l) (sym c.index-records-place.is) in
    let added : (q : KeyedWindow) → get keyed_window_cmp c.add_value.new.values q
    ≡ cond (is_at (keyed_window_cmp (record { end = c.index.result.now; key = r.key })) q) (values_with (get keyed_window_cmp c.loop-place.values (record { end = c.index.result.now; key = r.key })) (Some (r.value ∷ []))) (get keyed_window_cmp c.loop-place.values q) = search rules in
    λ q. added q
    ∙ ap (λ e. cond (is_at (keyed_window_cmp (record { end = e; key = r.key })) q) (values_with (get keyed_window_cmp c.loop-place.values (record { end = e; key = r.key })) (Some (r.value ∷ []))) (get keyed_window_cmp c.loop-place.values q)) end
    ∙ (λ z. cond (is_at (keyed_window_cmp (session_of c.args.gap l r)) q) (values_with (c.loop-place.invariant (session_of c.args.gap l r) z) (Some (r.value ∷ []))) (c.loop-place.invariant q z))
    ∙ sym (session_values-more c.args.gap l (take i l) r q)
    ∙ ap (λ x. session_values_at c.args.gap l (take i l ++ x ∷ []) q) c.index-records-place.is
    ∙ ap (λ m. session_values_at c.args.gap l m q) (sym (take_more l i r (omega arith)))
