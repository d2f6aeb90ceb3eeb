use Rattle.std.proofs.Common.{rules, ◌≡◌, ◌++◌, Some, List, subst, ap, ◌∙◌}
use Rattle.std.specs.Prelude.{sum_by}
use Rattle.sb_windowed.specs.records.declared.element.KeptRec.{KeptRec}
use Rattle.sb_windowed.specs.records.Elements.{on_lane}
use Rattle.sb_windowed.specs.window.Groupings.{IsFrom, Adds}
use Rattle.sb_session.specs.Kept.{kept_of}
use Rattle.sb_session.specs.SessionStates.{SessionState, gives}
use Rattle.sb_session.proofs.Giving.{gives_of, open-adds}
use Rattle.sb_session.proofs.session.SessionGrouping.absorb.Goals as goal

pub returns-clause-adds : goal.returns-clause-adds
returns-clause-adds c =
    let s = c.self.inside in
    let before = c.in_ok-kept.kept in
    let part = c.args.part.items in
    let later = kept_of c.in_ok-with.field-0.times.entries in
    let was : c.self.inside.kept ≡ Some before = search rules in
    subst (λ (x : SessionState). (es : List KeptRec) → es ≡ on_lane 0 part → IsFrom x.closed es → Adds x.closed (gives x) (gives_of s.agg s.gap later) es) c.self.view_is
    (λ es stands _. open-adds s.agg s.gap s.closed s.kept before later part es was
    (λ f. c.in_ok-with.ensures.kept f ∙ ap (λ rs. sum_by f (kept_of before.times.entries ++ rs)) c.deref.ensures.value) stands)
