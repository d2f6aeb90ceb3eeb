-- Working off what a hand has, and taking its rows out.
use Rattle.std.proofs.Common.{◌≡◌, ◌≤◌, ◌<◌, ℕ, List, [], ◌++◌, length, refl, sym, subst}
use Rattle.std.specs.Prelude.{All}
use Rattle.sb_feeds.specs.base.records.declared.item.Record.{Record}
use Rattle.sb_feeds.specs.base.records.declared.item.TheConstants.{END_MARK}
use Rattle.sb_feeds.specs.base.pipeline.Shapes.{Shape}
use Rattle.sb_hand.specs.HandLaws.{AreIdle}
use Rattle.sb_hand.specs.Hands.{HandView}
use Rattle.sb_hand.specs.Stepping.{IsIdle}
use Rattle.sb_feeds.specs.one_feed.Feeds.{Fed}
use Rattle.sb_alone.specs.Rested.{HasSameSetting, IsRested, IsWhole}
use Rattle.sb_alone.proofs.SoFar.{times_below}
use Rattle.sb_alone.proofs.Standing.{whole-drained}

-- the nodes of a plan that is the same
pub idle-there : (h0 h1 : HandView) → HasSameSetting h0 h1 → ((k : ℕ) → k ≤ length h0.plan.steps → IsIdle k h1.nodes) → AreIdle h1.plan h1.nodes
idle-there h0 h1 same idle = λ k le. idle k (subst (λ (p : Shape). k ≤ length p.steps) same.plan le)

-- a hand that was worked off and drained is at rest
pub rests : (h0 h1 h2 : HandView) (f : Fed) (before rows : List Record) → HasSameSetting h0 h1 → ((k : ℕ) → k ≤ length h0.plan.steps → IsIdle k h1.nodes)
    → IsWhole h1 f before → rows ≡ h1.tray → h2 ≡ record h1 { tray = [] } → IsRested h2 f (before ++ rows)
rests h0 h1 h2 f before rows same idle w are drained =
    subst (λ h. IsRested h f (before ++ rows)) (sym drained)
    (record {
      whole = subst (λ l. IsWhole (record h1 { tray = [] }) f (before ++ l)) (sym are) (whole-drained h1 f before w);
      idle = idle-there h0 h1 same idle;
      none_ready = refl;
    })

pub rows-in-time : (h0 h1 : HandView) (f : Fed) (before rows : List Record) → HasSameSetting h0 h1 → ((k : ℕ) → k ≤ length h0.plan.steps → IsIdle k h1.nodes)
    → IsWhole h1 f before → rows ≡ h1.tray → All (λ r. r.time < END_MARK) rows
rows-in-time h0 h1 f before rows same idle w are = subst (λ l. All (λ (r : Record). r.time < END_MARK) l) (sym are) (times_below h1 f before w (idle-there h0 h1 same idle))
