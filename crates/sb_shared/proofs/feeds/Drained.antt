-- The feeder finds, under the sink's turn, a moment whose rows are those that it drained and those that it drains now.
use Rattle.std.proofs.Common.{◌≡◌, ℕ, true, List, ◌++◌, length, sym, ap, ◌∙◌, subst}
use Rattle.sb_shown.specs.base.records.declared.item.Record.{Record}
use Rattle.sb_shown.specs.core.Exactness.{IsExact}
use Rattle.sb_shown.specs.tally.Tally as tally
use Rattle.sb_shown.specs.tally.Tally.{IsTallied}
use Rattle.sb_shared.specs.declared.telling.Hands.{Hands}
use Rattle.sb_shared.specs.declared.telling.Setting.{Setting}
use Rattle.sb_shared.specs.Found.{IsDrained, IsFound}
use Rattle.sb_shared.specs.SharedNodes.{SharedView}
use Rattle.sb_shared.specs.Views.{with_drained}
use Rattle.sb_shared.proofs.feeds.FeedOfChanges.{drained-fed}

pub all-drained : (a : Setting) (w : Hands) (k : ℕ) (x : SharedView) (rows : List Record) → w.feed.on ≡ true → k ≡ length a.plan.steps → rows ≡ x.tray
    → IsFound a w k x → IsDrained a (with_drained rows w.feed)
all-drained a w k x rows on sink told f =
    let same = sym (drained-fed rows w.feed) in
    record {
      plan = f.plan;
      moment = f.moment;
      diaries = f.diaries;
      sound = f.sound;
      exact = subst (λ (g : tally.Feed). IsExact a.plan f.moment (tally.records_of_feed g)) same (f.exact on);
      tallied = subst (IsTallied a.plan f.moment f.diaries) (f.feed_is on ∙ same) f.tallied;
      rows = f.rows on sink ∙ ap (λ l. w.feed.drained ++ l) (sym told);
    }
