use Rattle.std.proofs.Common.{◌≡◌, rules}
use Rattle.sb_engines.proofs.shared.feeding.feed_lines.Given.{Over}
use Rattle.sb_engines.proofs.shared.feeding.feed_lines.Goals as goal

same-pass : (g : Over) (c : goal.After-pass-1 g) → c.pass-1.given.0 ≡ c.feed.new.engine.pass.now
same-pass g c = search rules

pub returns-clause-feeds : goal.returns-clause-feeds
returns-clause-feeds g c = rw (same-pass g c) (rw c.feed.ensures.same.0 at c.feed.ensures.feeds)
