use Rattle.sb_outside.specs.Comments.{comment_lines}
use Rattle.sb_checkpoint.specs.Ahead.{bytes}
use Rattle.sb_checkpoint.proofs.LinesAhead.{taken_off, unread_by_taking}
use Rattle.sb_checkpoint.proofs.resumed.ResumedSource.take_comments.Goals as goal

pub invariant_of-self : goal.invariant_of-self
invariant_of-self g c =
    unread_by_taking (bytes c.self.inside.ahead) (comment_lines c.take_comments.result) (bytes c.take_comments.new.self) (g.S.Source.left c.self.inside.begun.value) (g.S.Source.left c.self.inside.source) c.take_comments.ensures c.self.invariant

pub returns-clause-comments : goal.returns-clause-comments
returns-clause-comments g c =
    rw (← c.self.view_is)
    (taken_off (bytes c.self.inside.ahead) (comment_lines c.take_comments.result) (bytes c.take_comments.new.self) (g.S.Source.left c.self.inside.source) c.take_comments.ensures)
