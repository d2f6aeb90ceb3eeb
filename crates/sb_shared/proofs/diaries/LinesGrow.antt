-- An event adds one line to the diary of the node that is left, and any other leaving none.
use Rattle.std.proofs.Common.{◌≡◌, ℕ, ◌+◌, length, refl, ap, ◌∙◌, length-append}
use Rattle.sb_shown.specs.core.declared.moment.Node.{Node}
use Rattle.sb_turn.specs.Turning.{one_if}
use Rattle.sb_shared.specs.declared.telling.Change.{Change}
use Rattle.sb_shared.specs.declared.telling.Hands.{Hands}
use Rattle.sb_shared.specs.declared.telling.Setting.{Setting}
use Rattle.sb_shared.specs.Doings.{Doing, Quiet, Fresh, Of, doing_of, is_done, is_event, lines_by}
use Rattle.sb_shared.specs.Found.{IsFound}
use Rattle.sb_shared.specs.Leavings.{Does}
use Rattle.sb_shared.specs.SharedNodes.{SharedView, lines_of}
use Rattle.sb_shared.proofs.diaries.Replaying.{same_doing}

-- the lines of one leaving
count_by_doing : (a : Setting) (d : Doing) (p : Node) → length (lines_by a d p) ≡ one_if (is_done d)
count_by_doing a Quiet p = refl
count_by_doing a (Fresh e) p = refl
count_by_doing a (Of e h) p = refl

-- the lines of the state that goes home
pub line_more : (a : Setting) (w : Hands) (seen k : ℕ) (x y : SharedView) (c : Change) → Does a w seen k x y c → IsFound a w k x
    → lines_of y ≡ lines_of x + one_if (is_event c)
line_more a w seen k x y c does f =
    let d = does.part f in
    ap length d.lines
    ∙ length-append x.own.diary.events (lines_by a (doing_of k c) f.part)
    ∙ ap (λ n. lines_of x + n) (count_by_doing a (doing_of k c) f.part ∙ ap one_if (same_doing k c))
