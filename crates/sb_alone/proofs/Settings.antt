-- What a hand was made with stays, call after call.
use Rattle.std.proofs.Common.{◌≡◌, true, false, sym, ◌∙◌}
use Rattle.std.proofs.lemmas.Bool.{true≢false}
use Rattle.sb_hand.specs.Hands.{HandView}
use Rattle.sb_hand.specs.Showing.{settings_of}
use Rattle.sb_alone.specs.Rested.{HasSameSetting}

-- where the hand is spent, nothing is said of its nodes
pub same_spent : (a b : HandView) → b.plan ≡ a.plan → b.bundle ≡ a.bundle → b.pending ≡ a.pending → b.spent ≡ true → HasSameSetting a b
same_spent a b plan bundle pending spent = record { plan = plan; bundle = bundle; pending = pending; stays_spent = λ e. spent; settings = λ e. absurd (true≢false (sym spent ∙ e)) }

-- and where it is not, it was not
pub same_unspent : (a b : HandView) → b.plan ≡ a.plan → b.bundle ≡ a.bundle → b.pending ≡ a.pending → a.spent ≡ false → settings_of b.nodes ≡ settings_of a.nodes → HasSameSetting a b
same_unspent a b plan bundle pending was settings = record { plan = plan; bundle = bundle; pending = pending; stays_spent = λ e. absurd (true≢false (sym e ∙ was)); settings = λ e. settings }
