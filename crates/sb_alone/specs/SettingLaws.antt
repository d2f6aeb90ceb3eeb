-- What stays as it is of a hand, call after call: its plan and its sizes.
use Rattle.std.specs.Prelude.{◌≡◌, Bool, true, false}
use Rattle.std.proofs.Common.{refl, sym, ◌∙◌}
use Rattle.std.proofs.lemmas.Bool.{true≢false}
use Rattle.sb_hand.specs.Hands.{HandView}
use Rattle.sb_alone.specs.Rested.{HasSameSetting}

pub same_then : (a b c : HandView) → HasSameSetting a b → HasSameSetting b c → HasSameSetting a c
same_then a b c h k = record {
  plan = k.plan ∙ h.plan;
  bundle = k.bundle ∙ h.bundle;
  pending = k.pending ∙ h.pending;
  stays_spent = λ e. k.stays_spent (h.stays_spent e);
  settings = λ e. k.settings e ∙ h.settings (unspent b.spent refl e);
}
  where
    unspent : (s : Bool) → b.spent ≡ s → c.spent ≡ false → b.spent ≡ false
    unspent false is e = is
    unspent true is e = absurd (true≢false (sym (k.stays_spent is) ∙ e))

pub same_as_before : (a : HandView) → HasSameSetting a a
same_as_before a = record { plan = refl; bundle = refl; pending = refl; stays_spent = λ e. e; settings = λ e. refl }
