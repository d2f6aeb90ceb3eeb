use Rattle.std.proofs.Common.{rules, ◌≡◌, ◌⊎◌, inl, inr, suc, zero, ◌+◌, Bool, true, false, [], ◌∷◌, sym, refl, ◌∙◌, arith}
use Rattle.std.specs.Prelude.{All, Err}
use Rattle.sb_lane.specs.containers.Marks.{first_is_closing}
use Rattle.sb_lane.specs.LaneView.{LaneView}
use Rattle.sb_lane.specs.Looks.{look_of}
use Rattle.sb_lane.specs.Placed.{conts_of}
use Rattle.sb_node.specs.Looking.{CannotClose, NoneClosing}
use Rattle.sb_node.proofs.looking.first_of_two.Goals as goal
use Rattle.sb_node.proofs.looking.first_of_two.Goals.{in_default-via-in-Err+else-is_first, in_default-via-in-Ok+else-not-is_second}

pub returns-in-Err-second-clause-err : goal.returns-in-Err-second-clause-err
returns-in-Err-second-clause-err c = (1, right, refl, is, closing c.look_at-second.result.1 refl)
  where
    left : LaneView
    left = c.args.left.now

    right : LaneView
    right = c.args.right.now

    is : look_of (conts_of right.containers) ≡ Err c.in-Err-second.why
    is = search rules

    both : (P : LaneView → Type 0) → P left → P right → All P (left ∷ right ∷ [])
    both P p q zero d h = p
    both P p q (suc zero) d h = q
    both P p q (suc (suc k)) d h = absurd (omega (arith, h))

    closing : (b : Bool) → c.look_at-second.result.1 ≡ b → (first_is_closing (conts_of right.containers) ≡ true) ⊎ ((1 + 1 ≡ 2) × NoneClosing (left ∷ right ∷ []) × All CannotClose (left ∷ right ∷ []))
    closing true e = inl (sym c.look_at-second.ensures.closing ∙ e)
    closing false e = elim c.in_default.branch [
      | in_default-via-in-Err+else-is_first w ↦ inr (refl, both (λ l. first_is_closing (conts_of l.containers) ≡ false) (search rules) (sym c.look_at-second.ensures.closing ∙ e), both CannotClose (search rules) (c.in-Err-second.why, is))
      | in_default-via-in-Ok+else-not-is_second w ↦ search rules
    ]
