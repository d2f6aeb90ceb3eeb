use Rattle.std.proofs.Common.{◌≡◌, ◌∙◌, ◌∷◌, ◌++◌, [], arith, subst}
use Rattle.sb_feed.proofs.GiveLaws.{cause_then}
use Rattle.sb_feeds.specs.declared.rows.fed.RowsFed.TheVariants as fed
use Rattle.sb_feeds.specs.RowsEnds.{rows_received}
use Rattle.sb_feeds.proofs.RowsPrinted.{rows_printed}
use Rattle.sb_feeds.proofs.rows.printing.print_rows.Goals as goal

pub loop-preserved-in-Some-Rows : goal.loop-preserved-in-Some-Rows
loop-preserved-in-Some-Rows g c =
    let before = c.loop.invariant in
    record {
      given = rows_printed g.R.RowOut.after g.R.RowOut.part
          (record { out = c.args.out.now; taps = _ })
          (record { out = c.loop.out; taps = _ })
          (record { out = c.give_out.new.out; taps = _ })
          (rows_received c.loop.inward) (rows_received c.pop.new.self) (fed.Rows c.in-Some-Rows.rows) c.deref.result.now c.deref.ensures.value
          (subst (λ x. rows_received c.pop.new.self ≡ rows_received c.loop.inward ++ x ∷ []) c.in-Some-Rows.field-0-is c.in-Some-Rows.ensures.some)
          before.given c.in-Ok.ensures.writes c.in-Ok.ensures.offers;
      ring = c.in-Some-Rows.ensures.ring ∙ before.ring;
      cause = cause_then _ _ _ _ _ before.cause c.in-Ok.ensures.cause;
      fewer = let a = before.fewer in let b = c.in-Ok.ensures.fewer in omega (arith, a, b);
    }
