-- Rows that come later are apart from those before.
use Rattle.std.proofs.Common.{◌≡◌, ◌≤◌, ◌<◌, ℕ, List, [], ◌∷◌, ◌++◌, length, inl, inr, sym, ap, subst, ◌∙◌, arith, length-append}
use Rattle.std.specs.List.{AllByRecursion}
use Rattle.std.specs.Prelude.{nat_le}
use Rattle.std.proofs.lemmas.Bool.{cases_Bool}
use Rattle.std.proofs.lemmas.Bool.Decides.{nat_tests}
use Rattle.std.proofs.lemmas.List.{append_cancel_left}
use Rattle.sb_base.specs.records.declared.item.Item.{Item}
use Rattle.sb_base.specs.records.declared.item.Record.{Record}
use Rattle.sb_base.specs.records.declared.item.Stream.{Stream}
use Rattle.sb_base.specs.records.Records.{at_least, before as records_before, record_cmp, sorted_records}
use Rattle.sb_base.proofs.records.Earlier.{at_least-high, before-low, sorted_before-front}
use Rattle.sb_base.proofs.records.Sorting.{All-in_order}
use Rattle.sb_base.specs.pipeline.Results.{output_of, rows_below}
use Rattle.sb_base.specs.pipeline.Shapes.{Shape}
use Rattle.sb_emit.specs.Outputs.{AreApart}
use Rattle.sb_emit.proofs.Apart.{apart_at, apart_behind}
use Rattle.sb_feed.specs.Due.{streams_in}
use Rattle.sb_feed.specs.FedByItems.{Covers}
use Rattle.sb_feed.specs.Feeds.{Fed, AreRowsSoFar, records_of_feed}
use Rattle.sb_feed.proofs.FirstRows.{rows_covered}
use Rattle.sb_feed.proofs.LaterItems.{GoesOnTo, no_more}

-- rows that lie below a mark, and all rows below another one, which begin with them: what is then left is from the
-- first mark on, or nothing
apart_below : (plan : Shape) (streams : Stream → List Record) (v w : ℕ) (first rows : List Record) → first ≡ rows_below v plan streams → first ++ rows ≡ rows_below w plan streams → AreApart first rows
apart_below plan streams v w first rows is are = elim (cases_Bool (nat_le v w)) [
  | inl up ↦ apart_at v first rows low (high (grind (arith, nat_tests, up)))
  | inr down ↦ apart_at v first rows low (none first rows _ (is ∙ sorted_before-front w v all (grind (arith, nat_tests, down)) ∙ ap (λ l. l ++ sorted_records (at_least w (records_before v all))) (sym are)))
]
  where
    all : List Record
    all = output_of plan streams

    low : AllByRecursion (λ r. r.time < v) first
    low = subst (AllByRecursion (λ r. r.time < v)) (sym is) (All-in_order (λ r. r.time < v) record_cmp (records_before v all) (before-low v all))

    high : v ≤ w → AllByRecursion (λ r. v ≤ r.time) rows
    high le =
        let more = sorted_records (at_least v (records_before w all)) in
        let left : rows ≡ more = append_cancel_left first rows more (are ∙ sorted_before-front v w all le ∙ ap (λ l. l ++ more) (sym is)) in
        subst (AllByRecursion (λ r. v ≤ r.time)) (sym left) (All-in_order (λ r. v ≤ r.time) record_cmp (at_least v (records_before w all)) (at_least-high v (records_before w all)))

    none : (first rows more : List Record) → first ≡ (first ++ rows) ++ more → AllByRecursion (λ r. v ≤ r.time) rows
    none first [] more same = tt
    none first (r ∷ rows) more same =
        let a = ap length same in
        let b = length-append (first ++ r ∷ rows) more in
        let c = length-append first (r ∷ rows) in
        absurd (omega (arith, a, b, c))

-- what an engine gave first, and what it has given since
pub apart_so_far : (plan : Shape) (f : Fed) (before l rows : List Record) → AreRowsSoFar plan f (before ++ l) → AreRowsSoFar plan f ((before ++ l) ++ rows) → AreApart l rows
apart_so_far plan f before l rows first both =
    apart_behind before l rows (apart_below plan (λ s. records_of_feed f s ++ []) first.mark both.mark (before ++ l) rows (first.are (λ _. []) (λ _. tt)) (both.are (λ _. []) (λ _. tt)))

-- the same where it was fed more items since
pub apart_later : (plan : Shape) (items all : List Item) (f g : Fed) (before l rows : List Record) → Covers items f → GoesOnTo items all → AreRowsSoFar plan f (before ++ l)
    → Covers all g → AreRowsSoFar plan g ((before ++ l) ++ rows) → AreApart l rows
apart_later plan items all f g before l rows covers on first covers_all both =
    apart_behind before l rows (apart_below plan (streams_in all) first.mark both.mark (before ++ l) rows (rows_covered plan items all f (before ++ l) covers on first) (rows_covered plan all all g ((before ++ l) ++ rows) covers_all (no_more all) both))
