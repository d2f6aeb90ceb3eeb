-- Rows that were sent in turn and given out in turn were given out as one.
use Rattle.std.proofs.Common.{◌≡◌, ◌⊎◌, ◌++◌, false, List, [], ◌∷◌, inl, inr, refl, sym, ap, subst, ◌∙◌, append_assoc, append-nil}
use mathlib.Core.List.{IsPrefix}
use Rattle.sb_feed.specs.base.records.declared.item.Record.{Record}
use Rattle.sb_feed.specs.emit.Outputs.{AreApart}
use Rattle.sb_feed.specs.emit.Taps.{TapState}
use Rattle.sb_feed.specs.declared.give.GiveStop.{GiveStop}
use Rattle.sb_feed.specs.Gives.{TapsAt, WroteAt}
use Rattle.sb_feed.specs.TapLists.{LeavesThoseThatStay}
use Rattle.sb_feed.proofs.GivesInTurn.{AddsUp, taps_behind, wrote_behind}
use Rattle.sb_feed.proofs.OfferedRows.{both_offered, none_offered}
use Rattle.sb_feeds.specs.declared.rows.ends.RowsOut.{RowsOut}
use Rattle.sb_feeds.specs.declared.rows.fed.RowsFed.{RowsFed}
use Rattle.sb_feeds.specs.declared.rows.fed.RowsFed.TheVariants as fed
use Rattle.sb_feeds.specs.RowsEnds.{rows_sent}
use Rattle.sb_feeds.specs.RowsFed.{AreInTurn, all_rows, has_end, rows_of}
use Rattle.sb_feeds.specs.RowsLaws.{apart_first, in_turn_front, in_turn_joined, joined_rows}
use Rattle.sb_feeds.specs.RowsSends.{AreSent, EndsRows, GivenInTurn, PrintsAll, PrintsSome}
use Rattle.sb_feeds.proofs.RowsSent.{apart_none}

-- what lies around a printer: where the rows go
pub record AroundPrinter (O : Type 0) : Type 0 where
  pub out : O
  pub taps : List TapState

-- ---- the loop
module _ {O : Type 0} (after part : O → List Record → O → Type 0) where
  -- one value more
  pub given_then : (o m p : O) (taps between taps' : List TapState) (values : List RowsFed) (v : RowsFed) → GivenInTurn after o taps values m between → after m (rows_of v) p → LeavesThoseThatStay (rows_of v) between taps'
      → GivenInTurn after o taps (values ++ v ∷ []) p taps'
  given_then o m p taps between taps' [] v given wrote offered =
      (p, taps', subst (λ x. after x (rows_of v) p) given.0 wrote, subst (λ x. LeavesThoseThatStay (rows_of v) x taps') given.1 offered, (refl, refl))
  given_then o m p taps between taps' (w ∷ values) v (n, mid, first, stay, given) wrote offered = (n, mid, first, stay, given_then n m p mid between taps' values v given wrote offered)

  pub rows_printed : (start now next : AroundPrinter O) (values values' : List RowsFed) (v : RowsFed) (rows : List Record) → rows ≡ rows_of v → values' ≡ values ++ v ∷ [] → GivenInTurn after start.out start.taps values now.out now.taps
      → after now.out rows next.out → LeavesThoseThatStay rows now.taps next.taps → GivenInTurn after start.out start.taps values' next.out next.taps
  rows_printed start now next values values' v rows is more given wrote offered =
      subst (λ l. GivenInTurn after start.out start.taps l next.out next.taps) (sym more)
      (given_then start.out now.out next.out start.taps now.taps next.taps values v given (subst (λ l. after now.out l next.out) is wrote) (subst (λ l. LeavesThoseThatStay l now.taps next.taps) is offered))

  -- the end came
  pub all_printed : (start now : AroundPrinter O) (values values' : List RowsFed) → values' ≡ values ++ fed.End ∷ [] → GivenInTurn after start.out start.taps values now.out now.taps → PrintsAll after start.out start.taps values' now.out now.taps
  all_printed start now values values' more given = record { values = values; are = more; given = given }

  -- the rows of a value were not all given out
  pub some_printed : (start now next : AroundPrinter O) (values values' : List RowsFed) (v : RowsFed) (rows : List Record) (why : GiveStop) → rows ≡ rows_of v → values' ≡ values ++ v ∷ [] → GivenInTurn after start.out start.taps values now.out now.taps
      → WroteAt after part why now.out rows next.out → TapsAt why rows now.taps next.taps → PrintsSome after part start.out start.taps values' next.out next.taps why
  some_printed start now next values values' v rows why is more given wrote at = record {
    values = values;
    last = v ∷ [];
    are = more;
    between = now.out;
    taps_between = now.taps;
    given = given;
    wrote = subst (λ l. WroteAt after part why now.out l next.out) (is ∙ sym (append-nil (rows_of v))) wrote;
    at = subst (λ l. TapsAt why l now.taps next.taps) (is ∙ sym (append-nil (rows_of v))) at;
  }

-- ---- rows that are in turn
all_in_turn : {O : Type 0} (after part : O → List Record → O → Type 0) → AddsUp after part → (o p : O) (taps taps' : List TapState) (values : List RowsFed) → AreInTurn values → GivenInTurn after o taps values p taps'
    → after o (all_rows values) p × LeavesThoseThatStay (all_rows values) taps taps'
all_in_turn after part laws o p taps taps' [] turn given = (subst (after o []) (sym given.0) (laws.after_none o), subst (LeavesThoseThatStay [] taps) (sym given.1) (none_offered taps))
all_in_turn after part laws o p taps taps' (v ∷ values) turn (m, between, first, stay, given) =
    let rest = all_in_turn after part laws m p between taps' values turn.1 given in
    (laws.after_more o m p (rows_of v) (all_rows values) turn.0 first rest.0, both_offered (rows_of v) (all_rows values) taps between taps' stay rest.1)

-- ---- what came and what was sent
-- all was sent, and then the end, or nothing more
abbrev IsTail : List RowsFed → Type 0
IsTail tail = (tail ≡ fed.End ∷ []) ⊎ (tail ≡ [])

no_rows_behind : (tail : List RowsFed) → IsTail tail → all_rows tail ≡ []
no_rows_behind tail (inl is) = ap all_rows is
no_rows_behind tail (inr is) = ap all_rows is

turn_with : (values tail : List RowsFed) → IsTail tail → AreInTurn values → AreInTurn (values ++ tail)
turn_with values tail (inl is) turn = subst (λ t. AreInTurn (values ++ t)) (sym is) (in_turn_joined values (fed.End ∷ []) (apart_none (all_rows values)) turn (tt, tt))
turn_with values tail (inr is) turn = subst (λ t. AreInTurn (values ++ t)) (sym is) (subst AreInTurn (sym (append-nil values)) turn)

not_none : (got more : List RowsFed) → got ++ fed.End ∷ more ≡ [] → ⊥
not_none [] more are = cc are
not_none (v ∷ got) more are = cc are

-- where the end came, all came
all_came : (got values more tail : List RowsFed) → has_end values ≡ false → IsTail tail → got ++ fed.End ∷ more ≡ values ++ tail → got ≡ values
all_came [] [] more tail none at are = refl
all_came [] (fed.Rows rows ∷ values) more tail none at are = absurd (cc are)
all_came [] (fed.End ∷ values) more tail none at are = absurd (cc none)
all_came (v ∷ got) [] more tail none (inl is) are =
    let all : v ∷ (got ++ fed.End ∷ more) ≡ fed.End ∷ [] = are ∙ is in
    let behind : got ++ fed.End ∷ more ≡ [] = cc all in
    absurd (not_none got more behind)
all_came (v ∷ got) [] more tail none (inr is) are =
    let all : v ∷ (got ++ fed.End ∷ more) ≡ [] = are ∙ is in
    absurd (cc all)
all_came (v ∷ got) (fed.End ∷ values) more tail none at are = absurd (cc none)
all_came (v ∷ got) (fed.Rows rows ∷ values) more tail none at are =
    let same : v ≡ fed.Rows rows = cc are in
    let rest : got ++ fed.End ∷ more ≡ values ++ tail = cc are in
    let is = all_came got values more tail none at rest in
    (λ k. same k ∷ is k)

-- ---- what was printed of what was sent
-- of some rows the first were written and offered up to where it stopped
pub record PrintedFirst {O : Type 0} (after part : O → List Record → O → Type 0) (o p : O) (taps taps' : List TapState) (rows : List Record) (why : GiveStop) : Type 0 where
  pub first : List Record
  pub rest : List Record
  pub are : rows ≡ first ++ rest
  pub wrote : WroteAt after part why o first p
  pub at : TapsAt why first taps taps'

module _ {O : Type 0} (after part : O → List Record → O → Type 0) (laws : AddsUp after part) (out mid out' : RowsOut) (rows : List Record) (received : List RowsFed) (nothing : rows_sent out ≡ []) (sent : AreSent out rows mid)
    (ended : EndsRows mid out') (tied : IsPrefix received (rows_sent out')) (o p : O) (taps taps' : List TapState) where
  all_values : rows_sent mid ≡ sent.values
  all_values = sent.sent ∙ ap (λ l. l ++ sent.values) nothing

  behind : (tail : List RowsFed) × IsTail tail × (rows_sent out' ≡ sent.values ++ tail)
  behind = by_end ended.sent
    where
      by_end : (rows_sent out' ≡ rows_sent mid ++ fed.End ∷ []) ⊎ (rows_sent out' ≡ rows_sent mid) → (tail : List RowsFed) × IsTail tail × (rows_sent out' ≡ sent.values ++ tail)
      by_end (inl is) = (fed.End ∷ [], inl refl, is ∙ ap (λ l. l ++ fed.End ∷ []) all_values)
      by_end (inr is) = ([], inr refl, is ∙ all_values ∙ sym (append-nil sent.values))

  -- up to the end: all of it
  pub printed_whole : PrintsAll after o taps received p taps' → after o rows p × LeavesThoseThatStay rows taps taps'
  printed_whole prints =
      let (tail, is_tail, are) = behind in
      let came : prints.values ++ fed.End ∷ tied.0 ≡ sent.values ++ tail = sym (append_assoc prints.values (fed.End ∷ []) tied.0) ∙ ap (λ l. l ++ tied.0) (sym prints.are) ∙ tied.1 ∙ are in
      let same = all_came prints.values sent.values tied.0 tail sent.unended is_tail came in
      let given = all_in_turn after part laws o p taps taps' sent.values sent.in_turn (subst (λ l. GivenInTurn after o taps l p taps') same prints.given) in
      (subst (λ l. after o l p) sent.are given.0, subst (λ l. LeavesThoseThatStay l taps taps') sent.are given.1)

  -- up to a failure: the first of it
  pub printed_first : (why : GiveStop) → PrintsSome after part o taps received p taps' why → PrintedFirst after part o p taps taps' rows why
  printed_first why prints =
      let (tail, is_tail, are) = behind in
      let values = prints.values in
      let last = prints.last in
      let came : values ++ (last ++ tied.0) ≡ sent.values ++ tail = sym (append_assoc values last tied.0) ∙ ap (λ l. l ++ tied.0) (sym prints.are) ∙ tied.1 ∙ are in
      let turn = subst AreInTurn (sym came) (turn_with sent.values tail is_tail sent.in_turn) in
      let front = in_turn_front values (last ++ tied.0) turn in
      let apart = apart_first (all_rows values) (all_rows last) (all_rows tied.0) (subst (AreApart (all_rows values)) (joined_rows last tied.0) front.1) in
      let given = all_in_turn after part laws o prints.between taps prints.taps_between values front.0 prints.given in
      let all : all_rows values ++ (all_rows last ++ all_rows tied.0) ≡ rows =
      ap (λ l. all_rows values ++ l) (sym (joined_rows last tied.0)) ∙ sym (joined_rows values (last ++ tied.0)) ∙ ap all_rows came ∙ joined_rows sent.values tail ∙ ap (λ l. all_rows sent.values ++ l) (no_rows_behind tail is_tail) ∙ append-nil (all_rows sent.values) ∙ sent.are in
      record {
        first = all_rows values ++ all_rows last;
        rest = all_rows tied.0;
        are = sym all ∙ sym (append_assoc (all_rows values) (all_rows last) (all_rows tied.0));
        wrote = wrote_behind after part laws why o prints.between p (all_rows values) (all_rows last) apart given.0 prints.wrote;
        at = taps_behind why (all_rows values) (all_rows last) taps prints.taps_between taps' given.1 prints.at;
      }
