-- The laws of an output that sends rows through a ring. Each is proved here, where its implementation can name it.
use Rattle.std.proofs.Common.{◌≡◌, ◌<◌, false, List, [], ◌∷◌, ◌++◌, refl, sym, ap, subst, ◌∙◌, append_assoc, append-nil}
use Rattle.std.specs.List.{AllByRecursion}
use Rattle.std.proofs.lemmas.List.Concat.{flat_map-append}
use Rattle.sb_feed.specs.base.records.declared.item.Record.{Record}
use Rattle.sb_feed.specs.emit.Outputs.{AreApart}
use Rattle.sb_feeds.specs.declared.rows.ends.RowsOut.{RowsOut}
use Rattle.sb_feeds.specs.declared.rows.fed.RowsFed.{RowsFed}
use Rattle.sb_feeds.specs.declared.rows.fed.RowsFed.TheVariants as fed
use Rattle.sb_feeds.specs.RowsEnds.{rows_sent}
use Rattle.sb_feeds.specs.RowsFed.{AreInTurn, all_rows, has_end, rows_of}
use Rattle.sb_feeds.specs.RowsSends.{AreSent, AreSentInPart}

-- the rows of values and then of more values
pub joined_rows : (values more : List RowsFed) → all_rows (values ++ more) ≡ all_rows values ++ all_rows more
joined_rows values more = flat_map-append rows_of values more

-- no end is among values and then more values
pub no_end_joined : (values more : List RowsFed) → has_end values ≡ false → has_end more ≡ false
    → has_end (values ++ more) ≡ false
no_end_joined [] more none later = later
no_end_joined (fed.Rows rows ∷ values) more none later = no_end_joined values more none later
no_end_joined (fed.End ∷ values) more none later = absurd (cc none)

-- ---- rows that are apart
pub apart_front : (l m n : List Record) → AreApart (l ++ m) n → AreApart l n
apart_front [] m n h = tt
apart_front (r ∷ l) m n h = (h.0, apart_front l m n h.1)

pub apart_behind : (l m n : List Record) → AreApart (l ++ m) n → AreApart m n
apart_behind [] m n h = h
apart_behind (r ∷ l) m n h = apart_behind l m n h.1

All-join : (P : Record → Type 0) (l m : List Record) → AllByRecursion P l → AllByRecursion P m
    → AllByRecursion P (l ++ m)
All-join P [] m first later = later
All-join P (r ∷ l) m first later = (first.0, All-join P l m first.1 later)

pub apart_join : (l m n : List Record) → AreApart l m → AreApart l n → AreApart l (m ++ n)
apart_join [] m n h k = tt
apart_join (r ∷ l) m n h k = (All-join (λ s. r.time < s.time) m n h.0 k.0, apart_join l m n h.1 k.1)

All-front : (P : Record → Type 0) (l m : List Record) → AllByRecursion P (l ++ m) → AllByRecursion P l
All-front P [] m all = tt
All-front P (r ∷ l) m all = (all.0, All-front P l m all.1)

pub apart_first : (l m n : List Record) → AreApart l (m ++ n) → AreApart l m
apart_first [] m n h = tt
apart_first (r ∷ l) m n h = (All-front (λ s. r.time < s.time) m n h.0, apart_first l m n h.1)

All-behind : (P : Record → Type 0) (l m : List Record) → AllByRecursion P (l ++ m) → AllByRecursion P m
All-behind P [] m all = all
All-behind P (r ∷ l) m all = All-behind P l m all.1

pub apart_last : (l m n : List Record) → AreApart l (m ++ n) → AreApart l n
apart_last [] m n h = tt
apart_last (r ∷ l) m n h = (All-behind (λ s. r.time < s.time) m n h.0, apart_last l m n h.1)

pub apart_both : (l m n : List Record) → AreApart l n → AreApart m n → AreApart (l ++ m) n
apart_both [] m n h k = k
apart_both (r ∷ l) m n h k = (h.0, apart_both l m n h.1 k)

-- ---- values in turn
pub in_turn_joined : (values more : List RowsFed) → AreApart (all_rows values) (all_rows more) → AreInTurn values
    → AreInTurn more → AreInTurn (values ++ more)
in_turn_joined [] more apart first later = later
in_turn_joined (v ∷ values) more apart first later = (
  subst (AreApart (rows_of v)) (sym (joined_rows values more))
      (apart_join (rows_of v) (all_rows values) (all_rows more) first.0
      (apart_front (rows_of v) (all_rows values) (all_rows more) apart)),
  in_turn_joined values more (apart_behind (rows_of v) (all_rows values) (all_rows more) apart) first.1 later,
)

-- the first of them are in turn, and earlier than the others
pub in_turn_front : (values more : List RowsFed) → AreInTurn (values ++ more)
    → AreInTurn values × AreApart (all_rows values) (all_rows more)
in_turn_front [] more turn = (tt, tt)
in_turn_front (v ∷ values) more turn =
    let apart = subst (AreApart (rows_of v)) (joined_rows values more) turn.0 in
    let front = in_turn_front values more turn.1 in (
      (apart_first (rows_of v) (all_rows values) (all_rows more) apart, front.0),
      apart_both (rows_of v) (all_rows values) (all_rows more)
          (apart_last (rows_of v) (all_rows values) (all_rows more) apart) front.1,
    )

-- ---- the laws
pub after_none : (o : RowsOut) → AreSent o [] o
after_none o = record {
  ring = refl;
  values = [];
  sent = sym (append-nil (rows_sent o));
  unended = refl;
  in_turn = tt;
  are = refl;
}

pub after_more : (o p q : RowsOut) (l m : List Record) → AreApart l m → AreSent o l p → AreSent p m q
    → AreSent o (l ++ m) q
after_more o p q l m apart first then = record {
  ring = then.ring ∙ first.ring;
  values = first.values ++ then.values;
  sent =
      then.sent
      ∙ ap (λ x. x ++ then.values) first.sent
      ∙ append_assoc (rows_sent o) first.values then.values;
  unended = no_end_joined first.values then.values first.unended then.unended;
  in_turn =
      in_turn_joined first.values then.values
      (subst (λ x. AreApart x (all_rows then.values)) (sym first.are) (subst (AreApart l) (sym then.are) apart))
      first.in_turn then.in_turn;
  are = joined_rows first.values then.values ∙ (λ i. first.are i ++ then.are i);
}

pub part_of_all : (o p : RowsOut) (l m : List Record) → AreSent o l p → AreSentInPart o (l ++ m) p
part_of_all o p l m all = record { first = l; rest = m; whole = refl; sent = all }

pub part_later : (o p q : RowsOut) (l m : List Record) → AreApart l m → AreSent o l p → AreSentInPart p m q
    → AreSentInPart o (l ++ m) q
part_later o p q l m apart all some = record {
  first = l ++ some.first;
  rest = some.rest;
  whole = ap (λ x. l ++ x) some.whole ∙ sym (append_assoc l some.first some.rest);
  sent = after_more o p q l some.first
      (apart_first l some.first some.rest (subst (AreApart l) some.whole apart)) all some.sent;
}

pub part_of_more : (o p : RowsOut) (l m : List Record) → AreSentInPart o l p → AreSentInPart o (l ++ m) p
part_of_more o p l m some = record {
  first = some.first;
  rest = some.rest ++ m;
  whole = ap (λ x. x ++ m) some.whole ∙ append_assoc some.first some.rest m;
  sent = some.sent;
}
