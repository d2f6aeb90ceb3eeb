-- The rows of sessions in order are in order, where each has one row at most.
use Rattle.std.proofs.Common.{◌≡◌, ℕ, ℤ, ◌-◌, ◌≤◌, ◌<◌, false, List, [], ◌∷◌, ◌++◌, map, take, subst, sym, refl, ap, ◌∙◌, arith}
use Rattle.std.specs.List.{flat_map, AllByRecursion}
use Rattle.std.specs.List.Sorted.{IsStrictlySortedBy}
use Rattle.std.specs.Ordering.{nat_cmp, int_cmp, is_lt, ordering_then, ordering_reverse}
use Rattle.std.specs.Cmp.{nat_cmp_is}
use Rattle.std.specs.declared.cmp.Ordering.{Ordering}
use Rattle.std.specs.declared.cmp.Ordering.TheVariants.{Less, Equal, Greater}
use Rattle.std.proofs.lemmas.Bool.Decides.{nat_tests}
use Rattle.sb_windowed.specs.records.declared.item.Record.{Record}
use Rattle.sb_windowed.specs.records.Keys.{key_cmp}
use Rattle.sb_windowed.specs.records.KeyOrder.{key_cmp_total}
use Rattle.sb_windowed.specs.records.Orders.{IsAscending, in_order}
use Rattle.sb_windowed.specs.records.Records.{record_cmp}
use Rattle.sb_windowed.proofs.records.Elements.{All-flat_map}
use Rattle.sb_windowed.specs.window.declared.keyed_window.KeyedWindow.{KeyedWindow}
use Rattle.sb_windowed.specs.window.Windows.{keyed_window_cmp}
use Rattle.sb_windowed.proofs.window.Rows.{row}
use Rattle.sb_windowed.specs.declared.aggregate.Agg.{Agg}
use Rattle.sb_windowed.specs.declared.aggregate.Agg.TheVariants.{Count, Sum, Min, Max, Distinct, Top}
use Rattle.sb_windowed.specs.Aggregates.{greatest_first, GivesOne}
use Rattle.sb_session.specs.Closings.{rows_of}

-- a row of a later session is not before one of an earlier session
row-after : (p q : KeyedWindow) (v w : ℤ) → keyed_window_cmp p q ≡ Less → 1 ≤ p.end → is_lt (record_cmp (row q w) (row p v)) ≡ false
row-after p q v w less some = by_end (nat_cmp p.end q.end) refl less
  where
    less_is : (a b : ℕ) → nat_cmp a b ≡ Less → a < b
    less_is a b h = grind (arith, nat_tests)

    same_is : (a b : ℕ) → nat_cmp a b ≡ Equal → a ≡ b
    same_is a b h = grind (arith, nat_tests)

    by_end : (o : Ordering) → nat_cmp p.end q.end ≡ o → ordering_then o (key_cmp p.key q.key) ≡ Less → is_lt (record_cmp (row q w) (row p v)) ≡ false
    by_end Less e h =
        ap (λ o. is_lt (ordering_then o (ordering_then (key_cmp q.key p.key) (int_cmp w v)))) (sym (nat_cmp_is (q.end - 1) (p.end - 1) Greater (omega (arith, less_is p.end q.end e, some))))
    by_end Equal e h =
        ap (λ o. is_lt (ordering_then o (ordering_then (key_cmp q.key p.key) (int_cmp w v)))) (sym (nat_cmp_is (q.end - 1) (p.end - 1) Equal (omega (arith, same_is p.end q.end e))))
        ∙ ap (λ o. is_lt (ordering_then o (int_cmp w v))) (key_cmp_total.antisymm q.key p.key ∙ ap ordering_reverse h)
    by_end Greater e h = cc

-- one row of the session, or none
abbrev pub OneRow : KeyedWindow → List Record → Type 0
OneRow q [] = Unit {0}
OneRow q (r ∷ []) = (v : ℤ) × (r ≡ row q v)
OneRow q (r ∷ s ∷ rs) = ⊥

all-after : (p q : KeyedWindow) (v : ℤ) (rs : List Record) → keyed_window_cmp p q ≡ Less → 1 ≤ p.end → OneRow q rs → AllByRecursion (λ r. is_lt (record_cmp r (row p v)) ≡ false) rs
all-after p q v [] less some one = tt
all-after p q v (r ∷ []) less some (w, is) = (ap (λ r. is_lt (record_cmp r (row p v))) is ∙ row-after p q v w less some, tt)
all-after p q v (r ∷ s ∷ rs) less some one = absurd one

pub rows-ascend : (rows : KeyedWindow → List Record) → ((q : KeyedWindow) → OneRow q (rows q)) → (qs : List KeyedWindow) → IsStrictlySortedBy keyed_window_cmp qs → AllByRecursion (λ q. 1 ≤ q.end) qs
    → IsAscending record_cmp (flat_map rows qs)
unfolding IsStrictlySortedBy
rows-ascend rows one [] sorted ends = tt
rows-ascend rows one (q ∷ qs) sorted ends = by_rows (rows q) (one q) (rows-ascend rows one qs sorted.1 ends.1)
  where
    by_rows : (rs : List Record) → OneRow q rs → IsAscending record_cmp (flat_map rows qs) → IsAscending record_cmp (rs ++ flat_map rows qs)
    by_rows [] is up = up
    by_rows (r ∷ []) (v, is) up =
        (subst (λ r. AllByRecursion (λ s. is_lt (record_cmp s r) ≡ false) (flat_map rows qs)) (sym is) (All-flat_map (λ p. keyed_window_cmp q p ≡ Less) (λ s. is_lt (record_cmp s (row q v)) ≡ false) rows (λ p less. all-after q p v (rows p) less ends.0 (one p)) qs sorted.0), up)
    by_rows (r ∷ s ∷ rs) is up = absurd is

-- an aggregation that gives one value gives one row of a session
pub one-row : (agg : Agg) → GivesOne agg → (q : KeyedWindow) (vs : List ℤ) → OneRow q (rows_of agg q vs)
one-row agg gives q [] = tt
one-row Count gives q (v ∷ vs) = (_, refl)
one-row Sum gives q (v ∷ vs) = (_, refl)
one-row Min gives q (v ∷ vs) = first (in_order int_cmp (v ∷ vs))
  where
    first : (ws : List ℤ) → OneRow q (map (row q) (take 1 ws))
    first [] = tt
    first (w ∷ ws) = (w, refl)
one-row Max gives q (v ∷ vs) = first (greatest_first (v ∷ vs))
  where
    first : (ws : List ℤ) → OneRow q (map (row q) (take 1 ws))
    first [] = tt
    first (w ∷ ws) = (w, refl)
one-row Distinct gives q (v ∷ vs) = (_, refl)
one-row (Top k) gives q (v ∷ vs) = absurd gives
