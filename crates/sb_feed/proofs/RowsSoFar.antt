-- What more of the streams leaves of the rows so far.
use Rattle.std.proofs.Common.{◌≡◌, ◌≤◌, ℕ, List, [], ◌∷◌, ◌++◌, refl, sym, ap, subst, ◌∙◌, append_assoc, append-nil}
use Rattle.std.proofs.lemmas.List.{map-append}
use Rattle.std.proofs.lemmas.List.Concat.{flat_map-append}
use Rattle.std.specs.List.{AllByRecursion}
use Rattle.sb_base.specs.records.declared.item.Record.{Record}
use Rattle.sb_base.specs.records.declared.item.Stream.{Stream}
use Rattle.sb_base.specs.records.declared.item.Stream.TheVariants.{A, B}
use Rattle.sb_base.specs.records.Streams.{last_or}
use Rattle.sb_base.proofs.records.Elements.{All-join}
use Rattle.sb_base.specs.bundle.declared.bundle.Bundle.{Bundle}
use Rattle.sb_base.specs.bundle.Calls.{records_in_order, parts_of}
use Rattle.sb_base.specs.pipeline.Shapes.{Shape}
use Rattle.sb_feed.specs.Feeds.{Fed, AreRowsSoFar, IsFrom, MayArrive, records_of_feed, floor_in, with_bundle, with_mark}
use Rattle.sb_feed.proofs.FirstRows.{rows_same}
use Rattle.sb_feed.proofs.LaterItems.{from_later}

joined-append : (xs : List (List Record)) (ys : List (List Record)) → records_in_order (xs ++ ys) ≡ records_in_order xs ++ records_in_order ys
joined-append xs ys = flat_map-append (λ p. p) xs ys

-- a bundle more leaves what may come
pub so_far_bundle : (plan : Shape) (size : ℕ) (s : Stream) (b : Bundle) (f : Fed) (rows : List Record) → MayArrive plan size f s b → AreRowsSoFar plan f rows → AreRowsSoFar plan (with_bundle s b f) rows
so_far_bundle plan size s b f rows may h = record {
  mark = h.mark;
  bound = h.bound;
  are = λ coming is. h.are (λ u. new_of s u ++ coming u) (λ u. All-join (IsFrom (floor_in f u)) (new_of s u) (coming u) (new_from s u may.timely) (same_floor s u (coming u) (is u))) ∙ rows_same h.mark plan (λ u. records_of_feed f u ++ (new_of s u ++ coming u)) (λ u. records_of_feed (with_bundle s b f) u ++ coming u) (λ u. sym (append_assoc (records_of_feed f u) (new_of s u) (coming u)) ∙ ap (λ l. l ++ coming u) (fed_more s u));
}
  where
    new_of : Stream → Stream → List Record
    new_of A A = b.records
    new_of B B = b.records
    new_of A B = []
    new_of B A = []

    new_from : (s u : Stream) → AllByRecursion (IsFrom (floor_in f s)) b.records → AllByRecursion (IsFrom (floor_in f u)) (new_of s u)
    new_from A A all = all
    new_from B B all = all
    new_from A B all = tt
    new_from B A all = tt

    same_floor : (s u : Stream) (l : List Record) → AllByRecursion (IsFrom (floor_in (with_bundle s b f) u)) l → AllByRecursion (IsFrom (floor_in f u)) l
    same_floor A A l all = all
    same_floor A B l all = all
    same_floor B A l all = all
    same_floor B B l all = all

    one_more : (l : List Bundle) → records_in_order (parts_of l) ++ b.records ≡ records_in_order (parts_of (l ++ b ∷ []))
    one_more l = ap (λ x. records_in_order (parts_of l) ++ x) (sym (append-nil b.records)) ∙ sym (ap records_in_order (map-append (λ (c : Bundle). c.records) l (b ∷ [])) ∙ joined-append (parts_of l) (b.records ∷ []))

    fed_more : (s u : Stream) → records_of_feed f u ++ new_of s u ≡ records_of_feed (with_bundle s b f) u
    fed_more A A = one_more f.bundles_a
    fed_more B B = one_more f.bundles_b
    fed_more A B = append-nil (records_of_feed f B)
    fed_more B A = append-nil (records_of_feed f A)

-- an engine of the same plan has given them
pub so_far_by : (plan2 plan : Shape) (stands : Fed → List Record → Type 0) → plan2 ≡ plan → ((f : Fed) (rows : List Record) → stands f rows → AreRowsSoFar plan2 f rows)
    → (f : Fed) (rows : List Record) → stands f rows → AreRowsSoFar plan f rows
so_far_by plan2 plan stands same so_far f rows h = subst (λ u. AreRowsSoFar u f rows) same (so_far f rows h)

last_mark : (n t : ℕ) (xs : List ℕ) → last_or n (xs ++ t ∷ []) ≡ t
last_mark n t [] = refl
last_mark n t (x ∷ xs) = last_mark x t xs

-- a mark leaves less to come
pub so_far_mark : (plan : Shape) (s : Stream) (t : ℕ) (f : Fed) (rows : List Record) → floor_in f s ≤ t → AreRowsSoFar plan f rows → AreRowsSoFar plan (with_mark s t f) rows
so_far_mark plan s t f rows le h = record { mark = h.mark; bound = h.bound; are = λ coming is. h.are coming (λ u. less s u le (coming u) (is u)) ∙ rows_same h.mark plan (λ u. records_of_feed f u ++ coming u) (λ u. records_of_feed (with_mark s t f) u ++ coming u) (λ u. ap (λ l. l ++ coming u) (fed_same s u)) }
  where
    less : (s u : Stream) → floor_in f s ≤ t → (l : List Record) → AllByRecursion (IsFrom (floor_in (with_mark s t f) u)) l → AllByRecursion (IsFrom (floor_in f u)) l
    less A A le l all = from_later (floor_in f A) t l le (subst (λ x. AllByRecursion (IsFrom x) l) (last_mark 0 t f.marks_a) all)
    less A B le l all = all
    less B A le l all = all
    less B B le l all = from_later (floor_in f B) t l le (subst (λ x. AllByRecursion (IsFrom x) l) (last_mark 0 t f.marks_b) all)

    fed_same : (s u : Stream) → records_of_feed f u ≡ records_of_feed (with_mark s t f) u
    fed_same A A = refl
    fed_same A B = refl
    fed_same B A = refl
    fed_same B B = refl
