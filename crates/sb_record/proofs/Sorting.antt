-- A list put in order has the same elements, ascends, and is the only such list.
use Rattle.std.proofs.Common.{◌≡◌, ℕ, suc, ◌+◌, ◌<◌, ℤ, ◌↔◌, Bool, true, false, cond, List, [], ◌∷◌, length, get_or, sym, refl, ap, ◌∙◌, arith}
use Rattle.std.specs.Prelude.{count_by, sum_by}
use Rattle.std.specs.List.{list_any, AllByRecursion}
use Rattle.std.specs.List.Sorted.{IsSorted}
use Rattle.std.specs.Ordering.{eq_by_cmp, is_eq, is_lt, ordering_reverse, ordering_then, nat_cmp, int_cmp}
use Rattle.std.specs.Cmp.{IsTotalOrder, IsStrictWeakOrder, nat_cmp_total, int_cmp_total, tied_itself}
use Rattle.std.specs.declared.cmp.Ordering.{Ordering}
use Rattle.std.specs.declared.cmp.Ordering.TheVariants.{Less, Equal, Greater}
use Rattle.std.proofs.lemmas.Bool.{lt-ltb}
use Rattle.std.proofs.lemmas.Cmp.{then_total, on_total}
use Rattle.std.proofs.lemmas.List.Sums.{sum_by-cons}
use Rattle.std.proofs.lemmas.List.Sorted.{sorted_far, ranks_by}
use Rattle.std.proofs.lemmas.Map.Lookups.{CmpEqualImpliesEq, exact_pairs, exact_unsigned, exact_signed}
use Rattle.std.proofs.lemmas.Map.Views.{tells_apart}
use Rattle.sb_record.specs.declared.item.Record.{Record}
use Rattle.sb_record.specs.declared.key.Key.{Key}
use Rattle.sb_record.specs.Keys.{key_cmp}
use Rattle.sb_record.specs.KeyOrder.{key_cmp_total}
use Rattle.sb_record.specs.Orders.{put_in_order, in_order, IsAscending}
use Rattle.sb_record.specs.Records.{record_cmp, count_of, sorted_records}
use Rattle.sb_record.proofs.Elements.{every, All-any}
use Rattle.sb_record.proofs.KeyOrder.{exact_keys}
use Rattle.sb_record.proofs.Sums.{IsReordered, any_by_count}

-- ---- putting in order moves elements alone
IsReordered-put_in_order : {X : Type 0} (cmp : X → X → Ordering) (x : X) (ys : List X) → IsReordered (put_in_order cmp x ys) (x ∷ ys)
IsReordered-put_in_order cmp x [] f = refl
IsReordered-put_in_order cmp x (y ∷ ys) f = by_case (is_lt (cmp y x)) (IsReordered-put_in_order cmp x ys f)
  where
    by_case : (b : Bool) → sum_by f (put_in_order cmp x ys) ≡ sum_by f (x ∷ ys) → sum_by f (cond b (y ∷ put_in_order cmp x ys) (x ∷ y ∷ ys)) ≡ sum_by f (x ∷ y ∷ ys)
    by_case true h = omega (arith, h, sum_by-cons f y (put_in_order cmp x ys), sum_by-cons f x ys, sum_by-cons f x (y ∷ ys), sum_by-cons f y ys)
    by_case false h = refl

pub IsReordered-in_order : {X : Type 0} (cmp : X → X → Ordering) (xs : List X) → IsReordered (in_order cmp xs) xs
IsReordered-in_order cmp [] f = refl
IsReordered-in_order cmp (x ∷ xs) f = IsReordered-put_in_order cmp x (in_order cmp xs) f ∙ sum_by-cons f x (in_order cmp xs) ∙ ap (λ n. f x + n) (IsReordered-in_order cmp xs f) ∙ sym (sum_by-cons f x xs)

pub All-put_in_order : {X : Type 0} (P : X → Type 0) (cmp : X → X → Ordering) (x : X) (ys : List X) → P x → AllByRecursion P ys → AllByRecursion P (put_in_order cmp x ys)
All-put_in_order P cmp x [] h all = (h, tt)
All-put_in_order P cmp x (y ∷ ys) h all = by_case (is_lt (cmp y x)) (All-put_in_order P cmp x ys h all.1)
  where
    by_case : (b : Bool) → AllByRecursion P (put_in_order cmp x ys) → AllByRecursion P (cond b (y ∷ put_in_order cmp x ys) (x ∷ y ∷ ys))
    by_case true k = (all.0, k)
    by_case false k = (h, all)

pub All-in_order : {X : Type 0} (P : X → Type 0) (cmp : X → X → Ordering) (xs : List X) → AllByRecursion P xs → AllByRecursion P (in_order cmp xs)
All-in_order P cmp [] all = tt
All-in_order P cmp (x ∷ xs) all = All-put_in_order P cmp x (in_order cmp xs) all.0 (All-in_order P cmp xs all.1)

-- ---- records are ordered, and records that compare alike are one
pub records_total : IsTotalOrder record_cmp
records_total = then_total (on_total (λ (r : Record). r.time) nat_cmp_total) (then_total (on_total (λ (r : Record). r.key) key_cmp_total) (on_total (λ (r : Record). r.value) int_cmp_total))

pub exact_records : CmpEqualImpliesEq record_cmp
exact_records a b h =
    ap (λ (p : ℕ × (Key × ℤ)). record { time = p.0; key = p.1.0; value = p.1.1 })
    (exact_pairs nat_cmp (λ x y. ordering_then (key_cmp x.0 y.0) (int_cmp x.1 y.1)) exact_unsigned (exact_pairs key_cmp int_cmp exact_keys exact_signed) (a.time, (a.key, a.value)) (b.time, (b.key, b.value)) h)

module _ {X : Type 0} {cmp : X → X → Ordering} (o : IsTotalOrder cmp) where
  ranks : IsStrictWeakOrder (λ x y. is_lt (cmp x y))
  ranks = ranks_by o (λ (x : X). x)

  put_ascending : (x : X) (ys : List X) → IsAscending cmp ys → IsAscending cmp (put_in_order cmp x ys)
  put_ascending x [] up = (tt, tt)
  put_ascending x (y ∷ ys) up = by_case (is_lt (cmp y x)) refl (put_ascending x ys up.1)
    where
      by_case : (b : Bool) → is_lt (cmp y x) ≡ b → IsAscending cmp (put_in_order cmp x ys) → IsAscending cmp (cond b (y ∷ put_in_order cmp x ys) (x ∷ y ∷ ys))
      by_case true e k = (All-put_in_order (λ z. is_lt (cmp z y) ≡ false) cmp x ys (ranks.one_way y x e) up.0, k)
      by_case false e k = ((e, every (λ z h. ranks.chain z y x h e) ys up.0), up)

  pub in_order-ascending : (xs : List X) → IsAscending cmp (in_order cmp xs)
  in_order-ascending [] = tt
  in_order-ascending (x ∷ xs) = put_ascending x (in_order cmp xs) (in_order-ascending xs)

  -- what `sort` ensures
  pub ascending-from_sorted : (xs : List X) → IsSorted cmp xs → IsAscending cmp xs
  ascending-from_sorted [] up = tt
  ascending-from_sorted (x ∷ xs) up = (after xs (λ k d h. sorted_far (λ x y. is_lt (cmp x y)) ranks (x ∷ xs) up 0 (suc k) d (omega arith) (omega arith)), ascending-from_sorted xs (λ k d low high. up_tail k d high))
    where
      after : (ys : List X) → ((k : ℕ) (d : X) → k < length ys → is_lt (cmp (get_or ys k d) x) ≡ false) → AllByRecursion (λ y. is_lt (cmp y x) ≡ false) ys
      after [] h = tt
      after (y ∷ ys) h = (h 0 y (omega arith), after ys (λ k d b. h (suc k) d (omega arith)))

      up_tail : (k : ℕ) (d : X) → k + 1 < length xs → is_lt (cmp (get_or xs (k + 1) d) (get_or xs k d)) ≡ false
      up_tail k d h = sorted_far (λ x y. is_lt (cmp x y)) ranks (x ∷ xs) up (suc k) (suc (k + 1)) d (omega arith) (omega arith)

  module _ (exact : CmpEqualImpliesEq cmp) where
    abbrev count : X → List X → ℕ
    count x xs = count_by (eq_by_cmp cmp x) xs

    count-cons : (x y : X) (ys : List X) → count x (y ∷ ys) ≡ cond (eq_by_cmp cmp x y) 1 0 + count x ys
    count-cons x y ys = sum_by-cons (λ z. cond (eq_by_cmp cmp x z) 1 0) y ys

    count-own : (x : X) (xs : List X) → count x (x ∷ xs) ≡ 1 + count x xs
    count-own x xs = count-cons x x xs ∙ ap (λ r. cond {A = ℕ} (is_eq r) 1 0 + count x xs) (tied_itself o x)

    counted : (x : X) (xs : List X) → 0 < count x xs → list_any (eq_by_cmp cmp x) xs ≡ true
    counted x xs h = any_by_count (eq_by_cmp cmp x) xs ∙ lt-ltb 0 _ h

    -- what stands in an ascending list is not below its first
    pub not_below_first : (x y : X) (ys : List X) → AllByRecursion (λ z. is_lt (cmp z y) ≡ false) ys → list_any (eq_by_cmp cmp x) (y ∷ ys) ≡ true → is_lt (cmp x y) ≡ false
    not_below_first x y ys up some =
        All-any (λ z. is_lt (cmp z y) ≡ false) (is_lt (cmp x y) ≡ false) (eq_by_cmp cmp x) (λ z h same. ap (λ w. is_lt (cmp w y)) (tells_apart exact x z same) ∙ h)
        (y ∷ ys) (ap is_lt (tied_itself o y), up) some

    pub equal_by : (x y : X) → is_lt (cmp x y) ≡ false → is_lt (cmp y x) ≡ false → x ≡ y
    equal_by x y a b = by_case (cmp x y) refl a
      where
        by_case : (r : Ordering) → cmp x y ≡ r → is_lt r ≡ false → x ≡ y
        by_case Less e h = cc
        by_case Equal e h = exact x y e
        by_case Greater e h = let k : true ≡ false = sym (ap is_lt (o.antisymm y x ∙ ap ordering_reverse e)) ∙ b in cc

    -- two ascending lists that hold each element equally often are one
    pub ascending-unique : (xs ys : List X) → IsAscending cmp xs → IsAscending cmp ys → ((x : X) → count x xs ≡ count x ys) → xs ≡ ys
    ascending-unique [] [] up vp same = refl
    ascending-unique [] (y ∷ ys) up vp same = absurd (omega (arith, same y, count-own y ys))
    ascending-unique (x ∷ xs) [] up vp same = absurd (omega (arith, same x, count-own x xs))
    ascending-unique (x ∷ xs) (y ∷ ys) up vp same =
        let e : x ≡ y = equal_by x y (not_below_first x y ys vp.0 (counted x (y ∷ ys) (omega (arith, same x, count-own x xs)))) (not_below_first y x xs up.0 (counted y (x ∷ xs) (omega (arith, same y, count-own y ys)))) in
        let rest : xs ≡ ys = ascending-unique xs ys up.1 vp.1 (λ z. less z e) in
        λ i. e i ∷ rest i
      where
        less : (z : X) → x ≡ y → count z xs ≡ count z ys
        less z e =
            let a : cond {A = ℕ} (eq_by_cmp cmp z x) 1 0 ≡ cond (eq_by_cmp cmp z y) 1 0 = ap (λ w. cond {A = ℕ} (eq_by_cmp cmp z w) 1 0) e in
            omega (arith, same z, count-cons z x xs, count-cons z y ys)

    -- so one that holds each element as often as another list is that list put in order
    pub ascending-in_order : (xs ys : List X) → IsAscending cmp xs → ((x : X) → count x xs ≡ count x ys) → xs ≡ in_order cmp ys
    ascending-in_order xs ys up same = ascending-unique xs (in_order cmp ys) up (in_order-ascending ys) (λ x. same x ∙ sym (IsReordered-in_order cmp ys (λ z. cond (eq_by_cmp cmp x z) 1 0)))

-- ---- records
-- the counts of one record are sums
counts : (l m : List Record) → IsReordered l m → (r : Record) → count_of r l ≡ count_of r m
counts l m same r = same (λ x. cond (eq_by_cmp record_cmp r x) 1 0)

pub sorted-unique : (rows l : List Record) → IsAscending record_cmp rows → IsReordered rows l → rows ≡ sorted_records l
sorted-unique rows l up same = ascending-in_order records_total exact_records rows l up (counts rows l same)

-- lists that hold each record equally often differ in order alone
pub IsReordered-from_counts : (l m : List Record) → ((r : Record) → count_of r l ≡ count_of r m) → IsReordered l m
IsReordered-from_counts l m same f = sym (IsReordered-in_order record_cmp l f) ∙ ap (sum_by f) sorted_alike ∙ IsReordered-in_order record_cmp m f
  where
    sorted_alike : sorted_records l ≡ sorted_records m
    sorted_alike =
        ascending-in_order records_total exact_records (sorted_records l) m (in_order-ascending records_total l)
        (λ r. counts (sorted_records l) l (IsReordered-in_order record_cmp l) r ∙ same r)

pub counts_tell : (l m : List Record) → IsReordered l m ↔ ((r : Record) → count_of r l ≡ count_of r m)
counts_tell l m = (counts l m, IsReordered-from_counts l m)
