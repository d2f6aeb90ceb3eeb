-- What the counts of a lane are once one of its bundles is at another stage, and what they say of all its bundles.
use Rattle.std.proofs.Common.{◌≡◌, ℕ, suc, zero, ◌+◌, ◌-◌, ◌≤◌, Bool, true, false, not, cond, eqb, List, [], ◌∷◌, length, Some, None, Option, refl, sym, ap, subst, ◌∙◌, arith}
use Rattle.std.specs.Prelude.{◌&&◌, ◌==◌, nat_lt, slice_get, slice_set, if◌then◌else◌}
use Rattle.std.specs.List.{count_by, list_all}
use Rattle.std.specs.BTreeMap.{BTreeMap}
use Rattle.std.proofs.lemmas.List.Sums.{sum_by-cons, sum_by-set}
use Rattle.std.proofs.lemmas.Option.{same_Some, slice_get_within, get_or_from_slice_get}
use Rattle.sb_diary.specs.declared.bundle.Came.{Came}
use Rattle.sb_diary.specs.declared.bundle.Stage.{Stage}
use Rattle.sb_diary.specs.Legal.{LaneAudit, is_done, is_lane_settled}
use Rattle.sb_diary.specs.Books.{IsCounted, count_in, is_unfinished, is_unfinished_in, is_below, bundle_at}

abbrev one : Bool → ℕ
one b = cond b 1 0

-- ---- one element of a list changes
count-set : {X : Type 0} (p : X → Bool) (xs : List X) (i : ℕ) (x y : X) → slice_get xs i ≡ Some x → count_by p (slice_set xs i y) + one (p x) ≡ count_by p xs + one (p y)
count-set p xs i x y h =
    sym (ap (λ z. count_by p (slice_set xs i y) + one (p z)) (get_or_from_slice_get xs i x x h))
    ∙ sum_by-set (λ z. one (p z)) xs i y x (slice_get_within xs i x h)

all-set : {X : Type 0} (q : X → Bool) (xs : List X) (i : ℕ) (x y : X) → slice_get xs i ≡ Some x → q x ≡ q y → list_all q (slice_set xs i y) ≡ list_all q xs
all-set q [] i x y h e = refl
all-set q (z ∷ xs) zero x y h e = ap (λ b. b && list_all q xs) (sym e ∙ ap q (sym (same_Some z x h)))
all-set q (z ∷ xs) (suc i) x y h e = ap (λ b. q z && b) (all-set q xs i x y h e)

some-counted : {X : Type 0} (p : X → Bool) (xs : List X) (i : ℕ) (x : X) → slice_get xs i ≡ Some x → p x ≡ true → 1 ≤ count_by p xs
some-counted p [] i x h e = cc
some-counted p (z ∷ xs) zero x h e =
    let first : one (p z) ≡ 1 = ap one (ap p (same_Some z x h) ∙ e) in
    omega (arith, first, sum_by-cons (λ z. one (p z)) z xs)
some-counted p (z ∷ xs) (suc i) x h e = omega (arith, some-counted p xs i x h e, sum_by-cons (λ z. one (p z)) z xs)

-- ---- one bundle comes to another stage
pub bundle-there : (number : ℕ) (came : List Came) (c : Came) → bundle_at number came ≡ Some c → slice_get came (number - 1) ≡ Some c
bundle-there number came c h = by_test (nat_lt 0 number) h
  where
    by_test : (b : Bool) → (if b then slice_get came (number - 1) else None) ≡ Some c → slice_get came (number - 1) ≡ Some c
    by_test true h = h
    by_test false h = cc

-- it is still not finished
pub counted-taken : (came : List Came) (counts : BTreeMap ℕ ℕ) (n : ℕ) (latest : Option ℕ) (i : ℕ) (c d : Came) → IsCounted came counts n latest
    → slice_get came i ≡ Some c → c.epoch ≡ d.epoch → is_unfinished c ≡ true → is_unfinished d ≡ true → IsCounted (slice_set came i d) counts n latest
counted-taken came counts n latest i c d k h e uc ud = record {
  each = λ q. k.each q ∙ sym (same (one (is_unfinished_in q c)) (one (is_unfinished_in q d)) _ _ (count-set (is_unfinished_in q) came i c d h) (ap one ((λ z. (e z == q) && uc z) ∙ (λ z. (d.epoch == q) && sym ud z))));
  all = k.all ∙ sym (same (one (is_unfinished c)) (one (is_unfinished d)) _ _ (count-set is_unfinished came i c d h) (ap one (uc ∙ sym ud)));
  newest = λ q. all-set (λ c. nat_lt c.epoch q) came i c d h (ap (λ n. nat_lt n q) e) ∙ k.newest q;
}
  where
    same : (a b m n : ℕ) → m + a ≡ n + b → a ≡ b → m ≡ n
    same a b m n h e = omega arith

-- it was finished
pub counted-finished : (came : List Came) (counts fewer : BTreeMap ℕ ℕ) (n : ℕ) (latest : Option ℕ) (i : ℕ) (c d : Came) → IsCounted came counts n latest
    → slice_get came i ≡ Some c → c.epoch ≡ d.epoch → is_unfinished c ≡ true → is_unfinished d ≡ false
    → ((q : ℕ) → count_in fewer q ≡ (if c.epoch == q then count_in counts q - 1 else count_in counts q))
    → IsCounted (slice_set came i d) fewer (n - 1) latest
counted-finished came counts fewer n latest i c d k h e uc ud less = record {
  each = λ q. less q ∙ at_epoch (c.epoch == q) (count_in counts q) _ _ (k.each q)
      (sym (ap (λ m. count_by (is_unfinished_in q) (slice_set came i d) + m) (ap one (λ z. (c.epoch == q) && uc z)))
      ∙ count-set (is_unfinished_in q) came i c d h ∙ ap (λ m. count_by (is_unfinished_in q) came + m) (ap one ((λ z. (sym e z == q) && ud z))));
  all = fewer_by_one n _ _ (one (is_unfinished c)) (one (is_unfinished d)) k.all (count-set is_unfinished came i c d h) (ap one uc) (ap one ud);
  newest = λ q. all-set (λ c. nat_lt c.epoch q) came i c d h (ap (λ n. nat_lt n q) e) ∙ k.newest q;
}
  where
    fewer_by_one : (n m k a b : ℕ) → n ≡ k → m + a ≡ k + b → a ≡ 1 → b ≡ 0 → n - 1 ≡ m
    fewer_by_one n m k a b h e f g = omega arith

    at_epoch : (b : Bool) (n m k : ℕ) → n ≡ k → m + one (b && true) ≡ k + one (b && false) → cond b (n - 1) n ≡ m
    at_epoch true n m k h e = omega arith
    at_epoch false n m k h e = omega arith

pub some-unfinished : (came : List Came) (counts : BTreeMap ℕ ℕ) (n : ℕ) (latest : Option ℕ) (i : ℕ) (c : Came) → IsCounted came counts n latest
    → slice_get came i ≡ Some c → is_unfinished c ≡ true → 1 ≤ n
some-unfinished came counts n latest i c k h u = subst (λ n. 1 ≤ n) (sym k.all) (some-counted is_unfinished came i c h u)

-- ---- all bundles
pub all-done : (came : List Came) → list_all (λ c. is_done c.stage) came ≡ eqb (count_by is_unfinished came) 0
all-done [] = refl
all-done (c ∷ came) =
    by_first (is_done c.stage) (count_by is_unfinished came) (list_all (λ c. is_done c.stage) came) (all-done came)
    ∙ ap (λ n. eqb n 0) (sym (sum_by-cons (λ c. one (is_unfinished c)) c came))
  where
    by_first : (b : Bool) (n : ℕ) (done : Bool) → done ≡ eqb n 0 → (b && done) ≡ eqb (one (not b) + n) 0
    by_first true n done h = grind arith
    by_first false n done h = grind arith

all-both : {X : Type 0} (p q : X → Bool) (xs : List X) → list_all (λ x. p x && q x) xs ≡ (list_all p xs && list_all q xs)
all-both p q [] = refl
all-both p q (x ∷ xs) = shuffle (p x) (q x) _ _ _ (all-both p q xs)
  where
    shuffle : (a b c d e : Bool) → c ≡ (d && e) → ((a && b) && c) ≡ ((a && d) && (b && e))
    shuffle true true c d e h = h
    shuffle true false c true e h = refl
    shuffle true false c false e h = refl
    shuffle false b c d e h = refl

-- a settled lane, part by part
pub settled_is : (lane : LaneAudit) → is_lane_settled lane
    ≡ ((lane.ended == length lane.marks) && (list_all (λ c. is_done c.stage) lane.came && list_all (λ c. nat_lt c.epoch (length lane.marks)) lane.came))
settled_is lane = ap (λ b. (lane.ended == length lane.marks) && b) (all-both (λ c. is_done c.stage) (λ c. nat_lt c.epoch (length lane.marks)) lane.came)
