-- Records and elements from a mark on.
use Rattle.std.proofs.Common.{◌≡◌, ℕ, suc, ◌+◌, ◌≤◌, ◌<◌, Bool, true, false, not, cond, List, [], ◌∷◌, ◌++◌, length, sym, refl, ap, ◌∙◌, arith}
use Rattle.std.specs.Prelude.{◌||◌, nat_lt}
use Rattle.std.specs.List.{list_any, sum_by, AllByRecursion}
use Rattle.std.proofs.lemmas.Bool.{ltb-false, lt-ltb, le-ltb}
use Rattle.std.proofs.lemmas.List.Sums.{sum_by-cons}
use Rattle.sb_record.specs.declared.element.KeptRec.{KeptRec}
use Rattle.sb_record.specs.declared.item.Record.{Record}
use Rattle.sb_record.specs.Records.{before, at_least}
use Rattle.sb_record.specs.Reorderings.{IsReordered}
use Rattle.sb_record.proofs.Elements.{every}
use Rattle.sb_record.proofs.Sums.{any_reordered}

pub length-reordered : {X : Type 0} (l m : List X) → IsReordered l m → length l ≡ length m
length-reordered l m h = counted l ∙ h (λ x. 1) ∙ sym (counted m)
  where
    counted : {X : Type 0} (l : List X) → length l ≡ sum_by (λ x. 1) l
    counted [] = refl
    counted (x ∷ l) = ap suc (counted l) ∙ omega arith ∙ sym (sum_by-cons (λ x. 1) x l)

-- ---- all that is reordered passes where all did
any-none : {X : Type 0} (p : X → Bool) (l : List X) → AllByRecursion (λ x. p x ≡ false) l → list_any p l ≡ false
any-none p [] all = refl
any-none p (x ∷ l) all = ap (λ b. b || list_any p l) all.0 ∙ any-none p l all.1

none-any : {X : Type 0} (p : X → Bool) (l : List X) → list_any p l ≡ false → AllByRecursion (λ x. p x ≡ false) l
none-any p [] none = tt
none-any p (x ∷ l) none = by_case (p x) refl none (none-any p l)
  where
    by_case : (b : Bool) → p x ≡ b → (b || list_any p l) ≡ false → (list_any p l ≡ false → AllByRecursion (λ x. p x ≡ false) l) → (p x ≡ false) × AllByRecursion (λ x. p x ≡ false) l
    by_case true e h rest = cc
    by_case false e h rest = (e, rest h)

none-reordered : {X : Type 0} (p : X → Bool) (l m : List X) → IsReordered l m → AllByRecursion (λ x. p x ≡ false) l → AllByRecursion (λ x. p x ≡ false) m
none-reordered p l m h all = none-any p m (sym (any_reordered p l m h) ∙ any-none p l all)

-- elements from a mark on stay so in another order
pub from-reordered : (mark : ℕ) (l m : List KeptRec) → IsReordered l m → AllByRecursion (λ e. mark ≤ e.rec.time) l → AllByRecursion (λ e. mark ≤ e.rec.time) m
from-reordered mark l m h all =
    every (λ e k. ltb-false e.rec.time mark k) m (none-reordered (λ e. nat_lt e.rec.time mark) l m h (every (λ e k. le-ltb e.rec.time mark k) l all))

-- ---- before a mark, and from it on
pub before-all : (mark : ℕ) (l : List Record) → AllByRecursion (λ r. r.time < mark) l → before mark l ≡ l
before-all mark [] all = refl
before-all mark (r ∷ l) all = ap (λ b. cond b (r ∷ before mark l) (before mark l)) (lt-ltb r.time mark all.0) ∙ ap (λ l. r ∷ l) (before-all mark l all.1)

pub before-none : (mark : ℕ) (l : List Record) → AllByRecursion (λ r. mark ≤ r.time) l → before mark l ≡ []
before-none mark [] all = refl
before-none mark (r ∷ l) all = ap (λ b. cond b (r ∷ before mark l) (before mark l)) (le-ltb r.time mark all.0) ∙ before-none mark l all.1

pub at_least-all : (mark : ℕ) (l : List Record) → AllByRecursion (λ r. mark ≤ r.time) l → at_least mark l ≡ l
at_least-all mark [] all = refl
at_least-all mark (r ∷ l) all = ap (λ b. cond (not b) (r ∷ at_least mark l) (at_least mark l)) (le-ltb r.time mark all.0) ∙ ap (λ l. r ∷ l) (at_least-all mark l all.1)

pub at_least-none : (mark : ℕ) (l : List Record) → AllByRecursion (λ r. r.time < mark) l → at_least mark l ≡ []
at_least-none mark [] all = refl
at_least-none mark (r ∷ l) all = ap (λ b. cond (not b) (r ∷ at_least mark l) (at_least mark l)) (lt-ltb r.time mark all.0) ∙ at_least-none mark l all.1

pub All-at_least : (mark : ℕ) (l : List Record) → AllByRecursion (λ r. mark ≤ r.time) (at_least mark l)
All-at_least mark [] = tt
All-at_least mark (r ∷ l) = by_case (nat_lt r.time mark) refl (All-at_least mark l)
  where
    by_case : (b : Bool) → nat_lt r.time mark ≡ b → AllByRecursion (λ r. mark ≤ r.time) (at_least mark l) → AllByRecursion (λ r. mark ≤ r.time) (cond (not b) (r ∷ at_least mark l) (at_least mark l))
    by_case true e rest = rest
    by_case false e rest = (ltb-false r.time mark e, rest)

-- ---- parts of a list
pub All-split : {X : Type 0} (P : X → Type 0) (l m : List X) → AllByRecursion P (l ++ m) → AllByRecursion P l × AllByRecursion P m
All-split P [] m all = (tt, all)
All-split P (x ∷ l) m all = let rest = All-split P l m all.1 in ((all.0, rest.0), rest.1)

pub All-both : {X : Type 0} (P Q : X → Type 0) (l : List X) → AllByRecursion P l → AllByRecursion Q l → AllByRecursion (λ x. P x × Q x) l
All-both P Q [] p q = tt
All-both P Q (x ∷ l) p q = ((p.0, q.0), All-both P Q l p.1 q.1)
