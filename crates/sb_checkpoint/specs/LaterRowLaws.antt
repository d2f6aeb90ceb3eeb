-- The laws of an output that is handed the rows from a time on. Each is proved here, where its implementation can
-- name it.
use Rattle.std.proofs.Common.{◌≡◌, ℕ, ◌<◌, Bool, true, false, cond, List, [], ◌∷◌, ◌++◌, refl, sym, ap, subst, ◌∙◌}
use Rattle.std.specs.Prelude.{nat_lt}
use Rattle.std.specs.List.{AllByRecursion}
use Rattle.std.proofs.Math.Nat.{le_of_lt, le_trans}
use Rattle.std.proofs.lemmas.Bool.{le-ltb, ltb-false}
use Rattle.sb_pipeline.specs.records.declared.item.Record.{Record}
use Rattle.sb_emit.specs.Outputs.{AreApart}
use Rattle.sb_checkpoint.specs.LaterRows.{HandedOn, HandsFromFirst, from_first}

-- ---- the rows from the first one on that is from low on
-- behind such a row all rows of later calls are
later_than : (low : ℕ) (r : Record) (m : List Record) → nat_lt r.time low ≡ false
    → AllByRecursion (λ s. r.time < s.time) m → from_first low m ≡ m
later_than low r [] from later = refl
later_than low r (s ∷ m) from later =
    ap (λ b. cond b (from_first low m) (s ∷ m))
    (le-ltb s.time low (le_trans (ltb-false r.time low from) (le_of_lt later.0)))

-- so it does not matter that a call begins anew
from_first-append : (low : ℕ) (l m : List Record) → AreApart l m
    → from_first low (l ++ m) ≡ from_first low l ++ from_first low m
from_first-append low [] m apart = refl
from_first-append low (r ∷ l) m apart =
    by_case (nat_lt r.time low) refl (from_first-append low l m apart.1)
  where
    by_case : (b : Bool) → nat_lt r.time low ≡ b → from_first low (l ++ m) ≡ from_first low l ++ from_first low m
        → cond b (from_first low (l ++ m)) (r ∷ l ++ m) ≡ cond b (from_first low l) (r ∷ l) ++ from_first low m
    by_case true is h = h
    by_case false is h = ap (λ x. r ∷ l ++ x) (sym (later_than low r m is apart.0))

-- the rows of both calls begin with those of the first
from_first-begins : (low : ℕ) (l m : List Record)
    → (more : List Record) × (from_first low (l ++ m) ≡ from_first low l ++ more)
from_first-begins low [] m = (from_first low m, refl)
from_first-begins low (r ∷ l) m = by_case (nat_lt r.time low) (from_first-begins low l m)
  where
    by_case : (b : Bool) → (more : List Record) × (from_first low (l ++ m) ≡ from_first low l ++ more)
        → (more : List Record)
        × (cond b (from_first low (l ++ m)) (r ∷ l ++ m) ≡ cond b (from_first low l) (r ∷ l) ++ more)
    by_case true h = h
    by_case false h = (m, refl)

all_from_first : (P : Record → Type 0) (low : ℕ) (l : List Record) → AllByRecursion P l
    → AllByRecursion P (from_first low l)
all_from_first P low [] all = tt
all_from_first P low (r ∷ l) all = by_case (nat_lt r.time low) (all_from_first P low l all.1)
  where
    by_case : (b : Bool) → AllByRecursion P (from_first low l) → AllByRecursion P (cond b (from_first low l) (r ∷ l))
    by_case true h = h
    by_case false h = all

-- what is left of calls that are apart is apart
still_apart : (low : ℕ) (l m : List Record) → AreApart l m → AreApart (from_first low l) (from_first low m)
still_apart low l m apart =
    all_from_first (λ r. AllByRecursion (λ s. r.time < s.time) (from_first low m)) low l (of_later l apart)
  where
    of_later : (l : List Record) → AreApart l m → AreApart l (from_first low m)
    of_later [] h = tt
    of_later (r ∷ l) h = (all_from_first (λ s. r.time < s.time) low m h.0, of_later l h.1)

-- ---- the laws
-- the first call leaves low as it is, so the second leaves out the same rows
joined : {R : Type 0} (first next whole : R → List Record → R → Type 0)
    → ((o p q : R) (l m : List Record) → AreApart l m → first o l p → next p m q → whole o (l ++ m) q)
    → (o p q : HandedOn R) (l m : List Record) → AreApart l m → HandsFromFirst first o l p → HandsFromFirst next p m q
    → HandsFromFirst whole o (l ++ m) q
joined first next whole law o p q l m apart h k =
    record {
      low = k.low ∙ h.low;
      out =
          subst (λ rows. whole o.out rows q.out) (sym (from_first-append o.low l m apart))
          (law o.out p.out q.out (from_first o.low l) (from_first o.low m) (still_apart o.low l m apart) h.out
          (subst (λ low. next p.out (from_first low m) q.out) h.low k.out));
    }

pub after_none : {R : Type 0} (after : R → List Record → R → Type 0) → ((o : R) → after o [] o)
    → (o : HandedOn R) → HandsFromFirst after o [] o
after_none after law o = record { low = refl; out = law o.out }

pub after_more : {R : Type 0} (after : R → List Record → R → Type 0)
    → ((o p q : R) (l m : List Record) → AreApart l m → after o l p → after p m q → after o (l ++ m) q)
    → (o p q : HandedOn R) (l m : List Record) → AreApart l m → HandsFromFirst after o l p → HandsFromFirst after p m q
    → HandsFromFirst after o (l ++ m) q
after_more after law o p q l m apart h k = joined after after after law o p q l m apart h k

pub part_later : {R : Type 0} (after part : R → List Record → R → Type 0)
    → ((o p q : R) (l m : List Record) → AreApart l m → after o l p → part p m q → part o (l ++ m) q)
    → (o p q : HandedOn R) (l m : List Record) → AreApart l m → HandsFromFirst after o l p → HandsFromFirst part p m q
    → HandsFromFirst part o (l ++ m) q
part_later after part law o p q l m apart h k = joined after part part law o p q l m apart h k

pub part_of_all : {R : Type 0} (after part : R → List Record → R → Type 0)
    → ((o p : R) (l m : List Record) → after o l p → part o (l ++ m) p)
    → (o p : HandedOn R) (l m : List Record) → HandsFromFirst after o l p → HandsFromFirst part o (l ++ m) p
part_of_all after part law o p l m h =
    let begins = from_first-begins o.low l m in
    record {
      low = h.low;
      out =
          subst (λ rows. part o.out rows p.out) (sym begins.1)
          (law o.out p.out (from_first o.low l) begins.0 h.out);
    }

pub part_of_more : {R : Type 0} (part : R → List Record → R → Type 0)
    → ((o p : R) (l m : List Record) → part o l p → part o (l ++ m) p)
    → (o p : HandedOn R) (l m : List Record) → HandsFromFirst part o l p → HandsFromFirst part o (l ++ m) p
part_of_more part law o p l m h = part_of_all part part law o p l m h
