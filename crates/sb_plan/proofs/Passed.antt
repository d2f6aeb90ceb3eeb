-- What tests that pass show, one after another.
use Rattle.std.proofs.Common.{◌≡◌, Bool, true, false, cond, Option, Some, None, IfSome, Result, Ok, Err, refl, subst}
use Rattle.sb_pipeline.specs.pardo.TableFiles.{then_test, or_fault}
use Rattle.sb_plan.specs.Failures.{Failure, by_text}

-- where a test and the next ones pass, each does
pub passed : {A B E : Type 0} (r : Result A E) (f : A → Result B E) (b : B) → then_test r f ≡ Ok b → (a : A) × (r ≡ Ok a) × (f a ≡ Ok b)
passed (Ok a) f b h = (a, refl, h)
passed (Err e) f b h = cc

-- the same where the first test is of the text alone
pub of_text : {A E : Type 0} (r : Result A E) (a : A) → by_text r ≡ Ok a → r ≡ Ok a
of_text (Ok x) a h = cc
of_text (Err e) a h = cc

pub passed_text : {A B E : Type 0} (r : Result A E) (f : A → Result B (Failure E)) (b : B) → then_test (by_text r) f ≡ Ok b → (a : A) × (r ≡ Ok a) × (f a ≡ Ok b)
passed_text (Ok a) f b h = (a, refl, h)
passed_text (Err e) f b h = cc

-- a test that is made by a condition passed
pub passed_if : {B E : Type 0} (c : Bool) (e : E) (r : Result B E) (b : B) → cond c r (Err e) ≡ Ok b → (c ≡ true) × (r ≡ Ok b)
passed_if true e r b h = (refl, h)
passed_if false e r b h = cc

pub passed_unless : {B E : Type 0} (c : Bool) (e : E) (r : Result B E) (b : B) → cond c (Err e) r ≡ Ok b → (c ≡ false) × (r ≡ Ok b)
passed_unless true e r b h = cc
passed_unless false e r b h = (refl, h)

pub found : {A E : Type 0} (e : E) (o : Option A) (a : A) → or_fault e o ≡ Ok a → o ≡ Some a
found e (Some x) a h = cc
found e None a h = cc

-- what holds of a value that may be there, where it is this one
pub some-is : {A : Type 0} (P : A → Type 0) (o : Option A) (a : A) → o ≡ Some a → IfSome o P → P a
some-is P o a is holds = subst (λ o. IfSome o P) is holds
