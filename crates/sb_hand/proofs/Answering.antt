-- Facts of an answer, taken together.
use Rattle.std.specs.Prelude.{Result, Ok, Err, OnErr, OnOk, IfOk, IfErr}

-- what holds, holds where the answer is an error
pub so-on_err : {T E : Type 0} (r : Result T E) {P : Type 0} → P → OnErr r P
so-on_err (Ok x) p = tt
so-on_err (Err e) p = p

-- what holds of an answer by two of its facts
pub from-two : {T E : Type 0} (r : Result T E) {P Q S : T → Type 0} → ((x : T) → P x → Q x → S x) → IfOk r P → IfOk r Q → IfOk r S
from-two (Ok x) f p q = f x p q
from-two (Err e) f p q = p

-- what holds, where there is an answer, by two of its facts
pub two-ok : {T E : Type 0} (r : Result T E) {P Q : T → Type 0} {S : Type 0} → ((x : T) → P x → Q x → S) → IfOk r P → IfOk r Q → OnOk r S
two-ok (Ok x) f p q = f x p q
two-ok (Err e) f p q = p

-- what holds of an answer by three of its facts
pub from-three : {T E : Type 0} (r : Result T E) {P Q R S : T → Type 0} → ((x : T) → P x → Q x → R x → S x) → IfOk r P → IfOk r Q → IfOk r R → IfOk r S
from-three (Ok x) f p q s = f x p q s
from-three (Err e) f p q s = p

-- what holds of an error by two of its facts
pub from-both : {T E : Type 0} (r : Result T E) {P S : E → Type 0} {Q : Type 0} → ((e : E) → P e → Q → S e) → IfErr r P → OnErr r Q → IfErr r S
from-both (Ok x) f p q = p
from-both (Err e) f p q = f e p q
