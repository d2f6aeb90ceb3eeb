-- Facts of an answer.
use Rattle.std.proofs.Common.{subst}
use Rattle.std.proofs.lemmas.Option.{same_Some}
use Rattle.std.specs.Prelude.{Result, Ok, Err, OnOk, OnErr, Option, Some, None, IfOk, IfSome, IfNone, ◌≡◌}

pub on_ok : {T E : Type 0} (r : Result T E) {P Q : Type 0} → (P → Q) → OnOk r P → OnOk r Q
on_ok (Ok x) f p = f p
on_ok (Err e) f p = p

pub on_err : {T E : Type 0} (r : Result T E) {P Q : Type 0} → (P → Q) → OnErr r P → OnErr r Q
on_err (Ok x) f p = p
on_err (Err e) f p = f p

pub if_none : {T : Type 0} (r : Option T) {P Q : Type 0} → (P → Q) → IfNone r P → IfNone r Q
if_none (Some x) f p = p
if_none None f p = f p

pub if_some : {T : Type 0} (r : Option T) {P Q : T → Type 0} → ((x : T) → P x → Q x) → IfSome r P → IfSome r Q
if_some (Some x) f p = f x p
if_some None f p = p

pub some-and : {T : Type 0} (r : Option T) {P Q R : T → Type 0} → ((x : T) → P x → Q x → R x) → IfSome r P → IfSome r Q → IfSome r R
some-and (Some x) f p q = f x p q
some-and None f p q = p

pub ok-some : {T E : Type 0} (r : Result T E) {P : T → Type 0} {Q : Type 0} → ((x : T) → P x → Q) → IfOk r P → OnOk r Q
ok-some (Ok x) f p = f x p
ok-some (Err e) f p = p

pub ok-map : {T E : Type 0} (r : Result T E) {P Q : T → Type 0} → ((x : T) → P x → Q x) → IfOk r P → IfOk r Q
ok-map (Ok x) f p = f x p
ok-map (Err e) f p = p

pub by_option : {T : Type 0} (r : Option T) {P : T → Type 0} {Q R : Type 0} → ((x : T) → P x → R) → (Q → R) → IfSome r P → IfNone r Q → R
by_option (Some x) f g p q = f x p
by_option None f g p q = g q

pub both_ok : {T E : Type 0} (r : Result T E) {P Q R : Type 0} → (P → Q → R) → OnOk r P → OnOk r Q → OnOk r R
both_ok (Ok x) f p q = f p q
both_ok (Err e) f p q = p

-- a fact of what is there, of what unwrapping gives
pub of_some : {T : Type 0} (P : T → Type 0) (r : Option T) (x : T) → r ≡ Some x → IfSome r P → P x
of_some P (Some y) x e p = subst P (same_Some y x e) p
of_some P None x e p = cc
