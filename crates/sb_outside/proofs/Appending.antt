-- How the bytes that a sink has taken grow, beside std's lemmas on them.
use Rattle.std.proofs.Common.{ℕ, ◌+◌, ◌++◌, List, take, drop, Some, None, Option, Result, Ok, Err, refl, sym, ap, subst, ◌∙◌, append_assoc, take-append-drop}
use Rattle.std.specs.Io.KnownBytes.{Appends, Keeps}
use Rattle.std.proofs.KnownBytes.{Appends-trans}
use Rattle.std.specs.Result.{IsErr}
use Rattle.std.proofs.Math.Seq.{take-add}
use Rattle.sb_outside.specs.Sinks.{AppendsPrefix, WritesAll}

-- a refusal leaves what was appended
pub appends_kept : (a b c : Option (List ℕ)) (x : List ℕ) → Appends a b x → Keeps b c → Appends a c x
appends_kept None b c x h k = tt
appends_kept (Some a) None c x h k = absurd h
appends_kept (Some a) (Some b) None x h k = absurd k
appends_kept (Some a) (Some b) (Some c) x h k = k ∙ h

-- all of some bytes is a prefix of them and of any more
pub prefix_of_all : (a b : Option (List ℕ)) (x y : List ℕ) → Appends a b x → AppendsPrefix a b (x ++ y)
prefix_of_all a b x y h = record { prefix = x; rest = y; whole = refl; appends = h }

pub prefix_of_more : (a b : Option (List ℕ)) (x y : List ℕ) → AppendsPrefix a b x → AppendsPrefix a b (x ++ y)
prefix_of_more a b x y h = record { prefix = h.prefix; rest = h.rest ++ y; whole = ap (λ l. l ++ y) h.whole ∙ append_assoc h.prefix h.rest y; appends = h.appends }

-- all of some bytes and then a prefix of more is a prefix of both
pub prefix_later : (a b c : Option (List ℕ)) (x y : List ℕ) → Appends a b x → AppendsPrefix b c y → AppendsPrefix a c (x ++ y)
prefix_later a b c x y h k = record { prefix = x ++ k.prefix; rest = k.rest; whole = ap (λ l. x ++ l) k.whole ∙ sym (append_assoc x k.prefix k.rest); appends = Appends-trans a b c x k.prefix h k.appends }

-- the first n bytes were taken, and then k of the others
pub wrote_more : (a b c : Option (List ℕ)) (bytes : List ℕ) (n k : ℕ) → Appends a b (take n bytes) → Appends b c (take k (drop n bytes)) → Appends a c (take (n + k) bytes)
wrote_more a b c bytes n k h l = subst (Appends a c) (sym (take-add n k bytes)) (Appends-trans a b c (take n bytes) (take k (drop n bytes)) h l)

-- the first n bytes were taken, and then a write was refused
pub wrote_prefix : (a b c : Option (List ℕ)) (bytes : List ℕ) (n : ℕ) → Appends a b (take n bytes) → Keeps b c → AppendsPrefix a c bytes
wrote_prefix a b c bytes n h k = record { prefix = take n bytes; rest = drop n bytes; whole = sym (take-append-drop n bytes); appends = appends_kept a b c (take n bytes) h k }

-- at a fault a prefix is what is to be shown
pub writes_err : {T E : Type 0} → (a b : Option (List ℕ)) (bytes : List ℕ) (r : Result T E) → IsErr r → AppendsPrefix a b bytes → WritesAll a b bytes r
writes_err a b bytes (Ok x) err h = cc err
writes_err a b bytes (Err e) err h = h
