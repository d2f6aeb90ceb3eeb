-- Parts of a list from one place to another.
use Rattle.std.proofs.Common.{◌≡◌, ℕ, ◌+◌, ◌-◌, ◌<◌, ◌≤◌, ◌++◌, List, length, take, drop, refl, sym, ap, ◌∙◌, arith, Ok, Err, Option, Result}
use Rattle.std.specs.List.{slice_range}
use Rattle.std.proofs.lemmas.List.{drop-drop, take-take, length-take-le, drop-append-le}
use Rattle.std.proofs.lemmas.Slice.{between_is, take-put_mid, take-put_mid_below}
use Rattle.std.proofs.Math.Seq.{take-append-add}
use Rattle.std.specs.Io.{ReadsAtMost}
use Rattle.std.specs.Result.{IsErr}
use Rattle.std.specs.Io.KnownBytes.{ReadConsumes, Keeps}
use borrow.Rule.Slice.PartMut.{put_mid}
use Rattle.sb_outside.specs.declared.source.SourceFault.{SourceFault}
use Rattle.sb_outside.specs.Fills.{ReadsBehind, Fills}

pub range_later : (xs : List ℕ) (a c b : ℕ) → slice_range xs (a + c) b ≡ drop c (slice_range xs a b)
range_later xs a c b = between_is xs (a + c) b ∙ sym (drop-drop c a (take b xs)) ∙ ap (drop c) (sym (between_is xs a b))

-- the part goes on with what was read behind it
pub range_grows : (xs ys more : List ℕ) (a b c : ℕ) → a ≤ b → b ≤ length xs → take c ys ≡ take b xs ++ more → slice_range ys a c ≡ slice_range xs a b ++ more
range_grows xs ys more a b c h l is =
    between_is ys a c ∙ ap (drop a) is ∙ drop-append-le a (take b xs) more (omega (arith, length-take-le b xs l)) ∙ ap (λ p. p ++ more) (sym (between_is xs a b))

-- what lies behind the first elements after a read into the rest
pub read_into_rest : (xs ys : List ℕ) (e n : ℕ) → e ≤ length xs → length ys ≡ length xs - e → n ≤ length ys → take (e + n) (put_mid e (length xs - e) xs ys) ≡ take e xs ++ take n ys
read_into_rest xs ys e n h same l =
    let whole : take (e + length ys) (put_mid e (length xs - e) xs ys) ≡ take e xs ++ ys = take-put_mid e (length xs - e) xs ys (e + length ys) refl h in
    sym (take-take (e + n) (e + length ys) (put_mid e (length xs - e) xs ys) (omega arith))
    ∙ ap (take (e + n)) whole
    ∙ ap (λ k. take (k + n) (take e xs ++ ys)) (sym (length-take-le e xs h))
    ∙ take-append-add (take e xs) ys n

pub reads_behind : (left left' : Option (List ℕ)) (xs ys : List ℕ) (e : ℕ) (r : Result ℕ SourceFault) → e ≤ length xs → length ys ≡ length xs - e
    → ReadsAtMost r ys → ReadConsumes left left' r ys → 0 < length ys → ReadsBehind left left' e xs (put_mid e (length xs - e) xs ys) r
reads_behind left left' xs ys e (Ok n) h same most read some = (take n ys, read_into_rest xs ys e n h same most.0, length-take-le n ys most.0, read.0, λ z. read.1 z some)
reads_behind left left' xs ys e (Err f) h same most read some = (take-put_mid_below e (length xs - e) xs ys e (omega arith) h, read)

pub same_range : (xs ys : List ℕ) (a b : ℕ) → take b ys ≡ take b xs → slice_range ys a b ≡ slice_range xs a b
same_range xs ys a b is = between_is ys a b ∙ ap (drop a) is ∙ sym (between_is xs a b)

pub fills_err : (left left' : Option (List ℕ)) (held held' : List ℕ) (r : Result ℕ SourceFault) → IsErr r → held' ≡ held → Keeps left left' → Fills left left' held held' r
fills_err left left' held held' (Ok n) err same keeps = cc err
fills_err left left' held held' (Err f) err same keeps = (same, keeps)
