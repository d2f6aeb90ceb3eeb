-- The lines of a text, and those of its first bytes.
use Rattle.std.proofs.Common.{◌≡◌, ◌==◌, ℕ, suc, ◌-◌, ◌≤◌, ◌++◌, List, [], ◌∷◌, length, Bool, true, false, refl, sym, ap, ◌∙◌, arith, subst, append_assoc, append-nil, length-append, eq-eqb, get_or, drop}
use Rattle.std.specs.List.{AllByRecursion, flat_map, slice_index}
use Rattle.std.specs.Io.BufRead.{ends_with_byte}
use Rattle.std.proofs.lemmas.Bool.{ne_eqb, le-ltb, and_right}
use Rattle.sb_record.proofs.Elements.{All-join}
use Rattle.sb_outside.specs.Lines.{line_feed, without_cr, last_line, lines_from, lines}
use Rattle.sb_outside.proofs.FirstLines.{without_cr_least}

-- a byte that ends no line
abbrev pub IsInner : ℕ → Type 0
IsInner b = 44 ≤ b

-- a line that is read as it stands
pub record IsWhole (line : List ℕ) : Type 0 where
  pub inner : AllByRecursion IsInner line
  pub short : length line ≤ 128

-- a line with its end
abbrev pub ended_line : List ℕ → List ℕ
ended_line line = line ++ line_feed ∷ []

last_inner : (x : ℕ) (xs : List ℕ) → AllByRecursion IsInner (x ∷ xs) → IsInner (slice_index (x ∷ xs) (length xs))
last_inner x [] all = all.0
last_inner x (y ∷ ys) all = last_inner y ys all.1

no_cr : (l : List ℕ) → AllByRecursion IsInner l → without_cr l ≡ l
no_cr [] all = refl
no_cr (x ∷ xs) all =
    let last : suc (length xs) - 1 ≡ length xs = omega arith in
    let high = last_inner x xs all in
    let other : (slice_index (x ∷ xs) (suc (length xs) - 1) == 13) ≡ false = rw last (ne_eqb (slice_index (x ∷ xs) (length xs)) 13 (λ e. omega (arith, e, high))) in
    let no_cr : ends_with_byte 13 (x ∷ xs) ≡ false = and_right _ _ other in
    rw no_cr refl

-- a line is read up to its end
line_read : (l : List ℕ) (e : Bool) (f rest : List ℕ) → AllByRecursion IsInner l
    → lines_from e f (l ++ 10 ∷ rest) ≡ without_cr (f ++ l) ∷ lines e rest
line_read [] e f rest all = ap (λ g. without_cr g ∷ lines e rest) (sym (append-nil f))
line_read (b ∷ bs) e f rest all =
    rw (ne_eqb b 10 (λ e. omega (arith, e, all.0)))
    (line_read bs e (f ++ b ∷ []) rest all.1 ∙ ap (λ g. without_cr g ∷ lines e rest) (append_assoc f (b ∷ []) bs))

no_lines : (e : Bool) → lines e [] ≡ []
no_lines true = refl
no_lines false = refl

-- the lines of a text are those that it was made of
pub lines_of_text : (e : Bool) (ls : List (List ℕ)) → AllByRecursion IsWhole ls → lines e (flat_map ended_line ls) ≡ ls
lines_of_text e [] all = no_lines e
lines_of_text e (l ∷ ls) all =
    ap (lines e) (append_assoc l (line_feed ∷ []) (flat_map ended_line ls))
    ∙ line_read l e [] (flat_map ended_line ls) all.0.inner
    ∙ (λ i. no_cr l all.0.inner i ∷ lines_of_text e ls all.1 i)

-- some lines, and those behind them
abbrev pub Begin : List (List ℕ) → List (List ℕ) → Type 0
Begin first ls = (more : List (List ℕ)) × (ls ≡ first ++ more)

open_line : (f : List ℕ) → length f ≤ 128 → last_line false f ≡ []
open_line f short = rw (le-ltb 128 (length (without_cr f)) (omega (arith, short, without_cr_least f))) refl

nothing_left : (bytes later : List ℕ) → bytes ++ later ≡ [] → lines false bytes ≡ []
nothing_left [] later e = refl
nothing_left (b ∷ bs) later e = cc

-- the first bytes of a text that goes on with a line begun
first_lines_from : (bytes f l : List ℕ) (ls : List (List ℕ)) (later : List ℕ) → AllByRecursion IsInner f → AllByRecursion IsInner l
    → length (f ++ l) ≤ 128 → AllByRecursion IsWhole ls → bytes ++ later ≡ l ++ 10 ∷ flat_map ended_line ls
    → Begin (lines_from false f bytes) ((f ++ l) ∷ ls)
first_lines_from [] f l ls later begun line short all e =
    ((f ++ l) ∷ ls, ap (λ m. m ++ (f ++ l) ∷ ls) (sym (open_line f (omega (arith, short, length-append f l)))))
first_lines_from (b ∷ bs) f [] [] later begun line short all e =
    let lf : b ≡ 10 = ap (λ m. get_or m 0 0) e in
    let none = nothing_left bs later (ap (drop 1) e) in
    rw (eq-eqb b 10 lf) ([], λ i. (append-nil f ∙ sym (no_cr f begun)) i ∷ (sym (append-nil (lines false bs) ∙ none)) i)
first_lines_from (b ∷ bs) f [] (l ∷ ls) later begun line short all e =
    let lf : b ≡ 10 = ap (λ m. get_or m 0 0) e in
    let rest : bs ++ later ≡ l ++ 10 ∷ flat_map ended_line ls = ap (drop 1) e ∙ append_assoc l (10 ∷ []) (flat_map ended_line ls) in
    let on = first_lines_from bs [] l ls later tt all.0.inner all.0.short all.1 rest in
    rw (eq-eqb b 10 lf) (on.0, λ i. (append-nil f ∙ sym (no_cr f begun)) i ∷ on.1 i)
first_lines_from (b ∷ bs) f (c ∷ cs) ls later begun line short all e =
    let same : b ≡ c = ap (λ m. get_or m 0 0) e in
    let inner : IsInner b = omega (arith, same, line.0) in
    let whole : (f ++ b ∷ []) ++ cs ≡ f ++ c ∷ cs = append_assoc f (b ∷ []) cs ∙ ap (λ x. f ++ x ∷ cs) same in
    let size : length ((f ++ b ∷ []) ++ cs) ≤ 128 = subst (λ m. length m ≤ 128) (sym whole) short in
    let on = first_lines_from bs (f ++ b ∷ []) cs ls later (All-join IsInner f (b ∷ []) begun (inner, tt)) line.1 size all (ap (drop 1) e) in
    rw (ne_eqb b 10 (λ z. omega (arith, z, inner))) (on.0, ap (λ m. m ∷ ls) (sym whole) ∙ on.1)

-- the first bytes of a text have its first lines
pub first_lines : (ls : List (List ℕ)) (bytes later : List ℕ) → AllByRecursion IsWhole ls
    → flat_map ended_line ls ≡ bytes ++ later → Begin (lines false bytes) ls
first_lines [] bytes later all e = ([], sym (append-nil (lines false bytes) ∙ nothing_left bytes later (sym e)))
first_lines (l ∷ ls) bytes later all e =
    first_lines_from bytes [] l ls later tt all.0.inner all.0.short all.1 (sym e ∙ append_assoc l (10 ∷ []) (flat_map ended_line ls))
