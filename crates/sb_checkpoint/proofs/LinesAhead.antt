-- Lines that are given before the bytes of a source, piece by piece.
use Rattle.std.proofs.Common.{◌≡◌, ◌≤◌, ◌<◌, ℕ, zero, suc, ◌+◌, ◌-◌, List, [], ◌∷◌, ◌++◌, Option, Some, None, Result, Ok, Err, length, take, drop, refl, sym, ap, subst, ◌∙◌, append_assoc, length-append, arith, inl, inr}
use Rattle.std.specs.List.{slice_get}
use Rattle.std.specs.Io.KnownBytes.{Consumes, ReadConsumes, prepend_known}
use Rattle.std.proofs.Math.Seq.{take-append_seam}
use Rattle.std.proofs.KnownBytes.{Consumes-kept, Consumes-nil, Consumes-trans}
use Rattle.std.proofs.lemmas.List.{take-append-drop, drop-drop, drop_all, drop_more, length-drop}
use Rattle.std.proofs.lemmas.Option.{slice_get_within, get_or_from_slice_get}
use Rattle.sb_pipeline.specs.records.declared.item.Item.{Item}
use Rattle.sb_outside.specs.Comments.{comment_lines}
use Rattle.sb_checkpoint.specs.Ahead.{AllReadOrNoneOfTheSource, Lines, IsLineAt, bytes, items_left, name_behind}
use Rattle.sb_checkpoint.specs.Texts.{item_text, with_end, items_text}
use Rattle.sb_checkpoint.proofs.ItemTexts.{past}

take-length : {X : Type 0} (n : ℕ) (l : List X) → n ≤ length l → length (take n l) ≡ n
take-length n l le = omega (arith, le, ap length (take-append-drop n l), length-append (take n l) (drop n l), length-drop n l)

-- the first bytes of what is left of a line, in a buffer, and what is left behind them
pub given_of_line : (line : List ℕ) (from count : ℕ) (copy more : List ℕ) → copy ≡ take count (drop from line) → count ≤ length (drop from line) → drop from line ≡ take count (copy ++ more) ++ drop (from + count) line
given_of_line line from count copy more is le =
    let long : length copy ≡ count = ap length is ∙ take-length count (drop from line) le in
    let front : take count (copy ++ more) ≡ copy = ap (λ n. take n (copy ++ more)) (sym long) ∙ take-append_seam copy more in
    sym (ap (λ l. l ++ drop (from + count) line) (front ∙ is) ∙ ap (λ l. take count (drop from line) ++ l) (sym (drop-drop count from line)) ∙ take-append-drop count (drop from line))

-- comments are taken off the front
pub comments_off : (n comments place : ℕ) (items : List Item) → n ≤ comments → items_text (items_left comments place items) ≡ comment_lines n ++ items_text (items_left (comments - n) place items)
comments_off zero comments place items le = let same : comments ≡ comments - 0 = omega arith in ap (λ k. items_text (items_left k place items)) same
comments_off (suc n) zero place items le = absurd (omega (arith, le))
comments_off (suc n) (suc comments) place items le =
    let same : comments - n ≡ suc comments - suc n = omega arith in
    ap (λ l. 35 ∷ 10 ∷ l) (comments_off n comments place items (omega (arith, le)) ∙ ap (λ k. comment_lines n ++ items_text (items_left k place items)) same)

-- the next line: a comment, or that of an item behind the comments, if one is left
pub comment_next : (comments place : ℕ) (items : List Item) (text : List ℕ) → 0 < comments → text ≡ 35 ∷ 10 ∷ []
    → items_text (items_left comments place items) ≡ text ++ items_text (items_left (comments - 1) place items)
comment_next comments place items text some is = comments_off 1 comments place items (omega (arith, some)) ∙ ap (λ l. l ++ items_text (items_left (comments - 1) place items)) (sym is)

text_from : (items : List Item) (k : ℕ) (i : Item) → slice_get items k ≡ Some i → items_text (drop k items) ≡ with_end (item_text i) ++ items_text (drop (k + 1) items)
text_from items k i h = ap items_text (drop_more items k i (slice_get_within items k i h) ∙ ap (λ x. x ∷ drop (k + 1) items) (get_or_from_slice_get items k i i h))

pub item_next : (comments place : ℕ) (items : List Item) (text : List ℕ) → comments ≡ 0 → IsLineAt items place text
    → items_text (items_left comments place items) ≡ text ++ items_text (items_left comments (place + 1) items)
item_next comments place items text none line =
    subst (λ n. items_text (items_left n place items) ≡ text ++ items_text (items_left n (place + 1) items)) (sym none)
    (text_from items place line.item line.at ∙ ap (λ l. l ++ items_text (drop (place + 1) items)) (sym line.is))

pub item_within : (items : List Item) (place : ℕ) (text : List ℕ) → IsLineAt items place text → place < length items
item_within items place text line = slice_get_within items place line.item line.at

pub none_next : (comments place : ℕ) (items : List Item) → comments ≡ 0 → slice_get items place ≡ None → items_text (items_left comments place items) ≡ []
none_next comments place items none over = subst (λ n. items_text (items_left n place items) ≡ []) (sym none) (ap items_text (drop_all place items (past items place over)))

-- a line is given, and then those behind it
pub given_of_all : (old mid new : Lines) (piece : List ℕ) → bytes old ≡ bytes mid → mid.at_hand ≡ piece ++ new.at_hand → new.behind ≡ mid.behind → bytes old ≡ piece ++ bytes new
given_of_all old mid new piece same given behind =
    same ∙ (λ i. given i ++ sym behind i) ∙ append_assoc piece new.at_hand new.behind

-- where nothing is given, nothing is left
pub nothing_left : (old new : List ℕ) (n : ℕ) (buf : List ℕ) → n ≡ 0 → old ≡ [] → old ≡ take n buf ++ new → new ≡ []
nothing_left old new n buf none over given = sym (given ∙ ap (λ k. take k buf ++ new) none) ∙ over

nothing_known : (known : Option (List ℕ)) → prepend_known [] known ≡ known
nothing_known None = refl
nothing_known (Some l) = refl

-- and the source is read as it is
pub read_behind : {E : Type 0} (old new : List ℕ) (n : ℕ) (buf : List ℕ) (a b : Option (List ℕ)) (r : Result ℕ E) (piece : List ℕ) → n ≡ 0 → (n ≡ 0 → old ≡ []) → old ≡ take n buf ++ new
    → ReadConsumes a b r piece → ReadConsumes (prepend_known old a) (prepend_known new b) r piece
read_behind old new n buf a b r piece none end given read =
    let over = end none in
    subst (λ l. ReadConsumes (prepend_known l a) (prepend_known new b) r piece) (sym over)
    (subst (λ l. ReadConsumes (prepend_known [] a) (prepend_known l b) r piece) (sym (nothing_left old new n buf none over given))
    (subst (λ k. ReadConsumes k (prepend_known [] b) r piece) (sym (nothing_known a)) (subst (λ k. ReadConsumes a k r piece) (sym (nothing_known b)) read)))

-- ---- what was read of the source
pub none_of_both : {X : Type 0} (xs ys : List X) → xs ++ ys ≡ [] → (xs ≡ []) × (ys ≡ [])
none_of_both [] ys h = (refl, h)
none_of_both (x ∷ xs) ys h = cc h

-- the bytes that the source has given
so_far : (lines : List ℕ) (left now : Option (List ℕ)) → AllReadOrNoneOfTheSource lines left now → (bytes : List ℕ) × Consumes left now bytes
so_far lines left now (inl all) = (all.1, all.2)
so_far lines left now (inr unread) = ([], subst (λ l. Consumes left l []) (sym unread) (Consumes-nil left))

-- and with one read more
with_read : {E : Type 0} (left now next : Option (List ℕ)) (bytes : List ℕ) (r : Result ℕ E) (buf : List ℕ) → Consumes left now bytes → ReadConsumes now next r buf → (more : List ℕ) × Consumes left next more
with_read left now next bytes (Ok n) buf given read = (bytes ++ take n buf, Consumes-trans left now next bytes (take n buf) given read.0)
with_read left now next bytes (Err e) buf given read = (bytes, Consumes-kept left now next bytes given read)

-- no line is left, and the source is read
pub source_read : {E : Type 0} (old new : List ℕ) (left now next : Option (List ℕ)) (r : Result ℕ E) (buf : List ℕ) → new ≡ [] → AllReadOrNoneOfTheSource old left now → ReadConsumes now next r buf
    → AllReadOrNoneOfTheSource new left next
source_read old new left now next r buf over before read =
    let (bytes, given) = so_far old left now before in
    let (more, all) = with_read left now next bytes r buf given read in
    inl (over, more, all)

-- lines are taken off the front
pub taken_off : (old front new : List ℕ) (left : Option (List ℕ)) → old ≡ front ++ new → Consumes (prepend_known old left) (prepend_known new left) front
taken_off old front new None is = tt
taken_off old front new (Some l) is = ap (λ xs. xs ++ l) is ∙ append_assoc front new l

-- and nothing is read of the source
pub unread_by_taking : (old front new : List ℕ) (left now : Option (List ℕ)) → old ≡ front ++ new → AllReadOrNoneOfTheSource old left now → AllReadOrNoneOfTheSource new left now
unread_by_taking old front new left now is (inl all) = inl ((none_of_both front new (sym is ∙ all.0)).1, all.1, all.2)
unread_by_taking old front new left now is (inr unread) = inr unread

-- ---- names
parts_same : (xs ys m n : List ℕ) → length xs ≡ length ys → xs ++ m ≡ ys ++ n → (xs ≡ ys) × (m ≡ n)
parts_same [] [] m n long h = (refl, h)
parts_same [] (y ∷ ys) m n long h = absurd (omega (arith, long))
parts_same (x ∷ xs) [] m n long h = absurd (omega (arith, long))
parts_same (x ∷ xs) (y ∷ ys) m n long h =
    let first : x ≡ y = cc in
    let behind : xs ++ m ≡ ys ++ n = cc in
    let (same, rest) = parts_same xs ys m n (omega (arith, long)) behind in
    ((λ i. first i ∷ same i), rest)

-- a name tells what was left, and the name behind it
pub name_behind_same : (a b : Option (List ℕ)) (m n : List ℕ) → name_behind a m ≡ name_behind b n → (a ≡ b) × (m ≡ n)
name_behind_same None None m n h = (refl, cc h)
name_behind_same None (Some ys) m n h = let e : 0 ≡ length ys + 1 = cc h in absurd (omega (arith, e))
name_behind_same (Some xs) None m n h = let e : length xs + 1 ≡ 0 = cc h in absurd (omega (arith, e))
name_behind_same (Some xs) (Some ys) m n h =
    let e : length xs + 1 ≡ length ys + 1 = cc h in
    let rest : xs ++ m ≡ ys ++ n = cc h in
    let (same, names) = parts_same xs ys m n (omega (arith, e)) rest in
    (ap Some same, names)
