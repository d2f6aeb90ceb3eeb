-- The text of a record or of a watermark is short, and each of its bytes is visible, so that none of them ends a line.
use Rattle.std.proofs.Common.{◌≡◌, ℕ, suc, pos, negsuc, ℤ, ◌<◌, ◌≤◌, ◌^◌, ◌++◌, List, [], ◌∷◌, length, sym, subst, arith, length-append, true}
use Rattle.std.proofs.lemmas.Bool.Decides.{nat_tests}
use Rattle.std.proofs.lemmas.Fmt.{decimal_is_IsNumeral, length-decimal-le, length_signed_le}
use Rattle.std.proofs.lemmas.Str.Parse.{digit_from_value}
use Rattle.std.specs.Fmt.{decimal, signed_decimal}
use Rattle.std.specs.List.{AllByRecursion, list_all}
use Rattle.std.specs.Str.Parse.{AllDigits}
use lib.Signed.{mag}
use Rattle.sb_record.specs.declared.intake.TheConstants.{MAX_LINE_LENGTH}
use Rattle.sb_record.specs.declared.item.Record.{Record}
use Rattle.sb_record.specs.declared.item.Stream.{Stream}
use Rattle.sb_record.specs.declared.item.Stream.TheVariants.{A, B}
use Rattle.sb_record.specs.declared.item.Item.{Item}
use Rattle.sb_record.specs.declared.item.Item.TheVariants.{Rec, Mark, Skip, Late}
use Rattle.sb_record.specs.declared.key.Key.{Key}
use Rattle.sb_record.specs.declared.key.Key.TheVariants.{Number, Word}
use Rattle.sb_record.specs.declared.key.Keys.{Keys}
use Rattle.sb_record.specs.declared.key.Keys.TheVariants.{Numbers, Words}
use Rattle.sb_record.specs.Fronts.{IsPlainTextOf}
use Rattle.sb_record.specs.Keys.{key_text, IsKeyInRange}
use Rattle.sb_record.specs.Lines.{letter, record_text, mark_text, IsInRange, IsTextOf}
use Rattle.sb_record.specs.Words.{is_word_byte}
use Rattle.sb_record.proofs.Elements.{All-join}
use Rattle.sb_record.proofs.WordBytes.{AreWordBytes, are_word_bytes, first_of_both, second_of_both, word_length}

-- neither a blank nor a control character
abbrev pub IsVisible : ℕ → Type 0
IsVisible b = 32 < b

-- ---- each byte is visible
visible-digits : (ds : List ℕ) → AllDigits 10 ds → AllByRecursion IsVisible ds
visible-digits [] d = tt
visible-digits (c ∷ cs) d = let r = digit_from_value c d.0 in (omega (arith, r.0), visible-digits cs d.1)

visible-decimal : (n : ℕ) → n < 2 ^ 64 → AllByRecursion IsVisible (decimal n)
visible-decimal n small = visible-digits (decimal n) (decimal_is_IsNumeral n small).0.1

visible-signed : (v : ℤ) → mag v < 2 ^ 63 → AllByRecursion IsVisible (signed_decimal v)
visible-signed (pos n) small = visible-decimal n (omega arith)
visible-signed (negsuc n) small = (omega arith, visible-decimal (suc n) (omega arith))

visible-byte : (b : ℕ) → is_word_byte b ≡ true → 32 < b
visible-byte b h = grind (arith, nat_tests)

visible-word : (w : List ℕ) → AreWordBytes w → AllByRecursion IsVisible w
visible-word [] all = tt
visible-word (b ∷ w) all =
    (visible-byte b (first_of_both (is_word_byte b) (list_all is_word_byte w) all), visible-word w (second_of_both (is_word_byte b) (list_all is_word_byte w) all))

visible-key : (keys : Keys) (k : Key) → IsKeyInRange keys k → AllByRecursion IsVisible (key_text k)
visible-key Numbers (Number n) fits = visible-decimal n (omega arith)
visible-key Numbers (Word w) fits = absurd fits
visible-key Words (Number n) fits = absurd fits
visible-key Words (Word w) fits = visible-word w (are_word_bytes w fits)

visible-letter : (s : Stream) → 32 < letter s
visible-letter A = omega arith
visible-letter B = omega arith

visible-head : (first : ℕ) (s : Stream) (text : List ℕ) → 32 < first → AllByRecursion IsVisible text → AllByRecursion IsVisible (first ∷ 44 ∷ letter s ∷ 44 ∷ text)
visible-head first s text high all = (high, (omega arith, (visible-letter s, (omega arith, all))))

visible-record : (keys : Keys) (s : Stream) (r : Record) → IsInRange keys r → AllByRecursion IsVisible (record_text s r)
visible-record keys s r fits =
    let value : AllByRecursion IsVisible (44 ∷ signed_decimal r.value) = (omega arith, visible-signed r.value fits.value) in
    let key : AllByRecursion IsVisible (44 ∷ (key_text r.key ++ 44 ∷ signed_decimal r.value)) =
    (omega arith, All-join IsVisible (key_text r.key) (44 ∷ signed_decimal r.value) (visible-key keys r.key fits.key) value)
    in
    visible-head 114 s (decimal r.time ++ 44 ∷ (key_text r.key ++ 44 ∷ signed_decimal r.value)) (omega arith)
    (All-join IsVisible (decimal r.time) (44 ∷ (key_text r.key ++ 44 ∷ signed_decimal r.value)) (visible-decimal r.time (omega (arith, fits.time))) key)

pub plain_visible : (keys : Keys) (i : Item) (line : List ℕ) → IsPlainTextOf keys i line → AllByRecursion IsVisible line
plain_visible keys (Rec s r) line h = subst (λ l. AllByRecursion IsVisible l) (sym h.1) (visible-record keys s r h.0)
plain_visible keys (Mark s t) line h =
    let small : t ≤ 1000000000000000 = h.0 in
    subst (λ l. AllByRecursion IsVisible l) (sym h.1) (visible-head 119 s (decimal t) (omega arith) (visible-decimal t (omega arith)))
plain_visible keys Skip line h = absurd h
plain_visible keys (Late n t m) line h = absurd h

-- ---- there are at most 128 of them
short-key : (keys : Keys) (k : Key) → IsKeyInRange keys k → length (key_text k) ≤ 24
short-key Numbers (Number n) fits = let most = length-decimal-le 19 n (omega arith) (omega arith) (omega arith) in omega arith
short-key Numbers (Word w) fits = absurd fits
short-key Words (Number n) fits = absurd fits
short-key Words (Word w) fits = word_length w fits

short-time : (t : ℕ) → t ≤ 1000000000000000 → length (decimal t) ≤ 16
short-time t small = length-decimal-le 16 t (omega arith) (omega arith) (omega arith)

short-record : (keys : Keys) (s : Stream) (r : Record) → IsInRange keys r → length (record_text s r) ≤ MAX_LINE_LENGTH
short-record keys s r fits =
    let a = length-append (decimal r.time) (44 ∷ (key_text r.key ++ 44 ∷ signed_decimal r.value)) in
    let b = length-append (key_text r.key) (44 ∷ signed_decimal r.value) in
    let time = short-time r.time fits.time in
    let key = short-key keys r.key fits.key in
    let value = length_signed_le 19 r.value (let small = fits.value in omega arith) fits.value in
    omega (arith, a, b, time, key, value)

short-mark : (s : Stream) (t : ℕ) → t ≤ 1000000000000000 → length (mark_text s t) ≤ MAX_LINE_LENGTH
short-mark s t small = omega (arith, short-time t small)

pub plain_short : (keys : Keys) (i : Item) (line : List ℕ) → IsPlainTextOf keys i line → length line ≤ MAX_LINE_LENGTH
plain_short keys (Rec s r) line h = subst (λ (l : List ℕ). length l ≤ MAX_LINE_LENGTH) (sym h.1) (short-record keys s r h.0)
plain_short keys (Mark s t) line h = subst (λ (l : List ℕ). length l ≤ MAX_LINE_LENGTH) (sym h.1) (short-mark s t h.0)
plain_short keys Skip line h = absurd h
plain_short keys (Late n t m) line h = absurd h

pub plain_text : (keys : Keys) (i : Item) (line : List ℕ) → IsPlainTextOf keys i line → IsTextOf keys i line
plain_text keys (Rec s r) line h = h
plain_text keys (Mark s t) line h = h
plain_text keys Skip line h = absurd h
plain_text keys (Late n t m) line h = absurd h
