-- How a line is read, from the left: each reader gives a value and the bytes after it.
use Rattle.std.specs.Prelude.{ℕ, ℤ, pos, negsuc, ◌+◌, ◌-◌, ◌*◌, Bool, ◌&&◌, ◌==◌, nat_lt, nat_le, if◌then◌else◌, List, [], ◌∷◌, take, drop, Option, Some, None}
use Rattle.std.specs.Char.{is_ascii_digit}
use Rattle.std.specs.List.{position_or_len}
use Rattle.sb_record.specs.declared.item.TheConstants.{MAX_TIME}
use Rattle.sb_record.specs.declared.key.TheConstants.{MAX_KEY}
use Rattle.sb_record.specs.declared.key.Keys.{Keys}
use Rattle.sb_record.specs.declared.key.Keys.TheVariants.{Numbers, Words}
use Rattle.sb_record.specs.declared.key.Key.{Key}
use Rattle.sb_record.specs.declared.key.Key.TheVariants.{Number, Word}
use Rattle.sb_record.specs.declared.item.Stream.{Stream}
use Rattle.sb_record.specs.declared.item.Stream.TheVariants.{A, B}
use Rattle.sb_record.specs.declared.item.Item.{Item}
use Rattle.sb_record.specs.declared.item.Item.TheVariants.{Rec, Mark, Skip}
use Rattle.sb_record.specs.Words.{is_word}

-- the next reader, where the one before it gave a value
infixl 10 ◌>>=◌
abbrev pub ◌>>=◌ : {A B : Type 0} → Option A → (A → Option B) → Option B
None >>= f = None
(Some x) >>= f = f x

-- a number whose digits have ended, where there was one
abbrev pub ended_number : ℕ → ℕ → List ℕ → Option (ℕ × List ℕ)
ended_number value len rest = if nat_lt 0 len then Some (value, rest) else None

-- whether a number has gone on past a first digit of zero
abbrev pub is_leading_zero : ℕ → ℕ → Bool
is_leading_zero value len = value == 0 && nat_lt 0 len

-- a number, from the value and the count of the digits read so far
unfoldable pub digits_from : ℕ → ℕ → List ℕ → Option (ℕ × List ℕ)
digits_from value len [] = ended_number value len []
digits_from value len (b ∷ rest) =
    if is_ascii_digit b then
    if is_leading_zero value len then None
    else if nat_le 1000000000000000000 value then None
    else digits_from (value * 10 + (b - 48)) (len + 1) rest
    else ended_number value len (b ∷ rest)

-- a number and what follows it, where the number is up to this bound
abbrev pub at_most : ℕ → ℕ × List ℕ → Option (ℕ × List ℕ)
at_most most p = if nat_le p.0 most then Some p else None

-- a number up to this bound
unfoldable pub number_at : ℕ → List ℕ → Option (ℕ × List ℕ)
number_at most bytes = digits_from 0 0 bytes >>= at_most most

-- the value, where nothing follows it
abbrev pub value_at_end : ℕ × List ℕ → Option ℕ
value_at_end (value, []) = Some value
value_at_end (value, b ∷ rest) = None

-- a text that is a number up to this bound
unfoldable pub whole_number : ℕ → List ℕ → Option ℕ
whole_number most bytes = number_at most bytes >>= value_at_end

-- what follows this byte
unfoldable pub byte_at : ℕ → List ℕ → Option (List ℕ)
byte_at byte [] = None
byte_at byte (b ∷ rest) = if b == byte then Some rest else None

-- the negative number of this magnitude, which is not 0
abbrev pub negative : ℕ × List ℕ → Option (ℤ × List ℕ)
negative p = if p.0 == 0 then None else Some (negsuc (p.0 - 1), p.1)

-- the number itself, without a sign
abbrev pub positive : ℕ × List ℕ → Option (ℤ × List ℕ)
positive p = Some (pos p.0, p.1)

-- a number of at least -2^63, after its minus sign
abbrev pub negative_at : List ℕ → Option (ℤ × List ℕ)
negative_at bytes = number_at 9223372036854775808 bytes >>= negative

-- a number below 2^63, without a sign
abbrev pub positive_at : List ℕ → Option (ℤ × List ℕ)
positive_at bytes = number_at 9223372036854775807 bytes >>= positive

-- by what follows a minus sign, where there is one
abbrev pub signed_from : Option (List ℕ) → List ℕ → Option (ℤ × List ℕ)
signed_from None bytes = positive_at bytes
signed_from (Some rest) bytes = negative_at rest

-- a number that may have a minus sign
unfoldable pub signed_at : List ℕ → Option (ℤ × List ℕ)
signed_at bytes = signed_from (byte_at 45 bytes) bytes

-- where the first comma stands, or the end
abbrev pub comma : List ℕ → ℕ
comma bytes = position_or_len (λ b. b == 44) bytes

-- a word up to the first comma, or to the end
unfoldable pub word_at : List ℕ → Option (List ℕ × List ℕ)
word_at bytes =
    if is_word (take (comma bytes) bytes) then Some (take (comma bytes) bytes, drop (comma bytes) bytes) else None

-- the number as a key
abbrev pub number_key : ℕ × List ℕ → Option (Key × List ℕ)
number_key p = Some (Number p.0, p.1)

-- the word as a key
abbrev pub word_key : List ℕ × List ℕ → Option (Key × List ℕ)
word_key p = Some (Word p.0, p.1)

-- a key
unfoldable pub key_at : Keys → List ℕ → Option (Key × List ℕ)
key_at Numbers bytes = number_at MAX_KEY bytes >>= number_key
key_at Words bytes = word_at bytes >>= word_key

-- `a` or `b`
unfoldable pub stream_at : List ℕ → Option (Stream × List ℕ)
stream_at [] = None
stream_at (b ∷ rest) = if b == 97 then Some (A, rest) else if b == 98 then Some (B, rest) else None

-- the item, where nothing follows
unfoldable pub at_end : Item → List ℕ → Option Item
at_end item [] = Some item
at_end item (b ∷ rest) = None

-- a record, after its stream
unfoldable pub record_at : Keys → Stream → List ℕ → Option Item
record_at keys s bytes =
    number_at MAX_TIME bytes >>= λ t.
    byte_at 44 t.1 >>= λ b.
    key_at keys b >>= λ k.
    byte_at 44 k.1 >>= λ c.
    signed_at c >>= λ v.
    at_end (Rec s (record { time = t.0; key = k.0; value = v.0 })) v.1

-- a watermark, after its stream
unfoldable pub mark_at : Stream → List ℕ → Option Item
mark_at s bytes = number_at MAX_TIME bytes >>= λ t. at_end (Mark s t.0) t.1

-- `,S,`
unfoldable pub between : List ℕ → Option (Stream × List ℕ)
between bytes = byte_at 44 bytes >>= λ b. stream_at b >>= λ s. byte_at 44 s.1 >>= λ c. Some (s.0, c)

-- the item of a line, where keys are numbers or words
unfoldable pub item_of : Keys → List ℕ → Option Item
item_of keys [] = None
item_of keys (b ∷ rest) =
    if b == 35 then Some Skip
    else if b == 114 then (between rest >>= λ s. record_at keys s.0 s.1)
    else if b == 119 then (between rest >>= λ s. mark_at s.0 s.1)
    else None
