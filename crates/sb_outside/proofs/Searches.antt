-- What a search keeps as it reads on, and what its answers say of the lines.
use Rattle.std.proofs.Common.{◌≡◌, ℕ, ◌+◌, ◌-◌, ◌≤◌, ◌++◌, List, [], ◌∷◌, length, take, drop, true, false, refl, sym, ap, subst, ◌∙◌, arith, Some, None, Option, append-nil, append_assoc}
use Rattle.std.specs.Prelude.{◌≢◌}
use Rattle.std.specs.List.{slice_range}
use Rattle.std.specs.Io.KnownBytes.{Consumes, IsAtEnd}
use Rattle.std.proofs.KnownBytes.{Consumes-trans}
use Rattle.std.proofs.lemmas.List.{take-take, length-take}
use Rattle.sb_outside.specs.Lines.{lines, longest_line}
use Rattle.sb_outside.specs.Looks.{IsFirstLine}
use Rattle.sb_outside.specs.Searches.{Gives}
use Rattle.sb_outside.specs.Readings.{Reading, Advances, GivesLine, Tells}
use Rattle.sb_outside.specs.declared.lines.Halt.{Halt}
use Rattle.sb_outside.specs.declared.lines.Halt.TheVariants as halt
use Rattle.sb_outside.specs.declared.lines.Step.{Step}

-- what stood behind the start is the front of the bytes that were at hand
pub line_part : (bytes : List ℕ) (s e len : ℕ) → len ≤ length (slice_range bytes s e) → slice_range bytes s (s + len) ≡ take len (slice_range bytes s e)
line_part bytes s e len h =
    let short : (s + len) - s ≡ len = omega arith in
    ap (λ n. take n (drop s bytes)) short ∙ sym (take-take len (e - s) (drop s bytes) (omega (arith, length-take (e - s) (drop s bytes))))

-- a whole line, and the bytes behind it stay at hand
pub whole_line : (o : Option Halt) (left : Option (List ℕ)) (bytes line rest held shown : List ℕ) → o ≡ None
    → IsFirstLine line rest bytes → shown ≡ line → held ≡ rest → length shown ≤ longest_line → GivesLine bytes left held shown o
whole_line None left bytes line rest held shown e is same kept short =
    record {
      first = λ ended later may. is ended later ∙ (λ i. sym same i ∷ lines ended (sym kept i ++ later));
      short = short;
      last = tt;
    }
whole_line (Some h) left bytes line rest held shown e is same kept short = cc e

-- the last line, which ends with the input
pub last_line_given : (left : Option (List ℕ)) (bytes line held shown : List ℕ)
    → lines true bytes ≡ line ∷ [] → shown ≡ line → length shown ≤ longest_line → IsAtEnd left → GivesLine bytes left held shown (Some halt.End)
last_line_given left bytes line held shown is same short over =
    record {
      first = λ ended later may. ap (λ l. lines ended (bytes ++ l)) may.1 ∙ ap (lines ended) (append-nil bytes) ∙ ap (λ b. lines b bytes) may.0 ∙ is ∙ (λ i. sym same i ∷ []);
      short = short;
      last = (refl, over);
    }

module _ {S : Type 0} (left : S → Option (List ℕ)) (faults : S → ℕ) where
  goes_on : (o : Option Halt) (old new : Reading S) (r : Step) → o ≡ None
      → (bytes : List ℕ) → Gives (left old.source) (left new.source) old.at_hand bytes → Tells left faults bytes (faults old.source) new r → (lines false old.at_hand ≢ [] → new.source ≡ old.source)
      → Advances left faults o old new r
  goes_on None old new r e bytes gives tells unread =
      record {
        more = gives.more;
        given = gives.given;
        tells = subst (λ l. Tells left faults l (faults old.source) new r) gives.all tells;
        unread = unread;
      }
  goes_on (Some h) old new r e bytes gives tells unread = cc e

  -- a call of a reader that goes on: seen is the reader as the call read its fields
  pub advances : (seen old new : Reading S) (r : Step) → seen ≡ old → seen.halt ≡ None
      → (bytes : List ℕ) → Gives (left seen.source) (left new.source) seen.at_hand bytes → Tells left faults bytes (faults seen.source) new r → (lines false seen.at_hand ≢ [] → new.source ≡ seen.source)
      → Advances left faults old.halt old new r
  advances seen old new r same e bytes gives tells unread =
      subst (λ (o : Reading S). Advances left faults o.halt o new r) same (goes_on seen.halt seen new r e bytes gives tells unread)

-- a read goes on with what the source gave before
pub gives_more : (left left' left2 : Option (List ℕ)) (held bytes bytes' more : List ℕ) → Gives left left' held bytes
    → bytes' ≡ bytes ++ more → Consumes left' left2 more → Gives left left2 held bytes'
gives_more left left' left2 held bytes bytes' more g is given =
    record {
      more = g.more ++ more;
      given = Consumes-trans left left' left2 g.more more g.given given;
      all = is ∙ ap (λ l. l ++ more) g.all ∙ append_assoc held g.more more;
    }
