-- A line at the front of the bytes at hand is the next line, and gives its item.
use Rattle.std.proofs.Common.{◌≡◌, ℕ, ◌+◌, ◌<◌, ◌++◌, List, [], ◌∷◌, length, take, drop, Option, Some, None, Ok, sym, ap, subst, ◌∙◌, arith, length-append}
use Rattle.std.proofs.KnownBytes.{Consumes-nil}
use Rattle.std.proofs.lemmas.List.{take_at, drop_at, drop-drop}
use Rattle.sb_base.proofs.records.PlainTexts.{plain_visible, plain_short}
use Rattle.sb_base.specs.records.declared.item.Item.{Item}
use Rattle.sb_base.specs.records.declared.key.Keys.{Keys}
use Rattle.sb_base.specs.records.Fronts.{IsFront}
use Rattle.sb_base.specs.records.Intake.{answer_to, after}
use Rattle.sb_base.specs.records.Progress.{Progress}
use Rattle.sb_outside.proofs.FirstLines.{visible_first}
use Rattle.sb_outside.specs.AtHand.{BeginsWithLine, to_read, unless_halted}
use Rattle.sb_outside.specs.Lines.{lines}
use Rattle.sb_outside.specs.Readings.{Held, reading}
use Rattle.sb_outside.specs.declared.lines.Halt.{Halt}
use Rattle.sb_feed.specs.Reads.{TakesItem}

pub front_begins : (keys : Keys) (item : Item) (len : ℕ) (bytes : List ℕ) → IsFront keys item len bytes → BeginsWithLine len bytes
front_begins keys item len bytes front =
    let behind : List ℕ = 10 ∷ front.rest in
    let line : take len bytes ≡ front.line = ap (take len) front.whole ∙ take_at front.line behind len (sym front.size) in
    let rest : drop (len + 1) bytes ≡ front.rest = ap (drop (len + 1)) front.whole ∙ sym (drop-drop 1 len (front.line ++ behind)) ∙ ap (drop 1) (drop_at front.line behind len (sym front.size)) in
    let few = plain_short keys item front.line front.text in
    record {
      first = λ ended later.
          ap (λ l. lines ended (l ++ later)) front.whole
          ∙ visible_first front.line front.rest (plain_visible keys item front.line front.text) ended later
          ∙ (λ i. sym line i ∷ lines ended (sym rest i ++ later));
      short = let size = front.size in omega arith;
      within = let size = front.size in omega (arith, ap length front.whole, length-append front.line behind);
    }

module _ {S : Type 0} (left : S → Option (List ℕ)) (source : S) (p p' : Progress) (item : Item) (len : ℕ) (is : p' ≡ after item p) where
  taken_at : (halted : Option Halt) (at_hand line : List ℕ) → BeginsWithLine len (unless_halted halted at_hand) → answer_to p (take len (unless_halted halted at_hand)) ≡ Ok item
      → TakesItem left (reading source (record { at_hand = at_hand; line = line; halt = halted })) (reading source (record { at_hand = drop (len + 1) at_hand; line = take len at_hand; halt = None })) p p' item
  taken_at None at_hand line begins tests =
      record {
        more = [];
        given = Consumes-nil (left source);
        line = take len at_hand;
        first = λ ended later may. (tt, begins.first ended later);
        tests = tests;
        progress = is;
        going = tt;
      }
  taken_at (Some h) at_hand line begins tests = let none : len < 0 = begins.within in absurd (omega arith)

  -- the reader took a line that its bytes at hand begin with
  pub front_taken : (held held' : Held) → BeginsWithLine len (to_read held) → answer_to p (take len (to_read held)) ≡ Ok item
      → held' ≡ record { at_hand = drop (len + 1) held.at_hand; line = take len held.at_hand; halt = None }
      → TakesItem left (reading source held) (reading source held') p p' item
  front_taken held held' begins tests new =
      subst (λ (h : Held). TakesItem left (reading source held) (reading source h) p p' item) (sym new) (taken_at held.halt held.at_hand held.line begins tests)
