-- A line's text tells the line.
use Rattle.std.proofs.Common.{◌≡◌, ℕ, ◌≤◌, List, [], ◌∷◌, ◌++◌, get_or, sym, refl, ap, ◌∙◌, arith, Bool, true, false, not, eqb, Some, None}
use Rattle.std.specs.Prelude.{codes, ◌&&◌, Option, IfNone, is_some}
use Rattle.std.specs.List.{list_all}
use Rattle.std.proofs.lemmas.Bool.{eq-eqb}
use Rattle.sb_diary.specs.declared.event.DiaryEvent.{DiaryEvent}
use Rattle.sb_diary.specs.declared.event.DiaryEvent.TheVariants.{Arrive, Seal, Take, Finish, Begin, End}
use Rattle.sb_diary.specs.declared.text.DiaryLine.{DiaryLine}
use Rattle.sb_diary.specs.declared.text.DiaryLine.TheVariants.{Head, Event}
use Rattle.sb_diary.specs.Texts.{event_word, event_numbers, word_of, numbers_of, spaced_text, text_of, IsLine, LinesAreToldApart}
use Rattle.sb_diary.specs.Reading.{HasNoSpace, IsAtSpace, AreFields, IsSpelled}
use Rattle.sb_diary.proofs.Spelling.{split-unique, spaced-at_space, spaced-unique, in-range_fit, apart}

no_space_test : (l : List ℕ) → list_all (λ c. not (eqb c 32)) l ≡ true → HasNoSpace l
no_space_test [] h = tt
no_space_test (c ∷ l) h = by_case (eqb c 32) refl h (no_space_test l)
  where
    by_case : (b : Bool) → eqb c 32 ≡ b → (not b && list_all (λ c. not (eqb c 32)) l) ≡ true → (list_all (λ c. not (eqb c 32)) l ≡ true → HasNoSpace l) → HasNoSpace (c ∷ l)
    by_case true e h ih = cc
    by_case false e h ih = (λ k. apart (sym e ∙ eq-eqb c 32 k), ih h)

no_space-event : (e : DiaryEvent) → HasNoSpace (event_word e)
no_space-event (Arrive lane epoch number length) = no_space_test (codes "arrive") refl
no_space-event (Seal lane epoch mark) = no_space_test (codes "seal") refl
no_space-event (Take lane number) = no_space_test (codes "take") refl
no_space-event (Finish lane number length) = no_space_test (codes "finish") refl
no_space-event (Begin lane epoch mark rows) = no_space_test (codes "begin") refl
no_space-event (End lane epoch) = no_space_test (codes "end") refl

no_space-word : (l : DiaryLine) → HasNoSpace (word_of l)
no_space-word (Head node lanes) = no_space_test (codes "transform") refl
no_space-word (Event e) = no_space-event e

-- the text of a line, split at its first space, is the line's word and its numbers
pub split_text : (l : DiaryLine) (line word rest : List ℕ) → word ++ rest ≡ line → HasNoSpace word → IsAtSpace rest → IsLine l → text_of l ≡ line → IsSpelled l word rest
split_text l line word rest e w r is text =
    let same = split-unique (word_of l) word (spaced_text (numbers_of l)) rest (no_space-word l) w (spaced-at_space (numbers_of l)) r (text ∙ sym e) in
    (is, same.0, same.1)

-- no event's line begins with the word of a head line
event_no_head : (e : DiaryEvent) → event_word e ≡ codes "transform" → ⊥
event_no_head (Arrive lane epoch number length) e = cc
event_no_head (Seal lane epoch mark) e = cc
event_no_head (Take lane number) e = cc
event_no_head (Finish lane number length) e = cc
event_no_head (Begin lane epoch mark rows) e = cc
event_no_head (End lane epoch) e = cc

-- what was read as a node and its lanes is no head line, if no node has so many lanes
pub no_head : (node : ℕ) (xs rest : List ℕ) → AreFields 1 (node ∷ xs) rest → (1 ≤ get_or xs 0 0 → get_or xs 0 0 ≤ 2 → ⊥) → (l : DiaryLine) → IsSpelled l (codes "transform") rest → ⊥
no_head node xs rest are wrong (Event e) is = event_no_head e is.1
no_head node xs rest are wrong (Head n lanes) is =
    let same = spaced-unique (n ∷ lanes ∷ []) (node ∷ xs) (in-range_fit (n ∷ lanes ∷ []) is.0.0) (in-range_fit (node ∷ xs) are.fit) (is.2 ∙ sym are.text) in
    let e : lanes ≡ get_or xs 0 0 = ap (λ l. get_or l 1 0) same in
    wrong (omega (arith, e, is.0.1.0)) (omega (arith, e, is.0.1.1))

-- a line with this text is an event's, if its word is not that of a head line
pub no_event : (o : Option DiaryEvent) (m : Option DiaryLine) (line word rest : List ℕ) → is_some m ≡ is_some o → IfNone o ((e : DiaryEvent) → IsSpelled (Event e) word rest → ⊥)
    → word ++ rest ≡ line → HasNoSpace word → IsAtSpace rest → (word ≡ codes "transform" → ⊥) → IfNone m ((l : DiaryLine) → IsLine l → text_of l ≡ line → ⊥)
no_event o (Some l) line word rest same none e w r other = tt
no_event (Some x) None line word rest same none e w r other = cc
no_event None None line word rest same none e w r other = by_line
  where
    by_line : (l : DiaryLine) → IsLine l → text_of l ≡ line → ⊥
    by_line (Head n lanes) is text = other (sym (split_text (Head n lanes) line word rest e w r is text).1)
    by_line (Event x) is text = none x (split_text (Event x) line word rest e w r is text)

-- a word and its numbers tell the event
event_told : (e f : DiaryEvent) → event_word e ≡ event_word f → event_numbers e ≡ event_numbers f → e ≡ f
event_told (Arrive a b c d) (Arrive i j k l) w n = cc
event_told (Seal a b c) (Seal i j k) w n = cc
event_told (Take a b) (Take i j) w n = cc
event_told (Finish a b c) (Finish i j k) w n = cc
event_told (Begin a b c d) (Begin i j k l) w n = cc
event_told (End a b) (End i j) w n = cc
event_told e f w n = cc

line_told : (l m : DiaryLine) → word_of l ≡ word_of m → numbers_of l ≡ numbers_of m → l ≡ m
line_told (Head a b) (Head i j) w n = cc
line_told (Head a b) (Event f) w n = absurd (event_no_head f (sym w))
line_told (Event e) (Head i j) w n = absurd (event_no_head e w)
line_told (Event e) (Event f) w n = ap (λ x. Event x) (event_told e f w n)

pub told_apart : LinesAreToldApart
told_apart l m is also same =
    let split = split_text l (text_of m) (word_of m) (spaced_text (numbers_of m)) refl (no_space-word m) (spaced-at_space (numbers_of m)) is same in
    line_told l m split.1 (spaced-unique (numbers_of l) (numbers_of m) (in-range_fit (numbers_of l) is.0) (in-range_fit (numbers_of m) also.0) split.2)
