-- The bytes of a first part, with an end that stays open.
use Rattle.std.proofs.Common.{◌≡◌, ◌<◌, ℕ, suc, Bool, true, false, cond, eqb, List, [], ◌∷◌, ◌++◌, Option, Some, None, Result, Ok, Err, refl, sym, ap, ◌∙◌, arith, append_assoc}
use Rattle.std.specs.Prelude.{◌||◌, IfOk, length}
use Rattle.std.specs.Io.KnownBytes.{Consumes, IsAtEnd, Keeps, ReadConsumes}
use Rattle.std.proofs.lemmas.Bool.{lt-ltb}
use Rattle.std.proofs.lemmas.List.{append_cancel_right}
use Rattle.sb_engines.specs.feeds.base.records.Inputs.{Accepted, accepted}
use Rattle.sb_engines.specs.feeds.outside.Lines.{is_too_long, lines, lines_from, without_cr}
use Rattle.sb_engines.specs.feeds.base.pipeline.Shapes.{Shape, streams_of}
use Rattle.sb_engines.specs.feeds.one_feed.Given.{Given, accepted_of, part_accepted}
use Rattle.sb_run.specs.FirstParts.{open_end}

-- ---- reads
consumes : (left left' : Option (List ℕ)) (bytes : List ℕ) → Consumes left left' bytes → Consumes (open_end left) (open_end left') bytes
consumes None left' bytes h = tt
consumes (Some xs) None bytes h = absurd h
consumes (Some xs) (Some ys) bytes h = ap (λ l. l ++ 0 ∷ []) h ∙ append_assoc bytes ys (0 ∷ [])

keeps : (left left' : Option (List ℕ)) → Keeps left left' → Keeps (open_end left) (open_end left')
keeps None left' h = tt
keeps (Some xs) None h = absurd h
keeps (Some xs) (Some ys) h = ap (λ l. l ++ 0 ∷ []) h

-- a read that gives some bytes, or fails
pub reads : {E : Type 0} (left left' : Option (List ℕ)) (r : Result ℕ E) (buf : List ℕ) → IfOk r (λ n. 0 < n) → ReadConsumes left left' r buf → ReadConsumes (open_end left) (open_end left') r buf
reads left left' (Ok n) buf some h = (consumes left left' _ h.0, λ none room. absurd (omega (arith, some, none)))
reads left left' (Err e) buf some h = keeps left left' h

pub kept : (left : Option (List ℕ)) → Keeps (open_end left) (open_end left)
kept None = tt
kept (Some xs) = refl

consumed : (left left' : Option (List ℕ)) (bytes : List ℕ) → Consumes (open_end left) (open_end left') bytes → Consumes left left' bytes
consumed None left' bytes h = tt
consumed (Some xs) None bytes h = absurd h
consumed (Some xs) (Some ys) bytes h = append_cancel_right xs (bytes ++ ys) (0 ∷ []) (h ∙ sym (append_assoc bytes ys (0 ∷ [])))

-- ---- lines
-- the lines where the input has ended are those of some bytes behind which more may follow
closed : (begun bytes : List ℕ) → (more : List ℕ) × (lines_from false begun (bytes ++ more) ≡ lines_from true begun bytes)
closed [] [] = ([], refl)
closed (x ∷ begun) [] = (10 ∷ [], sym (λ i. cond (lt-ltb 0 (suc (length begun)) (omega arith) i || is_too_long (without_cr (x ∷ begun))) (without_cr (x ∷ begun) ∷ []) []))
closed begun (b ∷ bytes) = by_case (eqb b 10) (closed [] bytes) (closed (begun ++ b ∷ []) bytes)
  where
    by_case : (is : Bool) → (more : List ℕ) × (lines_from false [] (bytes ++ more) ≡ lines_from true [] bytes)
        → (more : List ℕ) × (lines_from false (begun ++ b ∷ []) (bytes ++ more) ≡ lines_from true (begun ++ b ∷ []) bytes)
        → (more : List ℕ) × (cond is (without_cr begun ∷ lines_from false [] (bytes ++ more)) (lines_from false (begun ++ b ∷ []) (bytes ++ more))
        ≡ cond is (without_cr begun ∷ lines_from true [] bytes) (lines_from true (begun ++ b ∷ []) bytes))
    by_case true (more, same) other = (more, ap (λ l. without_cr begun ∷ l) same)
    by_case false other (more, same) = (more, same)

never_empty : (xs : List ℕ) → xs ++ 0 ∷ [] ≡ [] → ⊥
never_empty [] h = cc h
never_empty (x ∷ xs) h = cc h

-- what was given of a source with an open end was given of the source as a first part
pub record IsPart (plan : Shape) (left left' : Option (List ℕ)) (given : Given (open_end left) (open_end left')) (ended : Bool) : Type 0 where
  pub part : Given left left'
  pub ends : part.ended ≡ ended
  pub same : part_accepted plan part ≡ accepted_of plan given

pub as_part : (plan : Shape) (left left' : Option (List ℕ)) (given : Given (open_end left) (open_end left')) (ended : Bool) → (ended ≡ true → IsAtEnd left') → IsPart plan left left' given ended
as_part plan left left' given ended at_end = by_end given.ended refl
  where
    accepts : List (List ℕ) → Accepted
    accepts l = accepted (streams_of plan) plan.late plan.keys l

    untold : (left left' : Option (List ℕ)) → Consumes (open_end left) (open_end left') given.bytes → IsAtEnd (open_end left') → (bytes : List ℕ) → Consumes left left' bytes
    untold None left' h end bytes = tt
    untold (Some xs) None h end bytes = absurd h
    untold (Some xs) (Some ys) h end bytes = absurd (never_empty ys end)

    by_end : (e : Bool) → given.ended ≡ e → IsPart plan left left' given ended
    by_end false is = record {
      part = record { bytes = given.bytes; were_left = consumed left left' given.bytes given.were_left; ended = ended; at_end = at_end };
      ends = refl;
      same = ap (λ e. accepts (lines e given.bytes)) (sym is);
    }
    by_end true is =
        let (more, same) = closed [] given.bytes in
        record {
          part = record { bytes = given.bytes ++ more; were_left = untold left left' given.were_left (given.at_end is) (given.bytes ++ more); ended = ended; at_end = at_end };
          ends = refl;
          same = ap accepts (same ∙ ap (λ e. lines e given.bytes) (sym is));
        }

-- ---- names
pub first_same : (a b c d : ℕ) (xs ys : List ℕ) → a ∷ b ∷ xs ≡ c ∷ d ∷ ys → a ≡ c
first_same a b c d xs ys h = cc h

pub second_same : (a b c d : ℕ) (xs ys : List ℕ) → a ∷ b ∷ xs ≡ c ∷ d ∷ ys → b ≡ d
second_same a b c d xs ys h = cc h

pub head_same : (a b : ℕ) (xs ys : List ℕ) → a ∷ xs ≡ b ∷ ys → a ≡ b
head_same a b xs ys h = cc h

pub tail_same : (a b : ℕ) (xs ys : List ℕ) → a ∷ xs ≡ b ∷ ys → xs ≡ ys
tail_same a b xs ys h = cc h
