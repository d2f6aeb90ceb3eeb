-- That reading stops at a failed write, said of what the words ask for.
use Rattle.std.proofs.Common.{◌≡◌, ◌⊎◌, inl, inr, ℕ, List, Option, subst}
use Rattle.sb_alone.specs.outside.Folders.{Files}
use Rattle.sb_alone.specs.base.pipeline.Shapes.{Shape}
use Rattle.sb_words.specs.Words.{Asked}
use Rattle.sb_answers.specs.Answers.{ReadsNoMore, WroteAllDue}
use Rattle.sb_answers.specs.Courses.{course_in}
use Rattle.sb_answers.specs.Pipelines.{IsPlanFor, ReadsInput, WritesAsItReads}

-- of the plan that is asked for
pub reads_no_more : (folder : Option Files) (wanted : Asked) (plan : Shape) → IsPlanFor folder wanted plan → (left left' taken taken' : Option (List ℕ)) (reads reads' : ℕ)
    → (reads' ≡ reads) ⊎ WroteAllDue left left' taken taken' (λ given. course_in wanted plan given) → ReadsNoMore folder wanted left left' taken taken' reads reads'
reads_no_more folder wanted plan is left left' taken taken' reads reads' (inl same) = inl same
reads_no_more folder wanted plan is left left' taken taken' reads reads' (inr wrote) = inr (plan, is, wrote)

-- what was asked for is what the words ask for
pub stops_for : (folder : Option Files) (asked wanted : Asked) → asked ≡ wanted → (left left' taken taken' : Option (List ℕ)) (reads reads' : ℕ)
    → (WritesAsItReads asked → ReadsNoMore folder asked left left' taken taken' reads reads') → WritesAsItReads wanted → ReadsNoMore folder wanted left left' taken taken' reads reads'
stops_for folder asked wanted same left left' taken taken' reads reads' stops =
    subst (λ w. WritesAsItReads w → ReadsNoMore folder w left left' taken taken' reads reads') same stops

-- what is asked for reads no input
pub reads_none : (asked wanted : Asked) → asked ≡ wanted → (ReadsInput asked → ⊥) → ReadsInput wanted → ⊥
reads_none asked wanted same none = subst (λ w. ReadsInput w → ⊥) same none

-- nor does it write as it reads
pub writes_late : (asked wanted : Asked) → asked ≡ wanted → (WritesAsItReads asked → ⊥) → WritesAsItReads wanted → ⊥
writes_late asked wanted same late = subst (λ w. WritesAsItReads w → ⊥) same late
