-- What the taps were offered, said of what the words ask for.
use Rattle.std.proofs.Common.{◌≡◌, IsTrue, ℕ, List, Option, subst}
use Rattle.sb_answer_runs.specs.answers.outside.Folders.{Files}
use Rattle.sb_answer_runs.specs.answers.emit.Taps.{TapState}
use Rattle.sb_answer_runs.specs.answers.words.Words.{Asked}
use Rattle.sb_answer_runs.specs.answers.told.declared.status.Status.{Status}
use Rattle.sb_answer_runs.specs.answers.Offered.{IsOffered}
use Rattle.sb_answer_runs.specs.answers.Pipelines.{options_in}

-- what was asked for is what the words ask for
pub offered_for : (folder : Option Files) (asked wanted : Asked) → asked ≡ wanted → (left left' taken taken' : Option (List ℕ)) (taps taps' : List TapState) (status : Status)
    → (IsTrue (options_in asked).taps → IsOffered folder asked left left' taken taken' taps taps' status)
    → IsTrue (options_in wanted).taps → IsOffered folder wanted left left' taken taken' taps taps' status
offered_for folder asked wanted same left left' taken taken' taps taps' status offered =
    subst (λ w. IsTrue (options_in w).taps → IsOffered folder w left left' taken taken' taps taps' status) same offered
