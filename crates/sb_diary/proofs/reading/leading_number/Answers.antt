use Rattle.sb_diary.proofs.Spelling.{front_word}
use Rattle.sb_diary.proofs.reading.leading_number.Goals as goal

pub returns-in_err-number_of-in-32-clause-none : goal.returns-in_err-number_of-in-32-clause-none
returns-in_err-number_of-in-32-clause-none c =
    rw c.from_residual.ensures (λ n rest begins.
    let split = c.split_at_space.ensures in
    let word = front_word c.args.bytes.now c.split_at_space.result.0.now c.split_at_space.result.1.now n rest split.word split.rest split.all begins in
    c.in_err-number_of-in-32.ensures.none n (begins.fits, word))
