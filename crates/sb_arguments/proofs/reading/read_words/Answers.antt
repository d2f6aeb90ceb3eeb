use Rattle.std.proofs.Common.{refl}
use Rattle.sb_words.specs.Texts.{texts}
use Rattle.sb_words.specs.Words.{asked_of}
use Rattle.sb_words.proofs.Commands.{read_exact, read_is, read_valid, refused}
use Rattle.sb_arguments.proofs.reading.read_words.Goals as goal

pub returns-in_ok-read-in-Some-clause-exact : goal.returns-in_ok-read-in-Some-clause-exact
returns-in_ok-read-in-Some-clause-exact c =
    read_exact c.in_ok-read-in-Some.read c.in-Some.field-0 (texts c.args.words.now) c.in-Some.ensures.exact c.in_ok-read-in-Some.ensures

pub returns-in_ok-read-in-Some-clause-refused : goal.returns-in_ok-read-in-Some-clause-refused
returns-in_ok-read-in-Some-clause-refused c =
    refused c.in_ok-read-in-Some.read (texts c.args.words.now)
    (read_exact c.in_ok-read-in-Some.read c.in-Some.field-0 (texts c.args.words.now) c.in-Some.ensures.exact c.in_ok-read-in-Some.ensures)

pub returns-in_ok-read-in-Some-clause-valid : goal.returns-in_ok-read-in-Some-clause-valid
returns-in_ok-read-in-Some-clause-valid c =
    read_valid c.in_ok-read-in-Some.read c.in-Some.field-0
    (read_is c.in_ok-read-in-Some.read c.in-Some.field-0 (texts c.args.words.now) c.in-Some.ensures.exact c.in_ok-read-in-Some.ensures) c.in-Some.ensures.valid

pub returns-in_ok-read-in-Some-clause-outside : goal.returns-in_ok-read-in-Some-clause-outside
returns-in_ok-read-in-Some-clause-outside c = λ none. absurd (none (asked_of c.in-Some.field-0) ((c.in-Some.ensures.exact (asked_of c.in-Some.field-0)).0 refl))

pub returns-in_err-read-in-Some-clause-outside : goal.returns-in_err-read-in-Some-clause-outside
returns-in_err-read-in-Some-clause-outside c = λ none. absurd (none (asked_of c.in-Some.field-0) ((c.in-Some.ensures.exact (asked_of c.in-Some.field-0)).0 refl))
