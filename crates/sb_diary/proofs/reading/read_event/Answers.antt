use Rattle.std.proofs.Common.{◌≡◌, ◌∷◌, List, ℕ, arith, subst}
use Rattle.std.specs.Prelude.{codes}
use Rattle.sb_diary.specs.Reading.{AreFields}
use Rattle.sb_diary.proofs.Spelling.{two_numbers, three_numbers, six_bytes}
use Rattle.sb_diary.proofs.reading.read_event.Goals as goal

pub returns-in_ok-lane-in-arrive-clause-some : goal.returns-in_ok-lane-in-arrive-clause-some
returns-in_ok-lane-in-arrive-clause-some c =
    let word : codes "arrive" ≡ c.args.word.now = six_bytes c.args.word.now 97 114 114 105 118 101 (omega arith) (omega arith) (omega arith) (omega arith) (omega arith) (omega arith) (omega arith) in
    let read = c.in_ok-lane-in-arrive.ensures.some in
    let all = three_numbers c.in_ok-lane-in-arrive.field-0-1 (omega (arith, read.count_is)) in
    let are = subst (λ (ns : List ℕ). AreFields 3 (c.in_ok-lane-in-arrive.lane ∷ ns) c.args.rest.now) all read in
    ((are.fit, tt), word, are.text)

pub returns-in_ok-lane-in-finish-clause-some : goal.returns-in_ok-lane-in-finish-clause-some
returns-in_ok-lane-in-finish-clause-some c =
    let word : codes "finish" ≡ c.args.word.now = six_bytes c.args.word.now 102 105 110 105 115 104 (omega arith) (omega arith) (omega arith) (omega arith) (omega arith) (omega arith) (omega arith) in
    let read = c.in_ok-lane-in-finish.ensures.some in
    let all = two_numbers c.in_ok-lane-in-finish.field-0-1 (omega (arith, read.count_is)) in
    let are = subst (λ (ns : List ℕ). AreFields 2 (c.in_ok-lane-in-finish.lane ∷ ns) c.args.rest.now) all read in
    ((are.fit, tt), word, are.text)
