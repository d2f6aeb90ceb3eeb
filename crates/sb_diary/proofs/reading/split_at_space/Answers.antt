use Rattle.std.proofs.Common.{◌==◌}
use Rattle.std.proofs.lemmas.List.Sums.{prefix_len-le-length}
use Rattle.std.specs.Prelude.{not}
use Rattle.sb_diary.proofs.Spelling.{at_space, found_at}
use Rattle.sb_diary.proofs.reading.split_at_space.Goals as goal

pub split_at-requires : goal.split_at-requires
split_at-requires c =
    let end = found_at c.args.bytes.now c.first_space.result c.unwrap_or-end.result c.first_space.ensures c.unwrap_or-end.ensures in
    rw end (prefix_len-le-length (λ b. not (b == 32)) c.args.bytes.now)

pub returns-clause-word : goal.returns-clause-word
returns-clause-word c =
    let end = found_at c.args.bytes.now c.first_space.result c.unwrap_or-end.result c.first_space.ensures c.unwrap_or-end.ensures in
    rw (c.split_at.ensures.front, end) (at_space c.args.bytes.now).0

pub returns-clause-rest : goal.returns-clause-rest
returns-clause-rest c =
    let end = found_at c.args.bytes.now c.first_space.result c.unwrap_or-end.result c.first_space.ensures c.unwrap_or-end.ensures in
    rw (c.split_at.ensures.back, end) (at_space c.args.bytes.now).1
