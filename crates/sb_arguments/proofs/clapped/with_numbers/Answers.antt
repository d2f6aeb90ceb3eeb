use Rattle.sb_arguments.proofs.clapped.with_numbers.Goals as goal

pub returns : goal.returns
returns c app is =
    let sum = c.with_options-sum.ensures _ c.of_one.ensures in
    let summing = c.with_command-summing.ensures _ _ is sum in
    let work = c.with_options-work.ensures _ c.of_one-2.ensures in
    let all = c.with_command.ensures _ _ summing work in
    all
