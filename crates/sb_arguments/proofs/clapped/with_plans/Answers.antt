use Rattle.sb_arguments.proofs.clapped.with_plans.Goals as goal

pub returns : goal.returns
returns c app is =
    let run = c.with_options-run.ensures _ c.of_one.ensures in
    let running = c.with_command-running.ensures _ _ is run in
    let plain = c.with_command-plain.ensures _ _ running c.of_one-slow.ensures in
    let watch = c.with_options-watch.ensures _ c.of_two.ensures in
    let watching = c.with_command-watching.ensures _ _ plain watch in
    let feeds = c.with_options-feeds.ensures _ c.of_three.ensures in
    let all = c.with_command.ensures _ _ watching feeds in
    all
