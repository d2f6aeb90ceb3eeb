use Rattle.sb_arguments.proofs.clapped.with_parts.Goals as goal

pub returns : goal.returns
returns c app is =
    let part = c.with_options-part.ensures _ c.of_one.ensures in
    let parting = c.with_command-parting.ensures _ _ is part in
    let saving = c.with_command-saving.ensures _ _ parting c.of_one-save.ensures in
    let resume = c.with_options-resume.ensures _ c.of_two.ensures in
    let all = c.with_command.ensures _ _ saving resume in
    all
