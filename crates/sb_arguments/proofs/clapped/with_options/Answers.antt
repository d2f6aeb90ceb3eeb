use Rattle.sb_arguments.proofs.Building.{ruled}
use Rattle.sb_arguments.proofs.clapped.with_options.Goals as goal

pub returns : goal.returns
returns c app is =
    let workers = ruled c.with_argument-workers.result _ _ _ c.option.ensures.rule (c.with_argument-workers.ensures _ is) in
    let bundle = ruled c.with_argument-bundle.result _ _ _ c.option-2.ensures.rule (c.with_argument-bundle.ensures _ workers) in
    let pending = ruled c.with_argument-pending.result _ _ _ c.option-3.ensures.rule (c.with_argument-pending.ensures _ bundle) in
    let diary = ruled c.with_argument-diary.result _ _ _ c.flag.ensures.rule (c.with_argument-diary.ensures _ pending) in
    ruled c.with_argument.result _ _ _ c.flag-2.ensures.rule (c.with_argument.ensures _ diary)
