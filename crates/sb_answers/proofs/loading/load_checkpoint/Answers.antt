use Rattle.std.proofs.Common.{◌+◌, ◌++◌, take, ap, ◌∙◌}
use Rattle.std.proofs.lemmas.Result.{IfErr-weaker, IfOk-weaker}
use Rattle.sb_answers.specs.declared.limits.TheConstants.{MAX_CHECKPOINT_BYTES}
use Rattle.sb_answers.specs.CheckpointFiles.{GivesCheckpoint}
use Rattle.sb_answers.specs.RestSteps.{HasNoCheckpoint, IsNoneIn, IsSaidIn, said_by}
use Rattle.sb_answers.proofs.CheckpointLoads.{gives, gives_none}
use Rattle.sb_answers.proofs.loading.load_checkpoint.Goals as goal

pub returns-in-Ok-clause-said : goal.returns-in-Ok-clause-said
returns-in-Ok-clause-said g c =
    let folder = g.F.Folder.files c.args.folder.now in
    let plan = c.args.plan.now in
    let text = c.deref.result.now in
    let loaded = c.in-Ok.ensures.bytes in
    let is = c.deref.ensures.value ∙ loaded.2 ∙ ap (λ l. l ++ take (MAX_CHECKPOINT_BYTES + 1) loaded.0) c.new-text.ensures.items in
    IfOk-weaker c.checkpoint_in.result (λ x. IsSaidIn plan text (said_by x)) (λ x. GivesCheckpoint folder c.args.name.now plan (said_by x))
    (λ x said. gives folder c.args.name.now loaded.0 text loaded.1 is plan (said_by x) said) c.checkpoint_in.ensures.said

pub returns-in-Ok-clause-none : goal.returns-in-Ok-clause-none
returns-in-Ok-clause-none g c =
    let folder = g.F.Folder.files c.args.folder.now in
    let plan = c.args.plan.now in
    let text = c.deref.result.now in
    let loaded = c.in-Ok.ensures.bytes in
    let is = c.deref.ensures.value ∙ loaded.2 ∙ ap (λ l. l ++ take (MAX_CHECKPOINT_BYTES + 1) loaded.0) c.new-text.ensures.items in
    IfErr-weaker c.checkpoint_in.result (λ s. IsNoneIn plan text s) (λ s. HasNoCheckpoint folder c.args.name.now plan s)
    (λ s none. gives_none folder c.args.name.now loaded.0 text loaded.1 is plan s none) c.checkpoint_in.ensures.none
