use Rattle.std.proofs.Common.{◌<◌, ◌≤◌, ◌+◌, ◌++◌, length, take, ap, ◌∙◌, rules}
use Rattle.sb_alone.specs.feeds.declared.limits.TheConstants.{MAX_FILE_LENGTH}
use Rattle.sb_answers.proofs.FileLoads.{has_bytes, is_long}
use Rattle.sb_answers.proofs.loading.load_file.Goals as goal

pub returns-then-len-gt-MAX_FILE_LENGTH-clause-none : goal.returns-then-len-gt-MAX_FILE_LENGTH-clause-none
returns-then-len-gt-MAX_FILE_LENGTH-clause-none g c =
    let loaded = c.in-Ok.ensures.bytes in
    let is = loaded.2 ∙ ap (λ l. l ++ take (MAX_FILE_LENGTH + 1) loaded.0) c.new-bytes.ensures.items in
    let more : MAX_FILE_LENGTH < length c.load.new.into.items = search rules in
    is_long (g.F.Folder.files c.args.folder.now) c.args.name.now loaded.0 c.load.new.into.items loaded.1 is more

pub returns-in-Ok-clause-bytes : goal.returns-in-Ok-clause-bytes
returns-in-Ok-clause-bytes g c =
    let loaded = c.in-Ok.ensures.bytes in
    let is = loaded.2 ∙ ap (λ l. l ++ take (MAX_FILE_LENGTH + 1) loaded.0) c.new-bytes.ensures.items in
    let few : length c.load.new.into.items ≤ MAX_FILE_LENGTH = search rules in
    has_bytes (g.F.Folder.files c.args.folder.now) c.args.name.now loaded.0 c.load.new.into.items loaded.1 is few
