-- The list that a trail stands for.
use Rattle.std.specs.Prelude.{List, [], ◌∷◌, ◌++◌}
use Rattle.sb_record.specs.declared.trail.Link.{Link}
use Rattle.sb_record.specs.declared.trail.Link.TheVariants.{Start, More}

-- the entries up to this end, the first of them first
abbrev pub entries : {T : Type 0} → Link T → List T
entries Start = []
entries (More before entry) = before.value ++ entry ∷ []
