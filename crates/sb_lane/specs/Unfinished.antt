-- Bundles are unfinished while they wait and while they are out.
use Rattle.std.specs.Prelude.{ℕ, ◌+◌, List, length, sum_by}
use Rattle.sb_containers.specs.declared.container.Cont.{Cont}

-- how many of a container are unfinished
abbrev pub unfinished_in : Cont → ℕ
unfinished_in c = length c.waiting + length c.out

-- how many of all containers
abbrev pub unfinished_of : List Cont → ℕ
unfinished_of cs = sum_by unfinished_in cs
