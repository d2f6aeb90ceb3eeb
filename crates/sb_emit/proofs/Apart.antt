-- Rows that are apart: parts of them, and what makes them so.
use Rattle.std.proofs.Common.{ℕ, ◌≤◌, ◌<◌, List, [], ◌∷◌, ◌++◌, arith}
use Rattle.std.specs.List.{AllByRecursion}
use Rattle.sb_record.specs.declared.item.Record.{Record}
use Rattle.sb_record.proofs.Elements.{every, All-join}
use Rattle.sb_emit.specs.Outputs.{AreApart}

-- rows before a time, and rows from it on
pub apart_at : (w : ℕ) (l m : List Record) → AllByRecursion (λ r. r.time < w) l → AllByRecursion (λ s. w ≤ s.time) m → AreApart l m
apart_at w l m low high = every (λ r before. every (λ s after. omega (arith, before, after)) m high) l low

-- the first of the earlier rows, and the others
pub apart_front : (l m n : List Record) → AreApart (l ++ m) n → AreApart l n
apart_front [] m n h = tt
apart_front (r ∷ l) m n h = (h.0, apart_front l m n h.1)

pub apart_behind : (l m n : List Record) → AreApart (l ++ m) n → AreApart m n
apart_behind [] m n h = h
apart_behind (r ∷ l) m n h = apart_behind l m n h.1

-- later rows, and more of them
pub apart_join : (l m n : List Record) → AreApart l m → AreApart l n → AreApart l (m ++ n)
apart_join [] m n h k = tt
apart_join (r ∷ l) m n h k = (All-join (λ s. r.time < s.time) m n h.0 k.0, apart_join l m n h.1 k.1)
