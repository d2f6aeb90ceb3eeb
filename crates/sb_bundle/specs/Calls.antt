-- Lists of calls of a cutter, and what they come to.
use Rattle.std.specs.Prelude.{ℕ, ◌+◌, ◌==◌, if◌then◌else◌, List, [], ◌∷◌, filter, map, Option, Some, None}
use Rattle.std.specs.List.{flat_map}
use Rattle.sb_record.specs.declared.item.Record.{Record}
use Rattle.sb_bundle.specs.declared.bundle.Bundle.{Bundle}
use Rattle.sb_bundle.specs.Cutting.{Cutting}
use Rattle.sb_bundle.specs.Cuts.{given_with, after_record, given_at_mark, after_mark}

-- a record is pushed, or a watermark is taken
pub data Call : Type 0 where
  Push : Record → Call
  Mark : ℕ → Call

-- the records that are pushed, in order
abbrev pub records_of : List Call → List Record
records_of [] = []
records_of (Push r ∷ calls) = r ∷ records_of calls
records_of (Mark mark ∷ calls) = records_of calls

-- the records that are pushed in epoch n, in order, where the first call is in epoch `now`
abbrev pub records_in : ℕ → ℕ → List Call → List Record
records_in n now [] = []
records_in n now (Push r ∷ calls) = if now == n then r ∷ records_in n now calls else records_in n now calls
records_in n now (Mark mark ∷ calls) = records_in n (now + 1) calls

-- the bundle that a call gives, and what the cutter has after it
abbrev pub given_by : Call → Cutting → Option Bundle
given_by (Push r) c = given_with r c
given_by (Mark mark) c = given_at_mark c

abbrev pub after : Call → Cutting → Cutting
after (Push r) c = after_record r c
after (Mark mark) c = after_mark mark c

-- the bundle, followed by others, where there is one
abbrev pub and_then : Option Bundle → List Bundle → List Bundle
and_then None bundles = bundles
and_then (Some b) bundles = b ∷ bundles

-- the bundles that the calls give, in order, and what the cutter has after them
abbrev pub bundles_by : List Call → Cutting → List Bundle
bundles_by [] c = []
bundles_by (call ∷ calls) c = and_then (given_by call c) (bundles_by calls (after call c))

abbrev pub after_all : List Call → Cutting → Cutting
after_all [] c = c
after_all (call ∷ calls) c = after_all calls (after call c)

-- the records of each bundle
abbrev pub parts_of : List Bundle → List (List Record)
parts_of bundles = map (λ b. b.records) bundles

-- the records of each bundle of epoch n
abbrev pub parts_in : ℕ → List Bundle → List (List Record)
parts_in n bundles = parts_of (filter (λ b. b.epoch == n) bundles)

-- the parts, one after another
abbrev pub records_in_order : List (List Record) → List Record
records_in_order parts = flat_map (λ part. part) parts
