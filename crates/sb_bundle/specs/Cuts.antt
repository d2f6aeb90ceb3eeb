-- Which bundles a cutter gives, and what it has afterwards.
use Rattle.std.specs.Prelude.{ℕ, ◌+◌, ◌==◌, Bool, if◌then◌else◌, List, [], ◌∷◌, ◌++◌, length, Option, Some, None}
use Rattle.sb_record.specs.declared.item.Record.{Record}
use Rattle.sb_bundle.specs.declared.bundle.Bundle.{Bundle}
use Rattle.sb_bundle.specs.Cutting.{Cutting}

-- before the first record
abbrev pub first_cutting : ℕ → Cutting
first_cutting size = record { size = size; epoch = 0; floor = 0; held = [] }

-- records of this epoch as a bundle, which has no number yet
abbrev pub bundle_of : Cutting → List Record → Bundle
bundle_of c records = record { number = 0; epoch = c.epoch; floor = c.floor; records = records }

-- the records held, and one more
abbrev pub with_record : Record → Cutting → List Record
with_record r c = c.held ++ r ∷ []

-- whether one more record fills a bundle
abbrev pub fills : Record → Cutting → Bool
fills r c = length (with_record r c) == c.size

-- the bundle that a record gives: of all records held, where it fills one
abbrev pub given_with : Record → Cutting → Option Bundle
given_with r c = if fills r c then Some (bundle_of c (with_record r c)) else None

-- what the cutter has after a record: nothing is held of what was given
abbrev pub after_record : Record → Cutting → Cutting
after_record r c = record c { held = if fills r c then [] else with_record r c }

-- the bundle of these records, where there are any
abbrev pub bundle_of_some : Cutting → List Record → Option Bundle
bundle_of_some c [] = None
bundle_of_some c (r ∷ rs) = Some (bundle_of c (r ∷ rs))

-- the bundle that a watermark gives: of all records held, where there are any
abbrev pub given_at_mark : Cutting → Option Bundle
given_at_mark c = bundle_of_some c c.held

-- what the cutter has after a watermark: the next epoch begins with it as its floor
abbrev pub after_mark : ℕ → Cutting → Cutting
after_mark mark c = record { size = c.size; epoch = c.epoch + 1; floor = mark; held = [] }
