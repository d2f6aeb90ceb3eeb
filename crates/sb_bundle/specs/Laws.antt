-- The limit of bundles as a number, and the laws of cutting: what a new cutter gives over any list of calls.
use Rattle.std.specs.Prelude.{◌≡◌, ℕ, ◌≤◌, ◌<◌, List, [], ◌∷◌, ◌++◌, length, All}
use Rattle.sb_record.specs.declared.item.Record.{Record}
use Rattle.sb_bundle.specs.declared.bundle.Bundle.{Bundle}
use Rattle.sb_bundle.specs.Cutting.{Cutting}
use Rattle.sb_bundle.specs.Cuts.{first_cutting}
use Rattle.sb_bundle.specs.declared.bundle.TheConstants.{MAX_BUNDLE}
use Rattle.sb_bundle.specs.Calls.{Call, records_of, records_in, bundles_by, after_all, parts_of, parts_in, records_in_order}

-- the most records of a bundle
pub record Limits : Type 0 where
  pub bundle : MAX_BUNDLE ≡ 65536

-- each part has `size` records, but the last may have fewer, and has at least one
abbrev pub AreCutAt : ℕ → List (List Record) → Type 0
AreCutAt size [] = Unit {0}
AreCutAt size (part ∷ []) = (1 ≤ length part) × (length part ≤ size)
AreCutAt size (part ∷ next ∷ parts) = (length part ≡ size) × AreCutAt size (next ∷ parts)

-- the parts are these records, in order, cut into lengths of `size`; the last may be shorter
pub record AreCutOf (size : ℕ) (records : List Record) (parts : List (List Record)) : Type 0 where
  pub whole : records_in_order parts ≡ records
  pub lengths : AreCutAt size parts

-- the parts have `size` records each, and with the rest, which has fewer, they are these records, in order
pub record AreFullOf (size : ℕ) (records : List Record) (parts : List (List Record)) (rest : List Record) : Type 0 where
  pub whole : records_in_order parts ++ rest ≡ records
  pub full : All (λ part. length part ≡ size) parts
  pub fewer : length rest < size

-- the bundles that a new cutter gives by the calls, and what it has after them
abbrev pub bundles_of : ℕ → List Call → List Bundle
bundles_of size calls = bundles_by calls (first_cutting size)

abbrev pub cutting_after : ℕ → List Call → Cutting
cutting_after size calls = after_all calls (first_cutting size)

-- the bundles given, joined, followed by what is held, are the records pushed, in order
abbrev pub NoRecordIsLost : Type 0
NoRecordIsLost =
    (size : ℕ) (calls : List Call)
    → records_in_order (parts_of (bundles_of size calls)) ++ (cutting_after size calls).held ≡ records_of calls

-- the bundles of an epoch that has ended are its records, cut
abbrev pub EndedEpochsAreCut : Type 0
EndedEpochsAreCut =
    (size : ℕ) → 1 ≤ size → (calls : List Call) (n : ℕ) → n < (cutting_after size calls).epoch
    → AreCutOf size (records_in n 0 calls) (parts_in n (bundles_of size calls))

-- the bundles of the epoch that has not ended are full, and with what is held they are its records
abbrev pub LastEpochIsCut : Type 0
LastEpochIsCut =
    (size : ℕ) → 1 ≤ size → (calls : List Call) (n : ℕ) → n ≡ (cutting_after size calls).epoch
    → AreFullOf size (records_in n 0 calls) (parts_in n (bundles_of size calls)) (cutting_after size calls).held
