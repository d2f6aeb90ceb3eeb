-- Records that are put on a lane, and taken from it.
use Rattle.std.proofs.Common.{◌≡◌, ℕ, List, [], ◌∷◌, ◌++◌, refl, ap}
use Rattle.std.specs.List.{filter, AllByRecursion}
use Rattle.std.specs.Prelude.{◌==◌}
use Rattle.sb_record.specs.declared.item.Record.{Record}
use Rattle.sb_record.proofs.Elements.{All-passed}
use Rattle.sb_record.specs.declared.element.KeptRec.{KeptRec}
use Rattle.sb_record.specs.Elements.{on_lane, all_records, of_lane}

pub all_records-on_lane : (lane : ℕ) (records : List Record) → all_records (on_lane lane records ++ []) ≡ records
all_records-on_lane lane [] = refl
all_records-on_lane lane (r ∷ records) = ap (λ l. r ∷ l) (all_records-on_lane lane records)

-- what holds of each record holds of it on a lane, and what holds of each element's record holds of it alone
pub All-on_lane : (P : Record → Type 0) (lane : ℕ) (records : List Record) → AllByRecursion P records → AllByRecursion (λ e. P e.rec) (on_lane lane records)
All-on_lane P lane [] all = tt
All-on_lane P lane (r ∷ records) all = (all.0, All-on_lane P lane records all.1)

pub All-all_records : (P : Record → Type 0) (elements : List KeptRec) → AllByRecursion (λ e. P e.rec) elements → AllByRecursion P (all_records elements)
All-all_records P [] all = tt
All-all_records P (e ∷ elements) all = (all.0, All-all_records P elements all.1)

pub All-of_lane : (P : Record → Type 0) (lane : ℕ) (elements : List KeptRec) → AllByRecursion (λ e. P e.rec) elements → AllByRecursion P (of_lane lane elements)
All-of_lane P lane elements all =
    All-all_records P (filter (λ e. e.lane == lane) elements) (All-passed (λ e. P e.rec) (λ e. P e.rec) (λ e. e.lane == lane) (λ e holds _. holds) elements all)
