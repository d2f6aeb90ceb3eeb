-- What is kept, item by item.
use Rattle.std.proofs.Common.{◌≡◌, ◌≤◌, ℕ, ◌-◌, Bool, true, false, cond, List, [], ◌∷◌, ◌++◌, map, refl, sym, ap, ◌∙◌, arith}
use Rattle.std.specs.Prelude.{nat_lt, not}
use Rattle.std.specs.List.{filter}
use Rattle.std.proofs.lemmas.Bool.Decides.{nat_tests}
use Rattle.std.proofs.lemmas.List.Elements.{filter-append}
use Rattle.sb_pipeline.specs.records.declared.item.Item.{Item}
use Rattle.sb_pipeline.specs.records.declared.item.Item.TheVariants.{Rec, Mark, Skip, Late}
use Rattle.sb_pipeline.proofs.records.Elements.{filter_of_filter}
use Rattle.sb_checkpoint.specs.declared.checkpoint.StreamRec.{StreamRec}
use Rattle.sb_checkpoint.specs.Checkpoints.{is_kept}
use Rattle.sb_checkpoint.specs.Reach.{is_within}
use Rattle.sb_checkpoint.specs.Saved.{record_item}

from_time : (n w t : ℕ) → not (nat_lt t (w - n)) ≡ is_within n w t
from_time n w t = grind (arith, nat_tests)

-- the records from a time on are those that are kept
from_kept : (n w : ℕ) (records : List StreamRec) → map record_item (filter (λ r. not (nat_lt r.rec.time (w - n))) records) ≡ filter (is_kept n w) (map record_item records)
from_kept n w [] = refl
from_kept n w (r ∷ records) = by_case (not (nat_lt r.rec.time (w - n))) (is_within n w r.rec.time) (from_time n w r.rec.time) (from_kept n w records)
  where
    by_case : (a b : Bool) → a ≡ b → map record_item (filter (λ r. not (nat_lt r.rec.time (w - n))) records) ≡ filter (is_kept n w) (map record_item records)
        → map record_item (cond a (r ∷ filter (λ r. not (nat_lt r.rec.time (w - n))) records) (filter (λ r. not (nat_lt r.rec.time (w - n))) records))
        ≡ cond b (record_item r ∷ filter (is_kept n w) (map record_item records)) (filter (is_kept n w) (map record_item records))
    by_case true true e h = ap (λ l. record_item r ∷ l) h
    by_case false false e h = h
    by_case true false e h = cc
    by_case false true e h = cc

kept_lower : (n v w : ℕ) → v ≤ w → (i : Item) → is_kept n w i ≡ true → is_kept n v i ≡ true
kept_lower n v w le (Rec s r) h = grind (arith, nat_tests, le, h)
kept_lower n v w le (Mark s t) h = h
kept_lower n v w le Skip h = h
kept_lower n v w le (Late l t m) h = h

-- what is kept is kept again
pub kept_again : (n v w : ℕ) → v ≤ w → (items : List Item) → filter (is_kept n w) (filter (is_kept n v) items) ≡ filter (is_kept n w) items
kept_again n v w le items = filter_of_filter (is_kept n w) (is_kept n v) (kept_lower n v w le) items

pub from_kept_by : (n w from : ℕ) → from ≡ w - n → (records : List StreamRec) → map record_item (filter (λ r. not (nat_lt r.rec.time from)) records) ≡ filter (is_kept n w) (map record_item records)
from_kept_by n w from is records = ap (λ f. map record_item (filter (λ r. not (nat_lt r.rec.time f)) records)) is ∙ from_kept n w records

-- letting go of the others changes nothing
pub kept_pruned : (n w from : ℕ) → from ≡ w - n → (records : List StreamRec) → filter (is_kept n w) (map record_item (filter (λ r. not (nat_lt r.rec.time from)) records)) ≡ filter (is_kept n w) (map record_item records)
kept_pruned n w from is records =
    ap (filter (is_kept n w)) (from_kept_by n w from is records)
    ∙ kept_again n w w (omega arith) (map record_item records)

-- one more behind those that are kept
pub kept_behind : (n w : ℕ) (items more : List Item) → filter (is_kept n w) (items ++ more) ≡ filter (is_kept n w) (filter (is_kept n w) items ++ more)
kept_behind n w items more =
    filter-append (is_kept n w) items more
    ∙ ap (λ l. l ++ filter (is_kept n w) more) (sym (kept_again n w w (omega arith) items))
    ∙ sym (filter-append (is_kept n w) (filter (is_kept n w) items) more)
