-- Of sorted rows, those that are handed on.
use Rattle.std.proofs.Common.{◌≡◌, ◌≤◌, ◌<◌, ℕ, cond, List, [], ◌∷◌, ◌++◌, refl, sym, ap, subst, ◌∙◌}
use Rattle.std.specs.Prelude.{not}
use Rattle.std.specs.List.{AllByRecursion}
use Rattle.std.proofs.lemmas.Bool.{le-ltb, lt-ltb}
use Rattle.sb_pipeline.specs.records.declared.item.Record.{Record}
use Rattle.sb_pipeline.specs.records.Records.{at_least, before, record_cmp, sorted_records}
use Rattle.sb_pipeline.proofs.records.Earlier.{at_least-high, before-low, sorted-split}
use Rattle.sb_pipeline.proofs.records.Sorting.{All-in_order}
use Rattle.sb_checkpoint.specs.LaterRows.{HandedOn, Hands, HandsFromFirst, from_first}

all-later : (low : ℕ) (rows : List Record) → AllByRecursion (λ r. low ≤ r.time) rows → at_least low rows ≡ rows
all-later low [] all = refl
all-later low (r ∷ rows) all = (λ i. cond (not (le-ltb r.time low all.0 i)) (r ∷ at_least low rows) (at_least low rows)) ∙ ap (λ l. r ∷ l) (all-later low rows all.1)

front-of : (P : Record → Type 0) (rows rest : List Record) → AllByRecursion P (rows ++ rest) → AllByRecursion P rows
front-of P [] rest all = tt
front-of P (r ∷ rows) rest all = (all.0, front-of P rows rest all.1)

-- rows of which those below low come first
earlier_first : (low : ℕ) (rows rest a b : List Record) → rows ++ rest ≡ a ++ b → AllByRecursion (λ r. r.time < low) a → AllByRecursion (λ r. low ≤ r.time) b → from_first low rows ≡ at_least low rows
earlier_first low [] rest a b are below above = refl
earlier_first low (r ∷ rows) rest [] b are below above =
    let all : AllByRecursion (λ s. low ≤ s.time) (r ∷ rows) = front-of (λ s. low ≤ s.time) (r ∷ rows) rest (subst (AllByRecursion (λ s. low ≤ s.time)) (sym are) above) in
    ap (λ b. cond b (from_first low rows) (r ∷ rows)) (le-ltb r.time low all.0) ∙ sym (all-later low (r ∷ rows) all)
earlier_first low (r ∷ rows) rest (x ∷ a) b are below above =
    let e : x ≡ r = sym (cc are) in
    let is = lt-ltb r.time low (subst (λ s. s.time < low) e below.0) in
    ap (λ b. cond b (from_first low rows) (r ∷ rows)) is ∙ earlier_first low rows rest a b (cc are) below.1 above ∙ sym (ap (λ b. cond (not b) (r ∷ at_least low rows) (at_least low rows)) is)

-- of the first of sorted rows, those from the first one on that is from low on are those from low on
pub sorted_from_first : (low : ℕ) (records rows rest : List Record) → sorted_records records ≡ rows ++ rest → from_first low rows ≡ at_least low rows
sorted_from_first low records rows rest are =
    earlier_first low rows rest (sorted_records (before low records)) (sorted_records (at_least low records)) (sym are ∙ sorted-split low records)
    (All-in_order (λ r. r.time < low) record_cmp (before low records) (before-low low records))
    (All-in_order (λ r. low ≤ r.time) record_cmp (at_least low records) (at_least-high low records))

-- so what is handed on of them from the first one on is what is handed on from low on
pub hands_sorted : {R : Type 0} (after : R → List Record → R → Type 0) (o p : HandedOn R) (records rows rest : List Record) → sorted_records records ≡ rows ++ rest → HandsFromFirst after o rows p → Hands after o rows p
hands_sorted after o p records rows rest are h = record { low = h.low; out = subst (λ l. after o.out l p.out) (sorted_from_first o.low records rows rest are) h.out }
