-- What any cutter gives over a list of calls, and what it has afterwards.
use Rattle.std.proofs.Common.{◌≡◌, ℕ, ◌+◌, ◌<◌, ◌≤◌, Bool, true, false, List, [], ◌∷◌, ◌++◌, length, append-nil, append_assoc, length-append, sym, refl, ap, ◌∙◌, arith}
use Rattle.std.specs.Prelude.{◌==◌, if◌then◌else◌, filter, Some, None}
use Rattle.std.proofs.lemmas.Bool.Decides.{nat_tests}
use Rattle.std.proofs.lemmas.List.{length_push}
use Rattle.std.proofs.lemmas.List.Elements.{All-nil, All-cons}
use Rattle.sb_record.specs.declared.item.Record.{Record}
use Rattle.sb_bundle.specs.declared.bundle.Bundle.{Bundle}
use Rattle.sb_bundle.specs.Cutting.{Cutting}
use Rattle.sb_bundle.specs.Cuts.{first_cutting, bundle_of, bundle_of_some, after_mark, fills, after_record}
use Rattle.sb_bundle.specs.Calls.{Call, Push, Mark, records_of, records_in, and_then, bundles_by, after_all, parts_of, parts_in, records_in_order}
use Rattle.sb_bundle.specs.Laws.{AreCutAt, AreCutOf, AreFullOf, NoRecordIsLost, EndedEpochsAreCut, LastEpochIsCut}

-- the cutter with other records held
abbrev holding : List Record → Cutting → Cutting
holding held c = record c { held = held }

-- ---- no record is lost
-- the bundles given, joined, followed by what is held, are the records held before and those pushed, in order
abbrev pub Keeps : List Call → Cutting → Type 0
Keeps calls c = records_in_order (parts_of (bundles_by calls c)) ++ (after_all calls c).held ≡ c.held ++ records_of calls

pub keeps : (calls : List Call) (c : Cutting) → Keeps calls c
keeps [] c = sym (append-nil c.held)
keeps (Push r ∷ calls) c = by_case (fills r c) (keeps calls)
  where
    by_case : (full : Bool) → ((d : Cutting) → Keeps calls d)
        → let d : Cutting = holding (if full then [] else (c.held ++ r ∷ [])) c in
        records_in_order (parts_of (and_then (if full then Some (bundle_of c (c.held ++ r ∷ [])) else None) (bundles_by calls d))) ++ (after_all calls d).held ≡ c.held ++ (r ∷ records_of calls)
    by_case true later =
        append_assoc (c.held ++ r ∷ []) (records_in_order (parts_of (bundles_by calls (holding [] c)))) (after_all calls (holding [] c)).held
        ∙ ap (λ l. (c.held ++ r ∷ []) ++ l) (later (holding [] c))
        ∙ append_assoc c.held (r ∷ []) (records_of calls)
    by_case false later = later (holding (c.held ++ r ∷ []) c) ∙ append_assoc c.held (r ∷ []) (records_of calls)
keeps (Mark mark ∷ calls) c = by_case c.held (keeps calls (after_mark mark c))
  where
    by_case : (held : List Record) → Keeps calls (after_mark mark c)
        → records_in_order (parts_of (and_then (bundle_of_some c held) (bundles_by calls (after_mark mark c)))) ++ (after_all calls (after_mark mark c)).held ≡ held ++ records_of calls
    by_case [] later = later
    by_case (r ∷ rs) later =
        append_assoc (r ∷ rs) (records_in_order (parts_of (bundles_by calls (after_mark mark c)))) (after_all calls (after_mark mark c)).held ∙ ap (λ l. (r ∷ rs) ++ l) later

-- ---- epochs
-- the epoch never falls
pub epoch_grows : (calls : List Call) (c : Cutting) → c.epoch ≤ (after_all calls c).epoch
epoch_grows [] c = omega arith
epoch_grows (Push r ∷ calls) c = epoch_grows calls (after_record r c)
epoch_grows (Mark mark ∷ calls) c = let later = epoch_grows calls (after_mark mark c) in omega (arith, later)

-- no record is pushed in an epoch before the present one
no_records_before : (n now : ℕ) (calls : List Call) → n < now → records_in n now calls ≡ []
no_records_before n now [] past = refl
no_records_before n now (Push r ∷ calls) past = by_case (now == n) refl (no_records_before n now calls past)
  where
    by_case : (b : Bool) → (now == n) ≡ b → records_in n now calls ≡ [] → (if b then r ∷ records_in n now calls else records_in n now calls) ≡ []
    by_case true e later = absurd (grind (arith, nat_tests))
    by_case false e later = later
no_records_before n now (Mark mark ∷ calls) past = no_records_before n (now + 1) calls (omega arith)

-- ---- parts
along : (size : ℕ) (records more : List Record) (parts : List (List Record)) → records ≡ more → AreCutOf size records parts → AreCutOf size more parts
along size records more parts e cut = record { whole = cut.whole ∙ e; lengths = cut.lengths }

-- one more full part before the others
cut_cons : (size : ℕ) (part records : List Record) (parts : List (List Record)) → 1 ≤ size → length part ≡ size → AreCutOf size records parts → AreCutOf size (part ++ records) (part ∷ parts)
cut_cons size part records parts some full cut = record { whole = ap (λ l. part ++ l) cut.whole; lengths = lengths_cons parts cut.lengths }
  where
    lengths_cons : (parts : List (List Record)) → AreCutAt size parts → AreCutAt size (part ∷ parts)
    lengths_cons [] lengths = (omega arith, omega arith)
    lengths_cons (next ∷ more) lengths = (full, lengths)

-- no records make no part
cut_nil : (size : ℕ) (parts : List (List Record)) → 1 ≤ size → AreCutOf size [] parts → parts ≡ []
cut_nil size [] some cut = refl
cut_nil size (part ∷ []) some cut = absurd (omega (arith, cut.lengths.0, length-append part [], ap length cut.whole))
cut_nil size (part ∷ next ∷ more) some cut = absurd (omega (arith, cut.lengths.0, length-append part (records_in_order (next ∷ more)), ap length cut.whole))

-- what is held as an epoch ends is its last part, where no record is to come
cut_last : (size : ℕ) (held more : List Record) (parts : List (List Record)) → 1 ≤ length held → length held < size → more ≡ [] → AreCutOf size more parts → AreCutOf size (held ++ more) (held ∷ parts)
cut_last size held more parts some fewer e cut =
    let p : parts ≡ [] = cut_nil size parts (omega arith) (along size more [] parts e cut) in
    rw (e, p) (record { whole = refl; lengths = (some, omega arith) })

-- nothing before the records, either way
none_before : (b : Bool) (records : List Record) → (if b then [] else []) ++ records ≡ records
none_before true records = refl
none_before false records = refl

-- a record more, held or still to come
held_more : (now : Bool) (held : List Record) (r : Record) (rest : List Record) → (if now then (held ++ r ∷ []) else []) ++ rest ≡ (if now then held else []) ++ (if now then r ∷ rest else rest)
held_more true held r rest = append_assoc held (r ∷ []) rest
held_more false held r rest = refl

-- ---- epochs that have ended
-- the bundles of an ended epoch are the records held, where the epoch is the present one, and those still to come, cut
abbrev pub IsCutBy : ℕ → List Call → Cutting → Type 0
IsCutBy n calls c = AreCutOf c.size ((if c.epoch == n then c.held else []) ++ records_in n c.epoch calls) (parts_in n (bundles_by calls c))

pub ended : (n : ℕ) (calls : List Call) (c : Cutting) → length c.held < c.size → n < (after_all calls c).epoch → IsCutBy n calls c
ended n [] c fewer past = by_case (c.epoch == n) refl
  where
    by_case : (now : Bool) → (c.epoch == n) ≡ now → AreCutOf c.size ((if now then c.held else []) ++ []) []
    by_case true e = absurd (grind (arith, nat_tests))
    by_case false e = record { whole = refl; lengths = tt }
ended n (Push r ∷ calls) c fewer past = by_case (fills r c) refl (ended n calls) past
  where
    with_full : (now : Bool) (bundles : List Bundle) → length (c.held ++ r ∷ []) ≡ c.size
        → AreCutOf c.size ((if now then [] else []) ++ records_in n c.epoch calls) (parts_of bundles)
        → AreCutOf c.size ((if now then c.held else []) ++ (if now then r ∷ records_in n c.epoch calls else records_in n c.epoch calls)) (parts_of (if now then bundle_of c (c.held ++ r ∷ []) ∷ bundles else bundles))
    with_full true bundles full cut =
        along c.size _ _ _ (append_assoc c.held (r ∷ []) (records_in n c.epoch calls)) (cut_cons c.size (c.held ++ r ∷ []) (records_in n c.epoch calls) (parts_of bundles) (omega arith) full cut)
    with_full false bundles full cut = cut

    by_case : (full : Bool) → fills r c ≡ full → ((d : Cutting) → length d.held < d.size → n < (after_all calls d).epoch → IsCutBy n calls d)
        → let d : Cutting = holding (if full then [] else (c.held ++ r ∷ [])) c in
        n < (after_all calls d).epoch
        → AreCutOf c.size ((if c.epoch == n then c.held else []) ++ (if c.epoch == n then r ∷ records_in n c.epoch calls else records_in n c.epoch calls)) (parts_in n (and_then (if full then Some (bundle_of c (c.held ++ r ∷ [])) else None) (bundles_by calls d)))
    by_case true e later past =
        with_full (c.epoch == n) (filter (λ b. b.epoch == n) (bundles_by calls (holding [] c))) (grind (arith, nat_tests)) (later (holding [] c) (omega arith) past)
    by_case false e later past =
        along c.size _ _ _ (held_more (c.epoch == n) c.held r (records_in n c.epoch calls)) (later (holding (c.held ++ r ∷ []) c) (let l = length_push c.held r in grind (arith, nat_tests, l)) past)
ended n (Mark mark ∷ calls) c fewer past = by_held c.held fewer (along c.size _ _ _ (none_before ((c.epoch + 1) == n) (records_in n (c.epoch + 1) calls)) (ended n calls (after_mark mark c) (omega arith) past))
  where
    some : (held : List Record) (now : Bool) → (c.epoch == n) ≡ now → 1 ≤ length held → length held < c.size
        → AreCutOf c.size (records_in n (c.epoch + 1) calls) (parts_in n (bundles_by calls (after_mark mark c)))
        → AreCutOf c.size ((if now then held else []) ++ records_in n (c.epoch + 1) calls) (parts_of (if now then bundle_of c held ∷ filter (λ b. b.epoch == n) (bundles_by calls (after_mark mark c)) else filter (λ b. b.epoch == n) (bundles_by calls (after_mark mark c))))
    some held true e any fewer cut =
        cut_last c.size held (records_in n (c.epoch + 1) calls) (parts_in n (bundles_by calls (after_mark mark c))) any fewer (no_records_before n (c.epoch + 1) calls (grind (arith, nat_tests))) cut
    some held false e any fewer cut = cut

    by_held : (held : List Record) → length held < c.size → AreCutOf c.size (records_in n (c.epoch + 1) calls) (parts_in n (bundles_by calls (after_mark mark c)))
        → AreCutOf c.size ((if c.epoch == n then held else []) ++ records_in n (c.epoch + 1) calls) (parts_in n (and_then (bundle_of_some c held) (bundles_by calls (after_mark mark c))))
    by_held [] fewer cut = along c.size _ _ _ (sym (none_before (c.epoch == n) (records_in n (c.epoch + 1) calls))) cut
    by_held (r ∷ rs) fewer cut = some (r ∷ rs) (c.epoch == n) refl (omega arith) fewer cut

-- ---- the epoch that has not ended
full_along : (size : ℕ) (records more : List Record) (parts : List (List Record)) (rest : List Record) → records ≡ more → AreFullOf size records parts rest → AreFullOf size more parts rest
full_along size records more parts rest e full = record { whole = full.whole ∙ e; full = full.full; fewer = full.fewer }

-- one more full part before the others
full_cons : (size : ℕ) (part records : List Record) (parts : List (List Record)) (rest : List Record) → length part ≡ size → AreFullOf size records parts rest → AreFullOf size (part ++ records) (part ∷ parts) rest
full_cons size part records parts rest here full = record {
  whole = append_assoc part (records_in_order parts) rest ∙ ap (λ l. part ++ l) full.whole;
  full = All-cons (λ part. length part ≡ size) part parts here full.full;
  fewer = full.fewer;
}

-- the bundles of the last epoch are full, and with what is held in the end they are the records held, where the epoch is the present one, and those still to come
abbrev pub IsFullBy : ℕ → List Call → Cutting → Type 0
IsFullBy n calls c = AreFullOf c.size ((if c.epoch == n then c.held else []) ++ records_in n c.epoch calls) (parts_in n (bundles_by calls c)) (after_all calls c).held

pub last : (n : ℕ) (calls : List Call) (c : Cutting) → length c.held < c.size → n ≡ (after_all calls c).epoch → IsFullBy n calls c
last n [] c fewer is = by_case (c.epoch == n) refl
  where
    by_case : (now : Bool) → (c.epoch == n) ≡ now → AreFullOf c.size ((if now then c.held else []) ++ []) [] c.held
    by_case true e = record { whole = sym (append-nil c.held); full = All-nil (λ part. length part ≡ c.size); fewer = fewer }
    by_case false e = absurd (grind (arith, nat_tests))
last n (Push r ∷ calls) c fewer is = by_case (fills r c) refl (last n calls) is
  where
    with_full : (now : Bool) (bundles : List Bundle) (rest : List Record) → length (c.held ++ r ∷ []) ≡ c.size
        → AreFullOf c.size ((if now then [] else []) ++ records_in n c.epoch calls) (parts_of bundles) rest
        → AreFullOf c.size ((if now then c.held else []) ++ (if now then r ∷ records_in n c.epoch calls else records_in n c.epoch calls)) (parts_of (if now then bundle_of c (c.held ++ r ∷ []) ∷ bundles else bundles)) rest
    with_full true bundles rest here full =
        full_along c.size _ _ _ rest (append_assoc c.held (r ∷ []) (records_in n c.epoch calls)) (full_cons c.size (c.held ++ r ∷ []) (records_in n c.epoch calls) (parts_of bundles) rest here full)
    with_full false bundles rest here full = full

    by_case : (full : Bool) → fills r c ≡ full → ((d : Cutting) → length d.held < d.size → n ≡ (after_all calls d).epoch → IsFullBy n calls d)
        → let d : Cutting = holding (if full then [] else (c.held ++ r ∷ [])) c in
        n ≡ (after_all calls d).epoch
        → AreFullOf c.size ((if c.epoch == n then c.held else []) ++ (if c.epoch == n then r ∷ records_in n c.epoch calls else records_in n c.epoch calls)) (parts_in n (and_then (if full then Some (bundle_of c (c.held ++ r ∷ [])) else None) (bundles_by calls d))) (after_all calls d).held
    by_case true e later is =
        with_full (c.epoch == n) (filter (λ b. b.epoch == n) (bundles_by calls (holding [] c))) (after_all calls (holding [] c)).held (grind (arith, nat_tests)) (later (holding [] c) (omega arith) is)
    by_case false e later is =
        full_along c.size _ _ _ _ (held_more (c.epoch == n) c.held r (records_in n c.epoch calls)) (later (holding (c.held ++ r ∷ []) c) (let l = length_push c.held r in grind (arith, nat_tests, l)) is)
last n (Mark mark ∷ calls) c fewer is =
    by_held c.held (full_along c.size _ _ _ _ (none_before ((c.epoch + 1) == n) (records_in n (c.epoch + 1) calls)) (last n calls (after_mark mark c) (omega arith) is))
  where
    passed : c.epoch < n
    passed = let grown = epoch_grows calls (after_mark mark c) in omega (arith, grown)

    some : (held rest : List Record) (now : Bool) → (c.epoch == n) ≡ now
        → AreFullOf c.size (records_in n (c.epoch + 1) calls) (parts_in n (bundles_by calls (after_mark mark c))) rest
        → AreFullOf c.size ((if now then held else []) ++ records_in n (c.epoch + 1) calls) (parts_of (if now then bundle_of c held ∷ filter (λ b. b.epoch == n) (bundles_by calls (after_mark mark c)) else filter (λ b. b.epoch == n) (bundles_by calls (after_mark mark c)))) rest
    some held rest true e full = let p = passed in absurd (grind (arith, nat_tests, p))
    some held rest false e full = full

    by_held : (held : List Record) → AreFullOf c.size (records_in n (c.epoch + 1) calls) (parts_in n (bundles_by calls (after_mark mark c))) (after_all calls (after_mark mark c)).held
        → AreFullOf c.size ((if c.epoch == n then held else []) ++ records_in n (c.epoch + 1) calls) (parts_in n (and_then (bundle_of_some c held) (bundles_by calls (after_mark mark c)))) (after_all calls (after_mark mark c)).held
    by_held [] full = full_along c.size _ _ _ _ (sym (none_before (c.epoch == n) (records_in n (c.epoch + 1) calls))) full
    by_held (r ∷ rs) full = some (r ∷ rs) (after_all calls (after_mark mark c)).held (c.epoch == n) refl full

-- ---- the laws
pub new_keeps : NoRecordIsLost
new_keeps size calls = keeps calls (first_cutting size)

pub new_ended : EndedEpochsAreCut
new_ended size some calls n past = along size _ _ _ (none_before (0 == n) (records_in n 0 calls)) (ended n calls (first_cutting size) (omega arith) past)

pub new_last : LastEpochIsCut
new_last size some calls n is = full_along size _ _ _ _ (none_before (0 == n) (records_in n 0 calls)) (last n calls (first_cutting size) (omega arith) is)
