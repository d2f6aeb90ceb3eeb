-- The transform of a name among the earlier ones, found by its position.
use Rattle.std.proofs.Common.{◌≡◌, ◌<◌, sym, ℕ, zero, suc, Bool, true, false, List, [], ◌∷◌, length, get_or, Option, Some, None, Result, Ok, Err, set, refl, ap, ◌∙◌, arith}
use Rattle.std.specs.Prelude.{All, bytes_eq}
use Rattle.std.specs.List.{position}
use Rattle.std.proofs.lemmas.List.{get_or_default}
use Rattle.std.proofs.lemmas.List.Elements.{All-head, All-tail}
use Rattle.std.proofs.lemmas.List.Quantifiers.{position-Some}
use Rattle.sb_pipeline.specs.pardo.TableFiles.{then_test}
use Rattle.sb_pipeline.specs.declared.transform.Down.{Down}
use Rattle.sb_plan.specs.declared.entry.Entry.{Entry}
use Rattle.sb_plan.specs.declared.wiring.Wiring.{Wiring}
use Rattle.sb_plan.specs.declared.wiring.Part.{Part}
use Rattle.sb_plan.specs.declared.fault.PlanKey.{PlanKey}
use Rattle.sb_plan.specs.declared.fault.PlanCause.{PlanCause}
use Rattle.sb_plan.specs.declared.fault.PlanCause.TheVariants.{UnknownFrom}
use Rattle.sb_plan.proofs.Counting.{All-unfound}
use Rattle.sb_plan.specs.Wiring.{parts_with_down, place_if_unused, with_inputs, is_second_join, with_part, with_transform}

abbrev pub has_name : List ℕ → Part → Bool
has_name input part = bytes_eq part.name input

abbrev pub sent_at : PlanKey → Down → List Part → ℕ → Part → Result (List Part) PlanCause
sent_at k place ps i p = then_test (place_if_unused k place p.down) (λ down. Ok (set ps i (record p { down = down })))

at_first : (k : PlanKey) (input : List ℕ) (place : Down) (ps : List Part) (i : ℕ) (d : Part) → i < length ps → has_name input (get_or ps i d) ≡ true
    → ((j : ℕ) → j < i → has_name input (get_or ps j d) ≡ false) → parts_with_down k input place ps ≡ sent_at k place ps i (get_or ps i d)
at_first k input place [] i d within named before = absurd (omega arith)
at_first k input place (q ∷ qs) zero d within named before = rw named refl
at_first k input place (q ∷ qs) (suc i) d within named before =
    let other : has_name input q ≡ false = before 0 (omega arith) in
    rw other (rw (at_first k input place qs i d (omega arith) named (λ j h. before (suc j) (omega arith))) (by_case (get_or qs i d).down))
  where
    by_case : (o : Option Down) → then_test (then_test (place_if_unused k place o) (λ down. Ok (set qs i (record (get_or qs i d) { down = down })))) (λ rest. Ok (q ∷ rest))
        ≡ then_test (place_if_unused k place o) (λ down. Ok (q ∷ set qs i (record (get_or qs i d) { down = down })))
    by_case None = refl
    by_case (Some x) = refl

pub parts_with_down-at : (k : PlanKey) (input : List ℕ) (place : Down) (ps : List Part) (i : ℕ) (p : Part) → position (has_name input) ps ≡ Some i → p ≡ get_or ps i p
    → parts_with_down k input place ps ≡ sent_at k place ps i p
parts_with_down-at k input place ps i p found at =
    let first = position-Some (has_name input) ps i p found in
    at_first k input place ps i p first.0 first.1 first.2 ∙ ap (sent_at k place ps i) (sym at)

pub parts_with_down-none : (k : PlanKey) (input : List ℕ) (place : Down) (ps : List Part) → position (has_name input) ps ≡ None → parts_with_down k input place ps ≡ Err (UnknownFrom k)
parts_with_down-none k input place ps none = none_named ps (All-unfound (has_name input) ps none)
  where
    none_named : (ps : List Part) → All (λ p. has_name input p ≡ false) ps → parts_with_down k input place ps ≡ Err (UnknownFrom k)
    none_named [] others = refl
    none_named (q ∷ qs) others =
        let other : has_name input q ≡ false = All-head (λ p. has_name input p ≡ false) q qs others in
        rw other (rw (none_named qs (All-tail (λ p. has_name input p ≡ false) q qs others)) refl)

pub connected-passed : (entry : Entry) (wiring sent : Wiring) (node : ℕ) → is_second_join entry.kind wiring.parts ≡ false → node ≡ length wiring.parts
    → with_inputs node entry wiring ≡ Ok sent → with_transform entry wiring ≡ Ok (with_part entry sent)
unfolding with_transform
connected-passed entry wiring sent node single at passed = rw single (rw (sym at) (rw passed refl))

pub connected-refused : (entry : Entry) (wiring : Wiring) (node : ℕ) (cause : PlanCause) → is_second_join entry.kind wiring.parts ≡ false → node ≡ length wiring.parts
    → with_inputs node entry wiring ≡ Err cause → with_transform entry wiring ≡ Err cause
unfolding with_transform
connected-refused entry wiring node cause single at refused = rw single (rw (sym at) (rw refused refl))

-- the same, as the code finds it: the elements read from the list qs that it holds
pub parts_with_down-passed : (k : PlanKey) (input : List ℕ) (place : Down) (ps qs : List Part) (i : ℕ) (p q : Part) (down : Option Down) → position (has_name input) ps ≡ Some i → qs ≡ ps
    → p ≡ get_or qs i p → q ≡ get_or qs i q → Ok down ≡ place_if_unused k place p.down → parts_with_down k input place ps ≡ Ok (set qs i (record q { down = down }))
parts_with_down-passed k input place ps qs i p q down found same at_p at_q passed =
    let here : position (has_name input) qs ≡ Some i = ap (position (has_name input)) same ∙ found in
    let one : p ≡ q = at_p ∙ get_or_default qs i p q (position-Some (has_name input) qs i p here).0 ∙ sym at_q in
    let once : place_if_unused k place q.down ≡ Ok down = ap (λ r. place_if_unused k place r.down) (sym one) ∙ sym passed in
    ap (parts_with_down k input place) (sym same) ∙ parts_with_down-at k input place qs i q here at_q ∙ rw once refl

pub parts_with_down-refused : (k : PlanKey) (input : List ℕ) (place : Down) (ps qs : List Part) (i : ℕ) (p : Part) (cause : PlanCause) → position (has_name input) ps ≡ Some i → qs ≡ ps
    → p ≡ get_or qs i p → Err cause ≡ place_if_unused k place p.down → parts_with_down k input place ps ≡ Err cause
parts_with_down-refused k input place ps qs i p cause found same at refused =
    let once : place_if_unused k place p.down ≡ Err cause = sym refused in
    ap (parts_with_down k input place) (sym same) ∙ parts_with_down-at k input place qs i p (ap (position (has_name input)) same ∙ found) at ∙ rw once refl
