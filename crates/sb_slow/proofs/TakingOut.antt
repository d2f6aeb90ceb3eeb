-- Lists that are taken out of what was sent, and what is then left to arrive.
use Rattle.std.proofs.Common.{◌≡◌, ◌<◌, ℕ, Bool, true, false, cond, eqb, List, [], ◌∷◌, ◌++◌, map, append-nil, Option, Some, None, refl, sym, ap, ◌∙◌, arith}
use Rattle.std.specs.Prelude.{◌==◌, ◌&&◌, not}
use Rattle.std.specs.List.{filter, AllByRecursion}
use Rattle.std.proofs.lemmas.Bool.{eqb-true, and_parts, false_from_ne_true}
use Rattle.std.proofs.lemmas.List.{map-append}
use Rattle.std.proofs.lemmas.List.Elements.{filter-append}
use Rattle.std.proofs.lemmas.List.Concat.{flat_map-append}
use Rattle.sb_base.specs.records.declared.item.Record.{Record}
use Rattle.sb_base.specs.records.declared.element.KeptRec.{KeptRec}
use Rattle.sb_base.specs.records.Elements.{on_lane, all_records, of_lane}
use Rattle.sb_base.proofs.records.OnLanes.{all_records-on_lane, All-all_records, All-of_lane}
use Rattle.sb_base.specs.pipeline.declared.transform.Down.{Down}
use Rattle.sb_base.specs.pipeline.declared.transform.Kind.{Kind}
use Rattle.sb_base.specs.pipeline.declared.transform.Kind.TheVariants.{Do, Group, Session, Join}
use Rattle.sb_base.specs.pipeline.Flow.{Sent, arrivals_at}
use Rattle.sb_base.specs.pipeline.Operators.{operator_of, output}
use Rattle.sb_base.specs.pipeline.Plans.{is_join}
use Rattle.sb_slow.specs.Taken.{first_lane, first_input, second_input, given_for}
use Rattle.sb_slow.specs.Sendings.{is_to, records_to, sent_elsewhere}

-- what a list brings to a node
abbrev brought : ℕ → Sent → List KeptRec
brought k s = cond (eqb s.down.node k) (on_lane s.down.lane s.records) []

of_lane-append : (lane : ℕ) (es fs : List KeptRec) → of_lane lane (es ++ fs) ≡ of_lane lane es ++ of_lane lane fs
of_lane-append lane es fs = ap all_records (filter-append (λ e. e.lane == lane) es fs) ∙ map-append (λ (e : KeptRec). e.rec) (filter (λ e. e.lane == lane) es) (filter (λ e. e.lane == lane) fs)

of_lane-on_lane : (lane l : ℕ) (records : List Record) (b : Bool) → eqb l lane ≡ b → cond b records [] ≡ of_lane lane (on_lane l records)
of_lane-on_lane lane l [] true e = refl
of_lane-on_lane lane l [] false e = refl
of_lane-on_lane lane l (r ∷ records) true e =
    ap (λ rest. r ∷ rest) (of_lane-on_lane lane l records true e)
    ∙ (λ i. all_records (cond (sym e i) (record { lane = l; rec = r } ∷ filter (λ e. e.lane == lane) (on_lane l records)) (filter (λ e. e.lane == lane) (on_lane l records))))
of_lane-on_lane lane l (r ∷ records) false e =
    of_lane-on_lane lane l records false e
    ∙ (λ i. all_records (cond (sym e i) (record { lane = l; rec = r } ∷ filter (λ e. e.lane == lane) (on_lane l records)) (filter (λ e. e.lane == lane) (on_lane l records))))

-- ---- what is taken
-- the records of all that arrives at a node
pub records_to-node : (k : ℕ) (sent : List Sent) → records_to k None sent ≡ all_records (arrivals_at k sent)
records_to-node k [] = refl
records_to-node k (s ∷ sent) = (λ i. here (eqb s.down.node k) i ++ records_to-node k sent i) ∙ sym (map-append (λ (e : KeptRec). e.rec) (brought k s) (arrivals_at k sent))
  where
    here : (b : Bool) → cond b s.records [] ≡ all_records (cond b (on_lane s.down.lane s.records) [])
    here true = sym (all_records-on_lane s.down.lane s.records) ∙ ap all_records (append-nil (on_lane s.down.lane s.records))
    here false = refl

-- those of a lane
records_to-lane : (k lane : ℕ) (sent : List Sent) → records_to k (Some lane) sent ≡ of_lane lane (arrivals_at k sent)
records_to-lane k lane [] = refl
records_to-lane k lane (s ∷ sent) = (λ i. here (eqb s.down.node k) i ++ records_to-lane k lane sent i) ∙ sym (of_lane-append lane (brought k s) (arrivals_at k sent))
  where
    here : (b : Bool) → cond (b && eqb s.down.lane lane) s.records [] ≡ of_lane lane (cond b (on_lane s.down.lane s.records) [])
    here true = of_lane-on_lane lane s.down.lane s.records (eqb s.down.lane lane) refl
    here false = refl

-- lane 1 once lane 0 is taken
lane_left : (k : ℕ) (sent : List Sent) → records_to k (Some 1) (sent_elsewhere k (Some 0) sent) ≡ records_to k (Some 1) sent
lane_left k [] = refl
lane_left k (s ∷ sent) = by_case (lane_left k sent) (is_to k (Some 0) s.down) refl
  where
    by_case : records_to k (Some 1) (sent_elsewhere k (Some 0) sent) ≡ records_to k (Some 1) sent → (b : Bool) → is_to k (Some 0) s.down ≡ b
        → records_to k (Some 1) (cond (not b) (s ∷ sent_elsewhere k (Some 0) sent) (sent_elsewhere k (Some 0) sent)) ≡ records_to k (Some 1) (s ∷ sent)
    by_case rest true e =
        let parts = and_parts (eqb s.down.node k) (eqb s.down.lane 0) e in
        rest ∙ (λ i. cond (sym parts.0 i && eqb (sym (eqb-true s.down.lane 0 parts.1) i) 1) s.records [] ++ records_to k (Some 1) sent)
    by_case rest false e = ap (λ l. cond (is_to k (Some 1) s.down) s.records [] ++ l) rest

-- nothing is left once all lanes are
none_left : (k : ℕ) (sent : List Sent) → records_to k (Some 1) (sent_elsewhere k None sent) ≡ []
none_left k [] = refl
none_left k (s ∷ sent) = by_case (none_left k sent) (eqb s.down.node k) refl
  where
    by_case : records_to k (Some 1) (sent_elsewhere k None sent) ≡ [] → (b : Bool) → eqb s.down.node k ≡ b
        → records_to k (Some 1) (cond (not b) (s ∷ sent_elsewhere k None sent) (sent_elsewhere k None sent)) ≡ []
    by_case rest true e = rest
    by_case rest false e = λ i. cond (e i && eqb s.down.lane 1) s.records [] ++ rest i

-- so a transform takes its inputs
pub first-taken : (kind : Kind) (k : ℕ) (lane : Option ℕ) (sent : List Sent) (taken : List Record) → lane ≡ first_lane kind → taken ≡ records_to k lane sent → taken ≡ first_input kind (arrivals_at k sent)
first-taken kind k lane sent taken is same = same ∙ ap (λ l. records_to k l sent) is ∙ by_case (is_join kind)
  where
    by_case : (b : Bool) → records_to k (cond b (Some 0) None) sent ≡ cond b (of_lane 0 (arrivals_at k sent)) (all_records (arrivals_at k sent))
    by_case true = records_to-lane k 0 sent
    by_case false = records_to-node k sent

pub second-taken : (kind : Kind) (k : ℕ) (lane : Option ℕ) (sent others : List Sent) (taken : List Record) → lane ≡ first_lane kind → others ≡ sent_elsewhere k lane sent → taken ≡ records_to k (Some 1) others
    → taken ≡ second_input kind (arrivals_at k sent)
second-taken kind k lane sent others taken is left same = same ∙ ap (records_to k (Some 1)) left ∙ ap (λ l. records_to k (Some 1) (sent_elsewhere k l sent)) is ∙ by_case (is_join kind)
  where
    by_case : (b : Bool) → records_to k (Some 1) (sent_elsewhere k (cond b (Some 0) None) sent) ≡ cond b (of_lane 1 (arrivals_at k sent)) []
    by_case true = lane_left k sent ∙ records_to-lane k 1 sent
    by_case false = none_left k sent

-- and gives for them what it gives for what arrives
pub given-output : (kind : Kind) (elements : List KeptRec) → given_for kind (first_input kind elements) (second_input kind elements) ≡ output (operator_of kind) elements
given-output (Do op) elements = refl
given-output (Group agg windows) elements = refl
given-output (Session agg gap) elements = refl
given-output (Join combine windows) elements = refl

pub All-first_input : (P : Record → Type 0) (kind : Kind) (elements : List KeptRec) → AllByRecursion (λ e. P e.rec) elements → AllByRecursion P (first_input kind elements)
All-first_input P kind elements all = by_case (is_join kind)
  where
    by_case : (b : Bool) → AllByRecursion P (cond b (of_lane 0 elements) (all_records elements))
    by_case true = All-of_lane P 0 elements all
    by_case false = All-all_records P elements all

pub All-second_input : (P : Record → Type 0) (kind : Kind) (elements : List KeptRec) → AllByRecursion (λ e. P e.rec) elements → AllByRecursion P (second_input kind elements)
All-second_input P kind elements all = by_case (is_join kind)
  where
    by_case : (b : Bool) → AllByRecursion P (cond b (of_lane 1 elements) [])
    by_case true = All-of_lane P 1 elements all
    by_case false = tt

-- ---- what is left
-- what arrives at a later node is as before
pub arriving-elsewhere : (k : ℕ) (lane : Option ℕ) (behind : ℕ) → k < behind → (sent : List Sent) → arrivals_at behind (sent_elsewhere k lane sent) ≡ arrivals_at behind sent
arriving-elsewhere k lane behind later [] = refl
arriving-elsewhere k lane behind later (s ∷ sent) = by_case (arriving-elsewhere k lane behind later sent) (is_to k lane s.down) refl
  where
    at_node : (lane : Option ℕ) → is_to k lane s.down ≡ true → eqb s.down.node k ≡ true
    at_node None e = e
    at_node (Some l) e = (and_parts (eqb s.down.node k) (eqb s.down.lane l) e).0

    by_case : arrivals_at behind (sent_elsewhere k lane sent) ≡ arrivals_at behind sent → (b : Bool) → is_to k lane s.down ≡ b
        → arrivals_at behind (cond (not b) (s ∷ sent_elsewhere k lane sent) (sent_elsewhere k lane sent)) ≡ arrivals_at behind (s ∷ sent)
    by_case rest true e =
        let here : s.down.node ≡ k = eqb-true s.down.node k (at_node lane e) in
        let not_there : eqb s.down.node behind ≡ false = false_from_ne_true _ (λ there. let same : s.down.node ≡ behind = eqb-true s.down.node behind there in omega (arith, here, same, later)) in
        rest ∙ (λ i. cond (sym not_there i) (on_lane s.down.lane s.records) [] ++ arrivals_at behind sent)
    by_case rest false e = ap (λ l. brought behind s ++ l) rest

-- and so it stays with one list more
pub arriving-more : (behind : ℕ) (left all : List Sent) (down : Down) (rows same : List Record) → arrivals_at behind left ≡ arrivals_at behind all → rows ≡ same
    → arrivals_at behind (left ++ record { down = down; records = rows } ∷ []) ≡ arrivals_at behind (all ++ record { down = down; records = same } ∷ [])
arriving-more behind left all down rows same before is =
    flat_map-append (brought behind) left (record { down = down; records = rows } ∷ [])
    ∙ (λ i. before i ++ arrivals_at behind (record { down = down; records = is i } ∷ []))
    ∙ sym (flat_map-append (brought behind) all (record { down = down; records = same } ∷ []))
