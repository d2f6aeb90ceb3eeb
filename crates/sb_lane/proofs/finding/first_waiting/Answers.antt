use Rattle.std.proofs.Common.{◌≡◌, ℕ, [], sym, ap, ◌∙◌, arith, ⊎_elim}
use Rattle.std.proofs.lemmas.Bool.{cases_lt, eqb-true}
use Rattle.std.proofs.lemmas.List.{nil_from_length}
use Rattle.sb_containers.specs.declared.container.Cont.{Cont}
use Rattle.sb_lane.specs.Placed.{conts_of}
use Rattle.std.specs.Prelude.{slice_index_or}
use Rattle.sb_lane.proofs.finding.first_waiting.Goals as goal

pub loop-i-preserved : goal.loop-i-preserved
loop-i-preserved c = λ k d h. ⊎_elim (λ lt. c.loop-i.invariant k d lt) (λ ge. here k d (omega arith)) (cases_lt k c.loop-i.i)
  where
    here : (k : ℕ) (d : Cont) → k ≡ c.loop-i.i → (slice_index_or (conts_of c.args.containers.now) k d).waiting ≡ []
    here k d e =
        let x = c.get.result.now in
        let empty = eqb-true _ 0 (sym c.is_empty.ensures ∙ c.if-not-is_empty.false) in
        ap (λ k. (slice_index_or (conts_of c.args.containers.now) k d).waiting) e
        ∙ ap (λ (x : Cont). x.waiting) (c.get.ensures.cont d)
        ∙ nil_from_length x.waiting.items (omega (arith, empty, x.waiting.ok))
