use Rattle.std.proofs.Common.{◌≡◌, List, map, sym, subst, ap, ◌∙◌}
use Rattle.std.specs.Prelude.{IfSome}
use Rattle.std.specs.List.{sum_by}
use Rattle.std.proofs.lemmas.List.Sorted.{sum_by-IsPermutation}
use Rattle.sb_runs.proofs.records.Sums.{IsReordered-map}
use Rattle.sb_aggregate.specs.Numbers.{ranked}
use Rattle.sb_aggregate.specs.declared.placing.Numbered.{Numbered}
use Rattle.sb_aggregate.proofs.ranking.sort_numbers.Goals as goal

pub returns-in_ok-numbers-in-Some : goal.returns-in_ok-numbers-in-Some
returns-in_ok-numbers-in-Some c f =
    let numbers : List Numbered = c.args.numbers.now.items in
    let all : map (ranked c.deref.result.now) c.in-Some.ranks.items ≡ c.deref.result.now = subst (λ o. IfSome o (λ ranks. map (ranked c.deref.result.now) ranks.items ≡ c.deref.result.now)) c.in-Some.is c.in_ok-ranks.ensures in
    ap (sum_by f) (c.in_ok-numbers-in-Some.ensures ∙ (λ i. map (ranked (c.deref-in-Some.ensures.value i)) (c.deref-in-Some-2.ensures.value i)))
    ∙ IsReordered-map (ranked numbers) c.sort_unstable.new.self.items c.in-Some.ranks.items (λ h. sum_by-IsPermutation h c.in-Some.ranks.items c.sort_unstable.new.self.items c.sort_unstable.ensures.permutation) f
    ∙ ap (sum_by f) (ap (λ ns. map (ranked ns) c.in-Some.ranks.items) (sym c.deref.ensures.value) ∙ all ∙ c.deref.ensures.value)

pub returns-in-None : goal.returns-in-None
returns-in-None c f = sum_by-IsPermutation f c.args.numbers.now.items c.sort_unstable_by_key.new.self.items c.sort_unstable_by_key.ensures.permutation
