-- What the words of a table name.
use Rattle.std.proofs.Common.{◌≡◌, ℕ, map, List, [], ◌∷◌, Bool, true, false, cond, Option, Some, None, IfSome, Ok, Bor, refl, rules}
use Rattle.std.specs.Prelude.{bytes_eq}
use Rattle.std.specs.List.{AllByRecursion, find}
use Rattle.std.specs.Option.{option_map, option_or}
use Rattle.toml.specs.Data.{Members, as_str}
use Rattle.sb_pipeline.specs.windowed.declared.aggregate.Agg.{Agg}
use Rattle.sb_pipeline.specs.windowed.Aggregates.{GivesOne}
use Rattle.sb_plan.specs.declared.fault.PlanKey.TheVariants as key
use Rattle.sb_plan.specs.declared.words.KindName.{KindName}
use Rattle.sb_plan.specs.declared.words.KindName.TheVariants as kind
use Rattle.sb_plan.specs.Entries.{kind_at}
use Rattle.sb_plan.specs.Keys.{typed_at}
use Rattle.sb_plan.specs.Words.{named, aggregates, aggregate_named, other_kinds, kind_named, IsNamed}
use Rattle.sb_plan.proofs.Passed.{found, passed, some-is}

-- a look-up in a table of the program finds what one in the table of its texts does
pub found-named : {A : Type 0} (table : List (Bor (List ℕ) × A)) (text : List ℕ)
    → option_map (λ pair. pair.1) (find (λ pair. bytes_eq text pair.0.now) table) ≡ named (map (λ pair. (pair.0.now, pair.1)) table) text
found-named [] text = refl
found-named (pair ∷ table) text = by_case (bytes_eq text pair.0.now) (found-named table text)
  where
    by_case : (b : Bool) → option_map (λ pair. pair.1) (find (λ pair. bytes_eq text pair.0.now) table) ≡ named (map (λ pair. (pair.0.now, pair.1)) table) text
        → option_map (λ pair. pair.1) (cond b (Some pair) (find (λ pair. bytes_eq text pair.0.now) table)) ≡ cond b (Some pair.1) (named (map (λ pair. (pair.0.now, pair.1)) table) text)
    by_case true rest = refl
    by_case false rest = rest

-- what holds of all that stands beside the words of a table holds of what is named
named-all : {A : Type 0} (P : A → Type 0) (table : List (List ℕ × A)) (text : List ℕ) → AllByRecursion (λ pair. P pair.1) table → IfSome (named table text) P
named-all P [] text all = tt
named-all P (pair ∷ table) text all = by_case (bytes_eq text pair.0) (named-all P table text all.1)
  where
    by_case : (b : Bool) → IfSome (named table text) P → IfSome (cond b (Some pair.1) (named table text)) P
    by_case true rest = all.0
    by_case false rest = rest

pub gives-one : (text : List ℕ) → IfSome (aggregate_named text) GivesOne
unfolding aggregate_named
gives-one text = named-all GivesOne aggregates text (search rules)

-- a kind that is named gives one value where it aggregates
either : {A : Type 0} (P : A → Type 0) (o p : Option A) → IfSome o P → IfSome p P → IfSome (option_or o p) P
either P (Some a) p one other = one
either P None p one other = other

group-named : (o : Option Agg) → IfSome o GivesOne → IfSome (option_map (λ agg. kind.Group agg) o) IsNamed
group-named (Some agg) one = one
group-named None one = tt

kind-named : (text : List ℕ) → IfSome (kind_named text) IsNamed
unfolding kind_named
kind-named text =
    either IsNamed (named other_kinds text) (option_map (λ agg. kind.Group agg) (aggregate_named text))
    (named-all IsNamed other_kinds text (search rules)) (group-named (aggregate_named text) (gives-one text))

pub kind_at-named : (table : Members) (name : KindName) → kind_at table ≡ Ok name → IsNamed name
unfolding kind_at
kind_at-named table name h =
    let text = passed (typed_at as_str key.Kind table) _ name h in
    some-is IsNamed (kind_named text.0) name (found _ (kind_named text.0) name text.2) (kind-named text.0)
