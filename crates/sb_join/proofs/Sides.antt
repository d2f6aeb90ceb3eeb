-- The values of both sides of a keyed window.
use Rattle.std.proofs.Common.{◌≡◌, ℤ, Bool, true, false, cond, List, [], ◌∷◌, ◌++◌, map, Option, Some, None, append-nil, append_assoc, sym, refl, ap, ◌∙◌}
use Rattle.std.specs.Prelude.{◌||◌}
use Rattle.std.specs.List.{filter}
use Rattle.std.specs.Option.{is_some}
use Rattle.std.proofs.lemmas.List.{map-append}
use Rattle.std.proofs.lemmas.List.Elements.{filter-append}
use Rattle.sb_runs.specs.Runs.{IsAssociative}
use Rattle.sb_runs.specs.window.Gatherings.{joined_value}
use Rattle.sb_windowed.specs.declared.join.Side.{Side}
use Rattle.sb_join.specs.Entries.{Sided, same_side, of_side, values_at}

-- ---- values behind others
abbrev pub append : Sided → Sided → Sided
append v w = v ++ w

pub append-grouped : IsAssociative append
append-grouped u v w = append_assoc u v w

pub of_side-append : (side : Side) (vs ws : Sided) → of_side side (vs ++ ws) ≡ of_side side vs ++ of_side side ws
of_side-append side vs ws =
    ap (map (λ (v : Side × ℤ). v.1)) (filter-append (λ (v : Side × ℤ). same_side side v.0) vs ws)
    ∙ map-append (λ (v : Side × ℤ). v.1) (filter (λ (v : Side × ℤ). same_side side v.0) vs) (filter (λ (v : Side × ℤ). same_side side v.0) ws)

pub values_at-joined : (side : Side) (a b : Option Sided) → values_at side (joined_value append a b) ≡ values_at side a ++ values_at side b
values_at-joined side None b = refl
values_at-joined side (Some v) None = sym (append-nil (of_side side v))
values_at-joined side (Some v) (Some w) = of_side-append side v w

pub is_some-joined : (a b : Option Sided) → is_some (joined_value append a b) ≡ (is_some a || is_some b)
is_some-joined None b = refl
is_some-joined (Some v) None = refl
is_some-joined (Some v) (Some w) = refl

-- what is not there has no values
pub none-at : (side : Side) (o : Option Sided) → (is_some o ≡ true → ⊥) → values_at side o ≡ []
none-at side None none = refl
none-at side (Some v) none = absurd (none refl)

-- ---- values that all came on one side
abbrev pub on_side : Side → List ℤ → Sided
on_side side vs = map (λ v. (side, v)) vs

of_side-all : (s side : Side) → same_side s side ≡ true → (vs : List ℤ) → of_side s (on_side side vs) ≡ vs
of_side-all s side same [] = refl
of_side-all s side same (v ∷ vs) =
    ap (λ b. map (λ (v : Side × ℤ). v.1) (cond b ((side, v) ∷ filter (λ (v : Side × ℤ). same_side s v.0) (on_side side vs)) (filter (λ (v : Side × ℤ). same_side s v.0) (on_side side vs)))) same
    ∙ ap (λ ws. v ∷ ws) (of_side-all s side same vs)

of_side-none : (s side : Side) → same_side s side ≡ false → (vs : List ℤ) → of_side s (on_side side vs) ≡ []
of_side-none s side other [] = refl
of_side-none s side other (v ∷ vs) =
    ap (λ b. map (λ (v : Side × ℤ). v.1) (cond b ((side, v) ∷ filter (λ (v : Side × ℤ). same_side s v.0) (on_side side vs)) (filter (λ (v : Side × ℤ). same_side s v.0) (on_side side vs)))) other
    ∙ of_side-none s side other vs

pub of_side-on_side : (s side : Side) (vs : List ℤ) → of_side s (on_side side vs) ≡ cond (same_side s side) vs []
of_side-on_side s side vs = by_case (same_side s side) refl
  where
    by_case : (b : Bool) → same_side s side ≡ b → of_side s (on_side side vs) ≡ cond b vs []
    by_case true h = of_side-all s side h vs
    by_case false h = of_side-none s side h vs

pub on_side-append : (side : Side) (vs ws : List ℤ) → on_side side (vs ++ ws) ≡ on_side side vs ++ on_side side ws
on_side-append side vs ws = map-append (λ v. (side, v)) vs ws
