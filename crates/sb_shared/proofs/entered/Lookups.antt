-- A list that is read by one function and by another.
use Rattle.std.proofs.Common.{◌≡◌, ℕ, zero, suc, List, [], ◌∷◌, map, refl, sym, ap, Some}
use Rattle.std.specs.Prelude.{slice_get}
use mathlib.Core.Option.{some, some-injective, some-ne-none}
use lib.ListN.{get_elem?}

-- what is there by `get_elem?` is there by `slice_get`
pub slice_at : {X : Type 0} (l : List X) (k : ℕ) (x : X) → get_elem? l k ≡ some x → slice_get l k ≡ Some x
slice_at [] k x e = absurd (some-ne-none x (sym e))
slice_at (y ∷ l) zero x e = ap Some (some-injective y x e)
slice_at (y ∷ l) (suc k) x e = slice_at l k x e

-- what is there of the images is the image of what is there
pub image_at : {X Y : Type 0} (f : X → Y) (l : List X) (k : ℕ) (y : Y) → get_elem? (map f l) k ≡ some y → (x : X) × (slice_get l k ≡ Some x) × (f x ≡ y)
image_at f [] k y e = absurd (some-ne-none y (sym e))
image_at f (x ∷ l) zero y e = (x, refl, some-injective (f x) y e)
image_at f (x ∷ l) (suc k) y e = image_at f l k y e
