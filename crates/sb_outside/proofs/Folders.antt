-- What a look-up by name and a load give.
use Rattle.std.proofs.Common.{◌≡◌, ℕ, ◌+◌, ◌++◌, min, Bool, true, false, cond, List, [], ◌∷◌, length, take, drop, map, Option, Some, Vec, String, string_bytes, option_map, bytes_eq, nat_cmp, refl, sym, ap, ◌∙◌, arith, length-drop, take-add}
use Rattle.std.proofs.Math.Nat.{min_comm}
use Rattle.std.proofs.lemmas.List.{take_min}
use Rattle.std.specs.Cmp.Lexicographic.{slice_cmp}
use Rattle.std.specs.BTreeMap.{is_at}
use Rattle.std.specs.Map.{lookup}
use Rattle.std.proofs.lemmas.Map.Text.{is_eq-slice_cmp}

module _ {X Y : Type 0} (f : X → Y) where
  one_more : (b : Bool) (x : X) (o : Option X) (p : Option Y) → p ≡ option_map f o → cond b (Some (f x)) p ≡ option_map f (cond b (Some x) o)
  one_more true x o p e = refl
  one_more false x o p e = e

-- a map's files by name are its values by text
pub found : {Y A : Type 0} (es : List (String Y × Vec ℕ A)) (name : List ℕ)
    → lookup (bytes_eq name) (map (λ e. (string_bytes e.0, e.1.items)) es) ≡ option_map (λ v. v.items) (lookup (is_at (λ k. slice_cmp nat_cmp name (string_bytes k))) es)
found [] name = refl
found (e ∷ es) name =
    ap (λ b. cond b (Some e.1.items) (lookup (bytes_eq name) (map (λ e. (string_bytes e.0, e.1.items)) es))) (sym (is_eq-slice_cmp name (string_bytes e.0)))
    ∙ one_more (λ v. v.items) (is_at (λ k. slice_cmp nat_cmp name (string_bytes k)) e.0) e.1 _ _ (found es name)

-- all is what stands once `count` bytes were read behind old; new is that without what goes beyond `most` of them
pub first_appended : {start kept : ℕ} {old new : List ℕ} (count most : ℕ) (all : List ℕ) → start ≡ length old → take (length old) all ≡ old
    → length all ≡ start + count → kept ≡ min count most → new ≡ take (start + kept) all → new ≡ old ++ take most (drop start all)
first_appended {start} {kept} {old} count most all here begins size least cut =
    let read : length (drop start all) ≡ count = length-drop start all ∙ (omega (arith, size)) in
    cut ∙ take-add start kept all ∙ ap (λ l. l ++ take kept (drop start all)) (ap (λ n. take n all) here ∙ begins)
    ∙ ap (λ n. old ++ take n (drop start all)) (least ∙ min_comm count most ∙ ap (min most) (sym read)) ∙ ap (λ l. old ++ l) (take_min most (drop start all))
