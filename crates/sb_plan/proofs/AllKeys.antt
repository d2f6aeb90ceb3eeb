-- The keys of a table.
use Rattle.std.proofs.Common.{◌≡◌, ℕ, List, [], ◌∷◌, Bool, string_bytes, refl}
use Rattle.std.specs.List.{list_all}
use Rattle.std.specs.Map.{keys_of}
use Rattle.toml.specs.View.{members_view}
use Rattle.toml.proofs.Views.{Entry}
use Rattle.sb_plan.specs.Entries.{all_keys}

pub all_keys_view : (passes : List ℕ → Bool) (es : List Entry) → list_all (λ k. passes (string_bytes k)) (keys_of es) ≡ all_keys passes (members_view es)
all_keys_view passes [] = refl
all_keys_view passes (e ∷ es) = rw (all_keys_view passes es)
