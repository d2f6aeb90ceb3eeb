-- What two runs come to once they are merged.
use Rattle.std.specs.Prelude.{List, [], ◌∷◌}
use Rattle.std.specs.declared.cmp.Ordering.{Ordering}
use Rattle.std.specs.declared.cmp.Ordering.TheVariants.{Less, Equal, Greater}
use Rattle.sb_window.specs.declared.keyed_window.KeyedWindow.{KeyedWindow}
use Rattle.sb_window.specs.Windows.{keyed_window_cmp}

-- the first entry of two runs that are merged, by how their first windows compare, before what is made of the rest
abbrev pub first_merged : {V : Type 0} → (V → V → V) → Ordering → KeyedWindow × V → KeyedWindow × V
    → List (KeyedWindow × V) → List (KeyedWindow × V) → List (KeyedWindow × V) → List (KeyedWindow × V)
first_merged join Less e f less equal greater = e ∷ less
first_merged join Equal e f less equal greater = (e.0, join e.1 f.1) ∷ equal
first_merged join Greater e f less equal greater = f ∷ greater

-- two runs as one, where entries of the same keyed window are joined
abbrev pub merged : {V : Type 0}
    → (V → V → V) → List (KeyedWindow × V) → List (KeyedWindow × V) → List (KeyedWindow × V)
merged join [] others = others
merged {V} join (e ∷ es) others = among (λ l. merged join es l) others
  where
    among : (List (KeyedWindow × V) → List (KeyedWindow × V)) → List (KeyedWindow × V) → List (KeyedWindow × V)
    among rest [] = e ∷ es
    among rest (f ∷ fs) = first_merged join (keyed_window_cmp e.0 f.0) e f (rest (f ∷ fs)) (rest fs) (among rest fs)
