-- Comments that a source can take off at the front of what it has left.
use Rattle.std.specs.Prelude.{ℕ, List, [], ◌∷◌, ◌++◌, flat_map, replicate}
use Rattle.sb_outside.specs.Lines.{line_feed}

-- a comment without words: `#`
abbrev pub comment_text : List ℕ
comment_text = 35 ∷ []

-- the bytes of so many of them, each a line
abbrev pub comment_lines : ℕ → List ℕ
comment_lines n = flat_map (λ line. line ++ line_feed ∷ []) (replicate n comment_text)
