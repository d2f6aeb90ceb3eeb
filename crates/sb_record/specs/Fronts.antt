-- The line that bytes begin with, where it is a record or a watermark and a line feed stands behind it.
use Rattle.std.specs.Prelude.{◌≡◌, ℕ, List, ◌∷◌, ◌++◌, length, take, Ok}
use Rattle.sb_record.specs.declared.item.Item.{Item}
use Rattle.sb_record.specs.declared.item.Item.TheVariants.{Rec, Mark, Skip, Late}
use Rattle.sb_record.specs.declared.key.Keys.{Keys}
use Rattle.sb_record.specs.Progress.{Progress}
use Rattle.sb_record.specs.Lines.{IsTextOf}
use Rattle.sb_record.specs.Intake.{answer_to}

-- the byte behind a line
abbrev pub line_feed : ℕ
line_feed = 10

-- the line is a text of the item, which is a record or a watermark
abbrev pub IsPlainTextOf : Keys → Item → List ℕ → Type 0
IsPlainTextOf keys (Rec s r) line = IsTextOf keys (Rec s r) line
IsPlainTextOf keys (Mark s t) line = IsTextOf keys (Mark s t) line
IsPlainTextOf keys Skip line = ⊥
IsPlainTextOf keys (Late n t m) line = ⊥

-- a line feed stands behind so many bytes, and these are a text of the item, which is a record or a watermark
pub record IsFront (keys : Keys) (item : Item) (len : ℕ) (bytes : List ℕ) : Type 0 where
  pub line : List ℕ
  pub rest : List ℕ
  pub text : IsPlainTextOf keys item line
  pub whole : bytes ≡ line ++ line_feed ∷ rest
  pub size : len ≡ length line

-- the line at the front is accepted, after what the lines before it have said
pub record IsAcceptedFront (p : Progress) (item : Item) (len : ℕ) (bytes : List ℕ) : Type 0 where
  pub front : IsFront p.keys item len bytes
  pub accepted : answer_to p (take len bytes) ≡ Ok item
