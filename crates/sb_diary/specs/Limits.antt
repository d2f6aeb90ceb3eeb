-- The limit of a diary as a number.
use Rattle.std.specs.Prelude.{◌≡◌}
use Rattle.sb_diary.specs.declared.diary.TheConstants.{MAX_DIARY_LINES}

-- the most lines of a diary
pub record Limits : Type 0 where
  pub lines : MAX_DIARY_LINES ≡ 72057594037927936
