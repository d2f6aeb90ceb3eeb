-- How long windows are, and how far apart.
use Rattle.std.specs.Prelude.{◌≡◌, ℕ, ◌/◌, ◌%◌, ◌≤◌}
use Rattle.sb_window.specs.declared.windows.TheConstants.{MAX_SIZE, MAX_WINDOWS_OF_A_TIME}

-- windows of this size, whose ends are the multiples of every
pub record Spacing : Type 0 where
  pub size : ℕ
  pub every : ℕ

-- every divides the size, into at most 64 parts
pub record AreWindows (windows : Spacing) : Type 0 where
  pub some_size : 1 ≤ windows.size
  pub most_size : windows.size ≤ MAX_SIZE
  pub some_every : 1 ≤ windows.every
  pub divides : windows.size % windows.every ≡ 0
  pub most_windows : windows.size / windows.every ≤ MAX_WINDOWS_OF_A_TIME

-- fixed windows: each begins where the one before it ends
abbrev pub fixed_windows : ℕ → Spacing
fixed_windows size = record { size = size; every = size }
