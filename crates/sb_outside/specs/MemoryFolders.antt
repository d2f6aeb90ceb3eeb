-- What a folder in memory has, and when a load of it fails.
use Rattle.std.specs.Prelude.{ℕ, Bool, ◌||◌, List, [], map, Option, is_none, Vec, String, string_bytes, bytes_eq}
use Rattle.std.specs.BTreeMap.{BTreeMap}
use Rattle.std.specs.Map.{lookup}
use Rattle.sb_outside.specs.Folders.{Load}
use Rattle.sb_outside.specs.Schedules.{next_count, next_fails}

-- a file: its name and its bytes
abbrev pub File : Type 0
File = List ℕ × List ℕ

-- the files, the numbers of the loads that are to fail, how many loads there were, and which failed
pub record MemLoading : Type 0 where
  pub files : List File
  pub failing : List ℕ
  pub calls : ℕ
  pub failed : List Load

-- the files of a map from names to bytes
abbrev pub files_in : {Y A : Type 0} → BTreeMap (String Y) (Vec ℕ A) → List File
files_in m = map (λ e. (string_bytes e.0, e.1.items)) m.entries

-- before the first load
abbrev pub first_loading : List File → List ℕ → MemLoading
first_loading files failing = record { files = files; failing = failing; calls = 0; failed = [] }

-- the bytes of the file of this name, if there is one
abbrev pub file_named : List File → List ℕ → Option (List ℕ)
file_named files name = lookup (bytes_eq name) files

-- whether the next load fails: it is one of those that do, or there is no file of this name
abbrev pub load_fails : MemLoading → List ℕ → Bool
load_fails m name = next_fails m.failing m.calls || is_none (file_named m.files name)

-- the folder behind the next load, but for the list of those that failed
abbrev pub after_load : MemLoading → List Load → MemLoading
after_load m failed = record m { calls = next_count m.calls; failed = failed }
