-- What loading a file gives, and what a folder keeps of a load that failed.
use Rattle.std.specs.Prelude.{◌≡◌, ℕ, List, [], ◌∷◌, ◌++◌, take, bytes_eq, if◌then◌else◌, Option, Some, None, Result, Ok, Err, MatchResult, ⊤}
use Rattle.sb_outside.specs.declared.folder.FolderFault.{FolderFault}
use Rattle.sb_outside.specs.declared.folder.FolderFault.TheVariants as fault

-- the files of a folder by name: their bytes, for names that are there
abbrev pub Files : Type 0
Files = List ℕ → Option (List ℕ)

-- the same files, but for the one of this name
abbrev pub without : List ℕ → Files → Files
without name files = λ other. if bytes_eq name other then None else files other

-- these are the bytes of the file of this name, if the folder's files are known
abbrev pub IsFile : Option Files → List ℕ → List ℕ → Type 0
IsFile None name bytes = ⊤
IsFile (Some files) name bytes = files name ≡ Some bytes

-- a load: the name of the file, and how many of its bytes are asked for at most
pub record Load : Type 0 where
  pub name : List ℕ
  pub most : ℕ

-- the first bytes of the file, at most so many, are appended; a refusal leaves the list as it was
abbrev pub Loads : {T E : Type 0} → Option Files → Load → List ℕ → List ℕ → Result T E → Type 0
Loads files load old new r =
    MatchResult r (λ _. (bytes : List ℕ) × IsFile files load.name bytes × (new ≡ old ++ take load.most bytes))
    (λ _. new ≡ old)

-- a load that fails is put behind those that failed before, and no other answer changes these: being out of memory is
-- no failure
abbrev pub ListsFailure : {T : Type 0} → Load → List Load → List Load → Result T FolderFault → Type 0
ListsFailure load before now (Ok x) = now ≡ before
ListsFailure load before now (Err fault.Failed) = now ≡ before ++ load ∷ []
ListsFailure load before now (Err fault.Memory) = now ≡ before
