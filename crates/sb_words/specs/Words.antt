-- The words that ask for something.
use Rattle.std.specs.Prelude.{◌≡◌, ◌≢◌, ◌≤◌, ℕ, false, List, [], ◌∷◌, IsTrue, decimal, codes}
use Rattle.sb_generator.specs.declared.pattern.TheConstants.{MAX_RECORDS}
use Rattle.sb_window.specs.records.Words.{is_word}
use Rattle.sb_window.specs.declared.windows.TheConstants.{MAX_SIZE}
use Rattle.sb_words.specs.declared.options.Options.{Options}
use Rattle.sb_words.specs.declared.request.Request.{Request}
use Rattle.sb_words.specs.declared.request.Request.TheVariants as request
use Rattle.sb_words.specs.Options.{AreOptions, AreInRange}

-- what users may ask for: sums over windows of a size; the rows of a plan from a file, by the engine or by the plain
-- program; the audit of a diary text; the summary of sums over so many records that are made; the last row of a key
-- over the rows of a plan; the rows of a plan over two files, one of each stream; the rows of a first part of an input,
-- or its checkpoint; or the rows of the rest, from a checkpoint
pub data Asked : Type 0 where
  Sum : (size : ℕ) → (options : Options) → Asked
  Run : (name : List ℕ) → (options : Options) → Asked
  Slow : (name : List ℕ) → Asked
  Audit : Asked
  Work : (records : ℕ) → (options : Options) → Asked
  Watch : (name key : List ℕ) → (options : Options) → Asked
  Feeds : (name file_a file_b : List ℕ) → (options : Options) → Asked
  Part : (name : List ℕ) → (options : Options) → Asked
  Save : (name : List ℕ) → Asked
  Resume : (name checkpoint : List ℕ) → (options : Options) → Asked

abbrev pub asked_of : Request → Asked
asked_of (request.Sum size options) = Sum size options
asked_of (request.Run name options) = Run name.now options
asked_of (request.Slow name) = Slow name.now
asked_of request.Audit = Audit
asked_of (request.Work records options) = Work records options
asked_of (request.Watch name key options) = Watch name.now key.now options
asked_of (request.Feeds name file_a file_b options) = Feeds name.now file_a.now file_b.now options
asked_of (request.Part name options) = Part name.now options
asked_of (request.Save name) = Save name.now
asked_of (request.Resume name checkpoint options) = Resume name.now checkpoint.now options

-- a size of windows that users may ask for
abbrev pub IsSize : ℕ → Type 0
IsSize size = (1 ≤ size) × (size ≤ MAX_SIZE)

-- how many records users may ask to be made
abbrev pub IsAmount : ℕ → Type 0
IsAmount records = (1 ≤ records) × (records ≤ MAX_RECORDS)

-- options that set sizes alone: no diary and no taps
pub record AreSizesAlone (options : Options) : Type 0 where
  pub no_diary : options.diary ≡ false
  pub no_taps : options.taps ≡ false

-- the name of a file, which is no option: it has at least one byte, and does not begin with `-`
abbrev pub IsFileName : List ℕ → Type 0
IsFileName [] = ⊥
IsFileName (byte ∷ bytes) = byte ≢ 45

-- a word that a record may have as its key, and that is no option: it does not begin with `-`
abbrev pub IsKeyWord : List ℕ → Type 0
IsKeyWord [] = ⊥
IsKeyWord (byte ∷ bytes) = (byte ≢ 45) × IsTrue (is_word (byte ∷ bytes))

-- what users may ask for
abbrev pub IsValid : Asked → Type 0
IsValid (Sum size options) = IsSize size × AreInRange options
IsValid (Run name options) = IsFileName name × AreInRange options
IsValid (Slow name) = IsFileName name
IsValid Audit = Unit {0}
IsValid (Work records options) = IsAmount records × AreInRange options × AreSizesAlone options
IsValid (Watch name key options) = IsFileName name × IsKeyWord key × AreInRange options × AreSizesAlone options
IsValid (Feeds name file_a file_b options) =
    IsFileName name × IsFileName file_a × IsFileName file_b × AreInRange options
IsValid (Part name options) = IsFileName name × AreInRange options × AreSizesAlone options
IsValid (Save name) = IsFileName name
IsValid (Resume name checkpoint options) =
    IsFileName name × IsFileName checkpoint × AreInRange options × AreSizesAlone options

-- the words are the command for this: the word of the command, its arguments, then options
abbrev pub IsCommand : Asked → List (List ℕ) → Type 0
IsCommand (Sum size options) (command ∷ argument ∷ words) =
    (command ≡ codes "sum") × (argument ≡ decimal size) × IsSize size × AreOptions options words
IsCommand (Run name options) (command ∷ argument ∷ words) =
    (command ≡ codes "run") × (argument ≡ name) × IsFileName name × AreOptions options words
IsCommand (Slow name) (command ∷ argument ∷ []) =
    (command ≡ codes "slow") × (argument ≡ name) × IsFileName name
IsCommand Audit (command ∷ []) = command ≡ codes "audit"
IsCommand (Work records options) (command ∷ argument ∷ words) =
    (command ≡ codes "work") × (argument ≡ decimal records) × IsAmount records × AreOptions options words
    × AreSizesAlone options
IsCommand (Watch name key options) (command ∷ argument ∷ second ∷ words) =
    (command ≡ codes "watch") × (argument ≡ name) × IsFileName name × (second ≡ key) × IsKeyWord key
    × AreOptions options words × AreSizesAlone options
IsCommand (Feeds name file_a file_b options) (command ∷ argument ∷ second ∷ third ∷ words) =
    (command ≡ codes "feeds") × (argument ≡ name) × IsFileName name × (second ≡ file_a) × IsFileName file_a
    × (third ≡ file_b) × IsFileName file_b × AreOptions options words
IsCommand (Part name options) (command ∷ argument ∷ words) =
    (command ≡ codes "part") × (argument ≡ name) × IsFileName name × AreOptions options words × AreSizesAlone options
IsCommand (Save name) (command ∷ argument ∷ []) =
    (command ≡ codes "save") × (argument ≡ name) × IsFileName name
IsCommand (Resume name checkpoint options) (command ∷ argument ∷ second ∷ words) =
    (command ≡ codes "resume") × (argument ≡ name) × IsFileName name × (second ≡ checkpoint) × IsFileName checkpoint
    × AreOptions options words × AreSizesAlone options
IsCommand wanted words = ⊥

-- the words are no command
abbrev pub IsNoCommand : List (List ℕ) → Type 0
IsNoCommand words = (wanted : Asked) → IsCommand wanted words → ⊥
