-- What is read of the matches of clap: the rows of a command's argument and options.
use Rattle.std.specs.Prelude.{◌≡◌, ℕ, Bool, true, false, List, Option, Some, None, decimal, codes}
use Rattle.std.specs.Option.{option_map}
use Rattle.clap.specs.Words.{Row, Text, first_of, one_of}
use Rattle.sb_words.specs.declared.options.Options.{Options}
use Rattle.sb_words.specs.declared.options.TheConstants.{DEFAULT_WORKERS, DEFAULT_BUNDLE, DEFAULT_PENDING}
use Rattle.sb_words.specs.declared.request.Request.{Request}
use Rattle.sb_words.specs.Options.{AreInRange}
use Rattle.sb_words.specs.Words.{Asked, IsAmount, IsSize, asked_of}
use Rattle.sb_words.specs.Words.Asked.{Sum, Run, Slow, Audit, Work, Watch, Feeds, Part, Save, Resume}

-- a number that is spelled, or the default if none is
abbrev pub IsRead : ℕ → ℕ → Option Text → Type 0
IsRead n default (Some text) = text ≡ decimal n
IsRead n default None = n ≡ default

-- whether an option without a value is given
abbrev pub IsFlag : Bool → Option Text → Type 0
IsFlag true text = text ≡ Some (codes "true")
IsFlag false text = text ≡ Some (codes "false")

-- the rows say these options
pub record AreRead (options : Options) (rows : List Row) : Type 0 where
  pub in_range : AreInRange options
  pub workers : IsRead options.workers DEFAULT_WORKERS (first_of (codes "workers") rows)
  pub bundle : IsRead options.bundle DEFAULT_BUNDLE (first_of (codes "bundle") rows)
  pub pending : IsRead options.pending DEFAULT_PENDING (first_of (codes "pending") rows)
  pub diary : IsFlag options.diary (one_of (codes "diary") rows)
  pub taps : IsFlag options.taps (one_of (codes "taps") rows)

-- the subcommand and its rows say that this is asked for
abbrev pub IsReadAs : Asked → Option (Text × List Row) → Type 0
IsReadAs (Sum size options) (Some (name, rows)) =
    (name ≡ codes "sum") × (first_of (codes "argument") rows ≡ Some (decimal size)) × IsSize size × AreRead options rows
IsReadAs (Run plan options) (Some (name, rows)) =
    (name ≡ codes "run") × (first_of (codes "argument") rows ≡ Some plan) × AreRead options rows
IsReadAs (Slow plan) (Some (name, rows)) = (name ≡ codes "slow") × (first_of (codes "argument") rows ≡ Some plan)
IsReadAs Audit (Some (name, rows)) = name ≡ codes "audit"
IsReadAs (Work records options) (Some (name, rows)) =
    (name ≡ codes "work") × (first_of (codes "argument") rows ≡ Some (decimal records)) × IsAmount records
    × AreRead options rows
IsReadAs (Watch plan key options) (Some (name, rows)) =
    (name ≡ codes "watch") × (first_of (codes "argument") rows ≡ Some plan)
    × (first_of (codes "second") rows ≡ Some key) × AreRead options rows
IsReadAs (Feeds plan file_a file_b options) (Some (name, rows)) =
    (name ≡ codes "feeds") × (first_of (codes "argument") rows ≡ Some plan)
    × (first_of (codes "second") rows ≡ Some file_a) × (first_of (codes "third") rows ≡ Some file_b)
    × AreRead options rows
IsReadAs (Part plan options) (Some (name, rows)) =
    (name ≡ codes "part") × (first_of (codes "argument") rows ≡ Some plan) × AreRead options rows
IsReadAs (Save plan) (Some (name, rows)) = (name ≡ codes "save") × (first_of (codes "argument") rows ≡ Some plan)
IsReadAs (Resume plan checkpoint options) (Some (name, rows)) =
    (name ≡ codes "resume") × (first_of (codes "argument") rows ≡ Some plan)
    × (first_of (codes "second") rows ≡ Some checkpoint) × AreRead options rows
IsReadAs wanted None = ⊥

-- the answer is what the subcommand of this name and its rows say
abbrev pub IsReading : Option Request → Text → List Row → Type 0
IsReading answer name rows =
    (wanted : Asked) → IsReadAs wanted (Some (name, rows)) → option_map asked_of answer ≡ Some wanted
