-- What notes have taken.
use Rattle.std.specs.Prelude.{◌⊎◌, ℕ, List, Option}
use Rattle.std.specs.Io.KnownBytes.{Appends}
use Rattle.sb_feed.specs.outside.Sinks.{AppendsPrefix, SinkState}
use Rattle.sb_feed.specs.outside.Sources.{Rose}

-- a text was taken whole, or a prefix of it if the sink failed or was out of memory, which it has counted
abbrev pub HasNoted : Option (List ℕ) → Option (List ℕ) → SinkState → SinkState → List ℕ → Type 0
HasNoted taken taken' before now text =
    Appends taken taken' text
    ⊎ (AppendsPrefix taken taken' text × (Rose before.faults now.faults ⊎ Rose before.shortages now.shortages))
