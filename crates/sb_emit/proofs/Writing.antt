-- How far a text is written to a sink.
use Rattle.std.proofs.Common.{ℕ, ◌≤◌, ◌+◌, ◌-◌, List, length, take, drop, Option, Ok, arith}
use Rattle.std.specs.Io.KnownBytes.{Appends}
use Rattle.std.proofs.lemmas.List.{length-drop, take_rest}
use Rattle.sb_outside.specs.Sinks.{SinkCause, SinkState}
use Rattle.sb_outside.proofs.Appending.{wrote_more}
use Rattle.sb_outside.proofs.SinkCauses.{calls_then, whatever_given}

-- the sink has taken the first bytes
pub record Writing (old now : Option (List ℕ)) (bytes : List ℕ) (written : ℕ) (before after : SinkState) : Type 0 where
  pub within : written ≤ length bytes
  pub taken : Appends old now (take written bytes)
  pub cause : SinkCause {T = ℕ} before after (Ok 0)

-- what a write is offered
abbrev pub rest_of : List ℕ → ℕ → List ℕ
rest_of bytes written = take (length bytes - written) (drop written bytes)

-- and takes some bytes more
pub writes_more : (old now now' : Option (List ℕ)) (bytes : List ℕ) (written count : ℕ) (before after later : SinkState) → Writing old now bytes written before after
    → count ≤ length (rest_of bytes written) → Appends now now' (take count (rest_of bytes written)) → SinkCause {T = ℕ} after later (Ok count) → Writing old now' bytes (written + count) before later
writes_more old now now' bytes written count before after later w bound appends cause =
    let few = rw (take_rest bytes written) at bound in
    record {
      within = omega (arith, few, w.within, length-drop written bytes);
      taken = wrote_more old now now' bytes written count w.taken (rw (take_rest bytes written) at appends);
      cause = whatever_given before later count 0 (calls_then before after later 0 (Ok count) w.cause cause);
    }
