-- What sinks take, and when they may refuse.
use Rattle.std.specs.Prelude.{◌≡◌, ◌≤◌, ℕ, Bool, true, false, List, ◌++◌, take, Result, Ok, Err, MatchResult, IsErrOf, OnOk}
use Rattle.std.specs.declared.option.Option.{Option}
use Rattle.std.specs.Io.KnownBytes.{Appends, Keeps}
use Rattle.sb_outside.specs.Sources.{Rose}
use Rattle.sb_outside.specs.declared.sink.SinkFault.{SinkFault}
use Rattle.sb_outside.specs.declared.sink.SinkFault.TheVariants as fault

-- what a sink counts: how many writes and flushes have failed, and how often it was out of memory; and whether it
-- refuses all that follows
pub record SinkState : Type 0 where
  pub faults : ℕ
  pub shortages : ℕ
  pub refuses : Bool

-- each refusal has risen its count, which never falls; a fault that was counted and not answered makes the sink refuse
-- all that follows
pub record SinkCause {T : Type 0} (before now : SinkState) (result : Result T SinkFault) : Type 0 where
  pub never_falls : before.faults ≤ now.faults
  pub never_short : before.shortages ≤ now.shortages
  pub keeps_refusing : before.refuses ≡ true → now.refuses ≡ true
  pub failed : IsErrOf result fault.Failed → Rose before.faults now.faults
  pub memory : IsErrOf result fault.Memory → Rose before.shortages now.shortages
  pub passed : OnOk result (now.refuses ≡ false → now.faults ≡ before.faults)

-- `Ok(n)` took the first n bytes, at least one, and a refusal took none
abbrev pub Takes : {E : Type 0} → Option (List ℕ) → Option (List ℕ) → Result ℕ E → List ℕ → Type 0
Takes old new r piece = MatchResult r (λ n. (1 ≤ n) × Appends old new (take n piece)) (λ _. Keeps old new)

-- known bytes grow by a prefix of these
pub record AppendsPrefix (old new : Option (List ℕ)) (bytes : List ℕ) : Type 0 where
  pub prefix : List ℕ
  pub rest : List ℕ
  pub whole : bytes ≡ prefix ++ rest
  pub appends : Appends old new prefix

-- all of the bytes were taken, or at a fault a prefix of them
abbrev pub WritesAll : {T E : Type 0} → Option (List ℕ) → Option (List ℕ) → List ℕ → Result T E → Type 0
WritesAll old new bytes (Ok x) = Appends old new bytes
WritesAll old new bytes (Err e) = AppendsPrefix old new bytes
