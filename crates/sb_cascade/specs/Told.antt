-- What a leaving tells in the trace, of a bundle or a closing.
use Rattle.std.specs.Prelude.{◌≡◌, ℕ, Bool, List, Option}
use Rattle.std.specs.declared.snapshot.Snapshot.{Snapshot}
use Rattle.sb_hand.specs.base.records.declared.item.Record.{Record}
use Rattle.sb_hand.specs.base.records.declared.item.Stream.{Stream}
use Rattle.sb_hand.specs.node.declared.closing.Closing.{Closing}
use Rattle.sb_hand.specs.work.declared.claim.Claim.{Claim}
use Rattle.sb_shared.specs.declared.telling.Change.{Change}
use Rattle.sb_shared.specs.declared.telling.Change.TheVariants.{Arrive, Take, Deliver, Finish, Begin, Rows, Pass, End}
use Rattle.sb_shared.specs.declared.telling.Change.TheVariants.{Drain}

abbrev pub Is : Change → Change → Type 0
Is told c = c ≡ told

abbrev pub IsArrival : Stream → List Record → Change → Type 0
IsArrival stream records c = (t : Snapshot (List Record)) × (c ≡ Arrive stream t) × (t.value ≡ records)

abbrev pub IsTake : Claim → Change → Type 0
IsTake claim c = (t : Snapshot Claim) × (link : Option ℕ) × (c ≡ Take t link) × (t.value ≡ claim)

abbrev pub IsDelivery : Claim → Change → Type 0
IsDelivery claim c = (t : Snapshot Claim) × (place : ℕ) × (c ≡ Deliver t place) × (t.value ≡ claim)

abbrev pub IsFinish : Claim → Bool → Change → Type 0
IsFinish claim delivered c = (t : Snapshot Claim) × (c ≡ Finish t delivered) × (t.value ≡ claim)

abbrev pub IsBeginning : Closing → Change → Type 0
IsBeginning closing c = (t : Snapshot Closing) × (passed : Bool) × (c ≡ Begin t passed) × (t.value ≡ closing)

abbrev pub AreRows : Closing → Change → Type 0
AreRows closing c =
    (t : Snapshot Closing) × (first most place : ℕ) × (c ≡ Rows t first most place) × (t.value ≡ closing)

abbrev pub IsPassing : Closing → Change → Type 0
IsPassing closing c = (t : Snapshot Closing) × (c ≡ Pass t) × (t.value ≡ closing)

abbrev pub IsEnd : Closing → Change → Type 0
IsEnd closing c = (t : Snapshot Closing) × (c ≡ End t) × (t.value ≡ closing)

abbrev pub IsDrain : List Record → Change → Type 0
IsDrain rows c = (t : Snapshot (List Record)) × (c ≡ Drain t) × (t.value ≡ rows)
