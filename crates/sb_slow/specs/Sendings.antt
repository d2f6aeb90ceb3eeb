-- Lists that were sent, by where they go.
use Rattle.std.specs.Prelude.{ℕ, Bool, not, ◌==◌, ◌&&◌, List, [], if◌then◌else◌, filter, flat_map, Option, Some, None}
use Rattle.sb_base.specs.records.declared.item.Record.{Record}
use Rattle.sb_base.specs.pipeline.declared.transform.Down.{Down}
use Rattle.sb_base.specs.pipeline.Flow.{Sent}

-- whether the place is this lane of the node, or where no lane is named any lane of it
abbrev pub is_to : ℕ → Option ℕ → Down → Bool
is_to node None place = place.node == node
is_to node (Some lane) place = (place.node == node) && (place.lane == lane)

-- the records that were sent there
abbrev pub records_to : ℕ → Option ℕ → List Sent → List Record
records_to node lane sent = flat_map (λ s. if is_to node lane s.down then s.records else []) sent

-- the lists that were sent elsewhere
abbrev pub sent_elsewhere : ℕ → Option ℕ → List Sent → List Sent
sent_elsewhere node lane sent = filter (λ s. not (is_to node lane s.down)) sent
