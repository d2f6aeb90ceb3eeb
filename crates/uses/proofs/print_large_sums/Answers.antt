use Rattle.std.proofs.Common.{[], ◌∷◌}
use Rattle.std.proofs.lemmas.List.Elements.{All-from_recursion}
use Rattle.sb_cli.specs.base.records.declared.key.Keys.TheVariants.{Numbers}
use Rattle.sb_cli.specs.base.records.Lines.{IsItemInRange}
use Rattle.uses.proofs.print_large_sums.Goals as goal

pub large_sums-requires-clause-range : goal.large_sums-requires-clause-range
large_sums-requires-clause-range g c =
    All-from_recursion (IsItemInRange Numbers) (c.event.result ∷ c.event-2.result ∷ c.event-3.result ∷ c.event-4.result ∷ c.event-5.result ∷ c.event-6.result ∷ [])
    (c.event.ensures, (c.event-2.ensures, (c.event-3.ensures, (c.event-4.ensures, (c.event-5.ensures, (c.event-6.ensures, tt))))))
