use Rattle.std.proofs.Common.{◌≡◌, ◌∙◌, ap, bytes_eq, rules}
use Rattle.std.specs.Option.{option_map}
use Rattle.std.specs.List.{find}
use Rattle.std.proofs.lemmas.Iterator.{YieldsList-from_slice}
use Rattle.std.proofs.lemmas.Iterator.Search.{find_from_yields_List}
use borrow.Author.Tests.{tests}
use Rattle.sb_plan.proofs.Naming.{found-named}
use Rattle.sb_plan.proofs.words.named.Goals as goal

pub returns : goal.returns
returns g c =
    let found : option_map (λ pair. pair.now) c.find.result ≡ find (λ pair. bytes_eq c.args.text.now pair.0.now) c.args.table.now =
    find_from_yields_List (λ pair. bytes_eq c.args.text.now pair.0.now) _ _ _ c.find.ensures.ran (YieldsList-from_slice c.args.table.now cc) (λ x b q k. search (rules, tests)) in
    let mapped : c.map.result ≡ option_map (λ pair. pair.1) (option_map (λ pair. pair.now) c.find.result) = search rules in
    mapped ∙ (ap (option_map (λ pair. pair.1)) found ∙ found-named c.args.table.now c.args.text.now)
