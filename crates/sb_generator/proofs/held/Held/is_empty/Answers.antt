use Rattle.std.proofs.Common.{◌≡◌, ◌-◌, length, sym, ap, ◌∙◌, arith, eq-eqb}
use Rattle.std.proofs.lemmas.Bool.{eqb-true}
use Rattle.std.proofs.lemmas.List.{drop_all, length-drop}
use Rattle.sb_generator.proofs.held.Held.is_empty.Goals as goal

pub returns : goal.returns
returns c =
    let text = c.self.inside.text in
    let given = c.self.inside.given in (
      λ same. sym c.self.view_is ∙ drop_all given text (let e = eqb-true given c.len.result same in omega (arith, e, c.len.ensures.length)),
      λ none. let e : length text - given ≡ 0 = sym (length-drop given text) ∙ ap length (c.self.view_is ∙ none) in
          eq-eqb given c.len.result (omega (arith, e, c.len.ensures.length, c.self.invariant)),
    )
