use Rattle.std.proofs.Common.{◌≡◌, [], ◌∷◌, rules}
use Rattle.std.specs.Prelude.{codes}
use Rattle.sb_bundle.specs.declared.bundle.TheConstants.{MAX_BUNDLE}
use Rattle.sb_words.specs.declared.options.TheConstants.{MAX_WORKERS, MAX_PENDING}
use Rattle.sb_words.proofs.Numbers.{spells}
use Rattle.sb_words.proofs.setting.valued.Goals as goal

pub returns-then-eq-clause-some : goal.returns-then-eq-clause-some
returns-then-eq-clause-some c =
    let is = spells c.in_ok-workers.workers MAX_WORKERS c.args.value.now c.in_ok-workers.ensures in
    let name : c.args.name.now ≡ codes "--workers" = search rules in
    ((is.0, is.1), λ i. name i ∷ is.2 i ∷ [])

pub returns-then-eq-2-clause-some : goal.returns-then-eq-2-clause-some
returns-then-eq-2-clause-some c =
    let is = spells c.in_ok-bundle.bundle MAX_BUNDLE c.args.value.now c.in_ok-bundle.ensures in
    let name : c.args.name.now ≡ codes "--bundle" = search rules in
    ((is.0, is.1), λ i. name i ∷ is.2 i ∷ [])

pub returns-then-eq-3-clause-some : goal.returns-then-eq-3-clause-some
returns-then-eq-3-clause-some c =
    let is = spells c.in_ok-pending.pending MAX_PENDING c.args.value.now c.in_ok-pending.ensures in
    let name : c.args.name.now ≡ codes "--pending" = search rules in
    ((is.0, is.1), λ i. name i ∷ is.2 i ∷ [])
