use Rattle.std.proofs.Common.{◌∷◌, [], ◌++◌, refl, take, sym, ap, ◌∙◌, arith}
use Rattle.std.proofs.lemmas.List.{take_more}
use Rattle.sb_base.specs.records.declared.item.Record.{Record}
use Rattle.sb_slow.specs.Gathered.{values_at, values_with}
use Rattle.sb_base.proofs.window.Gathering.{gathered-append}
use Rattle.sb_slow.proofs.gather.values_by_window.Goals as goal

pub loop-record-preserved : goal.loop-record-preserved
loop-record-preserved c =
    let i = c.loop-record.record-index in
    let records = c.args.records.now in
    let r : Record = c.record-item.result in
    λ q. c.in_ok-add_record.ensures q
    ∙ ap (λ o. values_with o (values_at c.args.windows.now (r ∷ []) q)) (c.loop-record.invariant q)
    ∙ sym (gathered-append (λ vs. vs) (λ vs ws. vs ++ ws) (λ v w vs ws. refl) c.args.windows.now q (take i records) (r ∷ []))
    ∙ ap (λ x. values_at c.args.windows.now (take i records ++ x ∷ []) q) c.record-item.is
    ∙ ap (λ l. values_at c.args.windows.now l q) (sym (take_more records i r (omega arith)))
