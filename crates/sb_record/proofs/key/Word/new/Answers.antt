use Rattle.std.proofs.Common.{◌≡◌, true, rules, ◌++◌, drop, length, replicate, refl, ap, sym, subst, ◌∙◌}
use Rattle.sb_record.specs.declared.key.TheConstants.{MAX_WORD_LENGTH}
use Rattle.sb_record.specs.Words.{is_word, IsPaddedWord}
use Rattle.sb_record.proofs.Padding.{padded_word, unpadded-padded, written}
use Rattle.sb_record.proofs.key.Word.new.Goals as goal

pub invariant_of-result : goal.invariant_of-result
invariant_of-result c =
    let word : is_word c.args.bytes.now ≡ true = search rules in
    subst IsPaddedWord (sym (ap (λ l. l ++ drop (length c.args.bytes.now) (replicate MAX_WORD_LENGTH 0)) c.copy_from_slice.ensures.after ∙ written c.args.bytes.now))
    (padded_word c.args.bytes.now word)

pub returns : goal.returns
returns c =
    let word : is_word c.args.bytes.now ≡ true = search rules in
    rw (c.copy_from_slice.ensures.after, written c.args.bytes.now, unpadded-padded c.args.bytes.now word, word) refl
