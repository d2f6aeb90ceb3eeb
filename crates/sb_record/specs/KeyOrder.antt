-- The order of keys is total. It stands here because the type's order cites it.
use Rattle.std.specs.Prelude.{◌≡◌, refl}
use Rattle.std.specs.Ordering.{ordering_reverse, is_eq, is_gt}
use Rattle.std.specs.Cmp.{IsTotalOrder, nat_cmp_total}
use Rattle.std.specs.Cmp.Lexicographic.{nat_list_cmp_total}
use Rattle.std.specs.declared.cmp.Ordering.TheVariants.{Less, Equal}
use Rattle.std.proofs.Common.{true≢false, ap, sym}
use Rattle.sb_record.specs.declared.key.Key.{Key}
use Rattle.sb_record.specs.declared.key.Key.TheVariants.{Number, Word}
use Rattle.sb_record.specs.Keys.{key_cmp}

antisymm : (a b : Key) → key_cmp a b ≡ ordering_reverse (key_cmp b a)
antisymm (Number m) (Number n) = nat_cmp_total.antisymm m n
antisymm (Number m) (Word w) = refl
antisymm (Word v) (Number n) = refl
antisymm (Word v) (Word w) = nat_list_cmp_total.antisymm v w

trans : (a b c : Key) → key_cmp a b ≡ Less → key_cmp b c ≡ Less → key_cmp a c ≡ Less
trans (Number l) (Number m) (Number n) h k = nat_cmp_total.trans l m n h k
trans (Number l) (Number m) (Word w) h k = refl
trans (Number l) (Word v) (Number n) h k = absurd (true≢false (ap is_gt k))
trans (Number l) (Word v) (Word w) h k = refl
trans (Word u) (Number m) c h k = absurd (true≢false (ap is_gt h))
trans (Word u) (Word v) (Number n) h k = k
trans (Word u) (Word v) (Word w) h k = nat_list_cmp_total.trans u v w h k

congr : (a b c : Key) → key_cmp a b ≡ Equal → key_cmp a c ≡ key_cmp b c
congr (Number l) (Number m) (Number n) h = nat_cmp_total.congr l m n h
congr (Number l) (Number m) (Word w) h = refl
congr (Number l) (Word v) c h = absurd (true≢false (sym (ap is_eq h)))
congr (Word u) (Number m) c h = absurd (true≢false (sym (ap is_eq h)))
congr (Word u) (Word v) (Number n) h = refl
congr (Word u) (Word v) (Word w) h = nat_list_cmp_total.congr u v w h

pub key_cmp_total : IsTotalOrder key_cmp
key_cmp_total = record { antisymm = antisymm; trans = trans; congr = congr }
