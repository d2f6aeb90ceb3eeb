-- The laws of an output that prints: known bytes grow by the text of rows. Each is proved here, where an implementation
-- can name it.
use Rattle.std.proofs.Common.{◌≡◌, ℕ, ◌++◌, List, [], Option, sym, subst}
use Rattle.std.specs.Io.KnownBytes.{Appends}
use Rattle.std.proofs.KnownBytes.{Appends-nil, Appends-trans}
use Rattle.std.proofs.lemmas.List.Concat.{flat_map-append}
use Rattle.sb_record.specs.declared.item.Record.{Record}
use Rattle.sb_record.specs.Rows.{text_of, row_text}
use Rattle.sb_outside.specs.Sinks.{AppendsPrefix}
use Rattle.sb_outside.proofs.Appending.{prefix_of_all, prefix_of_more, prefix_later}

-- the text of rows and then of more rows
joined : (l m : List Record) → text_of l ++ text_of m ≡ text_of (l ++ m)
joined l m = sym (flat_map-append row_text l m)

pub after_none : (a : Option (List ℕ)) → Appends a a (text_of [])
after_none a = Appends-nil a

pub after_more : (a b c : Option (List ℕ)) (l m : List Record) → Appends a b (text_of l) → Appends b c (text_of m)
    → Appends a c (text_of (l ++ m))
after_more a b c l m h k = subst (Appends a c) (joined l m) (Appends-trans a b c (text_of l) (text_of m) h k)

pub part_later : (a b c : Option (List ℕ)) (l m : List Record) → Appends a b (text_of l) → AppendsPrefix b c (text_of m)
    → AppendsPrefix a c (text_of (l ++ m))
part_later a b c l m h k = subst (AppendsPrefix a c) (joined l m) (prefix_later a b c (text_of l) (text_of m) h k)

pub part_of_all : (a b : Option (List ℕ)) (l m : List Record) → Appends a b (text_of l)
    → AppendsPrefix a b (text_of (l ++ m))
part_of_all a b l m h = subst (AppendsPrefix a b) (joined l m) (prefix_of_all a b (text_of l) (text_of m) h)

pub part_of_more : (a b : Option (List ℕ)) (l m : List Record) → AppendsPrefix a b (text_of l)
    → AppendsPrefix a b (text_of (l ++ m))
part_of_more a b l m h = subst (AppendsPrefix a b) (joined l m) (prefix_of_more a b (text_of l) (text_of m) h)
