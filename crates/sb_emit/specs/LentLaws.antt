-- The laws of an output that holds a sink under a name: it keeps the name, and what the sink has taken grows by the
-- text of rows. Each is proved here, where an implementation can name it.
use Rattle.std.proofs.Common.{◌≡◌, ℕ, ◌++◌, List, [], Option, refl, ◌∙◌}
use Rattle.std.specs.Io.KnownBytes.{Appends}
use Rattle.sb_record.specs.declared.item.Record.{Record}
use Rattle.sb_record.specs.Rows.{text_of}
use Rattle.sb_outside.specs.Sinks.{AppendsPrefix}
use Rattle.sb_emit.specs.TextLaws as text

module _ {N : Type 0} where
  -- the same name, and this text more
  abbrev pub After : N → N → Option (List ℕ) → Option (List ℕ) → List Record → Type 0
  After n n' a b l = (n' ≡ n) × Appends a b (text_of l)

  -- the same name, and a prefix of this text more
  abbrev pub Part : N → N → Option (List ℕ) → Option (List ℕ) → List Record → Type 0
  Part n n' a b l = (n' ≡ n) × AppendsPrefix a b (text_of l)

  pub after_none : (n : N) (a : Option (List ℕ)) → After n n a a []
  after_none n a = (refl, text.after_none a)

  pub after_more : (n n' n2 : N) (a b c : Option (List ℕ)) (l m : List Record) → After n n' a b l → After n' n2 b c m
      → After n n2 a c (l ++ m)
  after_more n n' n2 a b c l m h k = (k.0 ∙ h.0, text.after_more a b c l m h.1 k.1)

  pub part_later : (n n' n2 : N) (a b c : Option (List ℕ)) (l m : List Record) → After n n' a b l → Part n' n2 b c m
      → Part n n2 a c (l ++ m)
  part_later n n' n2 a b c l m h k = (k.0 ∙ h.0, text.part_later a b c l m h.1 k.1)

  pub part_of_all : (n n' : N) (a b : Option (List ℕ)) (l m : List Record) → After n n' a b l → Part n n' a b (l ++ m)
  part_of_all n n' a b l m h = (h.0, text.part_of_all a b l m h.1)

  pub part_of_more : (n n' : N) (a b : Option (List ℕ)) (l m : List Record) → Part n n' a b l → Part n n' a b (l ++ m)
  part_of_more n n' a b l m h = (h.0, text.part_of_more a b l m h.1)
