-- What the trace of a pass has more, after one call and then another.
use Rattle.std.proofs.Common.{Bool, List, [], ◌++◌, ap, sym, ◌∙◌, append-nil, append_assoc}
use Rattle.sb_cascade.specs.turn.declared.turns.Entry.{Entry}
use Rattle.sb_cascade.specs.declared.pass.CascadePass.{CascadePass}
use Rattle.sb_cascade.specs.shared.declared.telling.Change.{Change}
use Rattle.sb_cascade.specs.Calls.{view_of}
use Rattle.sb_worker.specs.Entries.{Gained, Gains, Grows, Has}
use Rattle.sb_worker.proofs.Counting.{has-after}

-- a pass that did nothing has no entries more
pub gains-none : (p : CascadePass) (A : List (Entry Change) → Type 0) → A [] → Gains A p p
gains-none p A a = ([], sym (append-nil (view_of p).trace), a)

-- the entries of two calls
pub gained-then : (p q r : CascadePass) (a b : List (Entry Change)) → Gained p q a → Gained q r b → Gained p r (a ++ b)
gained-then p q r a b s t = t ∙ ap (λ l. l ++ b) s ∙ append_assoc (view_of p).trace a b

-- and what holds of them
pub gains-then : (p q r : CascadePass) (A B C : List (Entry Change) → Type 0) → ((a b : List (Entry Change)) → A a → B b → C (a ++ b))
    → Gains A p q → Gains B q r → Gains C p r
gains-then p q r A B C both s t = (s.0 ++ t.0, gained-then p q r s.0 t.0 s.1 t.1, both s.0 t.0 s.2 t.2)

-- what holds of the entries in other words
pub gains-so : (p q : CascadePass) (A B : List (Entry Change) → Type 0) → ((a : List (Entry Change)) → A a → B a) → Gains A p q → Gains B p q
gains-so p q A B so s = (s.0, s.1, so s.0 s.2)

-- a trace that grew twice
pub grows-then : (p q r : CascadePass) → Grows p q → Grows q r → Grows p r
grows-then p q r s t = (s.0 ++ t.0, gained-then p q r s.0 t.0 s.1 t.1)

-- and what stands among the last entries stands among all
pub gains-after : (so : Entry Change → Bool) (p q r : CascadePass) → Grows p q → Gains (Has so) q r → Gains (Has so) p r
gains-after so p q r s t = (s.0 ++ t.0, gained-then p q r s.0 t.0 s.1 t.1, has-after so s.0 t.0 t.2)
