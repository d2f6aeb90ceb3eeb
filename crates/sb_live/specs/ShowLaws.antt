-- The laws of a live table as an output. Each is proved here, where its implementation can name it.
use Rattle.std.proofs.Common.{◌≡◌, ◌≤◌, ◌+◌, ◌++◌, ℕ, List, [], ◌∷◌, inl, inr, ⊎_elim, refl, sym, ap, subst, ◌∙◌, append_assoc, append-nil}
use Rattle.std.proofs.Math.Numerals.{suc-eq-add-one}
use Rattle.sb_emit.specs.records.declared.item.Record.{Record}
use Rattle.sb_emit.specs.Outputs.{AreApart}
use Rattle.sb_live.specs.declared.change.Change.{Change}
use Rattle.sb_live.specs.declared.change.Change.TheVariants.{Row, End}
use Rattle.sb_live.specs.Changes.{rows_in}
use Rattle.sb_live.specs.Rising.{RiseFrom, next_time, next_in}
use Rattle.sb_live.specs.Showings.{ShownRows, Shows, ShowsPrefix, ShowsAll, ShowsSome}

-- the rows of changes, and then of more changes
pub rows_in-append : (a b : List Change) → rows_in (a ++ b) ≡ rows_in a ++ rows_in b
rows_in-append [] b = refl
rows_in-append (Row r ∷ a) b = ap (λ (l : List Record). r ∷ l) (rows_in-append a b)
rows_in-append (End ∷ a) b = rows_in-append a b

pub next_time-append : (floor : ℕ) (a b : List Record) → next_time floor (a ++ b) ≡ next_time (next_time floor a) b
next_time-append floor [] b = refl
next_time-append floor (r ∷ a) b = next_time-append (r.time + 1) a b

-- the first of rows that rise, and the rest of them
pub rise_first : (floor : ℕ) (a b : List Record) → RiseFrom floor (a ++ b) → RiseFrom floor a
rise_first floor [] b h = tt
rise_first floor (r ∷ a) b h = (h.0, rise_first r.time a b h.1)

-- if the rest are apart from the first, they rise from above the last of these
pub rise_apart : (floor : ℕ) (a b : List Record) → AreApart a b → RiseFrom floor (a ++ b)
    → RiseFrom (next_time floor a) b
rise_apart floor [] b apart h = h
rise_apart floor (r ∷ []) [] apart h = tt
rise_apart floor (r ∷ []) (s ∷ b) apart h = (subst (λ n. n ≤ s.time) (suc-eq-add-one r.time) apart.0.0, h.1.1)
rise_apart floor (r ∷ s ∷ a) b apart h = rise_apart r.time (s ∷ a) b apart.1 h.1

-- from where the next rows rise after rows that were shown
pub next-shows : (o p : List Change) (l : List Record) → Shows o l p → next_in p ≡ next_time (next_in o) l
next-shows o p l h =
    ap (next_time 0) (ap rows_in h.grown ∙ rows_in-append o h.more ∙ ap (λ (x : List Record). rows_in o ++ x) h.shown)
    ∙ next_time-append 0 (rows_in o) l

-- ---- the changes alone
shows_none : (o : List Change) → Shows o [] o
shows_none o = record { more = []; grown = sym (append-nil o); shown = refl }

shows_more : (o p q : List Change) (l m : List Record) → Shows o l p → Shows p m q → Shows o (l ++ m) q
shows_more o p q l m h k =
    record {
      more = h.more ++ k.more;
      grown = k.grown ∙ ap (λ c. c ++ k.more) h.grown ∙ append_assoc o h.more k.more;
      shown = rows_in-append h.more k.more ∙ ap (λ x. x ++ rows_in k.more) h.shown ∙ ap (λ x. l ++ x) k.shown;
    }

prefix_later : (o p q : List Change) (l m : List Record) → Shows o l p → ShowsPrefix p m q → ShowsPrefix o (l ++ m) q
prefix_later o p q l m h k =
    record {
      prefix = l ++ k.prefix;
      rest = k.rest;
      whole = ap (λ x. l ++ x) k.whole ∙ sym (append_assoc l k.prefix k.rest);
      shows = shows_more o p q l k.prefix h k.shows;
    }

prefix_of_more : (o p : List Change) (l m : List Record) → ShowsPrefix o l p → ShowsPrefix o (l ++ m) p
prefix_of_more o p l m h =
    record {
      prefix = h.prefix;
      rest = h.rest ++ m;
      whole = ap (λ x. x ++ m) h.whole ∙ append_assoc h.prefix h.rest m;
      shows = h.shows;
    }

-- ---- the output
pub after_none : (o : ShownRows) → ShowsAll o [] o
after_none o = record { shows = shows_none o.out.changes; faultless = refl }

pub after_more : (o p q : ShownRows) (l m : List Record) → ShowsAll o l p → ShowsAll p m q → ShowsAll o (l ++ m) q
after_more o p q l m h k =
    record { shows = shows_more _ _ _ l m h.shows k.shows; faultless = k.faultless ∙ h.faultless }

-- the only law that needs to know that the calls are apart
pub part_later : (o p q : ShownRows) (l m : List Record) → AreApart l m → ShowsAll o l p → ShowsSome p m q
    → ShowsSome o (l ++ m) q
part_later o p q l m apart h k =
    record {
      shows = prefix_later _ _ _ l m h.shows k.shows;
      falls =
          ⊎_elim (λ (e : q.faults ≡ p.faults). inl (e ∙ h.faultless))
          (λ (not_rising : RiseFrom (next_in p.out.changes) m → ⊥). inr (λ rise. not_rising (rises_on rise))) k.falls;
    }
  where
    rises_on : RiseFrom (next_in o.out.changes) (l ++ m) → RiseFrom (next_in p.out.changes) m
    rises_on rise =
        subst (λ t. RiseFrom t m) (sym (next-shows o.out.changes p.out.changes l h.shows))
        (rise_apart (next_in o.out.changes) l m apart rise)

pub part_of_all : (o p : ShownRows) (l m : List Record) → ShowsAll o l p → ShowsSome o (l ++ m) p
part_of_all o p l m h =
    record { shows = record { prefix = l; rest = m; whole = refl; shows = h.shows }; falls = inl h.faultless }

pub part_of_more : (o p : ShownRows) (l m : List Record) → ShowsSome o l p → ShowsSome o (l ++ m) p
part_of_more o p l m h =
    record {
      shows = prefix_of_more _ _ l m h.shows;
      falls =
          ⊎_elim (λ (e : p.faults ≡ o.faults). inl e)
          (λ (not_rising : RiseFrom (next_in o.out.changes) l → ⊥).
          inr (λ rise. not_rising (rise_first (next_in o.out.changes) l m rise))) h.falls;
    }
