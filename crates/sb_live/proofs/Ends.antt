-- What the writer and the readers do keeps the rule.
use Rattle.std.proofs.Common.{◌≡◌, ◌≢◌, ℕ, List, [], ◌∷◌, ◌++◌, map, set, refl, sym, subst, inr, ⊎_elim, arith}
use Rattle.std.proofs.lemmas.List.{append-nil, append_assoc}
use Rattle.std.specs.Prelude.{fold}
use mathlib.Core.Option.{some}
use lib.ListN.{get_elem?}
use Rattle.crossbeam_utils.specs.Register.{Admits, TurnsAt, Forks, Merges}
use Rattle.atomic_table.proofs.Lists.{at_set, at_snoc}
use Rattle.sb_emit.specs.records.declared.item.Record.{Record}
use Rattle.sb_live.specs.declared.change.Change.{Change}
use Rattle.sb_live.specs.declared.change.Change.TheVariants.{Row, End}
use Rattle.sb_live.specs.declared.table.Table.{Table}
use Rattle.sb_live.specs.Changes.{AreCallsApart, IsPrefix, IsWhole, call_of, rows_in}
use Rattle.sb_live.specs.Rising.{RiseFrom, next_in}
use Rattle.sb_live.specs.Following.{Follows, Sees}
use Rattle.sb_live.proofs.Earlier.{call_apart, latest_in, last_below_next, rise_lower, rising_apart, rising_on, rows_in-call_of}

abbrev Rule : Table → List (List Change) → Type 0
Rule t = Follows t.changes

abbrev Lists : Type 0
Lists = List (List Change)

pub prefix_refl : (a : List Change) → IsPrefix a a
prefix_refl a = ([], append-nil a)

prefix_trans : (a b c : List Change) → IsPrefix a b → IsPrefix b c → IsPrefix a c
prefix_trans a b c p q = (p.0 ++ q.0, subst (λ (z : List Change). z ≡ c) (append_assoc a p.0 q.0) (subst (λ (z : List Change). z ++ q.0 ≡ c) (sym p.1) q.1))

-- every list still begins the changes where one of them is replaced
each_at : (changes : List Change) (lists : Lists) (seat : ℕ) (list : List Change)
    → ((j : ℕ) (l : List Change) → get_elem? lists j ≡ some l → IsPrefix l changes) → IsPrefix list changes
    → (j : ℕ) (l : List Change) → get_elem? (set lists seat list) j ≡ some l → IsPrefix l changes
each_at changes lists seat list each is j l at =
    ⊎_elim (λ (t : (j ≡ seat) × (list ≡ l)). subst (λ (z : List Change). IsPrefix z changes) t.1 is)
    (λ (t : (j ≢ seat) × (get_elem? lists j ≡ some l)). each j l t.1) (at_set lists seat j list l at)

-- a new reader knows no change
pub admits : Admits Rule []
admits x lists h = record {
  whole = h.whole;
  rising = h.rising;
  apart = h.apart;
  each = λ seat l at. ⊎_elim (h.each seat l) (λ (e : [] ≡ l). subst (λ (z : List Change). IsPrefix z x.changes) e (x.changes, refl)) (at_snoc lists [] l seat at);
}

-- an end looks at the table, whose changes have grown
turns : (seat : ℕ) (list : List Change) (x y : Table) → IsPrefix x.changes y.changes → (IsWhole x.changes → IsWhole y.changes)
    → (RiseFrom 0 (rows_in x.changes) → RiseFrom 0 (rows_in y.changes)) → (RiseFrom 0 (rows_in x.changes) → AreCallsApart x.changes → AreCallsApart y.changes)
    → TurnsAt Rule seat list x y (λ l x y. Sees l y.changes)
turns seat list x y up whole rising apart lists h at =
    let full = whole h.whole in let rises = rising h.rising in let parts = apart h.rising h.apart in (
      y.changes,
      record {
        whole = full;
        rising = rises;
        apart = parts;
        each = each_at y.changes lists seat y.changes (λ j l e. prefix_trans l x.changes y.changes (h.each j l e) up) (prefix_refl y.changes);
      },
      record { grows = prefix_trans list x.changes y.changes (h.each seat list at) up; whole = full; rising = rises; apart = parts; same = refl },
    )

-- a reader looks at the table
pub sees : (seat : ℕ) (list : List Change) (x : Table) → TurnsAt Rule seat list x x (λ l x y. Sees l y.changes)
sees seat list x = turns seat list x x (prefix_refl x.changes) (λ h. h) (λ h. h) (λ r h. h)

pub fold_snoc : (a xs : List Change) → fold (λ changes change. changes ++ change ∷ []) a xs ≡ a ++ xs
fold_snoc a [] = sym (append-nil a)
fold_snoc a (x ∷ xs) = subst (λ (z : List Change). fold (λ changes change. changes ++ change ∷ []) (a ++ x ∷ []) xs ≡ z) (append_assoc a (x ∷ []) xs) (fold_snoc (a ++ x ∷ []) xs)

call_whole : (before : List Change) (rows : List Record) → IsWhole (before ++ call_of rows)
call_whole before rows = inr (before ++ map Row rows, sym (append_assoc before (map Row rows) (End ∷ [])))

-- the writer publishes a call whose rows rise from above the last row
pub publishes : (seat : ℕ) (list : List Change) (x y : Table) (xs : List Change) (rows : List Record) → y.changes ≡ fold (λ changes change. changes ++ change ∷ []) x.changes xs
    → xs ≡ call_of rows → list ≡ x.changes → RiseFrom (next_in list) rows → TurnsAt Rule seat list x y (λ l x y. Sees l y.changes)
publishes seat list x y xs rows is logged known rising =
    let e : x.changes ++ call_of rows ≡ y.changes = subst (λ (z : List Change). x.changes ++ z ≡ y.changes) logged (subst (λ (z : List Change). z ≡ y.changes) (fold_snoc x.changes xs) (sym is)) in
    let above : RiseFrom (next_in x.changes) rows = subst (λ (z : List Change). RiseFrom (next_in z) rows) known rising in
    let rises = rise_lower (latest_in x.changes) (next_in x.changes) rows (last_below_next 0 0 (rows_in x.changes) (omega arith)) above in
    turns seat list x y (call_of rows, e) (λ h. subst IsWhole e (call_whole x.changes rows))
    (λ h. subst (λ (z : List Change). RiseFrom 0 (rows_in z)) e (rising_on x.changes (call_of rows) h (subst (RiseFrom (latest_in x.changes)) (sym (rows_in-call_of rows)) rises)))
    (λ r h. subst AreCallsApart e (call_apart x.changes rows h (rising_apart x.changes rows r above)))

-- the writer tells its list
pub forks : (seat : ℕ) (list : List Change) → Forks Rule seat list list list
forks seat list x lists h at =
    let is = h.each seat list at in
    record {
      whole = h.whole;
      rising = h.rising;
      apart = h.apart;
      each = λ j l e. ⊎_elim (each_at x.changes lists seat list h.each is j l) (λ (same : list ≡ l). subst (λ (z : List Change). IsPrefix z x.changes) same is) (at_snoc (set lists seat list) list l j e);
    }

-- a reader takes the list that it is told
pub merges : (seat : ℕ) (list : List Change) (other : ℕ) (told : List Change) → Merges Rule seat list other told told []
merges seat list other told x lists h at apart there =
    let is : IsPrefix told x.changes = ⊎_elim (λ (t : (other ≡ seat) × (told ≡ told)). absurd (apart t.0)) (λ (t : (other ≢ seat) × (get_elem? lists other ≡ some told)). h.each other told t.1) (at_set lists seat other told told there) in
    record {
      whole = h.whole;
      rising = h.rising;
      apart = h.apart;
      each = each_at x.changes (set lists seat told) other [] (each_at x.changes lists seat told h.each is) (x.changes, refl);
    }
