-- How a read of one row goes through all the rows of a text.
use Rattle.std.proofs.Common.{◌≡◌, ◌≤◌, ◌<◌, ◌-◌, ℕ, zero, suc, List, [], ◌∷◌, ◌++◌, length, Bool, true, false, cond, Option, Some, None, refl, sym, ◌∙◌, arith, inl, inr}
use Rattle.std.specs.Prelude.{◌==◌, ◌||◌}
use Rattle.std.proofs.lemmas.Bool.{cases_Bool, false≢true}
use Rattle.std.proofs.lemmas.Option.{same_Some}
use Rattle.csv.specs.Machine.{Read, ends_at_end, fields_after, in_field, is_end, next_record, start_field, start_record, step}
use Rattle.csv.specs.Reading.{AreRecords, NextIs, ReadRecord, Reached, ReadsNext, default_config, pending_of, reader_state, records_from, took_first}
use Rattle.csv.specs.declared.parser.Action.{Action}
use Rattle.csv.specs.declared.parser.Action.TheVariants as act
use Rattle.csv.specs.declared.parser.Config.{Config}
use Rattle.csv.specs.declared.parser.State.{State}
use Rattle.csv.specs.declared.parser.State.TheVariants as st
use Rattle.std.specs.Borrow.{Bor}
use Rattle.sb_pardo.specs.TableFiles.{Fields}
use Rattle.sb_pardo.specs.TableReading.{FindsRow, HasRows, TextReader}

-- whether the state stands between two records
abbrev starts_record : State → Bool
starts_record st.StartRecord = true
starts_record st.AfterCr = true
starts_record state = false

-- where the action ends a record, the state stands between two
abbrev Ends : State × Action → Type 0
Ends p = is_end p.1 ≡ true → starts_record p.0 ≡ true

or_else : (q : Bool) (s : State) (a : Action) (p : State × Action) → is_end a ≡ false → Ends p → Ends (cond q (s, a) p)
or_else true s a p stays h = λ e. absurd (false≢true (sym stays ∙ e))
or_else false s a p stays h = h

at_end : (q d : Bool) → Ends (cond q (cond d st.AfterCr st.StartRecord, act.EndRecord) (st.InField, act.Copy))
at_end true true = λ e. refl
at_end true false = λ e. refl
at_end false d = λ e. absurd (false≢true e)

in_field-ends : (c : ℕ) → Ends (in_field default_config c)
in_field-ends c = or_else (c == 44) st.StartField act.EndField _ refl (at_end ((c == 13) || (c == 10)) (c == 13))

start_field-ends : (c : ℕ) → Ends (start_field default_config c)
start_field-ends c = or_else (c == 34) st.InQuoted act.Skip _ refl (in_field-ends c)

start_record-ends : (c : ℕ) → Ends (start_record default_config c)
start_record-ends c = or_else ((c == 13) || (c == 10)) st.StartRecord act.Skip _ refl (start_field-ends c)

step-ends : (s : State) (c : ℕ) → Ends (step default_config s c)
step-ends st.StartRecord c = start_record-ends c
step-ends st.StartField c = start_field-ends c
step-ends st.InField c = in_field-ends c
step-ends st.InQuoted c = or_else (c == 34) st.AfterQuote act.Skip _ refl (λ e. absurd (false≢true e))
step-ends st.InEscape c = λ e. absurd (false≢true e)
step-ends st.AfterQuote c = or_else (c == 34) st.InQuoted act.Copy _ refl (in_field-ends c)
step-ends st.InComment c = or_else (c == 10) st.StartRecord act.Skip (st.InComment, act.Skip) refl (λ e. absurd (false≢true e))
step-ends st.AfterCr c = or_else (c == 10) st.StartRecord act.Skip _ refl (start_record-ends c)

-- after a record the state stands between two, and at least a byte was taken, where there was one
record Later (xs : List ℕ) (p : Read) : Type 0 where
  pub between : starts_record p.1 ≡ true
  pub fewer : length p.2 ≤ length xs - 1

later_same : (xs : List ℕ) (p q : Read) → Some p ≡ Some q → Later xs p → Later xs q
later_same xs p q e h = let same = same_Some p q e in rw (← same) h

later_at_end : (b : Bool) (f : Fields) (p : Read) → cond b (Some (f, st.StartRecord, [])) None ≡ Some p → Later [] p
later_at_end true f p e = later_same [] (f, st.StartRecord, []) p e (record { between = refl; fewer = omega arith })
later_at_end false f p e = cc

next_record-later : (xs : List ℕ) (s : State) (fields : Fields) (field : List ℕ) (p : Read) → next_record default_config s fields field xs ≡ Some p → Later xs p
unfolding next_record
next_record-later [] s fields field p e = later_at_end (ends_at_end s) (fields ++ (field ∷ [])) p e
next_record-later (c ∷ rest) s fields field p e =
    elim (cases_Bool (is_end (step default_config s c).1)) [
      | inl ends ↦ later_same (c ∷ rest) (fields_after (step default_config s c).1 fields field, (step default_config s c).0, rest) p (rw ends at e)
          (record { between = step-ends s c ends; fewer = omega arith })
      | inr goes ↦
          let h = next_record-later rest _ _ _ p (rw goes at e) in
          record { between = h.between; fewer = omega (arith, h.fewer) }
    ]

-- between two records, no byte gives no record
next_record-none : (s : State) → starts_record s ≡ true → next_record default_config s [] [] [] ≡ None
unfolding next_record
next_record-none st.StartRecord h = refl
next_record-none st.AfterCr h = refl
next_record-none st.StartField h = absurd (false≢true h)
next_record-none st.InField h = absurd (false≢true h)
next_record-none st.InQuoted h = absurd (false≢true h)
next_record-none st.InEscape h = absurd (false≢true h)
next_record-none st.AfterQuote h = absurd (false≢true h)
next_record-none st.InComment h = absurd (false≢true h)

-- the records of a text are what reads give, one after another
pub all_records : (n : ℕ) (s : State) (xs : List ℕ) → starts_record s ≡ true → length xs < n → AreRecords default_config s xs (records_from default_config n s xs)
unfolding records_from Reached
all_records zero s xs between far = absurd (omega arith)
all_records (suc n) s [] between far = let none = next_record-none s between in rw none (s, [], (refl, refl), none)
all_records (suc n) s (c ∷ rest) between far = go (next_record default_config s [] [] (c ∷ rest)) refl
    (λ s2 ys between2 fewer. all_records n s2 ys between2 (omega arith))
  where
    go : (o : Option Read) → next_record default_config s [] [] (c ∷ rest) ≡ o
        → ((s2 : State) (ys : List ℕ) → starts_record s2 ≡ true → length ys ≤ length rest → AreRecords default_config s2 ys (records_from default_config n s2 ys))
        → AreRecords default_config s (c ∷ rest) (records_from default_config (suc n) s (c ∷ rest))
    go None e more = rw e (s, c ∷ rest, (refl, refl), e)
    go (Some p) e more =
        let later = next_record-later (c ∷ rest) s [] [] p e in
        let (s2, ys, reached, over) = more p.1 p.2 later.between (omega (arith, later.fewer)) in
        rw e (s2, ys, (p, e, refl, reached), over)

-- a read that finds a record finds the first of them, and leaves the others
first_record : (cfg : Config) (s s2 : State) (xs ys : List ℕ) (fields : Fields) (rows : List Fields) → AreRecords cfg s xs rows
    → NextIs (next_record cfg s [] [] xs) true fields s2 ys → (rest : List Fields) × (rows ≡ fields ∷ rest) × AreRecords cfg s2 ys rest
unfolding Reached
first_record cfg s s2 xs ys fields [] (sEnd, end, (sameState, sameBytes), over) next = let here = rw (← sameState, ← sameBytes) at over in absurd (false≢true (sym (rw here at next)))
first_record cfg s s2 xs ys fields (row ∷ rows) (sEnd, end, (p, e, is, reached), over) next =
    let h = rw e at next in
    let same : row ≡ fields = is ∙ sym h.1 in
    rw (h.2, h.3, same) (rows, refl, (sEnd, end, reached, over))

-- a read that finds none shows that there is none
no_record : (cfg : Config) (s s2 : State) (xs ys : List ℕ) (fields : Fields) (rows : List Fields) → AreRecords cfg s xs rows
    → NextIs (next_record cfg s [] [] xs) false fields s2 ys → rows ≡ []
unfolding Reached
no_record cfg s s2 xs ys fields [] are next = refl
no_record cfg s s2 xs ys fields (row ∷ rows) (sEnd, end, (p, e, is, reached), over) next = absurd (false≢true (rw e at next).0)

-- the read of a reader that knows its bytes, as one of them
read_true : (s : State) (y : List ℕ) (f : Fields) (s2 : State) (k : Option (List ℕ)) → ReadsNext default_config s (Some y) k true f s2
    → (z : List ℕ) × (k ≡ Some z) × NextIs (next_record default_config s [] [] y) true f s2 z
read_true s y f s2 None h = absurd h
read_true s y f s2 (Some z) h = (z, refl, h)

read_false : (s : State) (y : List ℕ) (f : Fields) (s2 : State) (k : Option (List ℕ)) → ReadsNext default_config s (Some y) k false f s2
    → (z : List ℕ) × NextIs (next_record default_config s [] [] y) false f s2 z
read_false s y f s2 None h = absurd h
read_false s y f s2 (Some z) h = (z, h)

abbrev known : Bor (List ℕ) → Option (List ℕ)
known text = Some text.now

-- a read of a record finds the next of the rows
pub finds_row : (a b : TextReader) (found : Bool) (fields : Fields) → ReadRecord known a b found fields → took_first b ≡ true
    → (rows : List Fields) → HasRows a rows → FindsRow rows found fields b
finds_row a b true fields read first rows had =
    let (left, is, next) = read_true (reader_state a) had.left fields (reader_state b) (pending_of (known b.rdr) b) (rw (had.config, had.source) at read.0) in
    let (rest, same, given) = first_record default_config (reader_state a) (reader_state b) had.left left fields rows had.given next in (
      rest,
      same,
      record {
        trims = read.3 ∙ had.trims;
        ready = inl first;
        config = read.2 ∙ had.config;
        left = left;
        source = rw read.1 is;
        given = given;
      },
    )
finds_row a b false fields read first rows had =
    let (left, next) = read_false (reader_state a) had.left fields (reader_state b) (pending_of (known b.rdr) b) (rw (had.config, had.source) at read.0) in
    no_record default_config (reader_state a) (reader_state b) had.left left fields rows had.given next
