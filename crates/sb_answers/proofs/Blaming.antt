-- Which tap has failed: one of those that were handed in.
use Rattle.std.proofs.Common.{◌≡◌, ℕ, ◌≤◌, Bool, true, false, cond, Option, List, [], ◌∷◌, ◌++◌, refl, ap, subst, arith}
use Rattle.std.specs.List.{AllZip, filter}
use Rattle.sb_alone.specs.base.records.declared.item.Record.{Record}
use Rattle.sb_alone.specs.base.records.declared.item.Stream.{Stream}
use Rattle.sb_alone.specs.outside.Sources.{Rose}
use Rattle.sb_alone.specs.emit.Taps.{TapState}
use Rattle.sb_alone.specs.one_feed.TapLists.{SawRows, StopsIn, stays_for}
use Rattle.sb_alone.specs.base.pipeline.Shapes.{Shape}
use Rattle.sb_told.specs.declared.status.Status.{Status}
use Rattle.sb_told.specs.declared.status.Status.TheVariants.{Done, Words, Plan, Line, Input, Output, Folder, Memory, Tap, Audit, FileTooLong, FileLine, Checkpoint}
use Rattle.sb_answers.specs.Offered.{BlamesTap, HasOfferedOfFiles, IsOfferedOf}
use Rattle.sb_told.specs.Outcomes.{IsNoTap}

-- x is in the list, between these
record Split {X : Type 0} (xs : List X) (x : X) : Type 0 where
  before : List X
  behind : List X
  was : xs ≡ before ++ x ∷ behind

-- an element of a list, and one that is at its place in another
record Found {X : Type 0} (R : X → X → Type 0) (xs : List X) (y : X) : Type 0 where
  x : X
  split : Split xs x
  related : R x y

module _ {X : Type 0} where
  behind_first : (y : X) (ys : List X) (x : X) → Split ys x → Split (y ∷ ys) x
  behind_first y ys x s = record { before = y ∷ s.before; behind = s.behind; was = ap (λ l. y ∷ l) s.was }

  in_zip : (R : X → X → Type 0) (xs earlier : List X) (y : X) (later : List X) → AllZip R xs (earlier ++ y ∷ later) → Found R xs y
  in_zip R [] [] y later h = absurd h
  in_zip R [] (e ∷ earlier) y later h = absurd h
  in_zip R (x ∷ xs) [] y later h = record { x = x; split = record { before = []; behind = xs; was = refl }; related = h.0 }
  in_zip R (x ∷ xs) (e ∷ earlier) y later h = let f = in_zip R xs earlier y later h.1 in record { x = f.x; split = behind_first x xs f.x f.split; related = f.related }

  at_first : (y : X) (ys rest : List X) (x : X) (before behind : List X) → y ∷ rest ≡ before ++ x ∷ behind → ((before : List X) → rest ≡ before ++ x ∷ behind → Split ys x) → Split (y ∷ ys) x
  at_first y ys rest x [] behind e more = record { before = []; behind = ys; was = let same : y ≡ x = cc e in ap (λ z. z ∷ ys) same }
  at_first y ys rest x (b ∷ before) behind e more = behind_first y ys x (more before (cc e))

  step : (y : X) (ys rest : List X) (x : X) (b : Bool) (before behind : List X) → cond b (y ∷ rest) rest ≡ before ++ x ∷ behind → ((before : List X) → rest ≡ before ++ x ∷ behind → Split ys x) → Split (y ∷ ys) x
  step y ys rest x true before behind e more = at_first y ys rest x before behind e more
  step y ys rest x false before behind e more = behind_first y ys x (more before e)

  none_in : (x : X) (before behind : List X) → [] ≡ before ++ x ∷ behind → ⊥
  none_in x [] behind e = cc e
  none_in x (b ∷ before) behind e = cc e

  in_filter : (test : X → Bool) (xs : List X) (x : X) (before behind : List X) → filter test xs ≡ before ++ x ∷ behind → Split xs x
  in_filter test [] x before behind e = absurd (none_in x before behind e)
  in_filter test (y ∷ ys) x before behind e = step y ys (filter test ys) x (test y) before behind e (λ b h. in_filter test ys x b behind h)

rose_later : (a b c : ℕ) → a ≤ b → Rose b c → Rose a c
rose_later a b c h k = omega (arith, h, k)

-- the tap that stops the offers is to blame
pub stops_blames : (rows : List Record) (place : ℕ) (taps taps' : List TapState) → StopsIn rows place taps taps' → BlamesTap place taps taps'
stops_blames rows place taps taps' s =
    let at = s.stops in
    let f = in_zip (SawRows s.earlier) (filter (stays_for s.earlier) taps) at.earlier at.tap at.later (subst (AllZip (SawRows s.earlier) (filter (stays_for s.earlier) taps)) at.was s.left) in
    let split = in_filter (stays_for s.earlier) taps f.x f.split.before f.split.behind f.split.was in
    record {
      rows = rows;
      stops = s;
      before = split.before;
      handed = f.x;
      behind = split.behind;
      was_there = split.was;
      saw = f.related;
      rose = rose_later f.x.faults at.tap.faults at.refused.faults f.related.never_falls (at.refuses.failed refl);
    }

-- where no tap was handed in, none has failed
pub none_stops : (rows : List Record) (place : ℕ) (taps' : List TapState) → StopsIn rows place [] taps' → ⊥
none_stops rows place taps' s = let b = stops_blames rows place [] taps' s in none_in b.handed b.before b.behind b.was_there

-- so no status tells of one
pub no_tap : (plan : Shape) (left left' taken taken' : Option (List ℕ)) (taps' : List TapState) (status : Status) → IsOfferedOf plan left left' taken taken' [] taps' status → IsNoTap status
no_tap plan left left' taken taken' taps' (Tap place) is = absurd (none_stops is.offered.rows place taps' is.offered.stops)
no_tap plan left left' taken taken' taps' Done is = tt
no_tap plan left left' taken taken' taps' Words is = tt
no_tap plan left left' taken taken' taps' (Plan fault) is = tt
no_tap plan left left' taken taken' taps' (Line refusal) is = tt
no_tap plan left left' taken taken' taps' (FileLine stream refusal) is = tt
no_tap plan left left' taken taken' taps' Input is = tt
no_tap plan left left' taken taken' taps' Output is = tt
no_tap plan left left' taken taken' taps' Folder is = tt
no_tap plan left left' taken taken' taps' Memory is = tt
no_tap plan left left' taken taken' taps' (Audit fault) is = tt
no_tap plan left left' taken taken' taps' FileTooLong is = tt
no_tap plan left left' taken taken' taps' (Checkpoint line) is = tt

-- the same of a run over two files
pub no_tap_of_files : (plan : Shape) (files : Stream → List ℕ) (taken taken' : Option (List ℕ)) (taps' : List TapState) (status : Status) → HasOfferedOfFiles plan files taken taken' [] taps' status
    → IsNoTap status
no_tap_of_files plan files taken taken' taps' (Tap place) is = absurd (none_stops is.rows place taps' is.stops)
no_tap_of_files plan files taken taken' taps' Done is = tt
no_tap_of_files plan files taken taken' taps' Words is = tt
no_tap_of_files plan files taken taken' taps' (Plan fault) is = tt
no_tap_of_files plan files taken taken' taps' (Line refusal) is = tt
no_tap_of_files plan files taken taken' taps' (FileLine stream refusal) is = tt
no_tap_of_files plan files taken taken' taps' Input is = tt
no_tap_of_files plan files taken taken' taps' Output is = tt
no_tap_of_files plan files taken taken' taps' Folder is = tt
no_tap_of_files plan files taken taken' taps' Memory is = tt
no_tap_of_files plan files taken taken' taps' (Audit fault) is = tt
no_tap_of_files plan files taken taken' taps' FileTooLong is = tt
no_tap_of_files plan files taken taken' taps' (Checkpoint line) is = tt

-- where no status tells of a tap, none is to blame
pub none_to_blame : (place : ℕ) (status : Status) → IsNoTap status → status ≡ Tap place → ⊥
none_to_blame place status none is = subst IsNoTap is none
