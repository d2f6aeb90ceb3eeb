-- What a line does to a node: which lanes are read and written, and that a closing stays of an epoch that is sealed.
use Rattle.std.proofs.Common.{◌≡◌, ℕ, suc, zero, ◌+◌, ◌-◌, ◌<◌, ◌≤◌, Bool, true, false, cond, List, [], ◌∷◌, length, get_or, take, drop, min, Some, None, Option, Result, Ok, Err, refl, sym, ap, subst, ◌∙◌, arith, take_all}
use Rattle.std.specs.Prelude.{◌==◌, ◌&&◌, slice_get, slice_set}
use Rattle.std.proofs.lemmas.Option.{same_Some, slice_get_within, slice_get_read, slice_get_past, get_or_from_slice_get}
use Rattle.sb_record.specs.Reading.{◌>>=◌}
use Rattle.sb_diary.specs.declared.event.DiaryEvent.{DiaryEvent}
use Rattle.sb_diary.specs.declared.event.DiaryEvent.TheVariants.{Arrive, Seal, Take, Finish, Begin, End}
use Rattle.sb_diary.specs.declared.line_stop.LineStop.{LineStop}
use Rattle.sb_diary.specs.declared.line_stop.LineStop.TheVariants.{NotLegal, Memory}
use Rattle.sb_diary.specs.Legal.{LaneAudit, Audit, when, with_stage, with_lane, with_end, least_ended_mark, last_of, after_line}
use Rattle.sb_diary.specs.Books.{Answers, IsOpen, IsSound, in_lane, lane_after, with_arrival, with_mark}

-- where code reads an element, it is there
pub read-there : {X : Type 0} (xs ys : List X) (i : ℕ) (x : X) → xs ≡ ys → i < length xs → x ≡ get_or xs i x → slice_get ys i ≡ Some x
read-there xs ys i x e h at = subst (λ l. slice_get l i ≡ Some x) e (slice_get_read xs (length xs) i x refl h at)

-- where code reads nothing, nothing is
pub read-none : {X : Type 0} (xs ys : List X) (i : ℕ) → xs ≡ ys → length xs ≤ i → slice_get ys i ≡ None
read-none xs ys i e h = subst (λ l. slice_get l i ≡ None) e (slice_get_past xs i h)

-- ---- the mark up to which a node is closed once one more epoch of a lane has ended
abbrev pub IsClosedWith : List LaneAudit → ℕ → ℕ → Type 0
IsClosedWith lanes i mark = (lane : LaneAudit) → slice_get lanes i ≡ Some lane → mark ≡ least_ended_mark (slice_set lanes i (with_end lane))

ended-later : (x y : LaneAudit) (lanes : List LaneAudit) (i : ℕ) (new : LaneAudit)
    → least_ended_mark (x ∷ slice_set (y ∷ lanes) i new) ≡ min (last_of x.ended x.marks) (least_ended_mark (slice_set (y ∷ lanes) i new))
ended-later x y lanes zero new = refl
ended-later x y lanes (suc i) new = refl

-- of two lanes or more, where it is not the first
pub least_ended_mark_after-later : (lanes : List LaneAudit) (x : LaneAudit) (i first others : ℕ) → 2 ≤ length lanes → x ≡ get_or lanes 0 x → (i ≡ 0 → ⊥)
    → first ≡ last_of x.ended x.marks → IsClosedWith (take (length lanes - 1) (drop 1 lanes)) (i - 1) others → IsClosedWith lanes i (min first others)
least_ended_mark_after-later [] x i first others two is later own rest = absurd (omega (arith, two))
least_ended_mark_after-later (z ∷ []) x i first others two is later own rest = absurd (omega (arith, two))
least_ended_mark_after-later (z ∷ y ∷ lanes) x zero first others two is later own rest = absurd (later refl)
least_ended_mark_after-later (z ∷ y ∷ lanes) x (suc i) first others two is later own rest =
    λ lane at. (λ j. min ((own ∙ ap (λ (x : LaneAudit). last_of x.ended x.marks) is) j) (below lane at j)) ∙ sym (ended-later z y lanes i (with_end lane))
  where
    all : take (length (z ∷ y ∷ lanes) - 1) (y ∷ lanes) ≡ y ∷ lanes
    all = take_all (length (z ∷ y ∷ lanes) - 1) (y ∷ lanes) (omega arith)

    less : (n : ℕ) → suc n - 1 ≡ n
    less n = omega arith

    below : IsClosedWith (y ∷ lanes) i others
    below = subst (λ (n : ℕ). IsClosedWith (y ∷ lanes) n others) (less i) (subst (λ (l : List LaneAudit). IsClosedWith l (suc i - 1) others) all rest)

-- ---- a line of one lane
set-same : {X : Type 0} (xs : List X) (i : ℕ) (x : X) → slice_get xs i ≡ Some x → slice_set xs i x ≡ xs
set-same [] i x h = refl
set-same (y ∷ xs) zero x h = ap (λ z. z ∷ xs) (sym (same_Some y x h))
set-same (y ∷ xs) (suc i) x h = ap (λ l. y ∷ l) (set-same xs i x h)

then-some : {X Y : Type 0} (o : Option X) (x : X) (f : X → Option Y) → o ≡ Some x → (o >>= f) ≡ f x
then-some o x f h = ap (λ o. o >>= f) h

-- a lane that is as it was
pub lane-same : (a : Audit) (l : ℕ) (lane new : LaneAudit) → slice_get a.lanes l ≡ Some lane → new ≡ lane → with_lane l new a ≡ a
lane-same a l lane new at e = ap (λ lanes. record a { lanes = lanes }) (ap (slice_set a.lanes l) e ∙ set-same a.lanes l lane at)

pub lane-answers : {T : Type 0} (a : Audit) (l : ℕ) (event : DiaryEvent) (lane new : LaneAudit) (r : Result T LineStop) → slice_get a.lanes l ≡ Some lane
    → Answers (lane_after event lane) lane new r → Answers (in_lane l event a) a (with_lane l new a) r
lane-answers a l event lane new (Ok x) at h =
    then-some (slice_get a.lanes l) lane (λ lane. lane_after event lane >>= λ new. Some (with_lane l new a)) at
    ∙ then-some (lane_after event lane) new (λ new. Some (with_lane l new a)) h
lane-answers a l event lane new (Err NotLegal) at h = (
  then-some (slice_get a.lanes l) lane (λ lane. lane_after event lane >>= λ new. Some (with_lane l new a)) at
      ∙ ap (λ o. o >>= λ new. Some (with_lane l new a)) h.0,
  lane-same a l lane new at h.1,
)
lane-answers a l event lane new (Err Memory) at h = lane-same a l lane new at h

-- ---- the end of a closing
pub ended-is : (a : Audit) (l epoch : ℕ) (lane : LaneAudit) (old : Bool) → slice_get a.lanes l ≡ Some lane → a.closing ≡ Some l → (l == l) ≡ true → (epoch == lane.ended) ≡ old
    → after_line a (End l epoch) ≡ when old (record { lanes = slice_set a.lanes l (with_end lane); closing = None })
ended-is a l epoch lane old at closing same is =
    then-some (slice_get a.lanes l) lane _ at
    ∙ then-some a.closing l _ closing
    ∙ (λ i. when (same i && is i) (record { lanes = slice_set a.lanes l (with_end lane); closing = None }))
