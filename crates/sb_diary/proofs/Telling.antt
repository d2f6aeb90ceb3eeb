-- What is known after the lines of a diary is what its lists tell.
use Rattle.sb_record.proofs.Numbers.{bind_some}
use Rattle.std.proofs.Common.{◌≡◌, ℕ, suc, zero, ◌+◌, ◌-◌, ◌<◌, ◌≤◌, get_or, add-zero, append_assoc, Bool, true, false, cond, eqb, List, [], ◌∷◌, ◌++◌, length, map, Some, None, Option, refl, sym, ap, subst, ◌∙◌, arith, append-nil, length-append}
use Rattle.std.specs.Prelude.{◌&&◌, nat_lt}
use Rattle.std.specs.List.{flat_map, slice_get, slice_set, AllByRecursion}
use Rattle.std.proofs.lemmas.Bool.{eq-eqb, ne_eqb, cases_eq, and_parts, ltb-true}
use Rattle.std.proofs.Common.{⊎_elim}
use Rattle.std.proofs.lemmas.List.Concat.{flat_map-append}
use Rattle.std.proofs.lemmas.List.{map-append, length-map, length-set, get_or-set_same, get_or-set_other}
use Rattle.std.proofs.lemmas.Option.{same_Some, slice_get_within, get_or_from_slice_get}
use Rattle.sb_record.specs.Reading.{◌>>=◌}
use Rattle.sb_diary.specs.declared.event.DiaryEvent.{DiaryEvent}
use Rattle.sb_diary.specs.declared.event.DiaryEvent.TheVariants.{Arrive, Seal, Take, Finish, Begin, End}
use Rattle.sb_diary.specs.Lines.{Sized, Finished, arrive_in, seal_in, end_in, finish_in, arrivals, seals, ends, finishes}
use Rattle.sb_diary.specs.declared.bundle.Came.{Came}
use Rattle.sb_diary.specs.declared.bundle.Stage.{Stage}
use Rattle.sb_diary.specs.declared.bundle.Stage.TheVariants.{Taken, Done, Waiting}
use Rattle.sb_diary.specs.Legal.{LaneAudit, Audit, with_stage, is_waiting, is_taken, with_end, when, after_line, after_lines, fresh_lane, fresh_audit, audit_of}

-- ---- lines one after another
bind_assoc : {X Y Z : Type 0} (o : Option X) (f : X → Option Y) (g : Y → Option Z) → ((o >>= f) >>= g) ≡ (o >>= λ x. f x >>= g)
bind_assoc None f g = refl
bind_assoc (Some x) f g = refl

pub bind_cong : {X Y : Type 0} (o : Option X) (f g : X → Option Y) → ((x : X) → f x ≡ g x) → (o >>= f) ≡ (o >>= g)
bind_cong None f g h = refl
bind_cong (Some x) f g h = h x

pub after_lines-append : (diary more : List DiaryEvent) (a : Audit) → after_lines (diary ++ more) a ≡ (after_lines diary a >>= λ b. after_lines more b)
after_lines-append [] more a = refl
after_lines-append (e ∷ diary) more a =
    bind_cong (after_line a e) (λ b. after_lines (diary ++ more) b) (λ b. after_lines diary b >>= λ c. after_lines more c) (λ b. after_lines-append diary more b)
    ∙ sym (bind_assoc (after_line a e) (λ b. after_lines diary b) (λ b. after_lines more b))

pub one-line : (o : Option Audit) → (o >>= λ b. after_lines [] b) ≡ o
one-line None = refl
one-line (Some a) = refl

-- one line more
pub audited-push : (lanes : ℕ) (diary : List DiaryEvent) (e : DiaryEvent) (a b : Audit) → audit_of lanes diary ≡ Some a → after_line a e ≡ Some b → audit_of lanes (diary ++ e ∷ []) ≡ Some b
audited-push lanes diary e a b h k = after_lines-append diary (e ∷ []) (fresh_audit lanes) ∙ ap (λ o. o >>= λ c. after_lines (e ∷ []) c) h ∙ ap (λ o. o >>= λ c. after_lines [] c) k

pub one_more : {Y : Type 0} (g : DiaryEvent → List Y) (diary : List DiaryEvent) (e : DiaryEvent) → flat_map g (diary ++ e ∷ []) ≡ flat_map g diary ++ g e
one_more g diary e = flat_map-append g diary (e ∷ []) ∙ ap (λ l. flat_map g diary ++ l) (append-nil (g e))

-- ---- what one line tells of a lane
abbrev pub epochs_of : List Came → List ℕ
epochs_of came = map (λ c. c.epoch) came

abbrev pub epochs_in : List Sized → List ℕ
epochs_in sized = map (λ b. b.epoch) sized

-- the finished bundles are of the first n
abbrev pub AreOf : ℕ → List Finished → Type 0
AreOf n fs = AllByRecursion (λ f. (1 ≤ f.number) × (f.number ≤ n)) fs

pub record Tells (came : List Sized) (marks ended : List ℕ) (done : List Finished) (x y : LaneAudit) : Type 0 where
  pub came_is : epochs_of y.came ≡ epochs_of x.came ++ epochs_in came
  pub marks_is : y.marks ≡ x.marks ++ marks
  pub ended_is : y.ended ≡ x.ended + length ended
  pub done_is : AreOf (length y.came) done

abbrev pub lane_in : Audit → ℕ → LaneAudit
lane_in a l = get_or a.lanes l fresh_lane

tells-nothing : (x : LaneAudit) → Tells [] [] [] [] x x
tells-nothing x = record { came_is = sym (append-nil (epochs_of x.came)); marks_is = sym (append-nil x.marks); ended_is = sym (add-zero x.ended); done_is = tt }

when-is : {X : Type 0} (b : Bool) (x y : X) → when b x ≡ Some y → (b ≡ true) × (x ≡ y)
when-is true x y h = (refl, same_Some x y h)
when-is false x y h = cc

-- a change in lane l, as lane k sees it
one-lane : (P : Bool → LaneAudit → LaneAudit → Type 0) (lanes : List LaneAudit) (l k : ℕ) (x new : LaneAudit) → slice_get lanes l ≡ Some x
    → P true x new → ((y : LaneAudit) → P false y y) → P (eqb l k) (get_or lanes k fresh_lane) (get_or (slice_set lanes l new) k fresh_lane)
one-lane P lanes l k x new at here other = ⊎_elim
    (λ e. subst (λ z. z) (λ i. P (sym (eq-eqb l k e) i) (sym (ap (λ j. get_or lanes j fresh_lane) (sym e) ∙ get_or_from_slice_get lanes l x fresh_lane at) i) (sym (ap (λ j. get_or (slice_set lanes l new) j fresh_lane) (sym e) ∙ get_or-set_same lanes l new fresh_lane (slice_get_within lanes l x at)) i)) here)
    (λ ne. subst (λ z. z) (λ i. P (sym (ne_eqb l k ne) i) (get_or lanes k fresh_lane) (sym (get_or-set_other lanes l k new fresh_lane (λ e. ne (sym e))) i)) (other (get_or lanes k fresh_lane)))
    (cases_eq l k)

same-epochs : (test : Stage → Bool) (stage : Stage) (number : ℕ) (x new : LaneAudit) → with_stage test stage number x ≡ Some new
    → (epochs_of new.came ≡ epochs_of x.came) × (new.marks ≡ x.marks) × (new.ended ≡ x.ended) × (1 ≤ number) × (number ≤ length new.came)
same-epochs test stage number x new h =
    let a = bind_some (slice_get x.came (number - 1)) _ new h in
    let c = when-is (nat_lt 0 number && test a.0.stage) _ new a.2 in
    let some : 0 < number = ltb-true 0 number (and_parts (nat_lt 0 number) (test a.0.stage) c.0).0 in
    let len : length (slice_set x.came (number - 1) (record a.0 { stage = stage })) ≡ length x.came = length-set x.came (number - 1) (record a.0 { stage = stage }) in
    let within : number - 1 < length x.came = slice_get_within x.came (number - 1) a.0 a.1 in
    let up : number ≤ length x.came = omega arith in (
      ap (λ (y : LaneAudit). epochs_of y.came) (sym c.1) ∙ same x.came (number - 1) a.0 a.1,
      ap (λ (y : LaneAudit). y.marks) (sym c.1),
      ap (λ (y : LaneAudit). y.ended) (sym c.1),
      omega (arith, some),
      subst (λ n. number ≤ n) (sym (ap (λ (y : LaneAudit). length y.came) (sym c.1) ∙ len)) up,
    )
  where
    same : (cs : List Came) (i : ℕ) (c : Came) → slice_get cs i ≡ Some c → epochs_of (slice_set cs i (record c { stage = stage })) ≡ epochs_of cs
    same [] i c h = refl
    same (d ∷ cs) zero c h = let k : d ≡ c = same_Some d c h in ap (λ (z : Came). z.epoch ∷ epochs_of cs) (sym k)
    same (d ∷ cs) (suc i) c h = ap (λ l. d.epoch ∷ l) (same cs i c h)

abbrev tells-line : DiaryEvent → ℕ → LaneAudit → LaneAudit → Type 0
tells-line e l x y = Tells (arrive_in l e) (seal_in l e) (end_in l e) (finish_in l e) x y

line-tells : (a b : Audit) (e : DiaryEvent) → after_line a e ≡ Some b → (k : ℕ) → tells-line e k (lane_in a k) (lane_in b k)
line-tells a b (Arrive l epoch number len) h k =
    let q = bind_some (slice_get a.lanes l) _ b h in
    let c = when-is _ _ b q.2 in
    let new : LaneAudit = record q.0 { came = q.0.came ++ record { epoch = epoch; stage = Waiting } ∷ [] } in
    subst (λ (b : Audit). tells-line (Arrive l epoch number len) k (lane_in a k) (lane_in b k)) c.1
    (one-lane (λ t x y. Tells (cond t (record { epoch = epoch; length = len } ∷ []) []) [] [] [] x y) a.lanes l k q.0 new q.1
    (record { came_is = map-append (λ (c : Came). c.epoch) q.0.came (record { epoch = epoch; stage = Waiting } ∷ []); marks_is = sym (append-nil q.0.marks); ended_is = sym (add-zero q.0.ended); done_is = tt })
    tells-nothing)
line-tells a b (Seal l epoch mark) h k =
    let q = bind_some (slice_get a.lanes l) _ b h in
    let c = when-is _ _ b q.2 in
    let new : LaneAudit = record q.0 { marks = q.0.marks ++ mark ∷ [] } in
    subst (λ (b : Audit). tells-line (Seal l epoch mark) k (lane_in a k) (lane_in b k)) c.1
    (one-lane (λ t x y. Tells [] (cond t (mark ∷ []) []) [] [] x y) a.lanes l k q.0 new q.1
    (record { came_is = sym (append-nil (epochs_of q.0.came)); marks_is = refl; ended_is = sym (add-zero q.0.ended); done_is = tt })
    tells-nothing)
line-tells a b (Take l number) h k =
    let q = bind_some (slice_get a.lanes l) _ b h in
    let r = bind_some (with_stage is_waiting Taken number q.0) _ b q.2 in
    let c = same_Some _ b r.2 in
    let s = same-epochs is_waiting Taken number q.0 r.0 r.1 in
    subst (λ (b : Audit). tells-line (Take l number) k (lane_in a k) (lane_in b k)) c
    (one-lane (λ t x y. Tells [] [] [] [] x y) a.lanes l k q.0 r.0 q.1
    (record { came_is = s.0 ∙ sym (append-nil (epochs_of q.0.came)); marks_is = s.1 ∙ sym (append-nil q.0.marks); ended_is = s.2 ∙ sym (add-zero q.0.ended); done_is = tt })
    tells-nothing)
line-tells a b (Finish l number len) h k =
    let q = bind_some (slice_get a.lanes l) _ b h in
    let r = bind_some (with_stage is_taken Done number q.0) _ b q.2 in
    let c = same_Some _ b r.2 in
    let s = same-epochs is_taken Done number q.0 r.0 r.1 in
    subst (λ (b : Audit). tells-line (Finish l number len) k (lane_in a k) (lane_in b k)) c
    (one-lane (λ t x y. Tells [] [] [] (cond t (record { number = number; length = len } ∷ []) []) x y) a.lanes l k q.0 r.0 q.1
    (record { came_is = s.0 ∙ sym (append-nil (epochs_of q.0.came)); marks_is = s.1 ∙ sym (append-nil q.0.marks); ended_is = s.2 ∙ sym (add-zero q.0.ended); done_is = ((s.3, s.4), tt) })
    tells-nothing)
line-tells a b (Begin l epoch mark rows) h k =
    let q = bind_some (slice_get a.lanes l) _ b h in
    let c = when-is _ _ b q.2 in
    subst (λ (b : Audit). tells-line (Begin l epoch mark rows) k (lane_in a k) (lane_in b k)) c.1 (tells-nothing (lane_in a k))
line-tells a b (End l epoch) h k =
    let q = bind_some (slice_get a.lanes l) _ b h in
    let r = bind_some a.closing _ b q.2 in
    let c = when-is _ _ b r.2 in
    subst (λ (b : Audit). tells-line (End l epoch) k (lane_in a k) (lane_in b k)) c.1
    (one-lane (λ t x y. Tells [] [] (cond t (epoch ∷ []) []) [] x y) a.lanes l k q.0 (with_end q.0) q.1
    (record { came_is = sym (append-nil (epochs_of q.0.came)); marks_is = sym (append-nil q.0.marks); ended_is = refl; done_is = tt })
    tells-nothing)

-- ---- what all lines tell of a lane
abbrev tells-lines : List DiaryEvent → ℕ → LaneAudit → LaneAudit → Type 0
tells-lines diary l x y = Tells (arrivals l diary) (seals l diary) (ends l diary) (finishes l diary) x y

all-more : (n m : ℕ) → n ≤ m → (fs : List Finished) → AreOf n fs → AreOf m fs
all-more n m h [] all = tt
all-more n m h (f ∷ fs) all = ((all.0.0, omega (arith, h, all.0.1)), all-more n m h fs all.1)

all-append : (n : ℕ) (fs gs : List Finished) → AreOf n fs → AreOf n gs → AreOf n (fs ++ gs)
all-append n [] gs a b = b
all-append n (f ∷ fs) gs a b = (a.0, all-append n fs gs a.1 b)

lines-tell : (diary : List DiaryEvent) (a b : Audit) → after_lines diary a ≡ Some b → (k : ℕ) → tells-lines diary k (lane_in a k) (lane_in b k)
lines-tell [] a b h k = subst (λ (b : Audit). tells-lines [] k (lane_in a k) (lane_in b k)) (same_Some a b h) (tells-nothing (lane_in a k))
lines-tell (e ∷ diary) a b h k =
    let q = bind_some (after_line a e) (λ b. after_lines diary b) b h in
    let x = line-tells a q.0 e q.1 k in
    let y = lines-tell diary q.0 b q.2 k in
    let grows : length (epochs_of (lane_in q.0 k).came) ≤ length (epochs_of (lane_in b k).came) = omega (arith, ap length y.came_is, length-append (epochs_of (lane_in q.0 k).came) (epochs_in (arrivals k diary))) in
    let low : length (lane_in q.0 k).came ≤ length (lane_in b k).came = omega (arith, grows, length-map (lane_in q.0 k).came (λ (c : Came). c.epoch), length-map (lane_in b k).came (λ (c : Came). c.epoch)) in
    record {
      came_is = y.came_is ∙ ap (λ l. l ++ epochs_in (arrivals k diary)) x.came_is ∙ append_assoc (epochs_of (lane_in a k).came) (epochs_in (arrive_in k e)) (epochs_in (arrivals k diary)) ∙ ap (λ l. epochs_of (lane_in a k).came ++ l) (sym (map-append (λ (b : Sized). b.epoch) (arrive_in k e) (arrivals k diary)));
      marks_is = y.marks_is ∙ ap (λ l. l ++ seals k diary) x.marks_is ∙ append_assoc (lane_in a k).marks (seal_in k e) (seals k diary);
      ended_is = y.ended_is ∙ ap (λ n. n + length (ends k diary)) x.ended_is ∙ omega (arith, length-append (end_in k e) (ends k diary));
      done_is = all-append (length (lane_in b k).came) (finish_in k e) (finishes k diary) (all-more (length (lane_in q.0 k).came) (length (lane_in b k).came) low (finish_in k e) x.done_is) y.done_is;
    }

fresh-lane : (n k : ℕ) → lane_in (fresh_audit n) k ≡ fresh_lane
fresh-lane zero k = refl
fresh-lane (suc n) zero = refl
fresh-lane (suc n) (suc k) = fresh-lane n k

-- a legal diary tells of each lane: the epochs of its bundles, its marks, how many epochs have ended, and that the finished bundles are of those that came
pub told : (lanes : ℕ) (diary : List DiaryEvent) (a : Audit) → audit_of lanes diary ≡ Some a → (k : ℕ) → Tells (arrivals k diary) (seals k diary) (ends k diary) (finishes k diary) fresh_lane (lane_in a k)
told lanes diary a h k = subst (λ x. tells-lines diary k x (lane_in a k)) (fresh-lane lanes k) (lines-tell diary (fresh_audit lanes) a h k)
