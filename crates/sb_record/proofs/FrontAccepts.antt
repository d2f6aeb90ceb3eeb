-- The line at the front is accepted exactly if its item is timely and fewer lines than an input may have stand before it.
use Rattle.std.proofs.Common.{◌≡◌, ◌↔◌, ℕ, ◌+◌, ◌<◌, ◌≤◌, List, ◌∷◌, length, take, true, false, Some, None, Option, Ok, refl, sym, ap, ◌∙◌, inl, inr}
use Rattle.std.specs.Prelude.{nat_le, nat_lt}
use Rattle.std.proofs.lemmas.Bool.{cases_Bool, le-leb, lt-leb, le-ltb, leb-true, ltb-false}
use Rattle.std.proofs.lemmas.List.{take_at}
use Rattle.std.proofs.lemmas.Option.{same_Some}
use Rattle.sb_record.specs.declared.front.FrontLine.{FrontLine}
use Rattle.sb_record.specs.declared.intake.TheConstants.{MAX_LINES}
use Rattle.sb_record.specs.declared.item.Record.{Record}
use Rattle.sb_record.specs.declared.item.Stream.{Stream}
use Rattle.sb_record.specs.declared.item.Item.{Item}
use Rattle.sb_record.specs.declared.item.Item.TheVariants.{Rec, Mark, Skip, Late}
use Rattle.sb_record.specs.declared.key.Keys.{Keys}
use Rattle.sb_record.specs.Fronts.{IsPlainTextOf, IsFront, IsAcceptedFront}
use Rattle.sb_record.specs.FrontReading.{is_timely}
use Rattle.sb_record.specs.Intake.{answer_to, timely, mark_of}
use Rattle.sb_record.specs.Progress.{Progress}
use Rattle.sb_record.specs.Streams.{uses}
use Rattle.sb_record.proofs.Grammar.{item_reads}
use Rattle.sb_record.proofs.InputLemmas.{late_ok}
use Rattle.sb_record.proofs.PlainTexts.{plain_short, plain_text}
use Rattle.sb_record.proofs.WordBytes.{first_of_both, second_of_both}

-- a timely item is given as it is
in_time : (p : Progress) (n : ℕ) (i : Item) → is_timely p i ≡ true → timely p n i ≡ Ok i
in_time p n (Rec s r) h =
    let used : uses p.streams s ≡ true = first_of_both (uses p.streams s) (nat_le (mark_of p s) r.time) h in
    let high : mark_of p s ≤ r.time = leb-true _ _ (second_of_both (uses p.streams s) (nat_le (mark_of p s) r.time) h) in
    rw (used, le-ltb r.time (mark_of p s) high) refl
in_time p n (Mark s t) h =
    let used : uses p.streams s ≡ true = first_of_both (uses p.streams s) (nat_le (mark_of p s) t) h in
    let high : mark_of p s ≤ t = leb-true _ _ (second_of_both (uses p.streams s) (nat_le (mark_of p s) t) h) in
    rw (used, le-ltb t (mark_of p s) high) refl
in_time p n Skip h = refl
in_time p n (Late l t m) h = refl

-- a record or a watermark that is not timely is not
late_record : (p : Progress) (n : ℕ) (s : Stream) (r : Record) → is_timely p (Rec s r) ≡ false → timely p n (Rec s r) ≡ Ok (Rec s r) → ⊥
late_record p n s r late h = elim (cases_Bool (uses p.streams s)) [
  | inl used ↦ elim (cases_Bool (nat_lt r.time (mark_of p s))) [
    | inl below ↦ let e = late_ok p.late n r.time (mark_of p s) (Rec s r) (rw (used, below) at h) in cc
    | inr above ↦
        let high : nat_le (mark_of p s) r.time ≡ true = le-leb _ _ (ltb-false r.time (mark_of p s) above) in
        cc (rw (used, high) at late)
  ]
  | inr other ↦ cc (rw other at h)
]

late_mark : (p : Progress) (n : ℕ) (s : Stream) (t : ℕ) → is_timely p (Mark s t) ≡ false → timely p n (Mark s t) ≡ Ok (Mark s t) → ⊥
late_mark p n s t late h = elim (cases_Bool (uses p.streams s)) [
  | inl used ↦ elim (cases_Bool (nat_lt t (mark_of p s))) [
    | inl below ↦ cc (rw (used, below) at h)
    | inr above ↦
        let high : nat_le (mark_of p s) t ≡ true = le-leb _ _ (ltb-false t (mark_of p s) above) in
        cc (rw (used, high) at late)
  ]
  | inr other ↦ cc (rw other at h)
]

not_in_time : (keys : Keys) (line : List ℕ) (p : Progress) (n : ℕ) (i : Item) → IsPlainTextOf keys i line → is_timely p i ≡ false → timely p n i ≡ Ok i → ⊥
not_in_time keys line p n (Rec s r) text late h = late_record p n s r late h
not_in_time keys line p n (Mark s t) text late h = late_mark p n s t late h
not_in_time keys line p n Skip text late h = absurd text
not_in_time keys line p n (Late l t m) text late h = absurd text

-- the line at the front gives its item, if that is timely
front_answer : (p : Progress) (bytes : List ℕ) (item : Item) (len : ℕ) → p.lines < MAX_LINES → IsFront p.keys item len bytes → answer_to p (take len bytes) ≡ timely p (p.lines + 1) item
front_answer p bytes item len few front =
    let cut : take len bytes ≡ front.line = ap (take len) front.whole ∙ take_at front.line (10 ∷ front.rest) len (sym front.size) in
    ap (answer_to p) cut
    ∙ rw (lt-leb 4294967295 p.lines few, le-ltb 128 (length front.line) (plain_short p.keys item front.line front.text), item_reads p.keys item front.line (plain_text p.keys item front.line front.text)) refl

-- ---- exactly that is given
module _ (p : Progress) (bytes : List ℕ) where
  -- the line that was read is timely
  pub timely_front : (g : FrontLine) → p.lines < MAX_LINES → ((f : FrontLine) → (◌≡◌ {A = Option FrontLine} (Some g) (Some f)) ↔ IsFront p.keys f.item f.len bytes)
      → is_timely p g.item ≡ true → (f : FrontLine) → (◌≡◌ {A = Option FrontLine} (Some g) (Some f)) ↔ IsAcceptedFront p f.item f.len bytes
  timely_front g few read good f = (
    λ e.
        let front = (read f).0 e in
        let also : is_timely p f.item ≡ true = ap (λ (h : FrontLine). is_timely p h.item) (sym (same_Some g f e)) ∙ good in
        record { front = front; accepted = front_answer p bytes f.item f.len few front ∙ in_time p (p.lines + 1) f.item also },
    λ h. (read f).1 h.front,
  )

  -- it is not
  pub late_front : (g : FrontLine) → p.lines < MAX_LINES → ((f : FrontLine) → (◌≡◌ {A = Option FrontLine} (Some g) (Some f)) ↔ IsFront p.keys f.item f.len bytes)
      → is_timely p g.item ≡ false → (f : FrontLine) → (◌≡◌ {A = Option FrontLine} None (Some f)) ↔ IsAcceptedFront p f.item f.len bytes
  late_front g few read late f = (
    λ e. cc,
    λ h.
        let also : is_timely p f.item ≡ false = ap (λ (k : FrontLine). is_timely p k.item) (sym (same_Some g f ((read f).1 h.front))) ∙ late in
        let ok : timely p (p.lines + 1) f.item ≡ Ok f.item = sym (front_answer p bytes f.item f.len few h.front) ∙ h.accepted in
        absurd (not_in_time p.keys h.front.line p (p.lines + 1) f.item h.front.text also ok),
  )

  -- no line was read
  pub no_line_in_front : ((f : FrontLine) → (◌≡◌ {A = Option FrontLine} None (Some f)) ↔ IsFront p.keys f.item f.len bytes)
      → (f : FrontLine) → (◌≡◌ {A = Option FrontLine} None (Some f)) ↔ IsAcceptedFront p f.item f.len bytes
  no_line_in_front read f = (λ e. cc, λ h. (read f).1 h.front)

  -- there are as many lines as an input may have
  pub no_more_lines : MAX_LINES ≤ p.lines → (f : FrontLine) → (◌≡◌ {A = Option FrontLine} None (Some f)) ↔ IsAcceptedFront p f.item f.len bytes
  no_more_lines many f = (λ e. cc, λ h. let all : nat_le 4294967295 p.lines ≡ true = le-leb _ _ many in cc (rw all at h.accepted))
