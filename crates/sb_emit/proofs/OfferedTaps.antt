-- How far an offer of a row has come in a list of taps.
use Rattle.std.proofs.Common.{◌≡◌, ◌<◌, ◌≤◌, ◌+◌, ℕ, List, [], ◌∷◌, ◌++◌, filter, cond, take, drop, length, true, false, Bool, Ok, Err, refl, ap, sym, subst, ◌∙◌, arith, append_assoc, append-nil}
use Rattle.std.proofs.lemmas.List.{length-append, take_at, drop_at}
use Rattle.std.proofs.lemmas.List.Elements.{filter-append, AllZip-push}
use Rattle.std.specs.List.{AllZip}
use Rattle.sb_record.specs.declared.item.Record.{Record}
use Rattle.sb_emit.specs.declared.tap.TapFault.{TapFault}
use Rattle.sb_emit.specs.Taps.{TapState, SawRow, wants_more_after}
use Rattle.sb_emit.specs.Offers.{LeavesThoseThatWantMore, StopsAt}
use Rattle.sb_emit.specs.OfferSteps.{OfferedAt, OffersAt}

-- the taps before the place were offered the row, and so many of them stay; those from the place on are as they were
pub record Offering (row : Record) (place staying : ℕ) (old now : List TapState) : Type 0 where
  pub earlier : List TapState
  pub later : List TapState
  pub was : old ≡ earlier ++ later
  pub is_place : length earlier ≡ place
  pub left : List TapState
  pub leaves : LeavesThoseThatWantMore row earlier left
  pub is_staying : length left ≡ staying
  pub stands : now ≡ left ++ later
  pub fewer : staying ≤ place

pub nothing_offered : (row : Record) (old : List TapState) → Offering row 0 0 old old
nothing_offered row old = record { earlier = []; later = old; was = refl; is_place = refl; left = []; leaves = tt; is_staying = refl; stands = refl; fewer = omega arith }

-- the tap that is offered the row is the first of those to come
next_is : (row : Record) (place staying : ℕ) (old now : List TapState) (tap : TapState) (f : Offering row place staying old now) (at : OfferedAt staying now tap)
    → (f.left ≡ at.earlier) × (f.later ≡ tap ∷ at.later)
next_is row place staying old now tap f at =
    let same : f.left ++ f.later ≡ at.earlier ++ tap ∷ at.later = sym f.stands ∙ at.was in (
      sym (take_at f.left f.later staying f.is_staying) ∙ ap (take staying) same ∙ take_at at.earlier (tap ∷ at.later) staying at.is_place,
      sym (drop_at f.left f.later staying f.is_staying) ∙ ap (drop staying) same ∙ drop_at at.earlier (tap ∷ at.later) staying at.is_place,
    )

-- of the taps up to one, those that want more
wanting : (row : Record) (earlier : List TapState) (tap : TapState) (wants : Bool) → wants_more_after row tap ≡ wants
    → filter (wants_more_after row) (earlier ++ tap ∷ []) ≡ filter (wants_more_after row) earlier ++ cond wants (tap ∷ []) []
wanting row earlier tap wants is = filter-append (wants_more_after row) earlier (tap ∷ []) ∙ ap (λ b. filter (wants_more_after row) earlier ++ cond b (tap ∷ []) []) is

whole_list : (old earlier later behind : List TapState) (tap : TapState) → old ≡ earlier ++ later → later ≡ tap ∷ behind → old ≡ (earlier ++ tap ∷ []) ++ behind
whole_list old earlier later behind tap was is = was ∙ ap (λ l. earlier ++ l) is ∙ sym (append_assoc earlier (tap ∷ []) behind)

one_more : (earlier : List TapState) (tap : TapState) (place : ℕ) → length earlier ≡ place → length (earlier ++ tap ∷ []) ≡ place + 1
one_more earlier tap place is = length-append earlier (tap ∷ []) ∙ ap (λ n. n + 1) is

-- the tap stays
pub tap_stays : (row : Record) (place staying : ℕ) (old now new : List TapState) → Offering row place staying old now → OffersAt row staying now new (Ok true) → Offering row (place + 1) (staying + 1) old new
tap_stays row place staying old now new f (tap, saw, at, sees, wants, is) =
    let next = next_is row place staying old now tap f at in
    record {
      earlier = f.earlier ++ tap ∷ [];
      later = at.later;
      was = whole_list old f.earlier f.later at.later tap f.was next.1;
      is_place = one_more f.earlier tap place f.is_place;
      left = f.left ++ saw ∷ [];
      leaves = subst (λ l. AllZip (SawRow row) l (f.left ++ saw ∷ [])) (sym (wanting row f.earlier tap true wants)) (AllZip-push (SawRow row) (filter (wants_more_after row) f.earlier) f.left tap saw f.leaves sees);
      is_staying = one_more f.left saw staying f.is_staying;
      stands = is ∙ ap (λ l. l ++ saw ∷ at.later) (sym next.0) ∙ sym (append_assoc f.left (saw ∷ []) at.later);
      fewer = omega (arith, f.fewer);
    }

-- the tap goes
pub tap_goes : (row : Record) (place staying : ℕ) (old now new : List TapState) → Offering row place staying old now → OffersAt row staying now new (Ok false) → Offering row (place + 1) staying old new
tap_goes row place staying old now new f (tap, at, enough, is) =
    let next = next_is row place staying old now tap f at in
    record {
      earlier = f.earlier ++ tap ∷ [];
      later = at.later;
      was = whole_list old f.earlier f.later at.later tap f.was next.1;
      is_place = one_more f.earlier tap place f.is_place;
      left = f.left;
      leaves = subst (λ l. AllZip (SawRow row) l f.left) (sym (wanting row f.earlier tap false enough ∙ append-nil (filter (wants_more_after row) f.earlier))) f.leaves;
      is_staying = f.is_staying;
      stands = is ∙ ap (λ l. l ++ at.later) (sym next.0);
      fewer = omega (arith, f.fewer);
    }

-- the tap refuses
pub tap_refuses : (row : Record) (place staying : ℕ) (old now new : List TapState) (reason : TapFault) → Offering row place staying old now → OffersAt row staying now new (Err reason) → StopsAt row reason place old new
tap_refuses row place staying old now new reason f (tap, refused, at, refuses, is) =
    let next = next_is row place staying old now tap f at in
    record {
      earlier = f.earlier;
      tap = tap;
      later = at.later;
      was = f.was ∙ ap (λ l. f.earlier ++ l) next.1;
      is_place = f.is_place;
      left = f.left;
      leaves = f.leaves;
      refused = refused;
      refuses = refuses;
      now = is ∙ ap (λ l. l ++ refused ∷ at.later) (sym next.0);
    }

-- the place is in the list
pub is_within : (row : Record) (place staying : ℕ) (old now : List TapState) → Offering row place staying old now → place < length old → staying < length now
is_within row place staying old now f h =
    omega (arith, ap length f.was, ap length f.stands, length-append f.earlier f.later, length-append f.left f.later, f.is_place, f.is_staying)

none_later : (xs : List TapState) → length xs ≤ 0 → xs ≡ []
none_later [] h = refl
none_later (x ∷ xs) h = absurd (omega arith)

-- all taps were offered the row
pub all_offered : (row : Record) (place staying : ℕ) (old now : List TapState) → Offering row place staying old now → length old ≤ place → LeavesThoseThatWantMore row old now
all_offered row place staying old now f h =
    let none : f.later ≡ [] = none_later f.later (omega (arith, ap length f.was, length-append f.earlier f.later, f.is_place)) in
    let before : f.earlier ≡ old = sym (append-nil f.earlier) ∙ ap (λ l. f.earlier ++ l) (sym none) ∙ sym f.was in
    let stays : f.left ≡ now = sym (append-nil f.left) ∙ ap (λ l. f.left ++ l) (sym none) ∙ sym f.stands in
    subst (λ l. LeavesThoseThatWantMore row l now) before (subst (LeavesThoseThatWantMore row f.earlier) stays f.leaves)
