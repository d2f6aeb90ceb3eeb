-- What a checkpoint keeps may stand in its text.
use Rattle.std.proofs.Common.{◌≡◌, ◌≤◌, ℕ, Bool, true, false, cond, eqb, List, [], ◌∷◌, ◌++◌, length, Some, Ok, refl, sym, ap, subst, ◌∙◌, arith}
use Rattle.std.specs.Prelude.{nat_le, not, ◌&&◌}
use Rattle.std.specs.List.{filter, AllByRecursion}
use Rattle.std.proofs.lemmas.Bool.{eq-eqb}
use Rattle.std.proofs.lemmas.Bool.Decides.{nat_tests}
use Rattle.sb_pipeline.specs.records.declared.item.TheConstants.{MAX_TIME}
use Rattle.sb_pipeline.specs.records.declared.item.Item.{Item}
use Rattle.sb_pipeline.specs.records.declared.item.Item.TheVariants.{Rec, Mark, Skip, Late}
use Rattle.sb_pipeline.specs.records.declared.item.Record.{Record}
use Rattle.sb_pipeline.specs.records.declared.item.Stream.{Stream}
use Rattle.sb_pipeline.specs.records.declared.item.Stream.TheVariants.{A, B}
use Rattle.sb_pipeline.specs.records.Reading.{item_of}
use Rattle.sb_pipeline.specs.records.Streams.{uses, least_of, last_watermark}
use Rattle.sb_pipeline.proofs.records.InputLemmas.{progress-more, accepted-in_range, low_watermark-in_range}
use Rattle.sb_pipeline.proofs.records.Grammar.{item_reads}
use Rattle.sb_pipeline.specs.Shapes.{Shape, streams_of}
use Rattle.sb_checkpoint.specs.Reach.{reach, is_within}
use Rattle.sb_checkpoint.specs.Texts.{item_text, head_text, end_text, is_whole, read_lines, IsHead, IsRead}
use Rattle.sb_checkpoint.specs.Checkpoints.{is_kept, low_of, mark_item, saved_items}
use Rattle.sb_checkpoint.specs.Laws.{accepted_in, CheckpointsAreReadBack}
use Rattle.sb_checkpoint.proofs.Resuming.{last_marks}
use Rattle.sb_checkpoint.proofs.Runs.{length_saved, last_watermark-saved}
use Rattle.sb_checkpoint.proofs.ReadAgain.{IsFit, IsSound, IsFitMark, accepted-sound, text-of, mark-fit, mark-used}
use Rattle.sb_checkpoint.proofs.ReadBack.{MayStand, texts_of, reads}

module _ (plan : Shape) (low : ℕ) where
  reads-own : (i : Item) → IsFit (streams_of plan) plan.keys i → item_of plan.keys (item_text i) ≡ Some i
  reads-own i h = item_reads plan.keys i (item_text i) (text-of (streams_of plan) plan.keys i h)

  none-more-rec : (t s : Stream) (base : List Item) (r : Record) → last_watermark t base ≡ 0 → last_watermark t (base ++ Rec s r ∷ []) ≡ 0
  none-more-rec A s base r z = ap (λ p. p.mark_a) (progress-more (streams_of plan) plan.late plan.keys base (Rec s r)) ∙ z
  none-more-rec B s base r z = ap (λ p. p.mark_b) (progress-more (streams_of plan) plan.late plan.keys base (Rec s r)) ∙ z

  four : (a b c d : Bool) → a ≡ true → b ≡ true → c ≡ true → d ≡ true → (a && (b && (c && d))) ≡ true
  four true true true true e f g h = refl
  four false b c d e f g h = cc
  four true false c d e f g h = cc
  four true true false d e f g h = cc
  four true true true false e f g h = cc

  three : (a b c : Bool) → a ≡ true → b ≡ false → c ≡ true → (a && (not b && c)) ≡ true
  three true false true e f g = refl
  three false b c e f g = cc
  three true true c e f g = cc
  three true false false e f g = cc

  b-stands : (base : List Item) (t : ℕ) → last_watermark B base ≡ 0 → IsFitMark (streams_of plan) plan.keys B t → MayStand plan low base (mark_item B t)
  b-stands base t z h = by_case (eqb t 0) refl
    where
      by_case : (c : Bool) → eqb t 0 ≡ c → MayStand plan low base (cond c [] (Mark B t ∷ []))
      by_case true e = tt
      by_case false e = (reads-own (Mark B t) (h e), three (uses (streams_of plan) B) (eqb t 0) (eqb (last_watermark B base) 0) (mark-used (streams_of plan) plan.keys B t h e) e (eq-eqb _ _ z), tt)

  a-stands : (base : List Item) (t u : ℕ) → last_watermark A base ≡ 0 → last_watermark B base ≡ 0 → IsFitMark (streams_of plan) plan.keys A t → IsFitMark (streams_of plan) plan.keys B u → MayStand plan low base (mark_item A t ++ mark_item B u)
  a-stands base t u za zb h k = by_case (eqb t 0) refl
    where
      both : (a b c d : Bool) → a ≡ true → b ≡ false → c ≡ true → d ≡ true → (a && (not b && (c && d))) ≡ true
      both a b c d e f g i = three a b (c && d) e f (λ j. (g j && i j))

      by_case : (c : Bool) → eqb t 0 ≡ c → MayStand plan low base (cond c [] (Mark A t ∷ []) ++ mark_item B u)
      by_case true e = b-stands base u zb k
      by_case false e = (
        reads-own (Mark A t) (h e),
        both (uses (streams_of plan) A) (eqb t 0) (eqb (last_watermark A base) 0) (eqb (last_watermark B base) 0) (mark-used (streams_of plan) plan.keys A t h e) e (eq-eqb _ _ za) (eq-eqb _ _ zb),
        b-stands (base ++ Mark A t ∷ []) u (ap (λ p. p.mark_b) (progress-more (streams_of plan) plan.late plan.keys base (Mark A t)) ∙ zb) k,
      )

  kept-stands : (items base rest : List Item) → last_watermark A base ≡ 0 → last_watermark B base ≡ 0 → AllByRecursion (IsSound (streams_of plan) plan.keys) items
      → ((more : List Item) → last_watermark A more ≡ 0 → last_watermark B more ≡ 0 → MayStand plan low more rest) → MayStand plan low base (filter (is_kept (reach plan) low) items ++ rest)
  kept-stands [] base rest za zb all on = on base za zb
  kept-stands (Mark s t ∷ items) base rest za zb all on = kept-stands items base rest za zb all.1 on
  kept-stands (Skip ∷ items) base rest za zb all on = kept-stands items base rest za zb all.1 on
  kept-stands (Late l t m ∷ items) base rest za zb all on = kept-stands items base rest za zb all.1 on
  kept-stands (Rec s r ∷ items) base rest za zb all on = by_case (is_within (reach plan) low r.time) refl (λ more a b. kept-stands items more rest a b all.1 on)
    where
      by_case : (c : Bool) → is_within (reach plan) low r.time ≡ c → ((more : List Item) → last_watermark A more ≡ 0 → last_watermark B more ≡ 0 → MayStand plan low more (filter (is_kept (reach plan) low) items ++ rest)) → MayStand plan low base (cond c (Rec s r ∷ filter (is_kept (reach plan) low) items) (filter (is_kept (reach plan) low) items) ++ rest)
      by_case true e go = (
        reads-own (Rec s r) all.0,
        four (uses (streams_of plan) s) (is_within (reach plan) low r.time) (eqb (last_watermark A base) 0) (eqb (last_watermark B base) 0) all.0.0 e (eq-eqb _ _ za) (eq-eqb _ _ zb),
        go (base ++ Rec s r ∷ []) (none-more-rec A s base r za) (none-more-rec B s base r zb),
      )
      by_case false e go = go base za zb

whole-saved : (plan : Shape) (items : List Item) → length items ≤ 4294967295 → is_whole plan (length items) (low_of plan items) (saved_items plan items) ≡ true
whole-saved plan items few =
    all (nat_le (length (saved_items plan items)) (length items)) (nat_le (length items) 4294967295) (eqb (low_of plan items) (low_of plan (saved_items plan items)))
    (let h = length_saved plan items in grind (arith, nat_tests)) (grind (arith, nat_tests))
    (eq-eqb _ _ (sym (λ i. least_of (streams_of plan) (last_watermark-saved plan A items i) (last_watermark-saved plan B items i))))
  where
    all : (a b c : Bool) → a ≡ true → b ≡ true → c ≡ true → (a && (b && c)) ≡ true
    all a b c e f g = λ j. e j && (f j && g j)

saved-read : (plan : Shape) (items : List Item) → AllByRecursion (IsSound (streams_of plan) plan.keys) items → length items ≤ 4294967295 → low_of plan items ≤ MAX_TIME
    → IsRead plan (head_text (length items) (low_of plan items) ∷ texts_of (saved_items plan items) (length (saved_items plan items))) (length items) (low_of plan items) (saved_items plan items)
saved-read plan items all few small = by_items (saved_items plan items) (reads plan (length items) low (saved_items plan items) [] (length (saved_items plan items)) refl stands (whole-saved plan items few))
  where
    low : ℕ
    low = low_of plan items

    head : IsHead (head_text (length items) low) (length items) low
    head = record { few_lines = omega (arith, few); small_low = omega (arith, small); text = refl }

    stands : MayStand plan low [] (saved_items plan items)
    stands =
        kept-stands plan low items [] (last_marks items) refl refl all
        (λ more za zb. a-stands plan low more (last_watermark A items) (last_watermark B items) za zb (mark-fit (streams_of plan) plan.keys A items all) (mark-fit (streams_of plan) plan.keys B items all))

    by_items : (us : List Item) → read_lines plan (length items) low [] (texts_of us (length us)) ≡ Ok us → IsRead plan (head_text (length items) low ∷ texts_of us (length us)) (length items) low us
    by_items [] h = record { head = head_text (length items) low; next = end_text 0; rest = [] ∷ []; split = refl; is_head = head; others = h }
    by_items (u ∷ us) h =
        record { head = head_text (length items) low; next = item_text u; rest = texts_of us (length (u ∷ us)); split = refl; is_head = head; others = h }

pub read-back : CheckpointsAreReadBack
read-back plan lines items is =
    let good = accepted-sound (streams_of plan) plan.late plan.keys lines [] tt (omega arith) in
    subst (λ items. IsRead plan (head_text (length items) (low_of plan items) ∷ texts_of (saved_items plan items) (length (saved_items plan items))) (length items) (low_of plan items) (saved_items plan items)) (sym is)
    (saved-read plan (accepted_in plan lines).items good.0 good.1 (low_watermark-in_range plan.keys (streams_of plan) (accepted_in plan lines).items (accepted-in_range (streams_of plan) plan.late plan.keys lines)))
