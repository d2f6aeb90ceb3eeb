-- An order of the items of two streams.
use Rattle.std.proofs.Common.{◌≡◌, ℕ, Bool, true, false, List, [], ◌∷◌, ◌++◌, length, refl, sym, ap, ◌∙◌, append-nil, length-append, arith}
use Rattle.std.specs.Prelude.{flat_map}
use Rattle.std.proofs.lemmas.Bool.{true≢false}
use Rattle.std.proofs.lemmas.List.Concat.{flat_map-append}
use Rattle.sb_engines.specs.feeds.base.records.declared.item.Item.{Item}
use Rattle.sb_engines.specs.feeds.base.records.declared.item.Stream.{Stream}
use Rattle.sb_engines.specs.feeds.base.records.declared.item.Stream.TheVariants.{A, B}
use Rattle.sb_engines.specs.feeds.base.records.Streams.{record_in, watermark_in}
use Rattle.sb_engines.specs.feeds.one_feed.Calls.{call_in}
use Rattle.sb_run.specs.Pops.{AreMerged, item_for, is_next, is_stream}
use Rattle.sb_run.proofs.TakenItems.{next_quiet}

pub nothing_merged : (own : Stream → List Item) → ((s : Stream) → own s ≡ []) → AreMerged [] own
nothing_merged own none = record {
  calls = λ s. ap (flat_map (call_in s)) (sym (none s));
  marks = λ s. ap (flat_map (watermark_in s)) (sym (none s));
  records = λ s. ap (flat_map (record_in s)) (sym (none s));
  many = let a = ap length (none A) in let b = ap length (none B) in omega (arith, a, b);
}

-- the same items, told otherwise
pub merged_as : (items : List Item) (own own' : Stream → List Item) → ((s : Stream) → own' s ≡ own s) → AreMerged items own → AreMerged items own'
merged_as items own own' same h = record {
  calls = λ s. h.calls s ∙ ap (flat_map (call_in s)) (sym (same s));
  marks = λ s. h.marks s ∙ ap (flat_map (watermark_in s)) (sym (same s));
  records = λ s. h.records s ∙ ap (flat_map (record_in s)) (sym (same s));
  many = let m = h.many in let a = ap length (same A) in let b = ap length (same B) in omega (arith, m, a, b);
}

-- what one more says to its own stream
grown : {X : Type 0} (g : Item → List X) (items own own' : List Item) (i : Item) → flat_map g items ≡ flat_map g own → own' ≡ own ++ i ∷ [] → flat_map g (items ++ i ∷ []) ≡ flat_map g own'
grown g items own own' i same more = flat_map-append g items (i ∷ []) ∙ ap (λ l. l ++ flat_map g (i ∷ [])) same ∙ sym (flat_map-append g own (i ∷ [])) ∙ ap (flat_map g) (sym more)

-- and to the other
kept : {X : Type 0} (g : Item → List X) (items own own' : List Item) (i : Item) → flat_map g items ≡ flat_map g own → g i ≡ [] → own' ≡ own ++ [] → flat_map g (items ++ i ∷ []) ≡ flat_map g own'
kept g items own own' i same none more =
    flat_map-append g items (i ∷ []) ∙ ap (λ l. flat_map g items ++ (l ++ [])) none ∙ append-nil (flat_map g items) ∙ same ∙ ap (flat_map g) (sym (more ∙ append-nil own))

module _ (items : List Item) (own own' : Stream → List Item) (h : AreMerged items own) (i : Item) where
  one_more : (s t : Stream) → is_stream s t ≡ false → own' s ≡ own s ++ i ∷ [] → own' t ≡ own t ++ [] → {X : Type 0} (g : Stream → Item → List X) → g t i ≡ []
      → ((u : Stream) → flat_map (g u) items ≡ flat_map (g u) (own u)) → (u : Stream) → flat_map (g u) (items ++ i ∷ []) ≡ flat_map (g u) (own' u)
  one_more A A other more same g quiet all u = absurd (true≢false other)
  one_more A B other more same g quiet all A = grown (g A) items (own A) (own' A) i (all A) more
  one_more A B other more same g quiet all B = kept (g B) items (own B) (own' B) i (all B) quiet same
  one_more B A other more same g quiet all A = kept (g A) items (own A) (own' A) i (all A) quiet same
  one_more B A other more same g quiet all B = grown (g B) items (own B) (own' B) i (all B) more
  one_more B B other more same g quiet all u = absurd (true≢false other)

  -- an item that may be taken next of its stream
  pub merged_more : (s : Stream) (used : Bool) (mark count : ℕ) → is_next s used mark count i ≡ true → ((t : Stream) → own' t ≡ own t ++ item_for s i t) → AreMerged (items ++ i ∷ []) own'
  merged_more A used mark count is more =
      let quiet = next_quiet A B used mark count i refl is in
      let longer = length-append items (i ∷ []) in
      let m = h.many in
      let a = ap length (more A) ∙ length-append (own A) (i ∷ []) in
      let b = ap length (more B) ∙ length-append (own B) [] in
      record {
        calls = one_more A B refl (more A) (more B) call_in quiet.no_call h.calls;
        marks = one_more A B refl (more A) (more B) watermark_in quiet.no_mark h.marks;
        records = one_more A B refl (more A) (more B) record_in quiet.no_record h.records;
        many = omega (arith, longer, m, a, b);
      }
  merged_more B used mark count is more =
      let quiet = next_quiet B A used mark count i refl is in
      let longer = length-append items (i ∷ []) in
      let m = h.many in
      let a = ap length (more A) ∙ length-append (own A) [] in
      let b = ap length (more B) ∙ length-append (own B) (i ∷ []) in
      record {
        calls = one_more B A refl (more B) (more A) call_in quiet.no_call h.calls;
        marks = one_more B A refl (more B) (more A) watermark_in quiet.no_mark h.marks;
        records = one_more B A refl (more B) (more A) record_in quiet.no_record h.records;
        many = omega (arith, longer, m, a, b);
      }
