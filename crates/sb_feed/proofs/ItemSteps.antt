-- What one item more does to what was fed.
use Rattle.std.proofs.Common.{◌≡◌, ℕ, ◌+◌, ◌≤◌, ◌<◌, Bool, true, false, List, [], ◌∷◌, ◌++◌, length, Some, None, Option, refl, sym, ap, subst, ◌∙◌, arith, append-nil, length-append}
use Rattle.std.specs.List.{flat_map, AllByRecursion}
use Rattle.std.specs.Prelude.{if◌then◌else◌}
use Rattle.std.proofs.lemmas.List.Concat.{flat_map-append}
use Rattle.sb_base.specs.records.declared.item.TheConstants.{END_MARK}
use Rattle.sb_base.specs.records.declared.item.Record.{Record}
use Rattle.sb_base.specs.records.declared.item.Stream.{Stream}
use Rattle.sb_base.specs.records.declared.item.Stream.TheVariants.{A, B}
use Rattle.sb_base.specs.records.declared.item.Item.{Item}
use Rattle.sb_base.specs.records.declared.item.Item.TheVariants as item
use Rattle.sb_base.specs.records.Streams.{last_or, last_watermark, watermark_in, uses}
use Rattle.sb_base.proofs.records.Elements.{All-join}
use Rattle.sb_base.specs.bundle.declared.bundle.Bundle.{Bundle}
use Rattle.sb_base.specs.bundle.Cutting.{Cutting}
use Rattle.sb_base.specs.bundle.Bundles.{IsBundleOf}
use Rattle.sb_base.specs.bundle.Cuts.{first_cutting, given_with, after_record, given_at_mark, after_mark, fills, with_record, bundle_of, bundle_of_some}
use Rattle.sb_base.specs.bundle.Calls.{Call, given_by, after, and_then, bundles_by, after_all}
use Rattle.sb_base.specs.bundle.Calls.Call.{Push, Mark}
use Rattle.sb_base.specs.bundle.Laws.{bundles_of, cutting_after}
use Rattle.sb_base.specs.pipeline.Shapes.{Shape, streams_of}
use Rattle.sb_feed.specs.Feeds.{Fed, IsFrom, MayArrive, MaySeal, bundles_in, marks_in, floor_in, with_bundle, with_mark, nothing_fed}
use Rattle.sb_base.specs.records.declared.intake.TheConstants.{MAX_LINES}
use Rattle.sb_feed.specs.Calls.{call_in, calls_of}
use Rattle.sb_feed.specs.FedByItems.{IsFedBy, IsStreamFedBy, cutter_of, with_cutter}
use Rattle.sb_feed.specs.declared.cutters.Cutters.{Cutters}

bundles_more : (calls : List Call) (call : Call) (c : Cutting) → bundles_by (calls ++ call ∷ []) c ≡ bundles_by calls c ++ and_then (given_by call (after_all calls c)) []
bundles_more [] call c = refl
bundles_more (x ∷ calls) call c = go (given_by x c) (bundles_more calls call (after x c))
  where
    go : (o : Option Bundle) → bundles_by (calls ++ call ∷ []) (after x c) ≡ bundles_by calls (after x c) ++ and_then (given_by call (after_all calls (after x c))) []
        → and_then o (bundles_by (calls ++ call ∷ []) (after x c)) ≡ and_then o (bundles_by calls (after x c)) ++ and_then (given_by call (after_all calls (after x c))) []
    go None h = h
    go (Some b) h = ap (λ l. b ∷ l) h

after_more : (calls : List Call) (call : Call) (c : Cutting) → after_all (calls ++ call ∷ []) c ≡ after call (after_all calls c)
after_more [] call c = refl
after_more (x ∷ calls) call c = after_more calls call (after x c)

last_mark : (n t : ℕ) (xs : List ℕ) → last_or n (xs ++ t ∷ []) ≡ t
last_mark n t [] = refl
last_mark n t (x ∷ xs) = last_mark x t xs

-- an item that says nothing of the stream
quiet : (size : ℕ) (s : Stream) (items : List Item) (i : Item) (f f' : Fed) (c : Cutting) → IsStreamFedBy size s items f c → call_in s i ≡ [] → watermark_in s i ≡ []
    → bundles_in f' s ≡ bundles_in f s → marks_in f' s ≡ marks_in f s → IsStreamFedBy size s (items ++ i ∷ []) f' c
quiet size s items i f f' c h no_call no_mark same_b same_m =
    let calls : calls_of s (items ++ i ∷ []) ≡ calls_of s items = flat_map-append (call_in s) items (i ∷ []) ∙ ap (λ l. calls_of s items ++ (l ++ [])) no_call ∙ append-nil (calls_of s items) in
    let marks : flat_map (watermark_in s) (items ++ i ∷ []) ≡ flat_map (watermark_in s) items = flat_map-append (watermark_in s) items (i ∷ []) ∙ ap (λ l. flat_map (watermark_in s) items ++ (l ++ [])) no_mark ∙ append-nil (flat_map (watermark_in s) items) in
    let longer = length-append items (i ∷ []) in
    let fb = h.few_bundles in
    let fm = h.few_marks in
    let lb = ap length same_b in
    let lm = ap length same_m in
    record {
      bundles = same_b ∙ h.bundles ∙ ap (bundles_of size) (sym calls);
      marks = same_m ∙ h.marks ∙ sym marks;
      cut = h.cut ∙ ap (cutting_after size) (sym calls);
      sized = h.sized;
      floor = h.floor ∙ ap (last_or 0) (sym same_m);
      epoch = h.epoch ∙ ap length (sym same_m);
      held = h.held;
      few_bundles = omega (arith, longer, fb, lb);
      few_marks = omega (arith, longer, fm, lm);
    }

-- one call of the stream's cutter
calls : (size : ℕ) (s : Stream) (items : List Item) (i : Item) (call : Call) (f f' : Fed) (c c' : Cutting) (new : List Bundle) (marks : List ℕ) → IsStreamFedBy size s items f c → call_in s i ≡ call ∷ [] → watermark_in s i ≡ marks
    → c' ≡ after call c → and_then (given_by call c) [] ≡ new → bundles_in f' s ≡ bundles_in f s ++ new → marks_in f' s ≡ marks_in f s ++ marks
    → length new ≤ 1 → length marks ≤ 1 → c'.size ≡ c.size → c'.floor ≡ floor_in f' s → c'.epoch ≡ length (marks_in f' s) → AllByRecursion (IsFrom c'.floor) c'.held
    → IsStreamFedBy size s (items ++ i ∷ []) f' c'
calls size s items i call f f' c c' new marks h is_call is_mark is_cut gives are_b are_m one_b one_m is_size floor epoch held =
    let said : calls_of s (items ++ i ∷ []) ≡ calls_of s items ++ call ∷ [] = flat_map-append (call_in s) items (i ∷ []) ∙ ap (λ l. calls_of s items ++ (l ++ [])) is_call in
    let marked : flat_map (watermark_in s) (items ++ i ∷ []) ≡ flat_map (watermark_in s) items ++ marks = flat_map-append (watermark_in s) items (i ∷ []) ∙ ap (λ l. flat_map (watermark_in s) items ++ (l ++ [])) is_mark ∙ ap (λ l. flat_map (watermark_in s) items ++ l) (append-nil marks) in
    let longer = length-append items (i ∷ []) in
    let fb = h.few_bundles in
    let fm = h.few_marks in
    let lb = ap length are_b ∙ length-append (bundles_in f s) new in
    let lm = ap length are_m ∙ length-append (marks_in f s) marks in
    record {
      bundles = are_b ∙ ap (λ l. l ++ new) h.bundles ∙ ap (λ l. bundles_of size (calls_of s items) ++ l) (sym gives ∙ ap (λ d. and_then (given_by call d) []) h.cut) ∙ sym (bundles_more (calls_of s items) call (first_cutting size)) ∙ ap (bundles_of size) (sym said);
      marks = are_m ∙ ap (λ l. l ++ marks) h.marks ∙ sym marked;
      cut = is_cut ∙ ap (after call) h.cut ∙ sym (after_more (calls_of s items) call (first_cutting size)) ∙ ap (cutting_after size) (sym said);
      sized = is_size ∙ h.sized;
      floor = floor;
      epoch = epoch;
      held = held;
      few_bundles = omega (arith, longer, fb, lb, one_b);
      few_marks = omega (arith, longer, fm, lm, one_m);
    }

-- what is held after one record more
held_with : (r : Record) (c : Cutting) → AllByRecursion (IsFrom c.floor) c.held → IsFrom c.floor r → AllByRecursion (IsFrom c.floor) (after_record r c).held
held_with r c all one = go (fills r c)
  where
    go : (b : Bool) → AllByRecursion (IsFrom c.floor) (if b then [] else with_record r c)
    go true = tt
    go false = All-join (IsFrom c.floor) c.held (r ∷ []) all (one, tt)

-- a record of the stream
push : (size : ℕ) (s : Stream) (items : List Item) (i : Item) (r : Record) (f f' : Fed) (c : Cutting) (new : List Bundle) → IsStreamFedBy size s items f c → call_in s i ≡ Push r ∷ [] → watermark_in s i ≡ []
    → IsFrom c.floor r → and_then (given_with r c) [] ≡ new → length new ≤ 1 → bundles_in f' s ≡ bundles_in f s ++ new → marks_in f' s ≡ marks_in f s
    → IsStreamFedBy size s (items ++ i ∷ []) f' (after_record r c)
push size s items i r f f' c new h is_call is_mark from gives one are_b same_m =
    calls size s items i (Push r) f f' c (after_record r c) new [] h is_call is_mark refl gives are_b (same_m ∙ sym (append-nil (marks_in f s))) one (omega arith) refl
    (h.floor ∙ ap (last_or 0) (sym same_m)) (h.epoch ∙ ap length (sym same_m)) (held_with r c h.held from)

-- a watermark of the stream
mark : (size : ℕ) (s : Stream) (items : List Item) (i : Item) (t : ℕ) (f f' : Fed) (c : Cutting) (new : List Bundle) → IsStreamFedBy size s items f c → call_in s i ≡ Mark t ∷ [] → watermark_in s i ≡ t ∷ []
    → and_then (given_at_mark c) [] ≡ new → length new ≤ 1 → bundles_in f' s ≡ bundles_in f s ++ new → marks_in f' s ≡ marks_in f s ++ t ∷ []
    → IsStreamFedBy size s (items ++ i ∷ []) f' (after_mark t c)
mark size s items i t f f' c new h is_call is_mark gives one are_b are_m =
    calls size s items i (Mark t) f f' c (after_mark t c) new (t ∷ []) h is_call is_mark refl gives are_b are_m one (omega arith) refl
    (sym (ap (last_or 0) are_m ∙ last_mark 0 t (marks_in f s))) (let n = h.epoch in let l = ap length are_m ∙ length-append (marks_in f s) (t ∷ []) in omega (arith, n, l)) tt

-- ---- the items
-- an item that is neither a record nor a watermark
pub fed_quiet : (size : ℕ) (items : List Item) (i : Item) (f : Fed) (c : Cutters) → call_in A i ≡ [] → call_in B i ≡ [] → watermark_in A i ≡ [] → watermark_in B i ≡ [] → IsFedBy size items f c → IsFedBy size (items ++ i ∷ []) f c
fed_quiet size items i f c call_a call_b mark_a mark_b h = record { of_a = quiet size A items i f f c.a h.of_a call_a mark_a refl refl; of_b = quiet size B items i f f c.b h.of_b call_b mark_b refl refl }

pub fed_held : (size : ℕ) (items : List Item) (s : Stream) (r : Record) (f : Fed) (c : Cutters) → IsFedBy size items f c → IsFrom (cutter_of c s).floor r → given_with r (cutter_of c s) ≡ None
    → IsFedBy size (items ++ item.Rec s r ∷ []) f (with_cutter s (after_record r (cutter_of c s)) c)
fed_held size items A r f c h from none = record {
  of_a = push size A items (item.Rec A r) r f f c.a [] h.of_a refl refl from (ap (λ o. and_then o []) none) (omega arith) (sym (append-nil f.bundles_a)) refl;
  of_b = quiet size B items (item.Rec A r) f f c.b h.of_b refl refl refl refl;
}
fed_held size items B r f c h from none = record {
  of_a = quiet size A items (item.Rec B r) f f c.a h.of_a refl refl refl refl;
  of_b = push size B items (item.Rec B r) r f f c.b [] h.of_b refl refl from (ap (λ o. and_then o []) none) (omega arith) (sym (append-nil f.bundles_b)) refl;
}

pub fed_full : (size : ℕ) (items : List Item) (s : Stream) (r : Record) (b : Bundle) (f : Fed) (c : Cutters) → IsFedBy size items f c → IsFrom (cutter_of c s).floor r → given_with r (cutter_of c s) ≡ Some b
    → IsFedBy size (items ++ item.Rec s r ∷ []) (with_bundle s b f) (with_cutter s (after_record r (cutter_of c s)) c)
fed_full size items A r b f c h from some = record {
  of_a = push size A items (item.Rec A r) r f (with_bundle A b f) c.a (b ∷ []) h.of_a refl refl from (ap (λ o. and_then o []) some) (omega arith) refl refl;
  of_b = quiet size B items (item.Rec A r) f (with_bundle A b f) c.b h.of_b refl refl refl refl;
}
fed_full size items B r b f c h from some = record {
  of_a = quiet size A items (item.Rec B r) f (with_bundle B b f) c.a h.of_a refl refl refl refl;
  of_b = push size B items (item.Rec B r) r f (with_bundle B b f) c.b (b ∷ []) h.of_b refl refl from (ap (λ o. and_then o []) some) (omega arith) refl refl;
}

pub fed_mark : (size : ℕ) (items : List Item) (s : Stream) (t : ℕ) (f : Fed) (c : Cutters) → IsFedBy size items f c → given_at_mark (cutter_of c s) ≡ None
    → IsFedBy size (items ++ item.Mark s t ∷ []) (with_mark s t f) (with_cutter s (after_mark t (cutter_of c s)) c)
fed_mark size items A t f c h none = record {
  of_a = mark size A items (item.Mark A t) t f (with_mark A t f) c.a [] h.of_a refl refl (ap (λ o. and_then o []) none) (omega arith) (sym (append-nil f.bundles_a)) refl;
  of_b = quiet size B items (item.Mark A t) f (with_mark A t f) c.b h.of_b refl refl refl refl;
}
fed_mark size items B t f c h none = record {
  of_a = quiet size A items (item.Mark B t) f (with_mark B t f) c.a h.of_a refl refl refl refl;
  of_b = mark size B items (item.Mark B t) t f (with_mark B t f) c.b [] h.of_b refl refl (ap (λ o. and_then o []) none) (omega arith) (sym (append-nil f.bundles_b)) refl;
}

pub fed_last : (size : ℕ) (items : List Item) (s : Stream) (t : ℕ) (b : Bundle) (f : Fed) (c : Cutters) → IsFedBy size items f c → given_at_mark (cutter_of c s) ≡ Some b
    → IsFedBy size (items ++ item.Mark s t ∷ []) (with_mark s t (with_bundle s b f)) (with_cutter s (after_mark t (cutter_of c s)) c)
fed_last size items A t b f c h some = record {
  of_a = mark size A items (item.Mark A t) t f (with_mark A t (with_bundle A b f)) c.a (b ∷ []) h.of_a refl refl (ap (λ o. and_then o []) some) (omega arith) refl refl;
  of_b = quiet size B items (item.Mark A t) f (with_mark A t (with_bundle A b f)) c.b h.of_b refl refl refl refl;
}
fed_last size items B t b f c h some = record {
  of_a = quiet size A items (item.Mark B t) f (with_mark B t (with_bundle B b f)) c.a h.of_a refl refl refl refl;
  of_b = mark size B items (item.Mark B t) t f (with_mark B t (with_bundle B b f)) c.b (b ∷ []) h.of_b refl refl (ap (λ o. and_then o []) some) (omega arith) refl refl;
}

pub fed_nothing : (size : ℕ) → 1 ≤ size → IsFedBy size [] nothing_fed (record { a = first_cutting size; b = first_cutting size })
fed_nothing size some = record { of_a = none_a; of_b = none_b }
  where
    none_a : IsStreamFedBy size A [] nothing_fed (first_cutting size)
    none_a = record { bundles = refl; marks = refl; cut = refl; sized = refl; floor = refl; epoch = refl; held = tt; few_bundles = omega arith; few_marks = omega arith }

    none_b : IsStreamFedBy size B [] nothing_fed (first_cutting size)
    none_b = record { bundles = refl; marks = refl; cut = refl; sized = refl; floor = refl; epoch = refl; held = tt; few_bundles = omega arith; few_marks = omega arith }

-- ---- what may be asked for
pub fed_stream : (size : ℕ) (items : List Item) (f : Fed) (c : Cutters) (s : Stream) → IsFedBy size items f c → IsStreamFedBy size s items f (cutter_of c s)
fed_stream size items f c A h = h.of_a
fed_stream size items f c B h = h.of_b

pub floor_is : (size : ℕ) (items : List Item) (f : Fed) (c : Cutters) (s : Stream) → IsFedBy size items f c → (cutter_of c s).floor ≡ last_watermark s items
floor_is size items f c s h = let one = fed_stream size items f c s h in one.floor ∙ ap (last_or 0) one.marks

-- a bundle of all records that are held
arrives : (plan : Shape) (size : ℕ) (items : List Item) (f : Fed) (c : Cutting) (s : Stream) (b : Bundle) (records : List Record) → IsStreamFedBy size s items f c → uses (streams_of plan) s ≡ true → length items < MAX_LINES + 3
    → IsBundleOf c b → b.records ≡ records → AllByRecursion (IsFrom c.floor) records → MayArrive plan size f s b
arrives plan size items f c s b records h reads few is are all =
    let fb = h.few_bundles in
    let most = is.most in
    let sized = h.sized in
    record {
      reads = reads;
      epoch = is.epoch ∙ h.epoch;
      floor = is.floor ∙ h.floor;
      some = is.some;
      most = omega (arith, most, sized);
      timely = subst (λ l. AllByRecursion (IsFrom (floor_in f s)) l) (sym are) (subst (λ x. AllByRecursion (IsFrom x) records) h.floor all);
      few = omega (arith, few, fb);
    }

full_is : (r : Record) (b : Bundle) (c : Cutting) → given_with r c ≡ Some b → b.records ≡ with_record r c
full_is r b c h = go (fills r c) h
  where
    go : (q : Bool) → (if q then Some (bundle_of c (with_record r c)) else None) ≡ Some b → b.records ≡ with_record r c
    go true e = let same : bundle_of c (with_record r c) ≡ b = cc e in ap (λ (x : Bundle). x.records) (sym same)
    go false e = absurd (cc e)

last_is : (b : Bundle) (c : Cutting) (held : List Record) → bundle_of_some c held ≡ Some b → b.records ≡ held
last_is b c [] e = absurd (cc e)
last_is b c (r ∷ rs) e = let same : bundle_of c (r ∷ rs) ≡ b = cc e in ap (λ (x : Bundle). x.records) (sym same)

pub full_arrives : (plan : Shape) (size : ℕ) (items : List Item) (s : Stream) (r : Record) (b : Bundle) (f : Fed) (c : Cutters) → IsFedBy size items f c → uses (streams_of plan) s ≡ true → length items < MAX_LINES + 3
    → IsFrom (cutter_of c s).floor r → given_with r (cutter_of c s) ≡ Some b → IsBundleOf (cutter_of c s) b → MayArrive plan size f s b
full_arrives plan size items s r b f c h reads few from some is =
    let one = fed_stream size items f c s h in
    arrives plan size items f (cutter_of c s) s b (with_record r (cutter_of c s)) one reads few is (full_is r b (cutter_of c s) some) (All-join (IsFrom (cutter_of c s).floor) (cutter_of c s).held (r ∷ []) one.held (from, tt))

pub last_arrives : (plan : Shape) (size : ℕ) (items : List Item) (s : Stream) (b : Bundle) (f : Fed) (c : Cutters) → IsFedBy size items f c → uses (streams_of plan) s ≡ true → length items < MAX_LINES + 3
    → given_at_mark (cutter_of c s) ≡ Some b → IsBundleOf (cutter_of c s) b → MayArrive plan size f s b
last_arrives plan size items s b f c h reads few some is =
    let one = fed_stream size items f c s h in
    arrives plan size items f (cutter_of c s) s b (cutter_of c s).held one reads few is (last_is b (cutter_of c s) (cutter_of c s).held some) one.held

same_floor : (s : Stream) (b : Bundle) (f : Fed) → floor_in (with_bundle s b f) s ≡ floor_in f s
same_floor A b f = refl
same_floor B b f = refl

pub may_seal : (plan : Shape) (size : ℕ) (items : List Item) (s : Stream) (t : ℕ) (f : Fed) (c : Cutters) → IsFedBy size items f c → uses (streams_of plan) s ≡ true → last_watermark s items ≤ t → t ≤ END_MARK → MaySeal plan f s t
may_seal plan size items s t f c h reads rises most = record { reads = reads; rises = subst (λ x. x ≤ t) (sym (ap (last_or 0) (fed_stream size items f c s h).marks)) rises; most = most }

pub may_seal_then : (plan : Shape) (size : ℕ) (items : List Item) (s : Stream) (t : ℕ) (b : Bundle) (f : Fed) (c : Cutters) → IsFedBy size items f c → uses (streams_of plan) s ≡ true → last_watermark s items ≤ t → t ≤ END_MARK → MaySeal plan (with_bundle s b f) s t
may_seal_then plan size items s t b f c h reads rises most =
    let now = may_seal plan size items s t f c h reads rises most in
    record { reads = reads; rises = subst (λ x. x ≤ t) (sym (same_floor s b f)) now.rises; most = most }
