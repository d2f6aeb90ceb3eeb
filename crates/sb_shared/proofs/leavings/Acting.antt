-- What the core's and the tally's laws make of a leaving: the moment after it, by the part of its node.
use Rattle.std.proofs.Common.{◌≡◌, ℕ, List, [], ◌∷◌, ◌++◌, sym, refl, ap, ◌∙◌, subst, append-nil, Some}
use Rattle.std.specs.Prelude.{slice_get, slice_set}
use Rattle.std.specs.List.{flat_map}
use Rattle.std.specs.List.Sorted.{IsPermutation}
use Rattle.std.proofs.lemmas.List.Concat.{flat_map-append}
use Rattle.std.proofs.lemmas.List.Sorted.{IsPermutation-trans, IsPermutation-append_comm}
use Rattle.std.proofs.lemmas.Option.{get_or_from_slice_get}
use Rattle.sb_shown.specs.base.records.declared.item.Record.{Record}
use Rattle.sb_shown.specs.base.records.declared.item.Stream.{Stream}
use Rattle.sb_shown.specs.base.records.declared.item.Stream.TheVariants.{A, B}
use Rattle.sb_shown.specs.base.pipeline.Plans.{IsPlan}
use Rattle.sb_shown.specs.core.declared.held.Held.{Held}
use Rattle.sb_shown.specs.core.declared.moment.Node.{Node}
use Rattle.sb_shown.specs.core.declared.event.Event.{Event}
use Rattle.sb_shown.specs.core.declared.event.Event.TheVariants as event
use Rattle.sb_shown.specs.core.Soundness.{IsSound}
use Rattle.sb_shown.specs.core.Exactness.{IsExact}
use Rattle.sb_shown.specs.core.Laws.{records_fed_after}
use Rattle.sb_shown.specs.core.Parts.{Part}
use Rattle.sb_shown.proofs.core.sound.AnyOrder.{held-in_any_order}
use Rattle.sb_shown.proofs.core.parts.PartsLaw.{parts-keep_sound, held-parts_keep_sound, parts-are_events, held-parts_are_events}
use Rattle.sb_shown.specs.diary.declared.event.DiaryEvent.{DiaryEvent}
use Rattle.sb_shown.specs.tally.Keeping.{feed_after}
use Rattle.sb_shown.specs.tally.Tally as tally
use Rattle.sb_shown.specs.tally.Tally.{IsTallied}
use Rattle.sb_shown.specs.tally.Written.{diary_at}
use Rattle.sb_shown.proofs.tally.Orders.{tally-in_any_order}
use Rattle.sb_shown.proofs.tally.Keeps.{parts-keep_tally, held-parts_keep_tally}
use Rattle.sb_shown.proofs.SettingsStay.{set_same}
use Rattle.sb_shared.specs.declared.telling.Hands.{Hands}
use Rattle.sb_shared.specs.declared.telling.Setting.{Setting}
use Rattle.sb_shared.specs.Doings.{Doing, Quiet, Fresh, Of, lines_by}
use Rattle.sb_shared.specs.Laws.{IsLeaving}
use Rattle.sb_shared.specs.Leavings.{May, feed_then}
use Rattle.sb_shared.specs.Shown.{moment_of}
use Rattle.sb_shared.specs.Views.{held_by}

-- one bundle more of a stream, as the records that came
bundle_more : (bundles : List tally.Fed) (epoch : ℕ) (records : List Record)
    → flat_map (λ (b : tally.Fed). b.records) bundles ++ records ≡ flat_map (λ (b : tally.Fed). b.records) (bundles ++ record { epoch = epoch; records = records } ∷ [])
bundle_more bundles epoch records =
    ap (λ l. flat_map (λ (b : tally.Fed). b.records) bundles ++ l) (sym (append-nil records))
    ∙ sym (flat_map-append (λ (b : tally.Fed). b.records) bundles (record { epoch = epoch; records = records } ∷ []))

-- what the event feeds, as records and as bundles
fed_same : (e : Event) (feed : tally.Feed) (s : Stream) → records_fed_after e (tally.records_of_feed feed) s ≡ tally.records_of_feed (feed_after e feed) s
fed_same (event.Arrive A records) feed A = bundle_more (feed.bundles A) _ records
fed_same (event.Arrive A records) feed B = refl
fed_same (event.Arrive B records) feed A = refl
fed_same (event.Arrive B records) feed B = bundle_more (feed.bundles B) _ records
fed_same (event.Seal stream mark) feed s = refl
fed_same (event.Take node lane number) feed s = refl
fed_same (event.Deliver node lane number) feed s = refl
fed_same (event.Finish node lane number) feed s = refl
fed_same (event.Begin node lane) feed s = refl
fed_same (event.Pass node) feed s = refl
fed_same (event.End node) feed s = refl

module _ (a : Setting) where
  -- a moment that is sound, exact for what was fed, and tallies
  pub record IsGood (nodes : List Node) (held : List Held) (rows : List Record) (diaries : List (List DiaryEvent)) (feed : tally.Feed) : Type 0 where
    pub sound : IsSound a.plan (moment_of a.bundle nodes held rows)
    pub exact : IsExact a.plan (moment_of a.bundle nodes held rows) (tally.records_of_feed feed)
    pub tallied : IsTallied a.plan (moment_of a.bundle nodes held rows) diaries feed

  -- the order of what is held does not count
  pub in_any_order : (nodes : List Node) (held held' : List Held) (rows : List Record) (diaries : List (List DiaryEvent)) (feed : tally.Feed) → IsPermutation held held'
      → IsGood nodes held rows diaries feed → IsGood nodes held' rows diaries feed
  in_any_order nodes held held' rows diaries feed same good =
      let m = moment_of a.bundle nodes held rows in
      let law = held-in_any_order a.plan m held' same good.sound in record {
        sound = law.0;
        exact = law.1 (tally.records_of_feed feed) good.exact;
        tallied = tally-in_any_order a.plan m held' diaries feed same good.sound good.tallied;
      }

  module _ (ok : IsPlan a.plan) (nodes : List Node) (rows : List Record) (k : ℕ) (node : Node) (w w' : Hands) (rest : List Held) (diaries : List (List DiaryEvent)) (lines : List DiaryEvent) (feed : tally.Feed)
      (at : slice_get nodes k ≡ Some node) (written : slice_get diaries k ≡ Some lines) where
    -- the diaries with the lines of the leaving
    abbrev pub told : Doing → List (List DiaryEvent)
    told d = slice_set diaries k (lines ++ lines_by a d node)

    here : diary_at diaries k ≡ lines
    here = get_or_from_slice_get diaries k lines [] written

    -- what a leaving makes of a good moment is one
    pub acts : (d : Doing) (q : Part) → May a k w w' node d q → IsGood nodes (held_by w ++ rest) rows diaries feed
        → IsGood (slice_set nodes k q.node) (held_by w' ++ rest) (rows ++ q.rows) (told d) (feed_then d feed)
    acts Quiet q may good =
        let same : slice_set nodes k q.node ≡ nodes = ap (λ (p : Part). slice_set nodes k p.node) may.0 ∙ set_same nodes k node at in
        let more : rows ++ q.rows ≡ rows = ap (λ (p : Part). rows ++ p.rows) may.0 ∙ append-nil rows in
        let still : told Quiet ≡ diaries = ap (slice_set diaries k) (append-nil lines) ∙ set_same diaries k lines written in
        subst (λ (t : (List Node × List Held) × (List Record × List (List DiaryEvent))). IsGood t.0.0 (t.0.1 ++ rest) t.1.0 t.1.1 feed)
        (λ i. ((sym same i, sym may.1 i), (sym more i, sym still i))) good
    acts (Fresh e) q may good =
        let m = moment_of a.bundle nodes rest rows in
        let was : IsGood nodes rest rows diaries feed = subst (λ (l : List Held). IsGood nodes (l ++ rest) rows diaries feed) may.1 good in
        let n = moment_of a.bundle (slice_set nodes k q.node) (q.held ++ rest) (rows ++ q.rows) in
        let law = parts-keep_sound a.plan ok m e k node q was.sound may.0 at may.2 in
        subst (λ (l : List Held). IsGood (slice_set nodes k q.node) (l ++ rest) (rows ++ q.rows) (told (Fresh e)) (feed_after e feed)) (sym may.3)
        (record {
          sound = law.0;
          exact = subst (IsExact a.plan n) (λ i s. fed_same e feed s i) (law.1 (tally.records_of_feed feed) was.exact);
          tallied = subst (λ l. IsTallied a.plan n (slice_set diaries k (l ++ lines_by a (Fresh e) node)) (feed_after e feed)) here
              (parts-keep_tally a.plan ok m e k node q diaries feed was.sound was.tallied may.0 at may.2);
        })
    acts (Of e h) q may good =
        let m = moment_of a.bundle nodes rest rows in
        let was : IsGood nodes (h ∷ rest) rows diaries feed = subst (λ (l : List Held). IsGood nodes (l ++ rest) rows diaries feed) may.2 good in
        let n = moment_of a.bundle (slice_set nodes k q.node) (q.held ++ rest) (rows ++ q.rows) in
        let law = held-parts_keep_sound a.plan ok m e h rest k node q was.sound may.1 may.0 at may.3 in
        subst (λ (l : List Held). IsGood (slice_set nodes k q.node) (l ++ rest) (rows ++ q.rows) (told (Of e h)) (feed_after e feed)) (sym may.4)
        (record {
          sound = law.0;
          exact = subst (IsExact a.plan n) (λ i s. fed_same e feed s i) (law.1 (tally.records_of_feed feed) was.exact);
          tallied = subst (λ l. IsTallied a.plan n (slice_set diaries k (l ++ lines_by a (Of e h) node)) (feed_after e feed)) here
              (held-parts_keep_tally a.plan ok m e h rest k node q diaries feed was.sound was.tallied may.1 may.0 at may.3);
        })

  -- a leaving is the event that it is said to be
  pub is_event_of : (nodes : List Node) (rows : List Record) (k : ℕ) (node : Node) (w w' : Hands) (rest : List Held) (d : Doing) (q : Part) (old new : List Held)
      → slice_get nodes k ≡ Some node → May a k w w' node d q → IsSound a.plan (moment_of a.bundle nodes (held_by w ++ rest) rows) → IsPermutation old (held_by w ++ rest) → IsPermutation (held_by w' ++ rest) new
      → IsLeaving a.plan d (moment_of a.bundle nodes old rows) (moment_of a.bundle (slice_set nodes k q.node) new (rows ++ q.rows))
  is_event_of nodes rows k node w w' rest Quiet q old new at may sound before later = (
    ap (λ (p : Part). slice_set nodes k p.node) may.0 ∙ set_same nodes k node at,
    ap (λ (p : Part). rows ++ p.rows) may.0 ∙ append-nil rows,
    IsPermutation-trans old (held_by w' ++ rest) new (subst (λ (l : List Held). IsPermutation old (l ++ rest)) (sym may.1) before) later,
  )
  is_event_of nodes rows k node w w' rest (Fresh e) q old new at may sound before later =
      let m = moment_of a.bundle nodes rest rows in (
        rest,
        rest ++ q.held,
        subst (λ (l : List Held). IsPermutation old (l ++ rest)) may.1 before,
        IsPermutation-trans (rest ++ q.held) (q.held ++ rest) new (IsPermutation-append_comm rest q.held) (subst (λ (l : List Held). IsPermutation (l ++ rest) new) may.3 later),
        parts-are_events a.plan m e k node q (subst (λ (l : List Held). IsSound a.plan (moment_of a.bundle nodes (l ++ rest) rows)) may.1 sound) may.0 at may.2,
      )
  is_event_of nodes rows k node w w' rest (Of e h) q old new at may sound before later =
      let m = moment_of a.bundle nodes rest rows in (
        h ∷ rest,
        rest ++ q.held,
        subst (λ (l : List Held). IsPermutation old (l ++ rest)) may.2 before,
        IsPermutation-trans (rest ++ q.held) (q.held ++ rest) new (IsPermutation-append_comm rest q.held) (subst (λ (l : List Held). IsPermutation (l ++ rest) new) may.4 later),
        held-parts_are_events a.plan m e h rest k node q may.1 may.0 at may.3,
      )
